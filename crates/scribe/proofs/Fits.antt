-- Whatever is written of a stream is short enough to be counted. Assumes nothing.
use Rattle.std.specs.Prelude.{ℕ, ◌^◌, ◌<◌, List, length}
use Rattle.scribe.specs.Whole.{whole_of}
use Rattle.scribe.specs.declared.Whole.{Whole}
use Rattle.scribe.specs.declared.Whole.TheVariants.{Lines, Summary, Wave}
use Rattle.scribe.proofs.ListingFits.{listing_fits}
use Rattle.scribe.proofs.SummaryFits.{summary_fits}
use Rattle.scribe.proofs.WaveFits.{wave_fits}

pub whole_fits : (what : Whole) (s : List ℕ) → length (whole_of what s) < 2 ^ 64
whole_fits (Lines reading behind) s = listing_fits reading behind s
whole_fits (Summary reading) s = summary_fits reading s
whole_fits Wave s = wave_fits s
