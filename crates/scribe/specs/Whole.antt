-- What is written of a stream. Assumes nothing.
use Rattle.std.specs.Prelude.{ℕ, List, ℤ, pos}
use Rattle.listing.specs.Summary.{summary_of}
use Rattle.listing.specs.Text.{listing_of}
use Rattle.clip.specs.File.{wave_of}
use Rattle.scribe.specs.declared.Descriptor.{Descriptor}
use Rattle.scribe.specs.declared.Descriptor.TheVariants.{Output, Error}
use Rattle.scribe.specs.declared.Whole.{Whole}
use Rattle.scribe.specs.declared.Whole.TheVariants.{Lines, Summary, Wave}

abbrev pub whole_of : Whole → List ℕ → List ℕ
whole_of (Lines reading behind) s = listing_of reading behind s
whole_of (Summary reading) s = summary_of reading s
whole_of Wave s = wave_of s

-- 1 is standard output, 2 standard error
abbrev pub descriptor_of : Whole → ℤ
descriptor_of (Lines reading behind) = pos 1
descriptor_of (Summary reading) = pos 2
descriptor_of Wave = pos 1

-- the system's number of each stream
abbrev pub system_number : Descriptor → ℤ
system_number Output = pos 1
system_number Error = pos 2
