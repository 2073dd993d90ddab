-- `codes::sample_band` meets its contract.
use borrow.Author.Tests.{lt-ltb, le-ltb}
use Rattle.grammar.specs.Run.{run_done, and_then}
use Rattle.side.specs.Bands.{pair_of}
use Rattle.codes.specs.Frame.{sample_band_of}
use mathlib.Core.Path.{ap}
use Rattle.grammar.specs.Reads.{taken}
use Rattle.codes.proofs.sample_band.Goals as goal

pub returns-then-sb-side : goal.returns-then-sb-side
unfolding sample_band_of pair_of
returns-then-sb-side c =
    and_then _ _ _ _ c.read_place-left.ensures
    (simp (lt-ltb _ _ c.if-sb-side.true) c.read_place.ensures)

pub returns : goal.returns
unfolding sample_band_of pair_of
returns c =
    and_then _ _ _ _ c.read_place-left.ensures
    (simp (le-ltb _ _ c.if-sb-side.false, run_done)
    (ap (λ xs. taken xs c.read_place-left.result) c.copy_band.ensures))
