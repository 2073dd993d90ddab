-- `side::allocations` meets its contract.
use mathlib.Core.Path.{refl}
use native.Mathlib.Numerals.{add-one}
use Rattle.grammar.specs.Reads.{run}
use Rattle.grammar.specs.Run.{and_then}
use Rattle.side.specs.Bands.{bands}
use Rattle.side.proofs.allocations.Goals as goal

pub loop-sb-init : goal.loop-sb-init
unfolding bands run
loop-sb-init c = refl

pub loop-sb-preserved : goal.loop-sb-preserved
unfolding bands
loop-sb-preserved c = rw add-one (and_then _ _ _ _ c.loop-sb.invariant c.allocation_band-next.ensures)
