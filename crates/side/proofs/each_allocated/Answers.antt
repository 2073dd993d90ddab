-- `side::each_allocated` meets its contract.
use mathlib.Core.Path.{refl}
use native.Mathlib.Numerals.{add-one}
use Rattle.grammar.specs.Reads.{run}
use Rattle.grammar.specs.Run.{and_then}
use Rattle.side.specs.Bands.{bands}
use Rattle.side.proofs.each_allocated.Goals as goal

pub loop-sb-init : goal.loop-sb-init
unfolding bands run
loop-sb-init g c s one reads = refl

pub loop-sb-preserved : goal.loop-sb-preserved
unfolding bands
loop-sb-preserved g c s one reads = rw add-one (and_then _ _ _ _ (c.loop-sb.invariant s one reads) (c.each_channel-next.ensures s one reads))
