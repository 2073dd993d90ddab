use Rattle.std.proofs.Common.{arith}
use lib.Ieee.{nan}
use Rattle.ground.specs.Table.{table_more}
use Rattle.transform.proofs.spread_part.Goals as goal

pub loop-i-preserved : goal.loop-i-preserved
loop-i-preserved c = rw c.spread.ensures (table_more nan _ _ _ (omega arith) c.loop-i.invariant)
