use Rattle.std.proofs.Common.{arith}
use lib.Ieee.{nan}
use Rattle.ground.specs.Table.{is_table}
use Rattle.transform.specs.Transform.{floats}
use Rattle.transform.proofs.load.Goals as goal

pub returns : goal.returns
unfolding floats
returns c = search (arith, is_table nan, c.loop-i.invariant)
