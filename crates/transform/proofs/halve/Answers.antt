-- `transform::halve` meets its contract: both lists hold their rule's values. Assumes nothing.
use Rattle.std.proofs.Common.{arith}
use lib.Ieee.{nan}
use Rattle.ground.specs.Table.{is_table}
use Rattle.transform.specs.Transform.{sums_of, differences_of}
use Rattle.transform.proofs.halve.Goals as goal

pub returns-clause-sums_after : goal.returns-clause-sums_after
unfolding sums_of
returns-clause-sums_after c = search (arith, is_table nan, c.loop-i.invariant.0)

pub returns-clause-differences_after : goal.returns-clause-differences_after
unfolding differences_of
returns-clause-differences_after c = search (arith, is_table nan, c.loop-i.invariant.1)
