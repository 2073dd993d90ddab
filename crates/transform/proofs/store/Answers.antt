use lib.Ieee.{nan}
use Rattle.std.proofs.Common.{arith}
use Rattle.ground.specs.Table.{is_table}
use Rattle.transform.specs.Transform.{slot_of}
use Rattle.transform.proofs.store.Goals as goal

pub returns : goal.returns
unfolding slot_of
returns c = search (arith, is_table nan, c.spread_part-4.ensures)
