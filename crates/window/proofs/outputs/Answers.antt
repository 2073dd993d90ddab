-- `window::outputs` meets its contract: all 32 outputs stand. Assumes nothing.
use Rattle.std.proofs.Common.{arith}
use lib.Ieee.{nan}
use Rattle.ground.specs.Table.{is_table}
use Rattle.window.proofs.outputs.Goals as goal

pub returns : goal.returns
returns c = search (arith, is_table nan, c.loop-j.invariant)
