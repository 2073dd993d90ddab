-- `tables::low_row` meets its contract, range by range.
use native.Mathlib.Omega.{arith}
use Rattle.tables.specs.Source.{source_row_of}
use Rattle.tables.proofs.Rows.{spans}
use Rattle.tables.proofs.low_row.Goals as goal

pub returns-in-0-to-1 : goal.returns-in-0-to-1
unfolding source_row_of
returns-in-0-to-1 c = spans 0 0x44 0 2 tt c.args.sb (omega arith) (omega arith)

pub returns-in-2-to-11 : goal.returns-in-2-to-11
unfolding source_row_of
returns-in-2-to-11 c = spans 0 0x34 2 10 tt c.args.sb (omega arith) (omega arith)

pub returns-in_default : goal.returns-in_default
unfolding source_row_of
returns-in_default c = spans 0 0 12 20 tt c.args.sb (omega arith) (omega arith)
