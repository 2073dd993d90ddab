-- `tables::high_row` meets its contract, range by range.
use native.Mathlib.Omega.{arith}
use Rattle.tables.specs.Source.{source_row_of}
use Rattle.tables.proofs.Rows.{spans}
use Rattle.tables.proofs.high_row.Goals as goal

pub returns-in-0-to-2 : goal.returns-in-0-to-2
unfolding source_row_of
returns-in-0-to-2 c = spans 1 0x43 0 3 tt c.args.sb (omega arith) (omega arith)

pub returns-in-3-to-10 : goal.returns-in-3-to-10
unfolding source_row_of
returns-in-3-to-10 c = spans 1 0x42 3 8 tt c.args.sb (omega arith) (omega arith)

pub returns-in-11-to-22 : goal.returns-in-11-to-22
unfolding source_row_of
returns-in-11-to-22 c = spans 1 0x31 11 12 tt c.args.sb (omega arith) (omega arith)

pub returns-in-23-to-29 : goal.returns-in-23-to-29
unfolding source_row_of
returns-in-23-to-29 c = spans 1 0x20 23 7 tt c.args.sb (omega arith) (omega arith)

pub returns-in_default : goal.returns-in_default
unfolding source_row_of
returns-in_default c = spans 1 0 30 2 tt c.args.sb (omega arith) (omega arith)
