-- `tables::quantiser` meets its contract: a subband leads to one of five rows.
use native.Mathlib.Omega.{arith}
use Rattle.tables.specs.Source.{quantiser_of}
use Rattle.tables.specs.Laws.{row≤4}
use Rattle.tables.proofs.quantiser.Goals as goal

pub bounds-quantisers-row : goal.bounds-quantisers-row
bounds-quantisers-row c = omega (arith, rw (← c.row.ensures) at (row≤4 c.args.table c.args.sb))

pub returns : goal.returns
unfolding quantiser_of
returns c = rw (c.row.ensures, c.args.quantisers.now.listed)
