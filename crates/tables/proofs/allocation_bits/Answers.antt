-- `tables::allocation_bits` meets its contract.
use Rattle.tables.specs.Source.{width_of}
use Rattle.tables.proofs.allocation_bits.Goals as goal

pub returns : goal.returns
unfolding width_of
returns c = rw c.row.ensures
