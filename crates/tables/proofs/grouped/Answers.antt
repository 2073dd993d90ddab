-- `tables::grouped` meets its contract.
use Rattle.tables.proofs.Quantisers.{grouped_rule}
use Rattle.tables.proofs.grouped.Goals as goal

pub returns : goal.returns
returns c = grouped_rule c.args.q c.requires
