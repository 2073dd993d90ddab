-- `tables::allocation_table` meets its contract, by the test over all 84 choices.
use lib.Dec.{eqb}
use Rattle.tables.specs.Differences.{table_of, same_table}
use Rattle.tables.proofs.allocation_table.Goals as goal

pub returns : goal.returns
unfolding table_of
returns c =
    rw c.entry.ensures (same_table (eqb c.args.mode 3) c.args.bitrate c.args.samplerate c.requires.0 c.requires.1)
