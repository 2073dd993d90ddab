-- `tables::limit` meets its contract, by the test over all 84 choices.
use lib.Dec.{eqb}
use Rattle.tables.specs.Standard.{limit_of}
use Rattle.tables.specs.Differences.{same_limit}
use Rattle.tables.proofs.limit.Goals as goal

pub returns : goal.returns
unfolding limit_of
returns c =
    rw c.entry.ensures (same_limit (eqb c.args.mode 3) c.args.bitrate c.args.samplerate c.requires.0 c.requires.1)
