-- `side::each_channel` meets its contract.
use Rattle.grammar.specs.Run.{run_done, and_then}
use Rattle.side.specs.Bands.{pair_of, channels_of}
use Rattle.side.proofs.each_channel.Goals as goal

pub returns-then-mono : goal.returns-then-mono
unfolding channels_of pair_of
returns-then-mono g c s one reads = and_then _ _ _ _ (c.where_allocated-left.ensures s one reads) (simp (c.if-mono.true, run_done))

pub returns : goal.returns
unfolding channels_of pair_of
returns g c s one reads = and_then _ _ _ _ (c.where_allocated-left.ensures s one reads) (simp c.if-mono.false (c.where_allocated.ensures s one reads))
