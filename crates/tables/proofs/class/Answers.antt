-- `tables::class` meets its contract.
use Rattle.tables.specs.Source.{class_of}
use Rattle.tables.proofs.class.Goals as goal

pub returns-then-mono : goal.returns-then-mono
unfolding class_of
returns-then-mono c = rw c.if-mono.true

pub returns : goal.returns
unfolding class_of
returns c = rw c.if-mono.false
