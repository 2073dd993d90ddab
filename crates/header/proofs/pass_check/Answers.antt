use Rattle.grammar.specs.Reads.{run}
use Rattle.header.specs.Header.{check_of}
use Rattle.header.proofs.pass_check.Goals as goal

pub returns-then-check : goal.returns-then-check
unfolding check_of run
returns-then-check c = rw c.if-check.true (cc c.field-word.ensures.is)

pub returns : goal.returns
unfolding check_of run
returns c = rw c.if-check.false
