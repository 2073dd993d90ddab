use borrow.Author.Rules.{rules}
use Rattle.ground.specs.Tests.{tests}
use Rattle.buffer.specs.Calls.{has_of}
use Rattle.buffer.proofs.Gate.{admits, refuses}
use Rattle.buffer.proofs.Reader.has.Goals as goal

pub returns-in_err-admitted : goal.returns-in_err-admitted
unfolding has_of
returns-in_err-admitted c = refuses c.args.s.now c.args.self _ c.from_residual.ensures c.admitted.ensures c.in_err-admitted.was

pub returns : goal.returns
unfolding has_of
returns c = let on = admits c.args.s.now c.args.self c.admitted.ensures c.in_ok-admitted.was in search (rules, tests, ← c.remaining.ensures, on.0, on.1)
