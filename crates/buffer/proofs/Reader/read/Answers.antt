use borrow.Author.Rules.{rules}
use Rattle.ground.specs.Tests.{tests}
use Rattle.buffer.specs.Calls.{read_of}
use Rattle.buffer.proofs.Gate.{admits, refuses}
use Rattle.buffer.proofs.Reader.read.Goals as goal

pub returns-in_err-admitted : goal.returns-in_err-admitted
unfolding read_of
returns-in_err-admitted c = refuses c.args.s.now c.args.self _ c.from_residual.ensures c.admitted.ensures c.in_err-admitted.was

pub returns-then-count-gt32 : goal.returns-then-count-gt32
unfolding read_of
returns-then-count-gt32 c = let on = admits c.args.s.now c.args.self c.admitted.ensures c.in_ok-admitted.was in search (rules, tests, on.0, on.1)

pub returns-then-remaining-count : goal.returns-then-remaining-count
unfolding read_of
returns-then-remaining-count c = let on = admits c.args.s.now c.args.self c.admitted.ensures c.in_ok-admitted.was in search (rules, tests, ← c.remaining.ensures, on.0, on.1)

pub returns : goal.returns
unfolding read_of
returns c = let on = admits c.args.s.now c.args.self c.admitted.ensures c.in_ok-admitted.was in search (rules, tests, ← c.remaining.ensures, c.bits_at-value.ensures, on.0, on.1)
