use mathlib.Core.Path.{ap}
use borrow.Author.Rules.{rules}
use Rattle.ground.specs.Tests.{tests}
use Rattle.buffer.specs.Calls.{skip_bytes_of}
use Rattle.buffer.proofs.Gate.{admits, refuses}
use Rattle.buffer.proofs.Reader.skip_bytes.Goals as goal

pub returns-in_err-admitted : goal.returns-in_err-admitted
unfolding skip_bytes_of
returns-in_err-admitted c = refuses c.args.s.now c.args.self _ c.from_residual.ensures c.admitted.ensures c.in_err-admitted.was

pub returns : goal.returns
unfolding skip_bytes_of
returns c =
    let on = admits c.args.s.now c.args.self c.admitted.ensures c.in_ok-admitted.was in
    search (rules, tests, c.bit-at.ensures, c.first_other-to.ensures.is, ap (λ p. p.0) c.byte_after-from.ensures, on.0, on.1)
