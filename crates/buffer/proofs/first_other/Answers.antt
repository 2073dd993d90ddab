use mathlib.Core.Path.{◌∙◌}
use native.Mathlib.Omega.{arith}
use borrow.Author.Rules.{rules}
use Rattle.ground.specs.Tests.{tests}
use Rattle.ground.specs.First.{first_here, first_later}
use Rattle.buffer.proofs.Words.{past_end}
use Rattle.buffer.proofs.first_other.Goals as goal

pub returns-then-s-i-clause-is : goal.returns-then-s-i-clause-is
returns-then-s-i-clause-is c = first_here _ _ _ _ (omega arith) (search (rules, tests)) c.loop-i.invariant

pub loop-i-preserved : goal.loop-i-preserved
loop-i-preserved c = first_later _ _ _ _ (omega arith) (search (rules, tests)) c.loop-i.invariant

pub returns-clause-is : goal.returns-clause-is
returns-clause-is c = c.max.ensures ∙ past_end c.args.s.now c.args.v c.args.from.0 c.loop-i.i (omega arith) (λ l. omega arith) c.loop-i.invariant
