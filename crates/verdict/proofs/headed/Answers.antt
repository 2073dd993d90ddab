use borrow.Author.Tests.{eq-eqb, ne_eqb}
use Rattle.verdict.specs.Verdict.{headed_of}
use Rattle.verdict.proofs.headed.Goals as goal

pub returns-then-a-eq0 : goal.returns-then-a-eq0
unfolding headed_of
returns-then-a-eq0 c = simp (eq-eqb _ _ c.if-a-eq0.true) c.attempt.ensures

pub returns : goal.returns
unfolding headed_of
returns c = simp (ne_eqb _ _ c.if-a-eq0.false)
