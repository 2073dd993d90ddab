use borrow.Author.Tests.{eq-eqb, ne_eqb}
use mathlib.Core.Path.{sym, ◌∙◌}
use Rattle.refusal.specs.Handed.{not_there}
use Rattle.verdict.specs.Verdict.{known_of}
use Rattle.verdict.specs.VerdictLaws.{refuses_at_once, asks_on}
use Rattle.verdict.proofs.known.Goals as goal

pub returns-in-Some : goal.returns-in-Some
unfolding known_of
returns-in-Some c = c.refused.ensures ∙ refuses_at_once _ _ (sym c.in-Some.is ∙ c.refused_at_once.ensures)

pub returns-then-a-eq3 : goal.returns-then-a-eq3
unfolding known_of
returns-then-a-eq3 c =
    asks_on _ _ (sym (not_there _ c.in_default.not-Some) ∙ c.refused_at_once.ensures) _ (simp (eq-eqb _ _ c.if-a-eq3.true) c.attempt.ensures)

pub returns : goal.returns
unfolding known_of
returns c =
    asks_on _ _ (sym (not_there _ c.in_default.not-Some) ∙ c.refused_at_once.ensures) _ (simp (ne_eqb _ _ c.if-a-eq3.false))
