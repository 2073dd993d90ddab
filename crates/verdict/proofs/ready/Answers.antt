use mathlib.Core.Path.{sym, ◌∙◌}
use Rattle.refusal.specs.Handed.{not_there}
use Rattle.verdict.specs.Verdict.{ready_of}
use Rattle.verdict.specs.VerdictLaws.{none_at_once, pended_small, goes_on, goes_back, refuses_at_once, asks_on}
use Rattle.verdict.proofs.ready.Goals as goal

pub returns-in-Some : goal.returns-in-Some
unfolding ready_of
returns-in-Some c = c.refused.ensures ∙ refuses_at_once _ _ (sym c.in-Some.is ∙ c.refused_at_once.ensures)

pub enough-requires : goal.enough-requires
enough-requires c =
    let called = none_at_once _ _ _ _ (sym c.refused_at_once.ensures ∙ not_there _ c.in_default.not-Some) in
    pended_small _ _ _ called.room.short called.within c.headed-h.ensures

pub returns-in-Ok : goal.returns-in-Ok
unfolding ready_of
returns-in-Ok c =
    asks_on _ _ (sym (not_there _ c.in_default.not-Some) ∙ c.refused_at_once.ensures) _
    (goes_on _ _ _ _ c.headed-h.ensures c.in-Ok.is c.enough.ensures)

pub returns-in-Err : goal.returns-in-Err
unfolding ready_of
returns-in-Err c =
    asks_on _ _ (sym (not_there _ c.in_default.not-Some) ∙ c.refused_at_once.ensures) _
    (goes_back _ _ _ _ c.headed-h.ensures c.in-Err.is)
