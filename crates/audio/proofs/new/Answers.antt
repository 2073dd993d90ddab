use mathlib.Core.Path.{sym, ◌∙◌}
use native.Mathlib.Omega.{arith}
use Rattle.refusal.specs.Handed.{not_there}
use Rattle.audio.specs.CallsLaws.{no_room, long_enough, opens}
use Rattle.audio.proofs.new.Goals as goal

pub returns-in-Some : goal.returns-in-Some
returns-in-Some c =
    let whole = no_room _ _ _ _ c.fresh_state-state.ensures _ (sym c.in-Some.is ∙ c.no_room.ensures) in
    record { value = whole.0; memory_after = whole.1 }

pub slice_bounds-clear-end : goal.slice_bounds-clear-end
slice_bounds-clear-end c = omega (arith, long_enough _ _ (sym (not_there _ c.in_default.not-Some) ∙ c.no_room.ensures))

pub returns : goal.returns
returns c =
    let whole = opens _ _ _ _ c.fresh_state-state.ensures (sym (not_there _ c.in_default.not-Some) ∙ c.no_room.ensures) _ _
    c.clear.ensures c.attempt.ensures in
    record { value = whole.0; memory_after = whole.1 }
