use mathlib.Core.Path.{ap, sym, ◌∙◌}
use Rattle.audio.specs.Calls.{aligned_of, by_moved}
use Rattle.audio.proofs.aligned.Goals as goal

pub returns-in-Ok : goal.returns-in-Ok
unfolding aligned_of
returns-in-Ok c = ap (by_moved _) (sym c.in-Ok.is ∙ c.align.ensures)

pub returns-in-Err : goal.returns-in-Err
unfolding aligned_of
returns-in-Err c = ap (by_moved _) (sym c.in-Err.is ∙ c.align.ensures)
