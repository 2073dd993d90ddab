use mathlib.Core.Path.{sym, ◌∙◌}
use Rattle.state.specs.State.{in_range}
use Rattle.state.proofs.in_range.Goals as goal

pub returns-then-numbers_ok : goal.returns-then-numbers_ok
unfolding in_range
returns-then-numbers_ok c = simp (sym c.numbers_ok.ensures ∙ c.if-numbers_ok.true) c.on_time.ensures

pub returns : goal.returns
unfolding in_range
returns c = simp (sym c.numbers_ok.ensures ∙ c.if-numbers_ok.false)
