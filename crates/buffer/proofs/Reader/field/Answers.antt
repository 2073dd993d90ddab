use mathlib.Core.Path.{◌∙◌, sym, ap}
use Rattle.buffer.specs.Calls.{field_of, or_zero}
use Rattle.buffer.specs.Laws.{fielded}
use Rattle.buffer.proofs.Words.{not_value}
use Rattle.buffer.proofs.Reader.field.Goals as goal

pub returns-in_default : goal.returns-in_default
unfolding field_of
returns-in_default c = fielded _ _ _ _ (not_value _ c.read.result c.in_default.not-Ok ∙ ap (or_zero _) c.read.ensures)

pub returns : goal.returns
unfolding field_of
returns c = fielded _ _ _ _ (ap (or_zero _) (sym c.in-Ok.is ∙ c.read.ensures))
