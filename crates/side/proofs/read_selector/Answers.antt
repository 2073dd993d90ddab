-- `side::read_selector` meets its contract.
use mathlib.Core.Path.{sym}
use Rattle.grammar.specs.Run.{run_done, field_then}
use Rattle.side.specs.Side.{selector_of}
use Rattle.side.proofs.read_selector.Goals as goal

pub returns : goal.returns
unfolding selector_of
returns c = field_then _ _ _ _ c.field-f.ensures.is (sym (run_done _ _ _))
