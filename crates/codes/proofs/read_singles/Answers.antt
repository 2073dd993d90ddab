-- `codes::read_singles` meets its contract.
use mathlib.Core.Path.{sym}
use Rattle.grammar.specs.Run.{field_then, run_done}
use Rattle.codes.specs.Frame.{singles_of}
use Rattle.codes.proofs.read_singles.Goals as goal

pub returns : goal.returns
unfolding singles_of
returns c =
    field_then _ _ _ _ c.field-a.ensures.is
    (field_then _ _ _ _ c.field-b.ensures.is (field_then _ _ _ _ c.field-c.ensures.is (sym (run_done _ _ _))))
