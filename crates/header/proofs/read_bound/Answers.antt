use mathlib.Core.Path.{sym}
use Rattle.grammar.specs.Run.{field_then, and_then, run_done}
use Rattle.header.specs.Header.{bound_of}
use Rattle.header.proofs.read_bound.Goals as goal

pub returns : goal.returns
unfolding bound_of
returns c =
    field_then _ _ _ _ c.field-extension.ensures.is
    (field_then _ _ _ _ c.field-flags.ensures.is
    (and_then _ _ _ _ c.pass_check-next.ensures
    (rw c.bound_by.ensures (sym (run_done _ _ _)))))
