use mathlib.Core.Path.{sym}
use Rattle.grammar.specs.Run.{field_then, run_done}
use Rattle.header.specs.Header.{ident_of}
use Rattle.header.proofs.read_ident.Goals as goal

pub returns-then-version-layer : goal.returns-then-version-layer
unfolding ident_of
returns-then-version-layer c =
    field_then _ _ _ _ c.field-version.ensures.is
    (field_then _ _ _ _ c.field-layer.ensures.is
    (field_then _ _ _ _ c.field-protection.ensures.is
    (rw c.if-version-layer.true (sym (run_done _ _ _)))))

pub returns : goal.returns
unfolding ident_of
returns c =
    field_then _ _ _ _ c.field-version.ensures.is
    (field_then _ _ _ _ c.field-layer.ensures.is
    (field_then _ _ _ _ c.field-protection.ensures.is
    (rw c.if-version-layer.false (sym (run_done _ _ _)))))
