use mathlib.Core.Path.{sym, ◌∙◌}
use Rattle.refusal.specs.Handed.{not_there}
use Rattle.grammar.specs.Run.{and_then, run_done}
use Rattle.header.specs.Header.{rest_of}
use Rattle.header.proofs.read_rest.Goals as goal

pub returns-in-Some : goal.returns-in-Some
unfolding rest_of
returns-in-Some c =
    and_then _ _ _ _ c.read_mode-mode.ensures (rw (sym c.refused_after_mode.ensures ∙ c.in-Some.is) (sym (run_done _ _ _)))

pub returns : goal.returns
unfolding rest_of
returns c =
    and_then _ _ _ _ c.read_mode-mode.ensures
    (rw (sym c.refused_after_mode.ensures ∙ not_there _ c.in_default.not-Some)
    (and_then _ _ _ _ c.read_bound-bound.ensures
    (rw c.data_size-size.ensures (sym (run_done _ _ _)))))
