use mathlib.Core.Path.{ap, sym, ◌∙◌}
use Rattle.std.specs.Prelude.{Ok}
use Rattle.verdict.specs.Verdict.{enough_of, holding}
use Rattle.verdict.proofs.enough.Goals as goal

pub returns-in-Ok-true : goal.returns-in-Ok-true
unfolding enough_of
returns-in-Ok-true c =
    ap (λ t. holding c.args.skipped c.args.a (Ok t)) (sym c.in-Ok-true.field-0-test) ∙ ap (holding c.args.skipped c.args.a) (sym c.in-Ok-true.is ∙ c.has.ensures)

pub returns-in-Ok-false : goal.returns-in-Ok-false
unfolding enough_of
returns-in-Ok-false c =
    ap (λ t. holding c.args.skipped c.args.a (Ok t)) (sym c.in-Ok-false.field-0-test) ∙ ap (holding c.args.skipped c.args.a) (sym c.in-Ok-false.is ∙ c.has.ensures)

pub returns-in-Err : goal.returns-in-Err
unfolding enough_of
returns-in-Err c = ap (holding c.args.skipped c.args.a) (sym c.in-Err.is ∙ c.has.ensures)
