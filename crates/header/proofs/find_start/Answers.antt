use mathlib.Core.Path.{ap, sym, ◌∙◌}
use Rattle.std.specs.Prelude.{Ok, Err}
use Rattle.header.specs.Header.{start_of, by_has, by_skip}
use Rattle.header.proofs.find_start.Goals as goal

pub returns-in-Ok-false : goal.returns-in-Ok-false
unfolding start_of
returns-in-Ok-false c =
    ap Err c.unsought.ensures
    ∙ ap (λ t. by_has c.args.s.now c.args.reader (Ok t)) (sym c.in-Ok-false.field-0-test)
    ∙ ap (by_has c.args.s.now c.args.reader) (sym c.in-Ok-false.is ∙ c.has.ensures)

pub returns-in-Err : goal.returns-in-Err
unfolding start_of
returns-in-Err c = ap Err c.unsought-in-Err.ensures ∙ ap (by_has c.args.s.now c.args.reader) (sym c.in-Err.is ∙ c.has.ensures)

pub returns-in-Ok : goal.returns-in-Ok
unfolding start_of
returns-in-Ok c =
    c.sync.ensures
    ∙ ap (by_skip c.args.s.now c.args.reader) (sym c.in-Ok.is ∙ c.skip_bytes.ensures)
    ∙ ap (λ t. by_has c.args.s.now c.args.reader (Ok t)) (sym c.in-Ok-true.field-0-test)
    ∙ ap (by_has c.args.s.now c.args.reader) (sym c.in-Ok-true.is ∙ c.has.ensures)

pub returns-in-Err-skip_bytes : goal.returns-in-Err-skip_bytes
unfolding start_of
returns-in-Err-skip_bytes c =
    ap Err c.unsought-in-Err-skip_bytes.ensures
    ∙ ap (by_skip c.args.s.now c.args.reader) (sym c.in-Err-skip_bytes.is ∙ c.skip_bytes.ensures)
    ∙ ap (λ t. by_has c.args.s.now c.args.reader (Ok t)) (sym c.in-Ok-true.field-0-test)
    ∙ ap (by_has c.args.s.now c.args.reader) (sym c.in-Ok-true.is ∙ c.has.ensures)
