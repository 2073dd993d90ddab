use mathlib.Core.Path.{ap, sym, ◌∙◌}
use Rattle.std.specs.Prelude.{Ok, Err}
use Rattle.header.specs.Header.{seek_of, by_search}
use Rattle.header.proofs.seek.Goals as goal

pub returns-in-Err : goal.returns-in-Err
unfolding seek_of
returns-in-Err c = ap Err c.unsought.ensures ∙ ap (by_search c.args.reader) (sym c.in-Err.is ∙ c.find_frame_sync.ensures)

pub returns-in-Found : goal.returns-in-Found
unfolding seek_of
returns-in-Found c = ap (λ x. by_search c.args.reader (Ok x)) (sym c.in-Found.is) ∙ ap (by_search c.args.reader) (sym c.in-Ok.is ∙ c.find_frame_sync.ensures)

pub returns-in-Missing : goal.returns-in-Missing
unfolding seek_of
returns-in-Missing c = ap (λ x. by_search c.args.reader (Ok x)) (sym c.in-Missing.is) ∙ ap (by_search c.args.reader) (sym c.in-Ok.is ∙ c.find_frame_sync.ensures)
