use mathlib.Core.Path.{ap, sym, ◌∙◌}
use Rattle.header.specs.Header.{header_of, by_start, attempt, settled}
use Rattle.header.proofs.decode_header.Goals as goal

pub returns-in-Err : goal.returns-in-Err
unfolding header_of
returns-in-Err c = ap (by_start _ _) (sym c.in-Err.is ∙ c.find_start.ensures)

pub returns-in-Ok-read_fields : goal.returns-in-Ok-read_fields
unfolding header_of
returns-in-Ok-read_fields c =
    ap (attempt _) (ap settled (sym c.in-Ok-read_fields.is) ∙ c.read_fields.ensures)
    ∙ ap (by_start _ _) (sym c.in-Ok.is ∙ c.find_start.ensures)

pub returns-in-Err-read_fields : goal.returns-in-Err-read_fields
unfolding header_of
returns-in-Err-read_fields c =
    ap (attempt _) (ap settled (sym c.in-Err-read_fields.is) ∙ c.read_fields.ensures)
    ∙ ap (by_start _ _) (sym c.in-Ok.is ∙ c.find_start.ensures)
