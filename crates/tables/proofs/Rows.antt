-- A range of subbands with one row, by a computed test.
-- Assumes nothing.
use Prim.Native.Nat.{ℕ, ◌+◌, ◌-◌, ◌≤◌, ◌<◌}
use mathlib.Core.Path.{◌≡◌, ap, ◌∙◌}
use native.Mathlib.Omega.{arith}
use lib.Dec.{T, eqb, eqb→eq}
use Rattle.ground.specs.Upto.{upto, below}
use Rattle.tables.specs.Source.{source_row_of}

-- the row x stands at the n subbands from the one called `first`
pub spans : (table x first n : ℕ) → T (upto (λ (i : ℕ). eqb x (source_row_of table (first + i))) n) → (sb : ℕ) → first ≤ sb → sb < first + n →
    x ≡ source_row_of table sb
spans table x first n t sb h l =
    eqb→eq _ _ (below (λ (i : ℕ). eqb x (source_row_of table (first + i))) n t (sb - first) (omega arith))
    ∙ ap (source_row_of table) (omega arith)
