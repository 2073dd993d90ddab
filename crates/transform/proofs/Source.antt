-- The source's `idct36` (specs/Source) writes `idct`, for all samples. Assumes nothing.
use Rattle.std.specs.Prelude.{ℕ, ◌+◌, ◌≤◌, ◌≡◌, List, ◌++◌, ℤ, length, get_or, take, drop, Float}
use Rattle.std.proofs.Common.{sym, ap₂, ◌∙◌, arith, length-drop, take-append-drop, length-take-le, get_or-take, get_or-drop, drop-drop}
use Rattle.std.specs.Float.{nan}
use Rattle.ground.specs.Table.{is_table}
use Rattle.transform.specs.Transform.{idct}
use Rattle.transform.specs.Source.{Store, lines, written, g, idct36, last, written_length, before, behind, within, same_values, all_near}

-- the 64 values of `idct` stand at dp, and around them d is as it was
pub source_is_idct : (samples : List ℤ) → length samples ≡ 32 → (d : List Float) (dp : ℕ) → dp + 64 ≤ length d
    → idct36 samples d dp ≡ take dp d ++ (idct samples ++ drop 64 (drop dp d))
unfolding idct36
source_is_idct samples e d dp room =
    sym (take-append-drop dp w)
    ∙ ap₂ (λ a b. a ++ b) (before dp stores d)
    (sym (take-append-drop 64 (drop dp w)) ∙ ap₂ (λ a b. a ++ b) middle rest)
  where
    stores : List Store
    stores = lines (g samples)

    w : List Float
    w = written d dp stores

    rest : drop 64 (drop dp w) ≡ drop 64 (drop dp d)
    rest = drop-drop 64 dp w ∙ behind dp stores (all_near (g samples)) d ∙ sym (drop-drop 64 dp d)

    middle : take 64 (drop dp w) ≡ idct samples
    middle =
        is_table nan 64 (λ i. last stores i (get_or d (dp + i) nan)) (take 64 (drop dp w))
        (length-take-le 64 (drop dp w) (omega (arith, length-drop dp w, written_length dp stores d)))
        (λ i h. get_or-take 64 (drop dp w) i nan h ∙ get_or-drop dp w i nan ∙ within dp stores (all_near (g samples)) d room i)
        ∙ same_values samples e (λ i. get_or d (dp + i) nan)
