-- What the loops of a halving store, and the step from the transforms of two halves to that of the whole.
-- From 01, "From samples to sound". Assumes nothing.
use mathlib.Core.Path.{◌≡◌, refl, sym, ◌∙◌}
use mathlib.Core.List.{List, [], ◌∷◌}
use mathlib.Core.Bool.{Bool, true, false, cond}
use Prim.Native.Nat.{ℕ, suc, ◌+◌, ◌/◌, ◌%◌, ◌^◌, ◌<◌, ◌≤◌}
use lib.Dec.{eqb}
use borrow.Author.Tests.{eqb-true, eqb-false}
use native.Mathlib.Omega.{arith}
use lib.ListN.{length, take, set}
use lib.Seq.{take_all, length-take-le, get_or-take}
use lib.Ieee.{Float, nan}
use Rattle.ground.specs.Table.{table, is_table}
use Rattle.transform.specs.Transform.{at, sum_at, difference_at, sums_of, differences_of, halving_factors, joined_at, woven_at, woven_of, transform}

-- ---- the weave

module _ (h : ℕ) (first second values : List Float) where
  by_parity : (i : ℕ) (t : Bool) → eqb (i % 2) 0 ≡ t → at values (i / 2 + i / 2) ≡ at first (i / 2) → at values (i / 2 + i / 2 + 1) ≡ joined_at h second (i / 2)
      → at values i ≡ cond t (at first (i / 2)) (joined_at h second (i / 2))
  by_parity i true e even odd = let s : i / 2 + i / 2 ≡ i = omega (arith, eqb-true (i % 2) 0 e) in rw s at even
  by_parity i false e even odd = let s : i / 2 + i / 2 + 1 ≡ i = omega (arith, eqb-false (i % 2) 0 e) in rw s at odd

  pub is_woven : h + h ≤ length values → ((k : ℕ) → k < h → at values (k + k) ≡ at first k) → ((k : ℕ) → k < h → at values (k + k + 1) ≡ joined_at h second k)
      → take (h + h) values ≡ woven_of h first second
  unfolding woven_of
  is_woven l even odd =
      is_table nan (h + h) (woven_at h first second) (take (h + h) values) (length-take-le (h + h) values l)
      (λ i b. get_or-take (h + h) values i nan b ∙ by_parity i (eqb (i % 2) 0) refl (even (i / 2) (omega arith)) (odd (i / 2) (omega arith)))

-- ---- from half the width to the whole

-- at width 2
pub narrow : (f : Float) (values : List Float) → length values ≡ 2
    → set (set values 0 (sum_at 1 values 0)) 1 (difference_at 1 (halving_factors f 0) values 0) ≡ transform 1 f f values
unfolding transform sums_of differences_of woven_of table
narrow f (a ∷ b ∷ []) e = refl
narrow f [] e = absurd (omega arith)
narrow f (a ∷ []) e = absurd (omega arith)
narrow f (a ∷ b ∷ c ∷ more) e = absurd (omega arith)

-- a and b: the transforms of the halves s and t, which values gives by its sums and its differences
pub wide : (k : ℕ) (f d : Float) (values result s t a b : List Float)
    → length result ≡ 2 ^ k + 2 ^ k → length a ≡ 2 ^ k → take (length a + length a) result ≡ woven_of (length a) a b
    → s ≡ sums_of (2 ^ k) values → t ≡ differences_of (2 ^ k) (halving_factors f k) values
    → a ≡ transform k f f s → b ≡ transform k d d t → result ≡ transform (suc k) f d values
unfolding transform
wide k f d values result s t a b n e w is it ra rb =
    sym (take_all (2 ^ k + 2 ^ k) result (omega arith)) ∙ rw e at w ∙ rw (ra, rb, is, it)
