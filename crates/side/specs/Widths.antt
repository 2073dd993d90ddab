-- No field of the side information is wider than 32 bits.
-- Assumes nothing.
use Prim.Native.Nat.{ℕ, zero, suc, ◌+◌}
use Rattle.std.specs.Prelude.{Bool, List, eqb, get_or}
use Rattle.std.proofs.Common.{arith, lit≤}
use Rattle.ground.specs.Tests.{by_test}
use Rattle.grammar.specs.Reads.{Reads, done}
use Rattle.grammar.specs.Widths.{Narrow, narrow_bind}
use Rattle.tables.specs.Laws.{width≤4}
use Rattle.side.specs.Bands.{bands, pair_of, channels_of, allocated_of}
use Rattle.side.specs.Side.{allocation_of, allocation_band_of, selector_of, factors_of, place_factors_of, side_of}

module _ {A : Type 0} where
  pub bands_narrow : (band : ℕ → A → Reads A) → ((sb : ℕ) (xs : A) → Narrow (band sb xs)) → (n : ℕ) (xs : A) → Narrow (bands band n xs)
  unfolding bands Narrow
  bands_narrow band h zero xs = tt
  bands_narrow band h (suc n) xs = narrow_bind (bands band n xs) (band n) (bands_narrow band h n xs) (h n)

  pub pair_narrow : (own : Bool) (left right : A → Reads A) (copy : A → A) → ((xs : A) → Narrow (left xs)) → ((xs : A) → Narrow (right xs)) →
      (xs : A) → Narrow (pair_of own left right copy xs)
  unfolding pair_of Narrow
  pair_narrow own left right copy l r xs =
      narrow_bind (left xs) _ (l xs) (λ ys. by_test Narrow own (right ys) (done (copy ys)) (λ _. r ys) (λ _. tt))

  pub allocated_narrow : (quant : List ℕ) (one : ℕ → A → Reads A) → ((place : ℕ) (xs : A) → Narrow (one place xs)) →
      (place : ℕ) (xs : A) → Narrow (allocated_of quant one place xs)
  unfolding Narrow
  allocated_narrow quant one h place xs =
      by_test Narrow (eqb (get_or quant place 0) 0) (done xs) (one place xs) (λ _. tt) (λ _. h place xs)

  pub channels_narrow : (mono : Bool) (one : ℕ → A → Reads A) → ((place : ℕ) (xs : A) → Narrow (one place xs)) →
      (sb : ℕ) (xs : A) → Narrow (channels_of mono one sb xs)
  unfolding channels_of
  channels_narrow mono one h sb = pair_narrow _ (one sb) (one (sb + 32)) (λ xs. xs) (h sb) (h (sb + 32))

allocation_narrow : (table sb place : ℕ) (xs : List ℕ) → Narrow (allocation_of table sb place xs)
unfolding allocation_of Narrow
allocation_narrow table sb place xs = (omega (arith, width≤4 table sb), λ _. tt)

allocation_band_narrow : (table bound sb : ℕ) (xs : List ℕ) → Narrow (allocation_band_of table bound sb xs)
unfolding allocation_band_of
allocation_band_narrow table bound sb = pair_narrow _ _ _ _ (allocation_narrow table sb sb) (allocation_narrow table sb (sb + 32))

selector_narrow : (place : ℕ) (xs : List ℕ) → Narrow (selector_of place xs)
unfolding selector_of Narrow
selector_narrow place xs = (lit≤ tt, λ _. tt)

factors_narrow : (selector place : ℕ) (xs : List ℕ) → Narrow (factors_of selector place xs)
unfolding factors_of Narrow
factors_narrow zero place xs = (lit≤ tt, λ _. (lit≤ tt, λ _. (lit≤ tt, λ _. tt)))
factors_narrow (suc zero) place xs = (lit≤ tt, λ _. (lit≤ tt, λ _. tt))
factors_narrow (suc (suc zero)) place xs = (lit≤ tt, λ _. tt)
factors_narrow (suc (suc (suc n))) place xs = (lit≤ tt, λ _. (lit≤ tt, λ _. tt))

pub side_narrow : (mono : Bool) (table bound limit : ℕ) → Narrow (side_of mono table bound limit)
unfolding side_of Narrow
side_narrow mono table bound limit =
    narrow_bind _ _ (bands_narrow (allocation_band_of table bound) (allocation_band_narrow table bound) limit _)
    (λ quant. narrow_bind _ _
    (bands_narrow _ (channels_narrow mono (allocated_of quant selector_of) (allocated_narrow quant selector_of selector_narrow)) limit _)
    (λ selector. narrow_bind _ _
    (bands_narrow _
    (channels_narrow mono (place_factors_of quant selector)
    (allocated_narrow quant (λ k. factors_of (get_or selector k 0) k) (λ k. factors_narrow (get_or selector k 0) k)))
    limit _)
    (λ _. tt)))
