-- Bounds on what a frame holds, whatever the stream: codes that their quantiser's fields can hold, and 192 samples of magnitude
-- at most 104,848 in each granule, so that each is an `f32` exactly; from the limit up all is 0 (proofs/Values).
-- Assumes nothing.
use Prim.Native.Nat.{ℕ, zero, suc, ◌+◌, ◌-◌, ◌*◌, ◌/◌, ◌%◌, ◌^◌, ◌≤◌, ◌<◌}
use Rattle.std.specs.Prelude.{◌≡◌, Bool, true, false, ℤ, pos, nat_abs, length, get_or, set, replicate}
use Rattle.std.proofs.Common.{◌∙◌, mod-lt, le_trans, div-mul-le_self, le-div_iff_mul-le, arith, lit≤, length-set}
use mathlib.Core.List.{List, [], ◌∷◌, ◌++◌}
use Rattle.std.proofs.lemmas.List.{length-replicate}
use Rattle.ground.specs.Tests.{by_test}
use Rattle.ground.specs.Entries.{each_after_set, copies_at}
use Rattle.grammar.specs.Values.{Always, always_bind}
use Rattle.tables.specs.Standard.{levels_of, code_bits_of, grouped_of}
use Rattle.tables.specs.Laws.{sized}
use Rattle.samples.specs.Bounds.{most_of, quantiser_range}
use Rattle.samples.proofs.Bounds.{sample_small}
use Rattle.samples.specs.declared.Three.{Three}
use Rattle.ground.specs.Stores.{three}
use Rattle.side.specs.Side.{Side, side_of}
use Rattle.side.specs.Values.{bands_always, pair_always, allocated_always, SideInRange, side_ranged}
use Rattle.codes.specs.Frame.{codes_of, singles_of, three_samples_of, place_of, copied, sample_band_of, granule_of, granules_of, frame_of}

-- the codes of a quantiser
pub record CodesUpTo (m : ℕ) (c : Three) : Type 0 where
  pub first : c.first ≤ m
  pub second : c.second ≤ m
  pub third : c.third ≤ m

-- a larger number has no smaller quotient
quotient≤ : (a b k : ℕ) → 0 < k → a ≤ b → a / k ≤ b / k
quotient≤ a b k p h = (le-div_iff_mul-le p).1 (le_trans (div-mul-le_self a k) h)

-- the largest is the largest last quotient, or all ones
most_grouped : (q : ℕ) → grouped_of q ≡ true → (2 ^ code_bits_of q - 1) / levels_of q / levels_of q ≡ most_of q
unfolding most_of
most_grouped q g = rw g

most_single : (q : ℕ) → grouped_of q ≡ false → levels_of q ≡ most_of q
unfolding most_of
most_single q g = rw g

pub codes_small : (q : ℕ) → 0 < q → q < 18 → Always (CodesUpTo (most_of q)) (codes_of q)
unfolding codes_of singles_of Always
codes_small q p h =
    let l = levels_of q in
    let z = sized q p h in
    let r = quantiser_range q p h in
    let L : 0 < l = omega (arith, z.least) in
    let top = 2 ^ code_bits_of q - 1 in
    by_test (Always (CodesUpTo (most_of q))) (grouped_of q) _ _
    (λ g v b. record {
      first = omega (arith, mod-lt v L, r.digit);
      second = omega (arith, mod-lt (v / l) L, r.digit);
      third = rw (← most_grouped q g) (quotient≤ (v / l) (top / l) l L (quotient≤ v top l L (omega arith)));
    })
    (λ g. let e = most_single q g in
    λ a ha b hb c hc. record {
      first = omega (arith, e, z.single g);
      second = omega (arith, e, z.single g);
      third = omega (arith, e, z.single g);
    })

-- 192 samples, each of magnitude at most 104,848
pub record Bounded (xs : List ℤ) : Type 0 where
  pub many : length xs ≡ 192
  pub each : (i : ℕ) → nat_abs (get_or xs i (pos 0)) ≤ 104848

set_keeps : (xs : List ℤ) (k : ℕ) (v : ℤ) → Bounded xs → nat_abs v ≤ 104848 → Bounded (set xs k v)
set_keeps xs k v p q = record { many = length-set xs k v ∙ p.many; each = each_after_set (λ x. nat_abs x ≤ 104848) (pos 0) xs k v p.each q }

three_keeps : (xs : List ℤ) (place : ℕ) (x y z : ℤ) → Bounded xs → nat_abs x ≤ 104848 → nat_abs y ≤ 104848 → nat_abs z ≤ 104848 → Bounded (three place x y z xs)
three_keeps xs place x y z p h g k = set_keeps _ (place + 128) z (set_keeps _ (place + 64) y (set_keeps xs place x p h) g) k

pub silence : Bounded (replicate 192 (pos 0))
silence = record { many = length-replicate 192 (pos 0); each = λ i. rw (copies_at (pos 0) 192 i) (lit≤ tt) }

samples_bounded : (q factor place : ℕ) → 0 < q → q < 18 → factor ≤ 33554432 → (xs : List ℤ) → Bounded xs → Always Bounded (three_samples_of q factor place xs)
unfolding three_samples_of Always
samples_bounded q factor place p h f xs l =
    always_bind (CodesUpTo (most_of q)) Bounded (codes_of q) _ (codes_small q p h)
    (λ c s. three_keeps xs place _ _ _ l (sample_small q c.first factor p h s.first f)
    (sample_small q c.second factor p h s.second f) (sample_small q c.third factor p h s.third f))

module _ (side : Side) (r : SideInRange side) (part : ℕ) where
  place_bounded : (place : ℕ) (xs : List ℤ) → Bounded xs → Always Bounded (place_of side part place xs)
  unfolding place_of
  place_bounded place =
      allocated_always Bounded side.quant (λ k. three_samples_of (get_or side.quant k 0) (get_or side.factor (part * 64 + k) 0) k) place
      (λ e. samples_bounded (get_or side.quant place 0) (get_or side.factor (part * 64 + place) 0) place
      (omega arith) (r.quant.each place) (omega (arith, r.factor.each (part * 64 + place))))

  copied_bounded : (sb : ℕ) (xs : List ℤ) → Bounded xs → Bounded (copied sb xs)
  unfolding copied
  copied_bounded sb xs l = three_keeps xs (sb + 32) _ _ _ l (l.each sb) (l.each (sb + 64)) (l.each (sb + 128))

  band_bounded : (bound sb : ℕ) (xs : List ℤ) → Bounded xs → Always Bounded (sample_band_of side part bound sb xs)
  unfolding sample_band_of
  band_bounded bound sb = pair_always Bounded _ _ _ _ (place_bounded sb) (place_bounded (sb + 32)) (copied_bounded sb)

  pub granule_bounded : (bound limit : ℕ) → Always Bounded (granule_of side part bound limit)
  unfolding granule_of
  granule_bounded bound limit = bands_always Bounded (sample_band_of side part bound) limit (λ sb _. band_bounded bound sb) limit (omega arith) _ silence

-- from the limit up, in every slot and both channels, all is 0
unfoldable pub Silent : ℕ → List ℤ → Type 0
Silent limit xs = (i : ℕ) → limit ≤ i % 32 → get_or xs i (pos 0) ≡ pos 0

-- each granule of a list
unfoldable pub All : (List ℤ → Type 0) → List (List ℤ) → Type 0
All P [] = Unit
All P (x ∷ xs) = P x × All P xs

module _ (P : List ℤ → Type 0) where
  one_more : (xs : List (List ℤ)) (x : List ℤ) → All P xs → P x → All P (xs ++ (x ∷ []))
  unfolding All
  one_more [] x p q = (q, tt)
  one_more (y ∷ ys) x p q = (p.0, one_more ys x p.1 q)

  pub granules_all : (side : Side) (bound limit : ℕ) → ((part : ℕ) → Always P (granule_of side part bound limit)) → (n : ℕ) →
      Always (All P) (granules_of side bound limit n)
  unfolding granules_of Always All
  granules_all side bound limit h zero = tt
  granules_all side bound limit h (suc g) =
      always_bind (All P) (All P) (granules_of side bound limit g) _ (granules_all side bound limit h g)
      (λ xs p. always_bind P (All P) (granule_of side (g / 4) bound limit) _ (h (g / 4)) (λ x q. one_more xs x p q))

-- the twelve granules of a frame
pub frame_bounded : (mono : Bool) (table bound limit : ℕ) → Always (All Bounded) (frame_of mono table bound limit)
unfolding frame_of
frame_bounded mono table bound limit =
    always_bind SideInRange (All Bounded) (side_of mono table bound limit) _ (side_ranged mono table bound limit)
    (λ side r. granules_all Bounded side bound limit (λ part. granule_bounded side r part bound limit) 12)
