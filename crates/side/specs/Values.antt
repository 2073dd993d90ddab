-- Bounds on the side information, whatever the stream: quantisers below 18, factors at most 33,554,432.
-- Assumes nothing.
use Prim.Native.Nat.{ℕ, zero, suc, ◌+◌, ◌^◌, ◌≤◌, ◌<◌}
use Rattle.std.specs.Prelude.{◌≡◌, Bool, List, eqb, get_or, set, replicate}
use Rattle.std.proofs.Common.{arith, lit<}
use Rattle.std.proofs.lemmas.Bool.{eqb-false}
use Rattle.ground.specs.Tests.{by_test}
use Rattle.ground.specs.Entries.{each_after_set, copies_at}
use Rattle.grammar.specs.Reads.{Reads, done}
use Rattle.grammar.specs.Values.{Always, always_bind, anything, always_anything}
use Rattle.tables.specs.Laws.{quantiser<18}
use Rattle.samples.specs.Sample.{factor_of}
use Rattle.samples.specs.Bounds.{factor_small}
use Rattle.side.specs.Below.{Below}
pub use Rattle.side.specs.Below.{SideInRange}
use Rattle.ground.specs.Stores.{three}
use Rattle.side.specs.Bands.{bands, pair_of, channels_of, allocated_of}
use Rattle.side.specs.Side.{allocation_of, allocation_band_of, selectors_of, factors_of, place_factors_of, side_of}

-- what each subband keeps, all of them keep
module _ {A : Type 0} (P : A → Type 0) where
  pub bands_always : (band : ℕ → A → Reads A) (limit : ℕ) → ((sb : ℕ) → sb < limit → (xs : A) → P xs → Always P (band sb xs)) →
      (n : ℕ) → n ≤ limit → (xs : A) → P xs → Always P (bands band n xs)
  unfolding bands Always
  bands_always band limit h zero l xs p = p
  bands_always band limit h (suc n) l xs p =
      always_bind P P (bands band n xs) (band n) (bands_always band limit h n (omega arith) xs p) (h n (omega arith))

  pub pair_always : (own : Bool) (left right : A → Reads A) (copy : A → A) → ((xs : A) → P xs → Always P (left xs)) →
      ((xs : A) → P xs → Always P (right xs)) → ((xs : A) → P xs → P (copy xs)) → (xs : A) → P xs → Always P (pair_of own left right copy xs)
  unfolding pair_of Always
  pair_always own left right copy l r c xs p =
      always_bind P P (left xs) _ (l xs p) (λ ys q. by_test (Always P) own (right ys) (done (copy ys)) (λ _. r ys q) (λ _. c ys q))

  pub allocated_always : (quant : List ℕ) (one : ℕ → A → Reads A) (place : ℕ) → ((get_or quant place 0 ≡ 0 → ⊥) → (xs : A) → P xs → Always P (one place xs)) →
      (xs : A) → P xs → Always P (allocated_of quant one place xs)
  unfolding Always
  allocated_always quant one place h xs p =
      by_test (Always P) (eqb (get_or quant place 0) 0) (done xs) (one place xs) (λ _. p) (λ e. h (eqb-false (get_or quant place 0) 0 e) xs p)

  pub channels_always : (mono : Bool) (one : ℕ → A → Reads A) → ((place : ℕ) (xs : A) → P xs → Always P (one place xs)) →
      (sb : ℕ) (xs : A) → P xs → Always P (channels_of mono one sb xs)
  unfolding channels_of
  channels_always mono one h sb = pair_always _ (one sb) (one (sb + 32)) (λ xs. xs) (h sb) (h (sb + 32)) (λ xs p. p)

-- stores into a list whose entries are below m
set_below : (m : ℕ) (xs : List ℕ) (k v : ℕ) → Below m xs → v < m → Below m (set xs k v)
set_below m xs k v p q = record { each = each_after_set (λ x. x < m) 0 xs k v p.each q }

three_below : (m : ℕ) (xs : List ℕ) (place a b c : ℕ) → Below m xs → a < m → b < m → c < m → Below m (three place a b c xs)
three_below m xs place a b c p h g k = set_below m _ (place + 128) c (set_below m _ (place + 64) b (set_below m xs place a p h) g) k

zeros_below : (m n : ℕ) → 0 < m → Below m (replicate n 0)
zeros_below m n h = record { each = λ i. rw (copies_at {A = ℕ} 0 n i) h }

-- quantisers
allocation_below : (table sb place : ℕ) (xs : List ℕ) → Below 18 xs → Always (Below 18) (allocation_of table sb place xs)
unfolding allocation_of Always
allocation_below table sb place xs p v h = set_below 18 xs place _ p (quantiser<18 table sb v)

allocation_band_below : (table bound sb : ℕ) (xs : List ℕ) → Below 18 xs → Always (Below 18) (allocation_band_of table bound sb xs)
unfolding allocation_band_of
allocation_band_below table bound sb =
    pair_always (Below 18) _ _ _ _ (allocation_below table sb sb) (allocation_below table sb (sb + 32))
    (λ xs p. set_below 18 xs (sb + 32) _ p (p.each sb))

-- scale factors
factor< : (index : ℕ) → index < 2 ^ 6 → factor_of index < 33554433
factor< index h = omega (arith, factor_small index h)

factors_below : (selector place : ℕ) (xs : List ℕ) → Below 33554433 xs → Always (Below 33554433) (factors_of selector place xs)
unfolding factors_of Always
factors_below zero place xs p = λ a ha b hb c hc. three_below _ xs place _ _ _ p (factor< a ha) (factor< b hb) (factor< c hc)
factors_below (suc zero) place xs p = λ a ha b hb. three_below _ xs place _ _ _ p (factor< a ha) (factor< a ha) (factor< b hb)
factors_below (suc (suc zero)) place xs p = λ a ha. three_below _ xs place _ _ _ p (factor< a ha) (factor< a ha) (factor< a ha)
factors_below (suc (suc (suc n))) place xs p = λ a ha b hb. three_below _ xs place _ _ _ p (factor< a ha) (factor< b hb) (factor< b hb)

-- the side information
pub side_ranged : (mono : Bool) (table bound limit : ℕ) → Always SideInRange (side_of mono table bound limit)
unfolding side_of Always
side_ranged mono table bound limit =
    always_bind (Below 18) SideInRange _ _
    (bands_always (Below 18) (allocation_band_of table bound) limit (λ sb _. allocation_band_below table bound sb)
    limit (omega arith) _ (zeros_below 18 64 (lit< tt)))
    (λ quant p. always_bind anything SideInRange _ _ (always_anything (selectors_of mono quant limit (replicate 64 0)))
    (λ selector _. always_bind (Below 33554433) SideInRange _ _
    (bands_always (Below 33554433) _ limit
    (λ sb _. channels_always (Below 33554433) mono (place_factors_of quant selector)
    (λ place. allocated_always (Below 33554433) quant (λ k. factors_of (get_or selector k 0) k) place (λ _. factors_below (get_or selector place 0) place)) sb)
    limit (omega arith) _ (zeros_below 33554433 192 (lit< tt)))
    (λ factor q. record { quant = p; factor = q })))
