-- The window's sums: ring values of at most 2 ^ 36 give outputs of at most 8,259,553 (proofs/Sums), by the weights of the window's own entries.
-- From 01, "From samples to sound". Assumes nothing.
use Rattle.std.specs.Prelude.{◌≡◌, refl, Bool, true, ◌&&◌, List, [], ◌∷◌, map, T, leb, ℤ, pos, nat_abs, get_or, length, Float}
use Rattle.std.proofs.Common.{sym, ◌∙◌, mul-one, mul_assoc, lt_of_lt_of_le, mul-lt-mul_of_pos_right, leb→le, lit<, lit≤, pow_pos, pow_mono}
use Rattle.std.proofs.Math.Path.{subst}
use Prim.Native.Nat.{ℕ, zero, suc, ◌+◌, ◌*◌, ◌%◌, ◌^◌, ◌≤◌, ◌<◌}
use native.Mathlib.Omega.{arith}
use Rattle.std.specs.Float.{nan}
use Rattle.std.specs.Float.Ieee.{mul, of_int}
use Rattle.ground.specs.Upto.{and_left, and_right, upto, below}
use Rattle.window.specs.Window.{window_at, window_list, half, standard_d}
use Rattle.window.specs.Output.{taps}
use Rattle.finite.specs.Within.{Within, Factor, factorb, factor_by, Rep, add_within, factor_within}

-- ---- the window's entries, each a whole number of halves

halves : List ℤ → Bool
halves [] = true
halves (n ∷ more) = factorb (nat_abs n) 2 (half n) && halves more

halves_at : (list : List ℤ) → T (halves list) → (i : ℕ) → i < length list → Factor (nat_abs (get_or list i (pos 0))) 2 (get_or (map half list) i nan)
unfolding halves
halves_at [] t i h = absurd (omega arith)
halves_at (n ∷ more) t zero h = factor_by (nat_abs n) 2 (half n) (and_left (factorb (nat_abs n) 2 (half n)) (halves more) t)
halves_at (n ∷ more) t (suc i) h = halves_at more (and_right (factorb (nat_abs n) 2 (half n)) (halves more) t) i (omega arith)

halves_test : T (halves standard_d)
unfolding halves factorb half standard_d mul of_int
halves_test = tt

count : length standard_d ≡ 512
unfolding standard_d
count = refl

-- twice the magnitude of the window's entry i
pub weight_at : ℕ → ℕ
weight_at i = nat_abs (get_or standard_d i (pos 0))

pub entry_factor : (i : ℕ) → i < 512 → Factor (weight_at i) 2 (window_at i)
unfolding window_at window_list weight_at
entry_factor i h = halves_at standard_d halves_test i (omega (arith, count))

-- the weight of n products
pub weight : ℕ → ℕ → ℕ
weight w zero = 0
weight w (suc k) = weight w k + weight_at ((w + 64 * k) % 512)

-- the sixteen products of an output weigh at most 262,144
light : ℕ → Bool
light w = leb (weight w 8 + weight (w + 32) 8) 262144

all_light : T (upto light 544)
unfolding light weight weight_at standard_d
all_light = tt

pub sixteen : (w : ℕ) → w < 544 → weight w 8 + weight (w + 32) 8 ≤ 262144
unfolding light
sixteen w h = leb→le _ _ (below light 544 all_light w h)

-- ---- the sums, in units of 2 ^ 35

rep : (q : ℕ) → q < 2 ^ 24 → Rep (q * 2 ^ 35)
rep q h =
    record {
      q = q;
      j = 184;
      small = h;
      fine = lt_of_lt_of_le (mul-lt-mul_of_pos_right h (pow_pos 184)) (pow_mono {i = 208} {j = 277} (lit≤ tt));
      is = mul_assoc q (2 ^ 35) (2 ^ 149) ∙ sym (mul-one (q * 2 ^ 184));
    }

-- the division by -65 * 2 ^ 24
pub room : (a d : ℕ) → a ≤ 2 ^ 53 * d → a * 1 ≤ 8259553 * (1090519040 * d)
room a d h = omega arith

pub fits : Rep 8259553
fits = record { q = 8259553; j = 149; small = lit< tt; fine = lit< tt; is = refl }

module _ (ring : List Float) (hushed : (i : ℕ) → i < 1024 → Within (2 ^ 36) (get_or ring i nan)) where
  pub taps_within : (w r : ℕ) → r < 128 → (k : ℕ) → k ≤ 8 → (a : ℕ) (x : Float) → Within (a * 2 ^ 35) x → a + weight w k < 2 ^ 24
      → Within ((a + weight w k) * 2 ^ 35) (taps ring w r k x)
  unfolding taps weight
  taps_within w r hr zero hk a x h l =
      let e : a * 2 ^ 35 ≡ (a + 0) * 2 ^ 35 = omega arith in
      subst (λ (n : ℕ). Within n x) e h
  taps_within w r hr (suc k) hk a x h l =
      let j = (w + 64 * k) % 512 in
      let before = taps_within w r hr k (omega arith) a x h (omega arith) in
      let product =
      factor_within (2 ^ 36) (weight_at j) 2 (weight_at j * 2 ^ 35) (window_at j) (get_or ring (r + 128 * k) nan) (lit< tt) (entry_factor j (omega arith))
      (hushed (r + 128 * k) (omega arith)) (omega arith) (rep (weight_at j) (omega arith)) in
      add_within ((a + weight w k) * 2 ^ 35) (weight_at j * 2 ^ 35) ((a + (weight w k + weight_at j)) * 2 ^ 35) _ _ before product (omega arith)
      (rep (a + (weight w k + weight_at j)) (omega arith))
