-- The transform from outside: with the cosines' own factors it is the standard's matrixing, V[i] = the sum over k of
-- cos ((16 + i) (2 k + 1) pi / 64) S[k] (ISO/IEC 11172-3, 2.4.3.2.2). Floats round, so this is seen where nothing does. The halving needs only
-- sums, differences, products and the factors 1 / (2 cos). With w for e ^ (i pi / 64), 2 cos (m pi / 64) is w ^ m + w ^ -m, and any field
-- will do that has a w of order 128. Modulo 257 that is 9, and there all 64 times 32 entries of the matrix are computed. Assumes nothing.
use Rattle.std.specs.Prelude.{ℕ, zero, suc, ◌+◌, ◌-◌, ◌*◌, ◌/◌, ◌%◌, ◌^◌, ◌<◌, ◌≡◌, refl, Bool, cond, List, ltb, eqb, get_or, Float}
use Rattle.std.proofs.Common.{ap₂, eqb→eq}
use Rattle.std.specs.Float.{nan, binary32}
use Rattle.std.specs.Float.Ieee.{add, sub, mul, neg, of_bits}
use Rattle.ground.specs.Table.{table}
use Rattle.ground.specs.Upto.{upto, below}
use Rattle.transform.specs.Transform.{at, halving_factors, usual_factor, sums_of, differences_of, woven_of, transform, slot_of}

-- ---- the halving of Transform, over any numbers

module _ {A : Type 0} (plus minus times : A → A → A) (past : A) (factor : ℕ → ℕ → A) where
  abbrev sums : ℕ → List A → List A
  sums h values = table h (λ i. plus (get_or values i past) (get_or values (h + h - 1 - i) past))

  abbrev differences : ℕ → ℕ → List A → List A
  differences k h values = table h (λ i. times (minus (get_or values i past) (get_or values (h + h - 1 - i) past)) (factor k i))

  abbrev joined : ℕ → List A → ℕ → A
  joined h second i = cond (ltb (i + 1) h) (plus (get_or second i past) (get_or second (i + 1) past)) (get_or second i past)

  abbrev woven : ℕ → List A → List A → List A
  woven h first second = table (h + h) (λ i. cond (eqb (i % 2) 0) (get_or first (i / 2) past) (joined h second (i / 2)))

  pub halved : ℕ → List A → List A
  halved zero values = values
  halved (suc k) values = woven (2 ^ k) (halved k (sums (2 ^ k) values)) (halved k (differences k (2 ^ k) values))

-- the 64 values of a slot
abbrev spread : {A : Type 0} → (A → A) → A → A → List A → ℕ → A
spread minus nought past results i =
    cond (ltb i 16) (get_or results (16 + i) past)
    (cond (eqb i 16) nought (cond (ltb i 48) (minus (get_or results (48 - i) past)) (minus (get_or results (i - 48) past))))

-- over f32 it is `transform` and `slot_of`, the irregular factor (docs/DIFFERENCES.md, S4) being as the others
halved_floats : (k : ℕ) (values : List Float)
    → halved (add binary32) (sub binary32) (mul binary32) nan (λ j i. at (halving_factors usual_factor j) i) k values
    ≡ transform k usual_factor usual_factor values
unfolding halved transform sums_of differences_of woven_of
halved_floats zero values = refl
halved_floats (suc k) values = ap₂ (woven_of (2 ^ k)) (halved_floats k _) (halved_floats k _)

pub same_halving : (values : List Float)
    → table 64 (spread neg (of_bits binary32 0) nan
    (halved (add binary32) (sub binary32) (mul binary32) nan (λ k i. at (halving_factors usual_factor k) i) 5 values))
    ≡ slot_of (transform 5 usual_factor usual_factor values)
unfolding slot_of
same_halving values = rw (halved_floats 5 values)

-- ---- modulo 257

abbrev modulus : ℕ
modulus = 257

-- 2 cos (m pi / 64), by w = 9
abbrev two_cos : ℕ → ℕ
two_cos m = (9 ^ (m % 128) + 9 ^ (128 - m % 128)) % modulus

-- 9 is of order 128
pub order : (9 ^ 64 % modulus ≡ 256) × (9 ^ 128 % modulus ≡ 1)
order = (refl, refl)

-- 1 / (2 cos (pi (2 i + 1) / 2 ^ (k + 2))): by Fermat, a number other than 0 to the power 255 is its inverse
abbrev inverse : ℕ → ℕ → ℕ
inverse k i = two_cos ((2 * i + 1) * 2 ^ (4 - k)) ^ 255 % modulus

abbrev column : ℕ → List ℕ
column k =
    halved (λ a b. (a + b) % modulus) (λ a b. (a + (modulus - b)) % modulus) (λ a b. a * b % modulus) 0 inverse 5
    (table 32 (λ i. cond (eqb i k) 1 0))

-- twice entry i of the column for S[k]
abbrev entry : List ℕ → ℕ → ℕ
entry results i = 2 * spread (λ a. (modulus - a) % modulus) 0 0 results i % modulus

abbrev fits : List ℕ → ℕ → ℕ → Bool
fits results k i = eqb (entry results i) (two_cos ((16 + i) * (2 * k + 1)))

pub matrixing : (i k : ℕ) → i < 64 → k < 32 → entry (column k) i ≡ two_cos ((16 + i) * (2 * k + 1))
unfolding halved table
matrixing i k few h = eqb→eq _ _ (below (fits (column k) k) 64 (below (λ k. upto (fits (column k) k) 64) 32 tt k h) i few)
