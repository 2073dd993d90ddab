-- The scale factors of ISO/IEC 11172-3, Table B.1: 2^(1 − i/3) for i from 0 to 62. In units of 2^−24 the port's factor f is the nearest
-- whole number to it, but for index 17, which is one too large (docs/DIFFERENCES.md, S6). Said without roots: the cube of 2 · 2^(25 − i/3)
-- is 2^78 / 2^i, and it lies between the cubes of 2 f − 1 and 2 f + 1. Assumes nothing.
use Rattle.std.specs.Prelude.{ℕ, ◌+◌, ◌-◌, ◌*◌, ◌^◌, ◌≤◌, ◌<◌, ◌≡◌, refl, Bool, ◌&&◌, ◌||◌, T, leb, ltb, eqb}
use Rattle.std.proofs.Common.{leb→le, ltb→lt, eqb→eq}
use Rattle.ground.specs.Upto.{upto, and_left, and_right, or_left, below}
use Rattle.samples.specs.Sample.{factor_of}

-- f is the nearest whole number to 2^(25 − i/3)
pub record Nearest (i f : ℕ) : Type 0 where
  pub not_less : (2 * f - 1) ^ 3 * 2 ^ i ≤ 2 ^ 78
  pub not_more : 2 ^ 78 < (2 * f + 1) ^ 3 * 2 ^ i

nearest : ℕ → ℕ → Bool
nearest i f = leb ((2 * f - 1) ^ 3 * 2 ^ i) (2 ^ 78) && ltb (2 ^ 78) ((2 * f + 1) ^ 3 * 2 ^ i)

is_nearest : (i f : ℕ) → T (nearest i f) → Nearest i f
unfolding nearest
is_nearest i f h =
    record {
      not_less = leb→le _ _ (and_left (leb ((2 * f - 1) ^ 3 * 2 ^ i) (2 ^ 78)) (ltb (2 ^ 78) ((2 * f + 1) ^ 3 * 2 ^ i)) h);
      not_more = ltb→lt _ _ (and_right (leb ((2 * f - 1) ^ 3 * 2 ^ i) (2 ^ 78)) (ltb (2 ^ 78) ((2 * f + 1) ^ 3 * 2 ^ i)) h);
    }

tests : T (upto (λ i. nearest i (factor_of i) || eqb i 17) 63)
unfolding nearest factor_of
tests = tt

pub factors_are_nearest : (i : ℕ) → i < 63 → (i ≡ 17 → ⊥) → Nearest i (factor_of i)
factors_are_nearest i l other =
    is_nearest i (factor_of i)
    (or_left (nearest i (factor_of i)) (eqb i 17) (below (λ i. nearest i (factor_of i) || eqb i 17) 63 tests i l) (λ h. other (eqb→eq i 17 h)))

-- the one that is listed: 660562, where 660561 is the nearest
pub factor_17 : (factor_of 17 ≡ 660562) × Nearest 17 660561
unfolding nearest factor_of
factor_17 = (refl, is_nearest 17 660561 tt)
