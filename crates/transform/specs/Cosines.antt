-- The factors of the transform, from outside: in row k the i-th is the f32 nearest to 1 / (2 cos (pi (2 i + 1) / 2 ^ (k + 2))), of which
-- ISO/IEC 11172-3, 2.4.3.2.2, has the cosines. All but one, which docs/DIFFERENCES.md lists as S4. By whole numbers alone, and computed:
-- As 2 cos of the double angle is the square of 2 cos, less 2, the numbers 2 cos (pi (2 i + 1) / 2 ^ (k + 2)), i from 0 to 2 ^ k - 1, are,
-- from the largest down, the positive roots of P (k + 1), where P 0 x = x and P (n + 1) x = P n (x * x - 2). There are no others, since its
-- degree is 2 ^ (k + 1) and it is even. Above the largest root it is positive, and at each root its sign changes. So it is enough to see
-- its sign at 1 over either end of what rounds to the factor (`factors-are-cosines`), and that the factors ascend (`factors-ascend`).
-- Assumes nothing.
use Rattle.std.specs.Prelude.{ℕ, zero, suc, ◌+◌, ◌-◌, ◌*◌, ◌/◌, ◌%◌, ◌^◌, ◌<◌, ◌≡◌, refl, Bool, not, ◌&&◌, T, ltb, eqb, length, Float}
use Rattle.std.specs.Bool.{beq}
use Rattle.std.proofs.Common.{eqb→eq}
use Rattle.std.specs.Float.{binary32}
use Rattle.std.specs.Float.Ieee.{of_bits, to_bits, lt}
use Rattle.ground.specs.Upto.{upto, below}
use Rattle.transform.specs.Transform.{at, halving_factors, usual_factor, other_factor}

abbrev distance : ℕ → ℕ → ℕ
distance a b = a - b + (b - a)

-- P (k + 1) (a / b) is above 0. From P 1 on the sign of x has no part, so that x * x - 2 may be taken without its own
abbrev above_zero : ℕ → ℕ → ℕ → Bool
above_zero zero a b = ltb (2 * (b * b)) (a * a)
above_zero (suc k) a b = above_zero k (distance (a * a) (2 * (b * b))) (b * b)

-- The numbers that round to the f32 lie half a unit of its last place around it: from (2 n - 1) / 2 ^ p to (2 n + 1) / 2 ^ p, n being its 24
-- digits. Of P (k + 1) the i-th root, from the largest down, lies between 1 over the one and 1 over the other
abbrev pub rounds_to : ℕ → ℕ → Float → Bool
rounds_to k i x =
    let bits = to_bits binary32 x in
    let n = 2 ^ 23 + bits % 2 ^ 23 in
    let p = 151 - bits / 2 ^ 23 in
    beq (above_zero k (2 ^ p) (2 * n - 1)) (eqb (i % 2) 0) && beq (above_zero k (2 ^ p) (2 * n + 1)) (eqb (i % 2) 1)

abbrev pub factor : ℕ → ℕ → Float
factor k i = at (halving_factors usual_factor k) i

pub factors_are_cosines : (k i : ℕ) → k < 5 → i < 2 ^ k → T (rounds_to k i (factor k i))
unfolding halving_factors of_bits to_bits
factors_are_cosines k i few h = below (λ i. rounds_to k i (factor k i)) (2 ^ k) (below (λ k. upto (λ i. rounds_to k i (factor k i)) (2 ^ k)) 5 tt k few) i h

pub factors_ascend : (k i : ℕ) → k < 5 → i < 2 ^ k - 1 → T (lt (factor k i) (factor k (i + 1)))
unfolding halving_factors of_bits lt
factors_ascend k i few h =
    below (λ i. lt (factor k i) (factor k (i + 1))) (2 ^ k - 1) (below (λ k. upto (λ i. lt (factor k i) (factor k (i + 1))) (2 ^ k - 1)) 5 tt k few) i h

-- as many as there are roots
pub factors_in_row : (k : ℕ) → k < 5 → length (halving_factors usual_factor k) ≡ 2 ^ k
unfolding halving_factors
factors_in_row k few = eqb→eq _ _ (below (λ k. eqb (length (halving_factors usual_factor k)) (2 ^ k)) 5 tt k few)

-- S4: in the half of the differences the first factor of width 16 is that of width 32, and not the cosine's
pub other_is_not : (other_factor ≡ factor 4 0) × T (not (rounds_to 3 0 other_factor))
unfolding halving_factors of_bits to_bits
other_is_not = (refl, tt)
