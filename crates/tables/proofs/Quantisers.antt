-- The rules by which the code knows Table B.4 without a table, each a test computed at the quantisers 0 to 17.
-- Assumes nothing.
use Prim.Native.Nat.{ℕ, ◌+◌, ◌-◌, ◌*◌, ◌^◌, ◌%◌, ◌≤◌, ◌<◌}
use mathlib.Core.Path.{◌≡◌, refl}
use mathlib.Core.Bool.{Bool, true, false, cond, not, ◌||◌}
use native.Mathlib.Omega.{arith}
use lib.Dec.{T, eqb, leb, eqb→eq, leb→le}
use Rattle.ground.specs.Upto.{below, or_left}
use Rattle.tables.specs.Standard.{classes, quantisation_of, levels_of, code_bits_of, grouped_of}

equal : (a b : Bool) → T (cond a b (not b)) → a ≡ b
equal false true t = elim t [ ]
equal true false t = elim t [ ]
equal true true t = refl
equal false false t = refl

abbrev shared : ℕ → Bool
shared q = (eqb q 1 || eqb q 2) || eqb q 4

grouped_test : ℕ → Bool
grouped_test q = cond (shared q) (grouped_of q) (not (grouped_of q))

pub grouped_rule : (q : ℕ) → q < 18 → shared q ≡ grouped_of q
unfolding grouped_test grouped_of quantisation_of classes
grouped_rule q h = equal (shared q) (grouped_of q) (below grouped_test 18 tt q h)

bits_test : ℕ → Bool
bits_test q = eqb (q - 1) (code_bits_of q) || leb q 4

pub bits_rule : (q : ℕ) → 4 < q → q < 18 → q - 1 ≡ code_bits_of q
unfolding bits_test code_bits_of quantisation_of classes
bits_rule q l h =
    eqb→eq _ _ (or_left (eqb (q - 1) (code_bits_of q)) _ (below bits_test 18 tt q h) (λ k. let g : q ≤ 4 = leb→le q 4 k in omega arith))

-- a power of 2, as a shift of 32 bits makes it
abbrev power : ℕ → ℕ
power q = 1 * 2 ^ code_bits_of q % 4294967296

power_test : ℕ → Bool
power_test q = leb 1 (power q)

pub power_positive : (q : ℕ) → q < 18 → 1 ≤ power q
unfolding power_test code_bits_of quantisation_of classes
power_positive q h = leb→le _ _ (below power_test 18 tt q h)

levels_test : ℕ → Bool
levels_test q = eqb (cond (grouped_of q) (2 * q + 1) (power q - 1)) (levels_of q)

pub levels_rule : (q : ℕ) → q < 18 → cond (grouped_of q) (2 * q + 1) (power q - 1) ≡ levels_of q
unfolding levels_test levels_of code_bits_of grouped_of quantisation_of classes
levels_rule q h = eqb→eq _ _ (below levels_test 18 tt q h)
