-- The scale without a division by a variable: a test computed at the quantisers 1 to 17.
-- Assumes nothing.
use Prim.Native.Nat.{ℕ, ◌/◌, ◌^◌, ◌<◌}
use mathlib.Core.Path.{◌≡◌}
use mathlib.Core.Bool.{Bool, ◌||◌}
use lib.Dec.{T, eqb}
use Rattle.std.proofs.Common.{arith}
use Rattle.std.proofs.lemmas.Bool.Decides.{nat_tests}
use Rattle.ground.specs.Upto.{below}
use Rattle.tables.specs.Standard.{classes, quantisation_of, levels_of, code_bits_of}
use Rattle.samples.specs.Sample.{scale_of}

scale_test : ℕ → Bool
scale_test q = eqb (65536 / 2 ^ code_bits_of q) (scale_of (levels_of q)) || (eqb q 1 || (eqb q 2 || eqb q 4))

by_test : (a b q : ℕ) → T (eqb a b || (eqb q 1 || (eqb q 2 || eqb q 4))) → (q ≡ 1 → ⊥) → (q ≡ 2 → ⊥) → (q ≡ 4 → ⊥) → a ≡ b
by_test a b q t x y z = grind (arith, nat_tests)

pub scale_rule : (q : ℕ) → q < 18 → (q ≡ 1 → ⊥) → (q ≡ 2 → ⊥) → (q ≡ 4 → ⊥) → 65536 / 2 ^ code_bits_of q ≡ scale_of (levels_of q)
unfolding scale_test scale_of levels_of code_bits_of quantisation_of classes
scale_rule q h = by_test _ _ q (below scale_test 18 tt q h)
