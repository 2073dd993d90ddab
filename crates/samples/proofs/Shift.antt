-- The right shift of an `i32` is the quotient rounded downward.
-- Assumes nothing.
use mathlib.Core.Path.{◌≡◌, refl}
use Prim.Native.Nat.{ℕ, ◌+◌, ◌/◌, ◌≤◌}
use native.Mathlib.Omega.{arith}
use lib.IntN.{ℤ, pos, negsuc, nat_abs}
use lib.Signed.{shr_z}
use Rattle.samples.specs.Sample.{floor_by}

pub floor_is : (z : ℤ) (m : ℕ) → shr_z z m ≡ floor_by z m
floor_is (pos a) m = refl
floor_is (negsuc a) m = refl

pub bound_shift : (z : ℤ) (n : ℕ) → nat_abs z ≤ n → nat_abs (shr_z z 4096) ≤ n / 4096 + 1
bound_shift (pos a) n h = omega arith
bound_shift (negsuc a) n h = omega arith
