-- `samples::scaled` meets its contract: no step leaves the `i32`, so each is the step on integers. `read_back` says that an
-- integer of small magnitude is read back from its bits.
use Prim.Native.Nat.{ℕ, ◌≤◌}
use mathlib.Core.Path.{◌≡◌}
use lib.IntN.{ℤ, pos, nat_abs, ◌+ℤ◌, ◌*ℤ◌}
use lib.Signed.{shr_z}
use mir.Syntax.{w32}
use mir.Val.{to_z, of_z}
use lib.Dec.{lit<, lit≤}
use Rattle.ground.specs.Magnitude.{bound_mul, bound_add, fits32, read_back, read_as_itself}
use Rattle.samples.specs.Sample.{scaled_by}
use Rattle.samples.proofs.Shift.{floor_is, bound_shift}
use Rattle.samples.proofs.scaled.Goals as goal

-- an integer as the code reads it back from its bits, and the two sums as the code computes them
abbrev back : ℤ → ℤ
back z = to_z w32 (of_z w32 z)

abbrev half_added : ℤ → ℕ → ℤ
half_added v low = back (back v *ℤ to_z w32 low) +ℤ pos 2048

abbrev computed : ℤ → ℕ → ℕ → ℤ
computed v high low = back (back v *ℤ to_z w32 high) +ℤ back (shr_z (back (half_added v low)) 4096)

module _ (v : ℤ) (high low : ℕ) (r : (nat_abs v ≤ 52424) × (high ≤ 8192) × (low ≤ 4095)) where
  abbrev raised : ℤ
  raised = (v *ℤ pos low) +ℤ pos 2048

  abbrev sum : ℤ
  sum = (v *ℤ pos high) +ℤ shr_z raised 4096

  b1 : nat_abs (v *ℤ pos high) ≤ 429457408
  b1 = bound_mul v (pos high) 52424 8192 r.0 r.1

  b2 : nat_abs (v *ℤ pos low) ≤ 214676280
  b2 = bound_mul v (pos low) 52424 4095 r.0 r.2

  b3 : nat_abs raised ≤ 214678328
  b3 = bound_add (v *ℤ pos low) (pos 2048) 214676280 2048 b2 (lit≤ tt)

  b4 : nat_abs (shr_z raised 4096) ≤ 52412
  b4 = bound_shift raised 214678328 b3

  b5 : nat_abs sum ≤ 429509820
  b5 = bound_add (v *ℤ pos high) (shr_z raised 4096) 429457408 52412 b1 b4

  is_raised : half_added v low ≡ raised
  is_raised = simp (read_back v r.0 tt, read_as_itself low r.2 tt, read_back (v *ℤ pos low) b2 tt)

  is_sum : computed v high low ≡ sum
  is_sum =
      rw is_raised
      (simp (read_back v r.0 tt, read_as_itself high r.1 tt, read_back (v *ℤ pos high) b1 tt, read_back raised b3 tt, read_back (shr_z raised 4096) b4 tt))

  is_scaled : back (shr_z (back (computed v high low)) 4096) ≡ scaled_by v high low
  unfolding scaled_by
  is_scaled = rw is_sum (simp (read_back sum b5 tt, read_back (shr_z sum 4096) (bound_shift sum 429509820 b5) tt, floor_is))

pub overflow_add-result : goal.overflow_add-result
overflow_add-result c =
    let a = c.args in
    rw (is_raised a.val a.high a.low c.requires) (fits32 (raised a.val a.high a.low c.requires) (b3 a.val a.high a.low c.requires) (lit< tt))

pub overflow_add-result-2 : goal.overflow_add-result-2
overflow_add-result-2 c =
    let a = c.args in
    rw (is_sum a.val a.high a.low c.requires) (fits32 (sum a.val a.high a.low c.requires) (b5 a.val a.high a.low c.requires) (lit< tt))

pub returns : goal.returns
returns c = is_scaled c.args.val c.args.high c.args.low c.requires
