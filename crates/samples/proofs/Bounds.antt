-- How large a sample can be: the bounds of specs/Bounds, carried through the shifts.
-- Assumes nothing.
use Rattle.std.specs.Prelude.{ℕ, suc, ◌+◌, ◌-◌, ◌*◌, ◌/◌, ◌%◌, ◌≤◌, ◌<◌, ◌≡◌, ltb, ℤ, pos, negsuc, nat_abs, ◌+ℤ◌, ◌*ℤ◌}
use Rattle.std.proofs.Common.{sym, ap, ◌∙◌, mul-le-mul, div-add-mod', mul-add, mul_assoc, arith, ltb-true}
use Rattle.ground.specs.Tests.{by_test}
use Rattle.ground.specs.Magnitude.{abs_mul, abs_add}
use Rattle.tables.specs.Standard.{levels_of}
use Rattle.samples.specs.Sample.{floor_by, scaled_by, sample_of}
use Rattle.samples.specs.Bounds.{most_of, quantiser_range, centred_small}

-- a quotient rounded downward, plain and with half of the divisor added first
floor_near : (z : ℤ) → nat_abs (floor_by z 4096) ≤ (nat_abs z + 4095) / 4096
floor_near (pos a) = omega arith
floor_near (negsuc a) = omega arith

half_near : (z : ℤ) → nat_abs (floor_by (z +ℤ pos 2048) 4096) ≤ (nat_abs z + 2048) / 4096
half_near (pos a) = omega arith
half_near (negsuc a) =
    by_test (λ z. nat_abs (floor_by z 4096) ≤ (suc a + 2048) / 4096) (ltb 2048 (suc a)) (negsuc (suc a - suc 2048)) (pos (2048 - suc a))
    (λ e. omega (arith, ltb-true 2048 (suc a) e)) (λ _. omega arith)

-- the shifts lose less than a half and less than one: what is left is below twice 52,424
pub scaled_small : (val : ℤ) (factor : ℕ) → nat_abs val ≤ 52424 → factor ≤ 33554432 →
    nat_abs (scaled_by val (factor / 4096) (factor % 4096)) ≤ 104848
unfolding scaled_by
scaled_small val factor h g =
    let high = factor / 4096 in
    let low = factor % 4096 in
    let inner = floor_by ((val *ℤ pos low) +ℤ pos 2048) 4096 in
    let whole : nat_abs val * factor ≤ 52424 * 33554432 = mul-le-mul h g in
    let parts : nat_abs val * factor ≡ nat_abs val * high * 4096 + nat_abs val * low =
    ap (λ x. nat_abs val * x) (sym (div-add-mod' factor 4096))
    ∙ (mul-add (nat_abs val) (high * 4096) low ∙ ap (λ x. x + nat_abs val * low) (sym (mul_assoc (nat_abs val) high 4096))) in
    let low_part : nat_abs inner ≤ (nat_abs val * low + 2048) / 4096 = rw abs_mul at (half_near (val *ℤ pos low)) in
    let high_part : nat_abs (val *ℤ pos high) ≡ nat_abs val * high = abs_mul val (pos high) in
    omega (arith, floor_near ((val *ℤ pos high) +ℤ inner), abs_add (val *ℤ pos high) inner)

pub sample_small : (q code factor : ℕ) → 0 < q → q < 18 → code ≤ most_of q → factor ≤ 33554432 → nat_abs (sample_of (levels_of q) code factor) ≤ 104848
unfolding sample_of
sample_small q code factor p h c f = scaled_small _ factor (centred_small q code (quantiser_range q p h) c) f
