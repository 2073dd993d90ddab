-- Rounding by `halfUp`: equal fractions round alike, and the three ways in which `riff::steps` rounds digits * 2 ^ field / 2 ^ 135.
-- Assumes nothing.
use mathlib.Core.Path.{◌≡◌, sym, ap, ◌∙◌}
use Prim.Native.Nat.{ℕ, suc, ◌+◌, ◌*◌, ◌/◌, ◌^◌, ◌≤◌, ◌<◌, min}
use native.Mathlib.Nat.{le_trans, le_of_eq, lt_of_lt_of_le, min-eq_left, min-eq_right, pow-succ'}
use native.Mathlib.Nat.{add-mul, mul-add, mul_assoc, mul_comm, mul_left_comm, mul-le-mul}
use native.Mathlib.Nat.{mul-div-mul_left, div-eq_of_lt, le-div_iff_mul-le, div-lt_iff_lt-mul}
use native.Mathlib.Omega.{arith}
use lib.Dec.{lit<}
use lib.Pow.{pow-add, pow_pos, pow_mono, shl_lt}
use lib.Ieee.Nearest.{div_same}
use Rattle.riff.specs.Level.{half_up}

spread : (a b d : ℕ) → (2 * a + b) * (2 * d) ≡ 2 * (2 * (a * d) + b * d)
spread a b d = mul_left_comm (2 * a + b) 2 d ∙ ap (λ x. 2 * x) (add-mul (2 * a) b d ∙ ap (λ x. x + b * d) (mul_assoc 2 a d))

pub half_same : (a b c d : ℕ) → 0 < b → 0 < d → a * d ≡ c * b → half_up a b ≡ half_up c d
half_same a b c d B D e =
    div_same (2 * a + b) (2 * b) (2 * c + d) (2 * d) (omega arith) (omega arith)
    (spread a b d ∙ ap (λ x. 2 * (2 * x + b * d)) e ∙ ap (λ x. 2 * (2 * (c * b) + x)) (mul_comm b d) ∙ sym (spread c d b))

-- less than a half is none
pub none : (a h : ℕ) → a < h → half_up a (2 * h) ≡ 0
none a h l = div-eq_of_lt (omega arith)

-- at least 32768
most : (a b : ℕ) → 0 < b → 32768 * b ≤ a → min (half_up a b) 32768 ≡ 32768
most a b B l = min-eq_right ((le-div_iff_mul-le {x = 32768} (omega arith)).1 (le_trans (le_of_eq (mul_left_comm 32768 2 b)) (omega arith)))

-- what `riff::steps` ensures
abbrev pub steps_at : ℕ → ℕ → ℕ
steps_at field digits = min (half_up (digits * 2 ^ field) (2 ^ 135)) 32768

pub far_below : (field digits : ℕ) → field < 111 → digits < 2 ^ 24 → steps_at field digits ≡ 0
far_below field digits l s =
    ap (λ x. min x 32768) (none (digits * 2 ^ field) (2 ^ 134) (lt_of_lt_of_le (shl_lt 24 field s) (pow_mono {j = 134} (omega arith))))

pub one_or_more : (field digits : ℕ) → 127 ≤ field → 2 ^ 23 ≤ digits → steps_at field digits ≡ 32768
one_or_more field digits l s = most (digits * 2 ^ field) (2 ^ 135) (pow_pos 135) (mul-le-mul s (pow_mono l))

-- a half added, then cut: k is 134 - field
pub between : (field k digits : ℕ) → field + k ≡ 134 → 8 ≤ k → digits < 2 ^ 24 → (digits + 2 ^ k) / (2 * 2 ^ k) ≡ steps_at field digits
between field k digits e l s =
    let h = 2 ^ k in
    let H : 0 < 2 * h = omega (arith, pow_pos k) in
    let sum : field + suc k ≡ 135 = omega arith in
    let whole : 2 ^ field * (2 * h) ≡ 2 ^ 135 =
    ap (λ x. 2 ^ field * x) (sym (pow-succ' 2 k)) ∙ sym (pow-add 2 field (suc k)) ∙ ap (λ x. 2 ^ x) sum in
    let same : digits * 2 ^ 135 ≡ digits * 2 ^ field * (2 * h) =
    ap (λ x. digits * x) (sym whole) ∙ sym (mul_assoc digits (2 ^ field) (2 * h)) in
    let cut : (digits + h) / (2 * h) ≡ half_up (digits * 2 ^ field) (2 ^ 135) =
    sym (mul-div-mul_left (digits + h) (2 * h) (lit< tt))
    ∙ ap (λ x. x / (2 * (2 * h))) (mul-add 2 digits h)
    ∙ half_same digits (2 * h) (digits * 2 ^ field) (2 ^ 135) H (pow_pos 135) same in
    let few : (digits + h) / (2 * h) < 32769 = (div-lt_iff_lt-mul H).1 (omega (arith, pow_mono {i = 8} {j = k} l)) in
    sym (min-eq_left (omega arith)) ∙ ap (λ x. min x 32768) cut
