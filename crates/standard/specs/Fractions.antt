-- Fractions, for values that the standard has in exact numbers: a whole number over a number, sum, product, and when two are the same.
-- With them the few laws of a - b for two numbers that their proofs need. Assumes nothing.
use Rattle.std.specs.Prelude.{ℕ, zero, suc, ◌+◌, ◌-◌, ◌*◌, ◌<◌, ◌≡◌, refl, ltb, ℤ, pos, negsuc, neg_ℤ, nat_abs, ◌+ℤ◌, ◌-ℤ◌, ◌*ℤ◌}
use Rattle.std.proofs.Common.{sym, ap, ◌∙◌, arith, add-mul, lt-ltb, le-ltb, ltb-true, ltb-false}
use Rattle.std.proofs.Math.IntN.{sub_ℕ}
use Rattle.ground.specs.Tests.{by_test}

pub record Fraction : Type 0 where
  pub numerator : ℤ
  pub denominator : ℕ

infix 5 ◌over◌
abbrev pub ◌over◌ : ℤ → ℕ → Fraction
n over d = record { numerator = n; denominator = d }

abbrev pub plus : Fraction → Fraction → Fraction
plus x y = x.numerator *ℤ pos y.denominator +ℤ y.numerator *ℤ pos x.denominator over x.denominator * y.denominator

abbrev pub times : Fraction → Fraction → Fraction
times x y = x.numerator *ℤ y.numerator over x.denominator * y.denominator

-- crosswise the same, and neither over 0
pub record Same (x y : Fraction) : Type 0 where
  pub left_some : 0 < x.denominator
  pub right_some : 0 < y.denominator
  pub crosswise : x.numerator *ℤ pos y.denominator ≡ y.numerator *ℤ pos x.denominator

-- ---- a - b for two numbers

pub above : (a b d : ℕ) → a ≡ b + d → sub_ℕ a b ≡ pos d
above a b d e = rw (le-ltb a b (omega arith)) (ap pos (omega arith))

pub under : (a b d : ℕ) → a + d ≡ b → sub_ℕ a b ≡ neg_ℤ (pos d)
under a b zero e = above a b 0 (omega arith)
under a b (suc d) e = rw (lt-ltb a b (omega arith)) (ap negsuc (omega arith))

pub sub_is : (a b : ℕ) → pos a -ℤ pos b ≡ sub_ℕ a b
sub_is a zero = sym (above a 0 (a + 0) (omega arith))
sub_is a (suc b) = refl

pub sub_same : (a b c d : ℕ) → a + d ≡ c + b → sub_ℕ a b ≡ sub_ℕ c d
sub_same a b c d e =
    by_test (λ z. z ≡ sub_ℕ c d) (ltb a b) (negsuc (b - suc a)) (pos (a - b))
    (λ h. let l = ltb-true a b h in rw (lt-ltb c d (omega arith)) (ap negsuc (omega arith)))
    (λ h. let l = ltb-false a b h in sym (above c d (a - b) (omega arith)))

pub sub_neg : (a b : ℕ) → neg_ℤ (sub_ℕ a b) ≡ sub_ℕ b a
sub_neg a b =
    by_test (λ z. neg_ℤ z ≡ sub_ℕ b a) (ltb a b) (negsuc (b - suc a)) (pos (a - b))
    (λ h. let l = ltb-true a b h in sym (above b a (suc (b - suc a)) (omega arith)))
    (λ h. let l = ltb-false a b h in sym (under b a (a - b) (omega arith)))

pub sub_add : (a b k : ℕ) → sub_ℕ a b +ℤ pos k ≡ sub_ℕ (a + k) b
sub_add a b k =
    by_test (λ z. z +ℤ pos k ≡ sub_ℕ (a + k) b) (ltb a b) (negsuc (b - suc a)) (pos (a - b))
    (λ h. let l = ltb-true a b h in sub_same k (suc (b - suc a)) (a + k) b (omega arith))
    (λ h. let l = ltb-false a b h in sym (above (a + k) b (a - b + k) (omega arith)))

pub sub_mul : (a b k : ℕ) → sub_ℕ a b *ℤ pos k ≡ sub_ℕ (a * k) (b * k)
sub_mul a b k =
    by_test (λ z. z *ℤ pos k ≡ sub_ℕ (a * k) (b * k)) (ltb a b) (negsuc (b - suc a)) (pos (a - b))
    (λ h. let l = ltb-true a b h in
    let e : a + suc (b - suc a) ≡ b = omega arith in
    sym (under (a * k) (b * k) (suc (b - suc a) * k) (sym (add-mul a (suc (b - suc a)) k) ∙ ap (λ x. x * k) e)))
    (λ h. let l = ltb-false a b h in
    let e : a ≡ b + (a - b) = omega arith in
    sym (above (a * k) (b * k) ((a - b) * k) (ap (λ x. x * k) e ∙ add-mul b (a - b) k)))

pub sub_injective : (a b c d : ℕ) → sub_ℕ a b ≡ sub_ℕ c d → a + d ≡ c + b
sub_injective a b c d e =
    let left : sub_ℕ a b +ℤ pos (b + d) ≡ pos (a + d) = sub_add a b (b + d) ∙ above (a + (b + d)) b (a + d) (omega arith) in
    let right : sub_ℕ c d +ℤ pos (b + d) ≡ pos (c + b) = sub_add c d (b + d) ∙ above (c + (b + d)) d (c + b) (omega arith) in
    ap nat_abs (sym left ∙ ap (λ z. z +ℤ pos (b + d)) e ∙ right)
