-- What a sample's code is worth, in exact fractions: the requantisation of ISO/IEC 11172-3, 2.4.3.3.4, with C and D of Table B.4, and the
-- scale factors of Table B.1, which are roots and are said without them. For a code c of L steps the requantised value is (2 c - (L - 1)) / L
-- (`requantised_is` in proofs/Values). Nothing here is the port's. Assumes nothing.
use Rattle.std.specs.Prelude.{ℕ, zero, suc, ◌+◌, ◌-◌, ◌*◌, ◌^◌, ◌≤◌, ◌<◌, ◌≡◌, cond, List, [], ◌∷◌, T, eqb, ltb, pos, ◌+ℤ◌, ◌-ℤ◌, ◌*ℤ◌, get_or}
use Rattle.std.proofs.Common.{sym, ap, ◌∙◌, mul-pos, arith, lt-ltb, le-ltb, ltb-true, ltb-false, eqb→eq}
use Rattle.std.proofs.Math.IntN.{sub_ℕ, *ℤ_comm}
use Rattle.ground.specs.Tests.{by_test}
use Rattle.ground.specs.Upto.{upto, below}
use Rattle.tables.specs.Standard.{classes, quantisation_of, levels_of}
use Rattle.standard.specs.Fractions.{Fraction, ◌over◌, plus, times, Same, above, sub_is, sub_same, sub_add, sub_mul}

-- ---- Table B.4

-- the bits of a sample, C as a fraction, and the denominator of D, whose numerator is 1. A sample of a grouped code has the bits that its
-- steps need: 2, 3 and 4 for 3, 5 and 9
pub record Requantisation : Type 0 where
  pub bits : ℕ
  pub numerator_c : ℕ
  pub denominator_c : ℕ
  pub denominator_d : ℕ

abbrev row : ℕ → ℕ → ℕ → ℕ → Requantisation
row bits n m d = record { bits = bits; numerator_c = n; denominator_c = m; denominator_d = d }

-- as `classes` in tables: from the second entry on
unfoldable pub table_b4 : List Requantisation
table_b4 =
    row 0 0 0 0
    ∷ row 2 4 3 2
    ∷ row 3 8 5 2
    ∷ row 3 8 7 4
    ∷ row 4 16 9 2
    ∷ row 4 16 15 8
    ∷ row 5 32 31 16
    ∷ row 6 64 63 32
    ∷ row 7 128 127 64
    ∷ row 8 256 255 128
    ∷ row 9 512 511 256
    ∷ row 10 1024 1023 512
    ∷ row 11 2048 2047 1024
    ∷ row 12 4096 4095 2048
    ∷ row 13 8192 8191 4096
    ∷ row 14 16384 16383 8192
    ∷ row 15 32768 32767 16384
    ∷ row 16 65536 65535 32768
    ∷ []

unfoldable pub requantisation_of : ℕ → Requantisation
unfolding table_b4
requantisation_of q = get_or table_b4 q (row 0 0 0 0)

abbrev pub C : Requantisation → Fraction
C r = pos r.numerator_c over r.denominator_c

abbrev pub D : Requantisation → Fraction
D r = pos 1 over r.denominator_d

-- ---- the requantised value

-- "the first bit has to be inverted", of n bits
abbrev pub inverted : ℕ → ℕ → ℕ
inverted n c = let half = 2 ^ (n - 1) in cond (ltb c half) (c + half) (c - half)

-- n bits as "a two's complement fractional number, where the first bit represents the value of -1"
abbrev pub fractional : ℕ → ℕ → Fraction
fractional n v = let half = 2 ^ (n - 1) in cond (ltb v half) (pos v) (sub_ℕ v (2 ^ n)) over half

-- s'' = C (s''' + D)
abbrev pub requantised_by : Requantisation → ℕ → Fraction
requantised_by r c = times (C r) (plus (fractional r.bits (inverted r.bits c)) (D r))

abbrev pub requantised : ℕ → ℕ → Fraction
requantised q c = requantised_by (requantisation_of q) c

-- ---- Table B.1

-- scale factor i, from 0 to 62, is 2 ^ (1 - i / 3): the number whose cube is 2 ^ 3 / 2 ^ i. So n / d is not above it, and is above it, where
abbrev pub not_above_factor : ℕ → ℕ → ℕ → Type 0
not_above_factor i n d = n ^ 3 * 2 ^ i ≤ 2 ^ 3 * d ^ 3

abbrev pub above_factor : ℕ → ℕ → ℕ → Type 0
above_factor i n d = 2 ^ 3 * d ^ 3 < n ^ 3 * 2 ^ i

-- ---- what the requantised value comes to

-- the code less half of all
centred : (h all c : ℕ) → all ≡ 2 * h → c < all
    → let v = cond (ltb c h) (c + h) (c - h) in cond (ltb v h) (pos v) (sub_ℕ v all) ≡ sub_ℕ c h
centred h all c e small =
    by_test (λ v. cond (ltb v h) (pos v) (sub_ℕ v all) ≡ sub_ℕ c h) (ltb c h) (c + h) (c - h)
    (λ t. let l = ltb-true c h t in rw (le-ltb (c + h) h (omega arith)) (sub_same (c + h) all c h (omega arith)))
    (λ t. let l = ltb-false c h t in rw (lt-ltb (c - h) h (omega arith)) (sym (above c h (c - h) (omega arith))))

-- with h for half of all, C = 2 h / (l + 1) and D = 1 / d, where 2 h d = l d + 2 h
worth : (l h d c : ℕ) → 0 < h → 0 < d → 2 * h * d ≡ l * d + 2 * h
    → Same (times (pos (2 * h) over suc l) (plus (sub_ℕ c h over h) (pos 1 over d))) (sub_ℕ (2 * c) l over suc l)
worth l h d c some-h some-d e =
    record {
      left_some = mul-pos {m = suc l} (omega arith) (mul-pos some-h some-d);
      right_some = omega arith;
      crosswise =
          ap (λ z. pos (2 * h) *ℤ (z +ℤ pos (1 * h)) *ℤ pos (suc l)) (sub_mul c h d)
          ∙ ap (λ z. pos (2 * h) *ℤ z *ℤ pos (suc l)) (sub_add (c * d) (h * d) (1 * h))
          ∙ ap (λ z. z *ℤ pos (suc l)) (*ℤ_comm (pos (2 * h)) (sub_ℕ (c * d + 1 * h) (h * d)) ∙ sub_mul (c * d + 1 * h) (h * d) (2 * h))
          ∙ sub_mul ((c * d + 1 * h) * (2 * h)) (h * d * (2 * h)) (suc l)
          ∙ sub_same ((c * d + 1 * h) * (2 * h) * suc l) (h * d * (2 * h) * suc l) (2 * c * (suc l * (h * d))) (l * (suc l * (h * d))) balance
          ∙ sym (sub_mul (2 * c) l (suc l * (h * d)));
    }
  where
    balance : (c * d + 1 * h) * (2 * h) * suc l + l * (suc l * (h * d)) ≡ 2 * c * (suc l * (h * d)) + h * d * (2 * h) * suc l
    balance = let g : suc l * h * (2 * h * d) ≡ suc l * h * (l * d + 2 * h) = ap (λ x. suc l * h * x) e in omega arith

-- an equation that is computed for each class
each_class : (f g : ℕ → ℕ) → T (upto (λ k. eqb (f (suc k)) (g (suc k))) 17) → (q : ℕ) → 0 < q → q < 18 → f q ≡ g q
each_class f g t zero some h = absurd (omega arith)
each_class f g t (suc k) some h = eqb→eq _ _ (below (λ k. eqb (f (suc k)) (g (suc k))) 17 t k (omega arith))

abbrev pub bits_of : ℕ → ℕ
bits_of q = (requantisation_of q).bits

abbrev pub parts_of : ℕ → ℕ
parts_of q = (requantisation_of q).denominator_d

-- what Table B.4 has for L steps and samples of n bits: C = 2 ^ n / L, and D so that the values lie around 0
pub record Row (q : ℕ) : Type 0 where
  pub some_bits : bits_of q ≡ suc (bits_of q - 1)
  pub some_steps : levels_of q ≡ suc (levels_of q - 1)
  pub some_parts : parts_of q ≡ suc (parts_of q - 1)
  pub numerator : (requantisation_of q).numerator_c ≡ 2 ^ bits_of q
  pub denominator : (requantisation_of q).denominator_c ≡ levels_of q
  pub middle : 2 ^ bits_of q * parts_of q ≡ (levels_of q - 1) * parts_of q + 2 ^ bits_of q

pub rows_hold : (q : ℕ) → 0 < q → q < 18 → Row q
unfolding requantisation_of table_b4 levels_of quantisation_of classes
rows_hold q some h =
    record {
      some_bits = each_class bits_of (λ q. suc (bits_of q - 1)) tt q some h;
      some_steps = each_class levels_of (λ q. suc (levels_of q - 1)) tt q some h;
      some_parts = each_class parts_of (λ q. suc (parts_of q - 1)) tt q some h;
      numerator = each_class (λ q. (requantisation_of q).numerator_c) (λ q. 2 ^ bits_of q) tt q some h;
      denominator = each_class (λ q. (requantisation_of q).denominator_c) levels_of tt q some h;
      middle = each_class (λ q. 2 ^ bits_of q * parts_of q) (λ q. (levels_of q - 1) * parts_of q + 2 ^ bits_of q) tt q some h;
    }

-- by the row's numbers alone
pub by_row : (half all steps l d c : ℕ) → 0 < half → all ≡ 2 * half → steps ≡ suc l → 0 < d → all * d ≡ l * d + all → c < all
    → let v = cond (ltb c half) (c + half) (c - half) in
    Same (times (pos all over steps) (plus (cond (ltb v half) (pos v) (sub_ℕ v all) over half) (pos 1 over d))) (pos (2 * c) -ℤ pos l over steps)
by_row half all steps l d c some-half e g some-d middle small =
    rw (sub_is (2 * c) l, centred half all c e small, e, g) (worth l half d c some-half some-d (rw e at middle))
