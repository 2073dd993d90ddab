-- The level of a float by its bit pattern, as `riff::word` takes it. Assumes nothing.
use mathlib.Core.Path.{◌≡◌, refl, sym, ap, ◌∙◌, subst}
use mathlib.Core.Bool.{Bool, true, false, cond}
use Prim.Native.Nat.{ℕ, zero, suc, ◌+◌, ◌-◌, ◌*◌, ◌/◌, ◌%◌, ◌^◌, ◌≤◌, ◌<◌, min}
use native.Mathlib.Nat.{lt_of_lt_of_le, min-le_right, mul_assoc, mul_right_comm, mod-lt, pow-suc}
use native.Mathlib.Omega.{arith}
use borrow.Author.Tests.{le-leb, lt-leb}
use lib.Dec.{T, eqb, leb, eqb→eq, lit<, lit≤}
use lib.IntN.{pos, neg_ℤ}
use lib.Pow.{pow_pos, pow_mono}
use lib.Ieee.{Float, nan, inf, fin, binary32, up, down, odd, is_nan, fits, of_fields, of_bits, to_bits}
use lib.Ieee.Bits.{of_bits-to_bits}
use lib.Ieee.Exact.{HasValue, odd_sign}
use lib.Ieee.Fits.{down_pos}
use Rattle.ground.specs.Floats.{Real}
use Rattle.riff.specs.Level.{half_up, held, level_of, bits16}
use Rattle.riff.proofs.Rounding.{steps_at, half_same, none, far_below, one_or_more}

pub nan_level : (x : Float) → true ≡ is_nan x → 0 ≡ bits16 (level_of x)
unfolding level_of is_nan
nan_level nan h = refl
nan_level (inf s) h = cc
nan_level (fin s m e) h = cc

-- no matter that the steps are held at 32768 already
held_min : (s : Bool) (n : ℕ) → held s n ≡ held s (min n 32768)
held_min true n = let e : min n 32768 ≡ min (min n 32768) 32768 = omega arith in ap (λ k. neg_ℤ (pos k)) e
held_min false n = let e : min n 32767 ≡ min (min n 32768) 32767 = omega arith in ap pos e

-- the level of a finite float, by any fraction of its size
finite : (v : Float) (s : Bool) (a c : ℕ) → 0 < c → HasValue v s a c → level_of v ≡ held s (half_up (a * 32768) c)
unfolding level_of
finite nan s a c C h = absurd h
finite (inf t) s a c C h = absurd h
finite (fin t m e) s a c C h =
    rw h.0
    (ap (held s)
    (half_same (m * up e * 32768) (down e) (a * 32768) c (down_pos e) C
    (mul_right_comm (m * up e) 32768 c ∙ ap (λ x. x * 32768) h.1 ∙ mul_right_comm a (down e) 32768)))

-- 2 ^ 15 times the size, in units of 2 ^ -149, is a fraction of 2 ^ 135
scaled : (digits x : ℕ) → half_up (digits * 2 ^ x * 32768) (2 ^ 149) ≡ half_up (digits * 2 ^ suc x) (2 ^ 135)
scaled digits x =
    half_same (digits * 2 ^ x * 32768) (2 ^ 149) (digits * 2 ^ suc x) (2 ^ 135) (pow_pos 149) (pow_pos 135)
    (mul_assoc (digits * 2 ^ x) 32768 (2 ^ 135)
    ∙ sym (mul_assoc (digits * 2 ^ x) 2 (2 ^ 149))
    ∙ ap (λ y. y * 2 ^ 149) (mul_assoc digits (2 ^ x) 2 ∙ ap (λ y. digits * y) (sym (pow-suc 2 x))))

-- what a field suc x and digits t are read as: b says whether the field is 255, that of an infinity and a NaN
abbrev special : Bool → Bool → Float
special b s = cond b (inf s) nan

abbrev numbered : Bool → Bool → ℕ → ℕ → Float
numbered b s x t = cond b (special (eqb t 0) s) (odd 24 s (2 ^ 23 + t) x 149)

by_special : (b s : Bool) (x digits : ℕ) → 127 ≤ x → 2 ^ 23 ≤ digits → Real (special b s) → level_of (special b s) ≡ held s (steps_at x digits)
unfolding level_of is_nan
by_special true s x digits l m h = ap (held s) (sym (one_or_more x digits l m))
by_special false s x digits l m h = absurd h

by_numbered : (b s : Bool) (x t : ℕ) → eqb (suc x) 255 ≡ b → Real (numbered b s x t)
    → level_of (numbered b s x t) ≡ held s (steps_at (suc x) (2 ^ 23 + t))
by_numbered true s x t e h =
    let top : suc x ≡ 255 = eqb→eq (suc x) 255 (subst T (sym e) tt) in
    by_special (eqb t 0) s (suc x) (2 ^ 23 + t) (omega arith) (omega arith) h
by_numbered false s x t e h =
    finite (odd 24 s (2 ^ 23 + t) x 149) s ((2 ^ 23 + t) * 2 ^ x) (2 ^ 149) (pow_pos 149) (odd_sign 24 s (2 ^ 23 + t) x 149)
    ∙ ap (held s) (scaled (2 ^ 23 + t) x)
    ∙ held_min s (half_up ((2 ^ 23 + t) * 2 ^ suc x) (2 ^ 135))

-- a field of 0 has no leading digit, and is less than half a step with it or without
by_fields : (s : Bool) (x t : ℕ) → t < 2 ^ 23 → Real (of_fields binary32 s x t)
    → level_of (of_fields binary32 s x t) ≡ held s (steps_at x (2 ^ 23 + t))
unfolding of_fields
by_fields s zero t l h =
    let tiny : t * 2 ^ 0 * 32768 < 2 ^ 148 = lt_of_lt_of_le (omega arith) (pow_mono {i = 38} {j = 148} (lit≤ tt)) in
    finite (odd 24 s t 0 149) s (t * 2 ^ 0) (2 ^ 149) (pow_pos 149) (odd_sign 24 s t 0 149)
    ∙ ap (held s) (none (t * 2 ^ 0 * 32768) (2 ^ 148) tiny ∙ sym (far_below 0 (2 ^ 23 + t) (lit< tt) (omega arith)))
by_fields s (suc x) t l h = by_numbered (eqb (suc x) 255) s x t refl h

-- the steps of a bit pattern
abbrev pub away : ℕ → ℕ
away bits = steps_at (bits % 2 ^ 31 / 2 ^ 23) (2 ^ 23 + bits % 2 ^ 23)

by_bits : (x : Float) → T (fits binary32 x) → Real x → level_of x ≡ held (leb (2 ^ 31) (to_bits binary32 x)) (away (to_bits binary32 x))
unfolding of_bits
by_bits x f r =
    let b = to_bits binary32 x in
    let e : of_fields binary32 (leb (2 ^ 31) b) (b % 2 ^ 31 / 2 ^ 23) (b % 2 ^ 23) ≡ x = of_bits-to_bits binary32 x f in
    ap level_of (sym e)
    ∙ by_fields (leb (2 ^ 31) b) (b % 2 ^ 31 / 2 ^ 23) (b % 2 ^ 23) (mod-lt b (pow_pos 23)) (subst Real (sym e) r)

-- n steps down, in two's complement
down_bits : (n : ℕ) → n ≤ 32768 → (65536 - n) % 65536 ≡ bits16 (held true n)
down_bits zero l = refl
down_bits (suc n) l = let e : min (suc n) 32768 ≡ suc n = omega arith in rw e (omega arith)

-- n is what `riff::steps` gives for a number x
module _ (x : Float) (f : fits binary32 x ≡ true) (r : Real x) (n : ℕ) (is : n ≡ away (to_bits binary32 x)) where
  level : level_of x ≡ held (leb (2 ^ 31) (to_bits binary32 x)) n
  level = by_bits x (subst T (sym f) tt) r ∙ ap (held (leb (2 ^ 31) (to_bits binary32 x))) (sym is)

  pub upward : to_bits binary32 x < 2 ^ 31 → min n 32767 ≡ bits16 (level_of x)
  upward l = rw (level, lt-leb (2 ^ 31) (to_bits binary32 x) l)

  pub downward : 2 ^ 31 ≤ to_bits binary32 x → (65536 - n) % 65536 ≡ bits16 (level_of x)
  downward l = rw (level, le-leb (2 ^ 31) (to_bits binary32 x) l) (down_bits n (rw is (min-le_right _ 32768)))
