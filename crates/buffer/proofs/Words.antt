-- How the machine puts a field together out of 8 bytes at once.
-- Assumes nothing.
use Prim.Native.Nat.{ℕ, ◌+◌, ◌-◌, ◌*◌, ◌/◌, ◌%◌, ◌^◌, ◌≤◌, ◌<◌}
use mathlib.Core.Path.{◌≡◌, refl, ap, sym, ◌∙◌}
use mathlib.Core.List.{List}
use native.Mathlib.Nat.{lt_of_lt_of_le, le_of_suc-le-suc}
use native.Mathlib.Omega.{arith}
use lib.Pow.{pow_mono, shr-shr, shl-shr, high, low, field}
use lib.ListN.{get_or}
use Rattle.std.specs.Prelude.{max, Bool, true, false, ltb, length}
use Rattle.std.proofs.Common.{ltb-true, ltb-false}
use Rattle.ground.specs.First.{first_from, first_none}
use Rattle.buffer.specs.Bits.{bits_value, other_at, past_of}
use Rattle.buffer.specs.Laws.{split, bits_below, byte_is_bits}
use Rattle.buffer.specs.Calls.{taken, or_zero}
use Rattle.buffer.specs.declared.Reader.{Reader}
use Rattle.buffer.specs.declared.Taken.{Taken}
use Rattle.refusal.specs.declared.Refusal.{Refusal}
use Rattle.std.specs.Prelude.{Result, Ok, Err}

-- 4 bytes
pub four_bytes : (s : List ℕ) (i : ℕ) → bits_value s (i * 8) 32
    ≡ get_or s (i + 3) 0 % 256 + get_or s (i + 2) 0 % 256 * 256 + get_or s (i + 1) 0 % 256 * 65536 + get_or s i 0 % 256 * 16777216
four_bytes s i =
    let a : i * 8 + 8 ≡ (i + 1) * 8 = omega arith in
    let b : i * 8 + 16 ≡ (i + 2) * 8 = omega arith in
    let c : i * 8 + 24 ≡ (i + 3) * 8 = omega arith in
    rw (split s (i * 8) 24 8, split s (i * 8) 16 8, split s (i * 8) 8 8, a, b, c, byte_is_bits s i, byte_is_bits s (i + 1), byte_is_bits s (i + 2), byte_is_bits s (i + 3))
    (omega arith)

-- 8 bytes
pub eight_bytes : (s : List ℕ) (i : ℕ) → bits_value s (i * 8) 64 ≡ bits_value s ((i + 4) * 8) 32 + bits_value s (i * 8) 32 * 4294967296
eight_bytes s i =
    let a : i * 8 + 32 ≡ (i + 4) * 8 = omega arith in
    rw (split s (i * 8) 32 32, a) (omega arith)

-- n bits out of r + n + m
amid : (s : List ℕ) (b r n m : ℕ) → bits_value s b (r + n + m) / 2 ^ m % 2 ^ n ≡ bits_value s (b + r) n
amid s b r n m =
    rw (split s b (r + n) m, high (bits_value s b (r + n)) m (bits_below s (b + (r + n)) m), split s b r n)
    (low (bits_value s b r) n (bits_below s (b + r) n))

-- the n bits from `at`, out of the 8 bytes that begin with its own, as the machine has it
module _ (s : List ℕ) (at n : ℕ) (narrow : n ≤ 32) where
  abbrev shifted : ℕ
  shifted = (bits_value s (at / 8 * 8) 64 * 2 ^ (at % 8)) % 2 ^ 64 / 2 ^ 1 / 2 ^ (63 - n)

  pub cut : shifted ≡ bits_value s at n
  cut =
      let r = at % 8 in
      let w = bits_value s (at / 8 * 8) 64 in
      let m = 64 - n - at % 8 in
      let e : 1 + (63 - n) ≡ 64 - n = omega arith in
      let f : n + (64 - n) ≡ 64 = omega arith in
      let g : r + m ≡ 64 - n = omega arith in
      let k : r + n + m ≡ 64 = omega arith in
      let p : at / 8 * 8 + r ≡ at = omega arith in
      shr-shr ((w * 2 ^ r) % 2 ^ 64) 1 (63 - n)
      ∙ rw (e) (rw f at (field (w * 2 ^ r) n (64 - n)))
      ∙ ap (λ x. x % 2 ^ n) (rw g at (sym (shr-shr (w * 2 ^ r) r m)) ∙ ap (λ x. x / 2 ^ m) (shl-shr w r))
      ∙ rw (k, p) at (amid s (at / 8 * 8) r n m)

  pub cut_fits : shifted < 2 ^ 32
  cut_fits = rw cut (lt_of_lt_of_le (bits_below s at n) (pow_mono narrow))

-- what is no value reads as 0
pub not_value : (r : Reader) (x : Result (Taken ℕ) Refusal) → ((v : Taken ℕ) → x ≡ Ok v → ⊥) → taken 0 r ≡ or_zero r x
not_value r (Ok v) h = absurd (h v refl)
not_value r (Err e) h = refl

-- the first bits of a field of at most 32, with the next one: what the machine keeps of it fits
pub double_fits : (s : List ℕ) (at n v : ℕ) → v ≡ bits_value s at n → n < 32 → v * 2 + 1 < 2 ^ 32
double_fits s at n v e l = let b : v < 2 ^ 31 = rw e (lt_of_lt_of_le (bits_below s at n) (pow_mono (le_of_suc-le-suc l))) in omega arith

-- a search that came to the stream's end, or began behind it, stands at the farther of the two
pub past_end : (s : List ℕ) (v from i : ℕ) → length s ≤ i → (from ≤ length s → i ≤ length s)
    → first_from (other_at s v) (length s - i) i ≡ past_of s v from → max from (length s) ≡ past_of s v from
past_end s v from i late near is = go (ltb from (length s)) refl
  where
    go : (t : Bool) → ltb from (length s) ≡ t → max from (length s) ≡ past_of s v from
    go true e =
        let l = ltb-true _ _ e in
        let at = first_none (other_at s v) (length s) i _ late is in
        omega (arith, near (omega arith))
    go false e =
        let l = ltb-false _ _ e in
        let at = first_none (other_at s v) (length s) from _ l refl in
        omega arith
