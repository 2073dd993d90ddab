-- "No sync found" in 01's words: the search stops at the last byte exactly when no pair starts at any byte that it looked at. Where it
-- stops before, a pair starts. And what a pair is in bits.
-- Assumes nothing.
use Rattle.std.specs.Prelude.{ℕ, zero, suc, ◌+◌, ◌-◌, ◌*◌, ◌/◌, ◌%◌, ◌^◌, ◌≤◌, ◌<◌, ◌≡◌, refl, Bool, true, false, List, ◌↔◌, eqb, length, get_or}
use Rattle.std.proofs.Common.{sym, ap, ◌∙◌, arith, eqb-true}
use Rattle.ground.specs.First.{first_from, first_within, first_holds, first_passes}
use Rattle.ground.specs.Rows.{never}
use Rattle.ground.specs.Tests.{by_test}
use Rattle.buffer.specs.Bits.{bits_value, pair_at, stop_of}
use Rattle.buffer.specs.Laws.{split, in_byte, byte_is_bits, bits_below}

-- the test fails at each of the k places from i
abbrev Fails : (ℕ → Bool) → ℕ → ℕ → Type 0
Fails p k i = (j : ℕ) → i ≤ j → j < i + k → p j ≡ false

passes : (p : ℕ → Bool) (k i : ℕ) → Fails p k i → i + k ≤ first_from p k i
unfolding first_from
passes p zero i f = omega arith
passes p (suc k) i f =
    simp (f i (omega arith) (omega arith)) (omega (arith, passes p k (i + 1) (λ j l m. f j (omega arith) (omega arith))))

pub no_pair_found : (s : List ℕ) (i : ℕ) → (length s - 1 ≤ stop_of s i) ↔ ((j : ℕ) → i ≤ j → j + 1 < length s → pair_at s j ≡ false)
no_pair_found s i = (
  λ h j l m. first_passes (pair_at s) (length s - 1 - i) i j l (omega arith),
  λ f. omega (arith, passes (pair_at s) (length s - 1 - i) i (λ j l m. f j l (omega arith))),
)

-- else a pair starts where it stopped
pub pair_found : (s : List ℕ) (i : ℕ) → stop_of s i < length s - 1 → pair_at s (stop_of s i) ≡ true
pair_found s i h =
    first_holds (pair_at s) (length s - 1 - i) i (omega (arith, first_within (pair_at s) (length s - 1 - i) i))

-- ---- a pair's first eleven bits

pair_bytes : (s : List ℕ) (i : ℕ) → pair_at s i ≡ true → (get_or s i 0 ≡ 255) × (get_or s (i + 1) 0 / 2 ≡ 126)
pair_bytes s i =
    by_test (λ t. t ≡ true → (get_or s i 0 ≡ 255) × (get_or s (i + 1) 0 / 2 ≡ 126)) (eqb (get_or s i 0) 255) _ _
    (λ first second. (eqb-true _ _ first, eqb-true _ _ second)) (λ _ e. absurd (never e refl))

pub pair_is_ff : (s : List ℕ) (i : ℕ) → pair_at s i ≡ true → get_or s i 0 ≡ 255
pair_is_ff s i e = (pair_bytes s i e).0

eleven : (s : List ℕ) (i : ℕ) → bits_value s (i * 8) 11 ≡ get_or s i 0 % 256 * 8 + bits_value s (i * 8 + 8) 3
eleven s i = split s (i * 8) 8 3 ∙ ap (λ b. b * 2 ^ 3 + bits_value s (i * 8 + 8) 3) (sym (byte_is_bits s i))

-- FF then FC or FD begin with eleven ones; and eleven ones begin with FF
pub pair_ones : (s : List ℕ) (i : ℕ) → pair_at s i ≡ true → bits_value s (i * 8) 11 ≡ 2047
pair_ones s i e =
    let next : (i * 8 + 8) / 8 ≡ i + 1 = omega arith in
    let whole : (i * 8 + 8) % 8 ≡ 0 = omega arith in
    let three : bits_value s (i * 8 + 8) 3 ≡ get_or s (i + 1) 0 / 2 ^ 5 % 2 ^ 3 = rw (next, whole) at (in_byte s (i * 8 + 8) 3 (omega arith)) in
    omega (arith, eleven s i, three, pair_bytes s i e)

pub ones_are_ff : (s : List ℕ) (i : ℕ) → bits_value s (i * 8) 11 ≡ 2047 → get_or s i 0 % 256 ≡ 255
ones_are_ff s i e = omega (arith, e, eleven s i, bits_below s (i * 8 + 8) 3)
