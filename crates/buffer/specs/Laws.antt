-- What the floors above need of the bits and of a field, each stated once.
-- Assumes nothing.
use Rattle.std.specs.Prelude.{ℕ, zero, suc, ◌+◌, ◌-◌, ◌*◌, ◌/◌, ◌%◌, ◌^◌, ◌≤◌, ◌<◌, max, ◌≡◌, refl, List, get_or, length, ltb, Result, Ok, Err}
use Rattle.std.proofs.Common.{sym, add-zero, add-suc, add_assoc, mod-lt, div-one, mul-one, pow-suc, add-one, arith, pow_pos, shr-shr, lit<, le-ltb, ltb-false}
use Rattle.std.proofs.Math.Nat.{mod-one, pow-zero}
use Rattle.std.proofs.lemmas.Nat.{mod-pow-add}
use Rattle.ground.specs.Tests.{by_test}
use Rattle.buffer.specs.Bits.{longest_stream, farthest_bit, bit_at, bits_value}
use Rattle.buffer.specs.Calls.{Fielded, aligned, taken, or_zero, read_of, field_of, reader_at, left}
use Rattle.buffer.specs.declared.Reader.{Reader}
use Rattle.buffer.specs.declared.Taken.{Taken}
use Rattle.refusal.specs.declared.Refusal.{Refusal}
use Rattle.refusal.specs.declared.Refusal.TheVariants.{LongStream, BadState, WideRead, ShortRead}

-- n + k bits are n bits and then k
pub split : (s : List ℕ) (at n k : ℕ) → bits_value s at (n + k) ≡ bits_value s at n * 2 ^ k + bits_value s (at + n) k
unfolding bits_value
split s at n zero = simp (add-zero, pow-zero, mul-one)
split s at n (suc k) = rw (add-suc n k, split s at n k, ← add_assoc at n k, pow-suc) (omega arith)

-- n bits are below 2 ^ n
pub bits_below : (s : List ℕ) (at n : ℕ) → bits_value s at n < 2 ^ n
unfolding bits_value bit_at
bits_below s at zero = omega arith
bits_below s at (suc n) =
    omega (arith, bits_below s at n, mod-lt (get_or s ((at + n) / 8) 0 / 2 ^ (7 - (at + n) % 8)) {m = 2} (lit< tt))

-- some of a byte's bits, with the next one
grow : (b e k : ℕ) → b / 2 ^ (e + 1) % 2 ^ k * 2 + b / 2 ^ e % 2 ≡ b / 2 ^ e % 2 ^ suc k
grow b e k = rw (← add-one k, mod-pow-add (b / 2 ^ e) k 1, shr-shr b e 1)

-- the k bits from `at`, where they lie in one byte
pub in_byte : (s : List ℕ) (at k : ℕ) → at % 8 + k ≤ 8 → bits_value s at k ≡ get_or s (at / 8) 0 / 2 ^ (8 - at % 8 - k) % 2 ^ k
unfolding bits_value bit_at
in_byte s at zero h = sym (mod-one _)
in_byte s at (suc k) h =
    let same : (at + k) / 8 ≡ at / 8 = omega arith in
    let lower : 7 - (at + k) % 8 ≡ 8 - at % 8 - suc k = omega arith in
    let upper : 8 - at % 8 - k ≡ 8 - at % 8 - suc k + 1 = omega arith in
    rw (in_byte s at k (omega arith), same, lower, upper) (grow (get_or s (at / 8) 0) (8 - at % 8 - suc k) k)

-- a byte's 8 bits
pub byte_is_bits : (s : List ℕ) (i : ℕ) → get_or s i 0 % 256 ≡ bits_value s (i * 8) 8
byte_is_bits s i =
    let place : i * 8 / 8 ≡ i = omega arith in
    let whole : i * 8 % 8 ≡ 0 = omega arith in
    sym (rw (place, whole, div-one) at (in_byte s (i * 8) 8 (omega arith)))

-- the reader's refusals 8 and 10 do not arise, and n bits remain
pub record Enough (s : List ℕ) (r : Reader) (n : ℕ) : Type 0 where
  pub short : length s ≤ longest_stream
  pub near : r.at.0 ≤ farthest_bit
  pub enough : n ≤ left s r

-- a field whose bits remain is their value, and moves by its width
pub field_whole : (s : List ℕ) (r : Reader) (n : ℕ) → Enough s r n → n ≤ 32 →
    field_of s r n ≡ record { value = bits_value s r.at.0 n; next = reader_at (r.at.0 + n) }
unfolding field_of read_of
field_whole s r n h l = simp (le-ltb _ _ h.short, le-ltb _ _ h.near, le-ltb _ _ h.enough, le-ltb _ _ l)

-- what holds of each refusal and of each value holds of a read
read_cases : (P : Result (Taken ℕ) Refusal → Type 0) (s : List ℕ) (r : Reader) (n : ℕ) → ((e : Refusal) → P (Err e)) →
    (r.at.0 ≤ farthest_bit → n ≤ left s r → P (Ok (taken (bits_value s r.at.0 n) (reader_at (r.at.0 + n))))) → P (read_of s r n)
unfolding read_of
read_cases P s r n refused whole =
    by_test P (ltb longest_stream (length s)) _ _ (λ _. refused LongStream)
    (λ _. by_test P (ltb farthest_bit r.at.0) _ _ (λ _. refused BadState)
    (λ h. by_test P (ltb 32 n) _ _ (λ _. refused WideRead)
    (λ _. by_test P (ltb (left s r) n) _ _ (λ _. refused ShortRead) (λ k. whole (ltb-false _ _ h) (ltb-false _ _ k)))))

-- a field of n bits is below 2 ^ n
pub field_small : (s : List ℕ) (r : Reader) (n : ℕ) → (field_of s r n).value < 2 ^ n
unfolding field_of
field_small s r n =
    read_cases (λ x. (or_zero r x).value < 2 ^ n) s r n (λ _. pow_pos n) (λ _ _. bits_below s r.at.0 n)

-- a reader that went from r to q: not back, not past n bits, nor past the farther of its start and the stream's end
abbrev pub Moves : List ℕ → Reader → ℕ → Reader → Type 0
Moves s r n q =
    (r.at.0 ≤ q.at.0) × (q.at.0 ≤ r.at.0 + n) × (q.at.0 ≤ max r.at.0 (8 * length s))

pub field_moves : (s : List ℕ) (r : Reader) (n : ℕ) → Moves s r n (field_of s r n).next
unfolding field_of
field_moves s r n =
    read_cases (λ x. Moves s r n (or_zero r x).next) s r n (λ _. omega arith) (λ h k. omega arith)

-- a field that is not 0 was all there
pub field_read : (s : List ℕ) (r : Reader) (n : ℕ) → 0 < n → ((field_of s r n).value ≡ 0 → ⊥)
    → ((field_of s r n).next.at.0 ≡ r.at.0 + n) × (r.at.0 + n ≤ 8 * length s)
unfolding field_of
field_read s r n pos =
    read_cases (λ x. ((or_zero r x).value ≡ 0 → ⊥) → ((or_zero r x).next.at.0 ≡ r.at.0 + n) × (r.at.0 + n ≤ 8 * length s)) s r n
    (λ _ f. absurd (f refl)) (λ h k _. (refl, omega arith))

pub fielded : (f : Taken ℕ) (s : List ℕ) (r : Reader) (n : ℕ) → f ≡ field_of s r n → Fielded s r n f
fielded f s r n e =
    rw e
    (record {
      is = refl;
      small = field_small s r n;
      forth = (field_moves s r n).0;
      near = (field_moves s r n).1;
      inside = (field_moves s r n).2;
    })

-- alignment moves to a byte's start, forward, and by less than 8 bits
pub align_moves : (r : Reader) →
    ((aligned r).at.0 % 8 ≡ 0) × (r.at.0 ≤ (aligned r).at.0) × ((aligned r).at.0 < r.at.0 + 8)
align_moves r = (omega arith, omega arith, omega arith)
