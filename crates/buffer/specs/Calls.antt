-- What each call of the reader answers, for every stream, position and count.
-- From 01, "Numbers a call can give" (8, 10, 11, 12, in this order) and "From the bytes to a header".
use Rattle.std.specs.Prelude.{ℕ, ◌+◌, ◌-◌, ◌*◌, ◌/◌, ◌^◌, ◌≤◌, ◌<◌, max, List, ◌≡◌, cond, Bool, true, false, length, ltb, eqb, Result, Ok, Err}
use Rattle.buffer.specs.Bits.{longest_stream, farthest_bit, bits_value, past_of, stop_of}
use Rattle.buffer.specs.declared.BitIndex.{BitIndex}
use Rattle.buffer.specs.declared.BytePos.{BytePos}
use Rattle.buffer.specs.declared.Reader.{Reader}
use Rattle.buffer.specs.declared.Taken.{Taken}
use Rattle.buffer.specs.declared.Sync.{Sync}
use Rattle.buffer.specs.declared.Sync.TheVariants.{Found, Missing}
use Rattle.refusal.specs.declared.Refusal.{Refusal}
use Rattle.refusal.specs.declared.Refusal.TheVariants.{LongStream, BadState, WideRead, ShortRead}

-- the reader at bit n, and byte n
abbrev pub reader_at : ℕ → Reader
reader_at n = record { at = record { 0 = n } }

abbrev pub byte_at : ℕ → BytePos
byte_at n = record { 0 = n }

-- the byte that holds a bit; the first that starts at it or after it; a byte's first bit: only the factor 8 converts
abbrev pub byte_pos_of : BitIndex → BytePos
byte_pos_of i = record { 0 = i.0 / 8 }

abbrev pub byte_after_of : BitIndex → BytePos
byte_after_of i = record { 0 = (i.0 + 7) / 8 }

abbrev pub bit_of : BytePos → BitIndex
bit_of p = record { 0 = p.0 * 8 }

-- what was taken from the stream, and the reader after it
abbrev pub taken : {A : Type 0} → A → Reader → Taken A
taken a r = record { value = a; next = r }

-- every call begins with two refusals. 8: a stream that is too long; 10: a position that is too far
abbrev pub gate : {A : Type 0} → List ℕ → Reader → Result A Refusal → Result A Refusal
gate s r go = cond (ltb longest_stream (length s)) (Err LongStream) (cond (ltb farthest_bit r.at.0) (Err BadState) go)

-- how many bits remain: none past the end
abbrev pub left : List ℕ → Reader → ℕ
left s r = 8 * length s - r.at.0

unfoldable pub has_of : List ℕ → Reader → ℕ → Result Bool Refusal
has_of s r n = gate s r (cond (ltb (left s r) n) (Ok false) (Ok true))

unfoldable pub ended_of : List ℕ → Reader → Result Bool Refusal
ended_of s r = gate s r (cond (eqb (left s r) 0) (Ok true) (Ok false))

-- 11: more than 32 bits; 12: more than remain
unfoldable pub read_of : List ℕ → Reader → ℕ → Result (Taken ℕ) Refusal
read_of s r n =
    gate s r
    (cond (ltb 32 n) (Err WideRead)
    (cond (ltb (left s r) n) (Err ShortRead) (Ok (taken (bits_value s r.at.0 n) (reader_at (r.at.0 + n))))))

abbrev pub or_zero : Reader → Result (Taken ℕ) Refusal → Taken ℕ
or_zero r (Ok x) = x
or_zero r (Err e) = taken 0 r

-- a field: "a field cut off reads as 0", and the reader stays
unfoldable pub field_of : List ℕ → Reader → ℕ → Taken ℕ
field_of s r n = or_zero r (read_of s r n)

-- the next byte's start, also past the stream's end
abbrev pub aligned : Reader → Reader
aligned r = record { at = bit_of (byte_after_of r.at) }

unfoldable pub align_of : List ℕ → Reader → Result Reader Refusal
align_of s r = gate s r (Ok (aligned r))

-- "skip moves only if all its bits remain"
unfoldable pub skip_of : List ℕ → Reader → ℕ → Result Reader Refusal
skip_of s r n = gate s r (cond (ltb (left s r) n) (Ok r) (Ok (reader_at (r.at.0 + n))))

-- the byte position, rounded down
unfoldable pub tell_of : List ℕ → Reader → Result BytePos Refusal
tell_of s r = gate s r (Ok (byte_pos_of r.at))

-- aligns and passes the bytes that are v: how many, and the reader after them
unfoldable pub skip_bytes_of : List ℕ → Reader → ℕ → Result (Taken ℕ) Refusal
skip_bytes_of s r v =
    let from = (r.at.0 + 7) / 8 in
    gate s r (Ok (taken (past_of s v from - from) (reader_at (past_of s v from * 8))))

-- from "the byte holding the reading position": three bits into the pair's second byte, or one byte past where it stopped. 02, E2: "the
-- bytes from the first it looks at .. to the FF of the sync, or to the stream's end if there is none; 0 past that end"
unfoldable pub search_of : List ℕ → Reader → Result Sync Refusal
search_of s r =
    let from = r.at.0 / 8 in
    let stop = stop_of s from in
    gate s r
    (cond (ltb stop (length s - 1)) (Ok (Found (byte_at stop) (stop - from) (reader_at ((stop + 1) * 8 + 3))))
    (Ok (Missing (byte_at (length s)) (length s - from) (reader_at ((stop + 1) * 8)))))

-- what a field read gives its callers: the definition, and the bounds that follow from it
pub record Fielded (s : List ℕ) (r : Reader) (n : ℕ) (f : Taken ℕ) : Type 0 where
  pub is : f ≡ field_of s r n
  pub small : f.value < 2 ^ n
  pub forth : r.at.0 ≤ f.next.at.0
  pub near : f.next.at.0 ≤ r.at.0 + n
  pub inside : f.next.at.0 ≤ max r.at.0 (8 * length s)
