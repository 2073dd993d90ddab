-- How far an attempt made with 48 bits left moves: at least 16 bits past its aligned start, and at most 8 past the stream's end.
-- 01, the end of "From the bytes to a header". Assumes nothing.
use Rattle.std.specs.Prelude.{ℕ, ◌+◌, ◌-◌, ◌*◌, ◌/◌, ◌≤◌, ◌<◌, ◌≡◌, List, length, eqb, ltb, Result, Ok, Err}
use native.Mathlib.Omega.{arith}
use borrow.Author.Tests.{lt-ltb, le-ltb, eqb-true, ltb-true, ltb-false}
use Rattle.ground.specs.Tests.{by_test}
use Rattle.ground.specs.First.{first_within}
use Rattle.buffer.specs.Bits.{longest_stream, farthest_bit, other_at, pair_at, past_of, stop_of}
use Rattle.buffer.specs.Calls.{aligned, byte_after_of, reader_at, left, field_of, has_of, skip_bytes_of, search_of}
use Rattle.buffer.specs.Laws.{Enough, field_read, field_moves}
use Rattle.buffer.specs.declared.Reader.{Reader}
use Rattle.grammar.specs.Reads.{Taken, run, called}
use Rattle.grammar.specs.Run.{run_bind}
use Rattle.grammar.specs.Widths.{Narrow, exact, run_moves}
use Rattle.header.specs.declared.Format.{Format}
use Rattle.buffer.specs.declared.BytePos.{BytePos}
use Rattle.refusal.specs.declared.Refusal.TheVariants.{NoHeader, LongStream, BadState}
use Rattle.header.specs.declared.Unsynced.{Unsynced}
use Rattle.header.specs.Header.{ident_of, by_ident, fields_of, by_search, seek_of, sync_of, start_of, refusal, by_start, header_of}

-- a place from b on at which the 5 bits after the 11 ones are there; or a refusal at least 16 bits on, at most 8 past the end
abbrev Begun : List ℕ → ℕ → Result (Taken BytePos) Unsynced → Type 0
Begun s b (Ok x) = (b + 11 ≤ x.next.at.0) × (x.next.at.0 + 5 ≤ 8 * length s)
Begun s b (Err e) = (b + 16 ≤ e.next.at.0) × (e.next.at.0 ≤ 8 * length s + 8)

-- the search, from a place of the stream at or after byte `from`, whose bit lies 41 bits or more before the end
module _ (s : List ℕ) (short : length s ≤ longest_stream) (from : ℕ) (room : from * 8 + 41 ≤ 8 * length s) where
  seek_begun : (r : Reader) → from * 8 ≤ r.at.0 → r.at.0 ≤ 8 * length s → Begun s (from * 8) (seek_of s r)
  unfolding seek_of search_of
  seek_begun r low high =
      let near : r.at.0 ≤ farthest_bit = omega arith in
      let w = first_within (pair_at s) (length s - 1 - r.at.0 / 8) (r.at.0 / 8) in
      let stop = stop_of s (r.at.0 / 8) in
      simp (le-ltb _ _ short, le-ltb _ _ near)
      (by_test (λ y. Begun s (from * 8) (by_search r y)) (ltb stop (length s - 1)) _ _
      (λ t. let l = ltb-true stop (length s - 1) t in (omega arith, omega arith))
      (λ t. let l = ltb-false stop (length s - 1) t in (omega arith, omega arith)))

  sync_begun : (p : ℕ) → from ≤ p → p ≤ length s → Begun s (from * 8) (sync_of s (reader_at (p * 8)))
  unfolding sync_of
  sync_begun p low high =
      let f = field_of s (reader_at (p * 8)) 11 in
      by_test (Begun s (from * 8)) (eqb f.value 2047) _ _
      (λ e. let g = field_read s (reader_at (p * 8)) 11 (omega arith) (ones f.value (eqb-true _ _ e)) in (omega arith, omega arith))
      (λ _. let m = field_moves s (reader_at (p * 8)) 11 in seek_begun f.next (omega arith) (omega arith))
    where
      ones : (v : ℕ) → v ≡ 2047 → v ≡ 0 → ⊥
      ones v e z = omega arith

start_begun : (s : List ℕ) (r : Reader) → Enough s r 48 → Begun s (aligned r).at.0 (start_of s r)
unfolding start_of has_of skip_bytes_of
start_begun s r h =
    let from = (r.at.0 + 7) / 8 in
    let w = first_within (other_at s 0) (length s - from) from in
    simp (le-ltb _ _ h.short, le-ltb _ _ h.near, le-ltb _ _ h.enough)
    (sync_begun s h.short from (omega arith) (past_of s 0 from) (omega arith) (omega arith))

-- version, layer and protection are 5 bits
ident_moves : (s : List ℕ) (r : Reader) → Enough s r 5 → (run ident_of s r).next.at.0 ≡ r.at.0 + 5
unfolding ident_of Narrow called
ident_moves s r h = exact ident_of s r (omega arith, λ _. (omega arith, λ _. (omega arith, λ _. tt))) h

fields_move : (s : List ℕ) (known : Format) (r : Reader) → Enough s r 5
    → (r.at.0 + 5 ≤ (run (fields_of known) s r).next.at.0) × ((run (fields_of known) s r).next.at.0 ≤ 8 * length s)
unfolding fields_of
fields_move s known r h =
    rw (run_bind ident_of (by_ident known) s r)
    (let e = ident_moves s r h in
    let m = run_moves (by_ident known (run ident_of s r).value) s (run ident_of s r).next in
    (omega arith, omega arith))

begun_moves : (s : List ℕ) (known : Format) (b : ℕ) (x : Result (Taken BytePos) Unsynced) → length s ≤ longest_stream → Begun s b x
    → (b + 16 ≤ (by_start s known x).next.at.0) × ((by_start s known x).next.at.0 ≤ 8 * length s + 8)
begun_moves s known b (Ok x) short h =
    let m = fields_move s known x.next (record { short = short; near = omega arith; enough = omega arith }) in
    (omega arith, omega arith)
begun_moves s known b (Err e) short h = h

pub attempt_moves : (s : List ℕ) (r : Reader) (known : Format) → Enough s r 48
    → ((aligned r).at.0 + 16 ≤ (header_of s r known).next.at.0) × ((header_of s r known).next.at.0 ≤ 8 * length s + 8)
unfolding header_of
attempt_moves s r known h = begun_moves s known (aligned r).at.0 (start_of s r) h.short (start_begun s r h)

-- with fewer than 48 bits left it stays
pub few_bits_stay : (s : List ℕ) (r : Reader) (known : Format) → length s ≤ longest_stream → r.at.0 ≤ farthest_bit → left s r < 48
    → header_of s r known ≡ refusal NoHeader (byte_after_of r.at) r
unfolding header_of start_of has_of
few_bits_stay s r known short near few = simp (le-ltb _ _ short, le-ltb _ _ near, lt-ltb _ _ few)

-- a stream that is too long and a position that is too far are told before anything is sought
pub long_streams_stay : (s : List ℕ) (r : Reader) (known : Format) → longest_stream < length s → header_of s r known ≡ refusal LongStream (byte_after_of r.at) r
unfolding header_of start_of has_of
long_streams_stay s r known long = simp (lt-ltb _ _ long)

pub far_readers_stay : (s : List ℕ) (r : Reader) (known : Format) → length s ≤ longest_stream → farthest_bit < r.at.0
    → header_of s r known ≡ refusal BadState (byte_after_of r.at) r
unfolding header_of start_of has_of
far_readers_stay s r known short far = simp (le-ltb _ _ short, lt-ltb _ _ far)
