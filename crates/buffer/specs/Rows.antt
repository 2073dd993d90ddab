-- Reads and searches, computed: 01's first example, A5 3C, read 4, 8, 5, 4; and where a search stops. Assumes nothing.
use Rattle.std.specs.Prelude.{ℕ, ◌<◌, ◌≡◌, refl, true, false, List, [], ◌∷◌, ◌++◌, map, length, Result, Ok, Err}
use Rattle.std.proofs.Common.{lt-ltb}
use Rattle.ground.specs.First.{first_from}
use Rattle.buffer.specs.Bits.{longest_stream, bit_at, bits_value, sync_pair}
use Rattle.buffer.specs.Calls.{taken, read_of, reader_at, byte_at, field_of, skip_of, search_of}
use Rattle.buffer.specs.declared.Reader.{Reader}
use Rattle.buffer.specs.declared.Taken.{Taken}
use Rattle.buffer.specs.declared.Sync.TheVariants.{Found, Missing}
use Rattle.refusal.specs.declared.Refusal.{Refusal}
use Rattle.refusal.specs.declared.Refusal.TheVariants.{LongStream, WideRead, ShortRead}

-- the answers to reads of the given widths, one after the other; a read that fails leaves the reader where it was
pub reads : List ℕ → Reader → List ℕ → List (Result (Taken ℕ) Refusal)
reads s r [] = []
reads s r (n ∷ ns) = read_of s r n ∷ reads s (field_of s r n).next ns

pub row_1 : reads (0xA5 ∷ 0x3C ∷ []) (reader_at 0) (4 ∷ 8 ∷ 5 ∷ 4 ∷ [])
    ≡ Ok (taken 10 (reader_at 4)) ∷ Ok (taken 83 (reader_at 12)) ∷ Err ShortRead ∷ Ok (taken 12 (reader_at 16)) ∷ []
unfolding reads read_of field_of bits_value bit_at
row_1 = refl

-- 33 bits of 8: 11 is told before the shortage, which 32 bits of 8 have
pub eleven_first : map (read_of (0xA5 ∷ []) (reader_at 0)) (33 ∷ 32 ∷ []) ≡ Err WideRead ∷ Err ShortRead ∷ []
unfolding read_of
eleven_first = refl

-- a stream that is too long is told before a position that is too far
pub eight_first : (s : List ℕ) → longest_stream < length s → read_of s (reader_at 134217737) 1 ≡ Err LongStream
unfolding read_of
eight_first s long = simp (lt-ltb _ _ long)

-- "`skip` moves only if all its bits remain": four of eight, and five of the four that are left
pub skips : map (skip_of (0xA5 ∷ []) (reader_at 4)) (4 ∷ 5 ∷ []) ≡ Ok (reader_at 8) ∷ Ok (reader_at 4) ∷ []
unfolding skip_of
skips = refl

-- "looks for FF then FC or FD": the bytes on either side are none
pub pairs : map (sync_pair 0xFF) (0xFB ∷ 0xFC ∷ 0xFD ∷ 0xFE ∷ []) ++ map (λ first. sync_pair first 0xFD) (0xFE ∷ 0x00 ∷ [])
    ≡ false ∷ true ∷ true ∷ false ∷ false ∷ false ∷ []
pairs = refl

-- 00 FF FE FF FD: "three bits into the second byte"; from the pair's second byte on, an almost-pair, an empty stream, and past the end:
-- "one byte past the larger of i and the last byte". Passed over: 3 bytes to the FF at 3, also from within the first (bit 1), none from
-- within the FF (bit 31), 1 from within the last byte (bit 33), none past the end, 2, none
pub searches : map (λ i. search_of (0x00 ∷ 0xFF ∷ 0xFE ∷ 0xFF ∷ 0xFD ∷ []) (reader_at i)) (0 ∷ 1 ∷ 31 ∷ 33 ∷ 56 ∷ [])
    ++ map (λ s. search_of s (reader_at 0)) ((0xFF ∷ 0xFB ∷ []) ∷ [] ∷ [])
    ≡ Ok (Found (byte_at 3) 3 (reader_at 35)) ∷ Ok (Found (byte_at 3) 3 (reader_at 35)) ∷ Ok (Found (byte_at 3) 0 (reader_at 35)) ∷ Ok (Missing (byte_at 5) 1 (reader_at 40))
    ∷ Ok (Missing (byte_at 5) 0 (reader_at 64))
    ∷ Ok (Missing (byte_at 2) 2 (reader_at 16)) ∷ Ok (Missing (byte_at 0) 0 (reader_at 8)) ∷ []
unfolding search_of first_from
searches = refl
