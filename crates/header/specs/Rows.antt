-- A header's numbers, computed: 01's rows 2 to 5, the data sizes of headers at the start of a stream; every bound; every data
-- size; what is passed over; and the strict reading's 13.
-- Assumes nothing.
use Rattle.std.specs.Prelude.{ℕ, ◌≡◌, refl, false, List, ◌∷◌, [], ◌++◌, map, replicate, Result, Ok, Err}
use Rattle.ground.specs.First.{first_from}
use Rattle.buffer.specs.Bits.{bit_at, bits_value}
use Rattle.buffer.specs.Calls.{reader_at, read_of, field_of, has_of, skip_bytes_of, search_of}
use Rattle.grammar.specs.Reads.{◌>>=◌, run}
use Rattle.readings.specs.Readings.{plain, reading_by}
use Rattle.header.specs.declared.Format.{Format}
use Rattle.refusal.specs.declared.Refusal.{Refusal}
use Rattle.header.specs.declared.Accepted.{Accepted}
use Rattle.header.specs.Header.{bound_by, passed_by, header_number, header_of, start_of, sync_of, seek_of, fields_of, ident_of, rates_of, rest_of, mode_of, bound_of, check_of, size_of}

-- no header yet
abbrev pub unknown : Format
unknown = record { reading = plain; samplerate = 3; bitrate = 0; mode = 0; bound = 0 }

-- the data size that four bytes with zeros behind them announce; 0 where they are refused
abbrev size_in : Result Accepted Refusal → ℕ
size_in (Ok x) = x.size
size_in (Err e) = 0

unfoldable pub announced : ℕ → ℕ → ℕ → ℕ → ℕ
announced a b c d = size_in (header_of (a ∷ b ∷ c ∷ d ∷ replicate 40 0) (reader_at 0) unknown).header

-- FF FD A0 00; with padding; with a check word; 32 kbps at 48 kHz with a check word; 384 kbps at 32 kHz with padding
pub rows_2_to_5 : announced 0xFF 0xFD 0xA0 0x00 ∷ announced 0xFF 0xFD 0xA2 0x00 ∷ announced 0xFF 0xFC 0xA0 0x00
    ∷ announced 0xFF 0xFC 0x14 0x00 ∷ announced 0xFF 0xFD 0xEA 0x00 ∷ []
    ≡ 622 ∷ 623 ∷ 620 ∷ 90 ∷ 1725 ∷ []
unfolding announced header_of start_of sync_of has_of skip_bytes_of field_of read_of bits_value bit_at first_from run ◌>>=◌
    fields_of ident_of rates_of rest_of mode_of bound_of check_of size_of
rows_2_to_5 = refl

-- "joint stereo (1) gives 4 times (extension + 1), mono (3) gives 0, others 32"
pub bounds : map (bound_by 1) (0 ∷ 1 ∷ 2 ∷ 3 ∷ []) ++ (bound_by 0 0 ∷ bound_by 2 3 ∷ bound_by 3 3 ∷ []) ≡ 4 ∷ 8 ∷ 12 ∷ 16 ∷ 32 ∷ 32 ∷ 0 ∷ []
bounds = refl

-- every bit rate at 44,100, 48,000 and 32,000 Hz, no padding, no check word: the frame's bytes by the standard's table of bit rates, less 4
pub sizes : map (λ samplerate. map (λ bitrate. size_of bitrate samplerate 0 false) (0 ∷ 1 ∷ 2 ∷ 3 ∷ 4 ∷ 5 ∷ 6 ∷ 7 ∷ 8 ∷ 9 ∷ 10 ∷ 11 ∷ 12 ∷ 13 ∷ []))
    (0 ∷ 1 ∷ 2 ∷ [])
    ≡ (100 ∷ 152 ∷ 178 ∷ 204 ∷ 257 ∷ 309 ∷ 361 ∷ 413 ∷ 518 ∷ 622 ∷ 727 ∷ 831 ∷ 1040 ∷ 1249 ∷ [])
    ∷ (92 ∷ 140 ∷ 164 ∷ 188 ∷ 236 ∷ 284 ∷ 332 ∷ 380 ∷ 476 ∷ 572 ∷ 668 ∷ 764 ∷ 956 ∷ 1148 ∷ [])
    ∷ (140 ∷ 212 ∷ 248 ∷ 284 ∷ 356 ∷ 428 ∷ 500 ∷ 572 ∷ 716 ∷ 860 ∷ 1004 ∷ 1148 ∷ 1436 ∷ 1724 ∷ [])
    ∷ []
unfolding size_of
sizes = refl

-- 02, E2: the bytes that an attempt passes over. From byte 0: none before FF FF FD, whose sync is the first FF; two zero bytes; two others;
-- two zero bytes and another one, though the search looks at none but the FF; all six where there is no sync. From bit 1 one, since the
-- start is byte 1; from bit 9 none, since 47 bits are left
abbrev passed_in : ℕ → List ℕ → ℕ
passed_in at s = passed_by (reader_at at) (header_of s (reader_at at) unknown)

pub passes : map (passed_in 0)
    ((0xFF ∷ 0xFF ∷ 0xFD ∷ 0xA0 ∷ 0 ∷ 0 ∷ [])
    ∷ (0 ∷ 0 ∷ 0xFF ∷ 0xFD ∷ 0xA0 ∷ 0 ∷ [])
    ∷ (1 ∷ 2 ∷ 0xFF ∷ 0xFD ∷ 0xA0 ∷ 0 ∷ [])
    ∷ (0 ∷ 0 ∷ 1 ∷ 0xFF ∷ 0xFD ∷ 0xA0 ∷ 0 ∷ [])
    ∷ (1 ∷ 2 ∷ 3 ∷ 4 ∷ 5 ∷ 0xFF ∷ [])
    ∷ [])
    ++ map (λ at. passed_in at (1 ∷ 2 ∷ 0xFF ∷ 0xFD ∷ 0xA0 ∷ 0 ∷ 0 ∷ [])) (1 ∷ 9 ∷ [])
    ≡ 0 ∷ 2 ∷ 2 ∷ 3 ∷ 6 ∷ 1 ∷ 0 ∷ []
unfolding header_of start_of sync_of seek_of search_of has_of skip_bytes_of field_of read_of bits_value bit_at first_from run ◌>>=◌ fields_of ident_of rates_of rest_of
    mode_of bound_of check_of size_of
passes = refl

-- 02, E3: an attempt from byte 0, by the number of its choices and a format that is known, or none: its number, and the bit where it ends
abbrev attempted : ℕ → Format → List ℕ → List ℕ
attempted choices known s =
    let t = header_of s (reader_at 0) (record { reading = reading_by choices; samplerate = known.samplerate; bitrate = known.bitrate; mode = known.mode; bound = known.bound }) in
    header_number t.header ∷ t.next.at.0 ∷ []

-- 64 kbps, 44,100 Hz, mono
abbrev spoken : Format
spoken = record { reading = plain; samplerate = 0; bitrate = 3; mode = 3; bound = 0 }

-- strict: 320 kbps in mono is a 13, 26 bits from the FF, and no other mode's; 32 kbps is one in stereo, joint stereo and two channels, and not in
-- mono. A 6 ends at the same bit, and 13 comes before it
pub strict_pairs : map (λ mode. attempted 1 unknown (0xFF ∷ 0xFD ∷ 0xD0 ∷ mode ∷ 0 ∷ 0 ∷ [])) (0xC0 ∷ 0x80 ∷ 0x40 ∷ 0x00 ∷ [])
    ++ map (λ mode. attempted 1 unknown (0xFF ∷ 0xFD ∷ 0x10 ∷ mode ∷ 0 ∷ 0 ∷ [])) (0xC0 ∷ 0x80 ∷ 0x40 ∷ 0x00 ∷ [])
    ++ map (λ rate. attempted 1 spoken (0xFF ∷ 0xFD ∷ rate ∷ 0xC0 ∷ 0 ∷ 0 ∷ [])) (0xD0 ∷ 0x30 ∷ [])
    ≡ (13 ∷ 26 ∷ []) ∷ (0 ∷ 32 ∷ []) ∷ (0 ∷ 32 ∷ []) ∷ (0 ∷ 32 ∷ [])
    ∷ (0 ∷ 32 ∷ []) ∷ (13 ∷ 26 ∷ []) ∷ (13 ∷ 26 ∷ []) ∷ (13 ∷ 26 ∷ [])
    ∷ (13 ∷ 26 ∷ []) ∷ (6 ∷ 26 ∷ []) ∷ []
unfolding header_of start_of sync_of seek_of search_of has_of skip_bytes_of field_of read_of bits_value bit_at first_from run ◌>>=◌ fields_of ident_of rates_of rest_of
    mode_of bound_of check_of size_of
strict_pairs = refl

-- a header cut after its third byte is stereo: 32 kbps is a 13, 320 kbps is accepted. Read plainly, 320 kbps in mono is accepted, and a 6
-- where another format is known
pub strict_cut : map (λ rate. attempted 1 unknown (0 ∷ 0 ∷ 0 ∷ 0xFF ∷ 0xFD ∷ rate ∷ [])) (0x10 ∷ 0xD0 ∷ [])
    ++ map (λ known. attempted 0 known (0xFF ∷ 0xFD ∷ 0xD0 ∷ 0xC0 ∷ 0 ∷ 0 ∷ [])) (unknown ∷ spoken ∷ [])
    ≡ (13 ∷ 48 ∷ []) ∷ (0 ∷ 48 ∷ []) ∷ (0 ∷ 32 ∷ []) ∷ (6 ∷ 26 ∷ []) ∷ []
unfolding header_of start_of sync_of seek_of search_of has_of skip_bytes_of field_of read_of bits_value bit_at first_from run ◌>>=◌ fields_of ident_of rates_of rest_of
    mode_of bound_of check_of size_of
strict_cut = refl
