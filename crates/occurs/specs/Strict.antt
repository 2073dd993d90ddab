-- 02, E3, on small streams, computed: 13 is given by each call that seeks a header, and only in the strict reading; what it leaves; and what
-- comes after it. Assumes nothing.
use Rattle.std.specs.Prelude.{ℕ, ◌≡◌, refl, true, Ok, Err}
use mathlib.Core.List.{List, [], ◌∷◌, ◌++◌, flat_map}
use Rattle.std.specs.Float.Ieee.{is_nan, to_bits, div, of_int, round, units, odd, size}
use Rattle.ground.specs.First.{first_from}
use Rattle.ground.specs.Table.{table}
use Rattle.buffer.specs.Bits.{bit_at, bits_value}
use Rattle.buffer.specs.Calls.{reader_at, byte_at, read_of, field_of, has_of, skip_bytes_of, search_of}
use Rattle.synthesis.specs.Slots.{quiet}
use Rattle.grammar.specs.Reads.{◌>>=◌, run}
use Rattle.readings.specs.Readings.{plain, reading_by}
use Rattle.header.specs.Header.{header_of, start_of, sync_of, seek_of, fields_of, ident_of, rates_of, rest_of, mode_of, bound_of, check_of, size_of}
use Rattle.header.specs.declared.Format.{Format}
use Rattle.readings.specs.declared.Reading.{Reading}
use Rattle.clock.specs.Clock.{start_time_of, are_same_bits, on_time}
use Rattle.state.specs.State.{fresh, numbers_ok, in_range, stands_at, pends}
use Rattle.state.specs.declared.Audio.{Audio}
use Rattle.verdict.specs.Verdict.{asked, attempt_of, headed_of, enough_of, ready_of, at_once_of, known_of}
use Rattle.audio.specs.Calls.{decode_of, blank, open_of, open_memory, no_room_of, format_of}
use Rattle.listing.specs.Lines.{next_of, shown_from, called_of, shown_of, lines_of}
use Rattle.listing.specs.Summary.{counted_text, hundredths_of, seconds_text, frames_text, junk_text, reason_text, refusal_text, refusals_text, lines_text}
use Rattle.listing.specs.Tally.{end_from, junk_in}
use Rattle.listing.specs.Text.{digits_in, decimal_of, numbered, bracketed}
use Rattle.listing.specs.Words.{letters, reason_of}
use Rattle.listing.specs.declared.Line.TheVariants.{Refused as RefusedLine, End}
use Rattle.refusal.specs.declared.Refusal.TheVariants.{CutOff, BarredRate}

abbrev strictly : Reading
strictly = reading_by 1

-- 320 kbps, 44,100 Hz, mono, which the standard does not have; and 64 kbps, which it has
abbrev loud : List ℕ
loud = 0xFF ∷ 0xFD ∷ 0xD0 ∷ 0xC0 ∷ 0 ∷ 0 ∷ []

abbrev spoken : List ℕ
spoken = 0xFF ∷ 0xFD ∷ 0x40 ∷ 0xC0 ∷ 0 ∷ 0 ∷ []

abbrev spoken_format : Format
spoken_format = record { reading = strictly; samplerate = 0; bitrate = 3; mode = 3; bound = 0 }

-- each call gives it; the position is behind the mode, no format is known, and nothing is pending. Read plainly, the header is accepted
pub thirteen_occurs : let moved = stands_at (reader_at 26) (fresh strictly) in
    (open_of strictly loud (quiet 2048) ≡ asked 0 (Err BarredRate) moved)
    × (format_of loud (fresh strictly) ≡ record { answer = Err BarredRate; state = moved; skipped = 0 })
    × (ready_of loud 2048 2304 (fresh strictly) ≡ asked 0 (Err BarredRate) moved)
    × ((open_of plain loud (quiet 2048)).answer ≡ Ok tt)
unfolding open_of no_room_of format_of known_of ready_of at_once_of headed_of attempt_of enough_of fresh in_range numbers_ok on_time are_same_bits start_time_of is_nan to_bits div
    of_int round units odd size header_of start_of sync_of seek_of search_of has_of skip_bytes_of field_of read_of bits_value bit_at first_from run ◌>>=◌ fields_of
    ident_of rates_of rest_of mode_of bound_of check_of size_of
thirteen_occurs = (refl, refl, refl, refl)

-- where a format is known it is kept: 13, and not 6, and the format stays that of the first header
abbrev known : Audio
known = pends (reader_at 0) spoken_format 0 (fresh strictly)

pub the_old_format_is_kept : ready_of loud 2048 2304 known ≡ asked 0 (Err BarredRate) (stands_at (reader_at 26) known)
unfolding ready_of at_once_of headed_of attempt_of enough_of fresh in_range numbers_ok on_time are_same_bits start_time_of is_nan to_bits div of_int round units odd size
    header_of start_of sync_of seek_of search_of has_of skip_bytes_of field_of read_of bits_value bit_at first_from run ◌>>=◌ fields_of ident_of rates_of rest_of
    mode_of bound_of check_of size_of
the_old_format_is_kept = refl

-- the lister's lines: a refused opening has its line and is no end; it leaves no format, so the next good header is taken, and not refused
-- with 6. Read plainly, the first header is taken, and its frame is cut off
pub thirteen_is_no_end : (lines_of strictly (loud ++ spoken) ≡ RefusedLine 13 (byte_at 3) 0 ∷ End 7 (byte_at 10) 2 ∷ [])
    × (lines_of plain (loud ++ spoken) ≡ End 7 (byte_at 4) 0 ∷ [])
unfolding shown_of called_of shown_from next_of decode_of open_of open_memory no_room_of blank table ready_of at_once_of headed_of attempt_of enough_of fresh in_range
    numbers_ok on_time are_same_bits start_time_of is_nan to_bits div of_int round units odd size header_of start_of sync_of seek_of search_of has_of skip_bytes_of field_of
    read_of bits_value bit_at first_from run ◌>>=◌ fields_of ident_of rates_of rest_of mode_of bound_of check_of size_of
thirteen_is_no_end = (refl, refl)

-- its line in words: the reason, the count and the byte
pub thirteen_in_words : lines_text (RefusedLine 13 (byte_at 3) 0 ∷ End 7 (byte_at 10) 2 ∷ [])
    ≡ letters "0 frames: nothing was played; 2 bytes of junk in front; 1 call refused with 13 (a bit rate that the standard does not have in this mode) from byte 3; ended with 7 (the last frame is cut off)\n"
unfolding lines_text frames_text counted_text hundredths_of seconds_text junk_text junk_in refusals_text refusal_text reason_text end_from flat_map numbered decimal_of
    digits_in bracketed reason_of
thirteen_in_words = refl

-- a state by hand, strict and with such a pair pending, is in range: its frame is asked for, 7 here, and not refused with 10 or 13
abbrev by_hand : Audio
by_hand = pends (reader_at 32) (record { reading = strictly; samplerate = 0; bitrate = 12; mode = 3; bound = 0 }) 1040 (fresh strictly)

pub by_hand_is_in_range : (in_range by_hand ≡ true) × (ready_of loud 2048 2304 by_hand ≡ asked 0 (Err CutOff) by_hand)
unfolding ready_of at_once_of headed_of enough_of fresh in_range numbers_ok on_time are_same_bits start_time_of is_nan to_bits div of_int round units odd size has_of
by_hand_is_in_range = (refl, refl)
