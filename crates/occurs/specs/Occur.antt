-- The promises' premises can be met: each number of decode's table occurs, on small streams and states, computed; calls are lent
-- enough; and there are pasts. Assumes nothing.
use Rattle.std.specs.Prelude.{ℕ, ◌≡◌, refl, false, pos, Float, length, replicate, Ok, Err}
use mathlib.Core.List.{List, [], ◌∷◌, ◌++◌, map, flat_map}
use Rattle.std.proofs.Common.{arith, lt-ltb}
use Rattle.std.specs.Float.{fin}
use Rattle.std.specs.Float.Ieee.{is_nan, to_bits, div, of_int, round, units, odd, size}
use Rattle.std.proofs.lemmas.List.{length-replicate}
use Rattle.synthesis.specs.Slots.{quiet}
use Rattle.ground.specs.First.{first_from}
use Rattle.ground.specs.Table.{table, length_table}
use Rattle.buffer.specs.Bits.{longest_stream, bit_at, bits_value}
use Rattle.buffer.specs.Calls.{reader_at, byte_at, read_of, field_of, has_of, skip_bytes_of, search_of}
use Rattle.window.specs.Output.{nought}
use Rattle.grammar.specs.Reads.{◌>>=◌, run}
use Rattle.tables.specs.Standard.{rate_of}
use Rattle.header.specs.Header.{header_of, start_of, sync_of, seek_of, fields_of, ident_of, rates_of, rest_of, mode_of, bound_of, check_of, size_of}
use Rattle.clock.specs.Clock.{start_time_of, are_same_bits, on_time}
use Rattle.readings.specs.Readings.{plain}
use Rattle.header.specs.declared.Format.{Format}
use Rattle.state.specs.State.{fresh, numbers_ok, in_range, stands_at, pends, framed_to}
use Rattle.verdict.specs.Verdict.{attempt_of, headed_of, enough_of, ready_of, at_once_of, known_of, Heading, Asked}
use Rattle.audio.specs.Calls.{answering, after_of, framed_of, decode_of, blank, open_of, open_memory, no_room_of, format_of, clip_format}
use Rattle.audio.specs.Numbers.{heading_number, answer_number}
use Rattle.state.specs.declared.Audio.{Audio}
use Rattle.listing.specs.Lines.{next_of, shown_from, called_of, shown_of, lines_of}
use Rattle.listing.specs.Summary.{counted_text, hundredths_of, seconds_text, frames_text, junk_text, reason_text, refusal_text, refusals_text, lines_text}
use Rattle.listing.specs.Tally.{end_from, junk_in}
use Rattle.listing.specs.Text.{digits_in, decimal_of, numbered, bracketed}
use Rattle.listing.specs.Words.{letters, reason_of}
use Rattle.listing.specs.declared.Line.{Line}
use Rattle.listing.specs.declared.Line.TheVariants.{Frame as FrameLine, Refused as RefusedLine, End}
use Rattle.clip.specs.Frames.{heard_of, clip_of}
use Rattle.claims.specs.Numbers.{Lent}
use Rattle.past.specs.Pasts.{Past, opened}
use Rattle.refusal.specs.declared.Refusal.TheVariants.{NoHeader, NoSync, OtherLayer, NoBitRate, NoSampleRate, CutOff, LongStream, BadState}

-- decode's number goes by the verdict, and so by the lengths of memory and output only
abbrev pub verdict : List ℕ → ℕ → ℕ → Audio → ℕ
verdict s memory output a = heading_number (ready_of s memory output a).answer

pub number_by_verdict : (s : List ℕ) (memory output : List Float) (a : Audio)
    → answer_number (decode_of s memory output a).answer ≡ heading_number (ready_of s (length memory) (length output) a).answer
unfolding decode_of framed_of after_of
number_by_verdict s memory output a = let r = ready_of s (length memory) (length output) a in go r.skipped r.answer r.state
  where
    go : (k : ℕ) (h : Heading) (b : Audio) → answer_number (answering s k h b).answer ≡ heading_number h
    go k (Ok _) b = refl
    go k (Err n) b = refl

-- a state whose clip began at 32 kbps, 44,100 Hz, in stereo; and one after a frame, with the ring between two slots
abbrev pub begun : Audio
begun = pends (reader_at 0) (record { reading = plain; samplerate = 0; bitrate = 0; mode = 0; bound = 32 }) 0 (fresh plain)

abbrev pub broken : Audio
broken = framed_to (reader_at 16) begun.format 32 begun

-- 192 kbps, 44,100 Hz, stereo
abbrev pub header : List ℕ
header = 0xFF ∷ 0xFD ∷ 0xA0 ∷ 0x00 ∷ []

pub numbers_occur : verdict (header ++ replicate 622 0) 2048 2304 (fresh plain)
    ∷ verdict [] 2048 2304 (fresh plain)
    ∷ verdict (1 ∷ replicate 5 0) 2048 2304 (fresh plain)
    ∷ verdict (0xFF ∷ 0xFB ∷ replicate 4 0) 2048 2304 (fresh plain)
    ∷ verdict (0xFF ∷ 0xFD ∷ replicate 4 0) 2048 2304 (fresh plain)
    ∷ verdict (0xFF ∷ 0xFD ∷ 0xAC ∷ replicate 3 0) 2048 2304 (fresh plain)
    ∷ verdict (header ++ replicate 2 0) 2048 2304 begun
    ∷ verdict (header ++ replicate 2 0) 2048 2304 (fresh plain)
    ∷ verdict [] 2047 2304 (fresh plain)
    ∷ verdict [] 2048 2304 broken
    ∷ []
    ≡ 0 ∷ 1 ∷ 2 ∷ 3 ∷ 4 ∷ 5 ∷ 6 ∷ 7 ∷ 9 ∷ 10 ∷ []
unfolding ready_of at_once_of headed_of attempt_of enough_of fresh in_range numbers_ok on_time are_same_bits start_time_of is_nan to_bits div of_int round units odd size
    header_of start_of sync_of seek_of search_of has_of skip_bytes_of field_of read_of bits_value bit_at first_from run ◌>>=◌ fields_of ident_of rates_of rest_of
    mode_of bound_of check_of size_of
numbers_occur = refl

-- 02, E2: each number with the bytes passed over, where two zero bytes stand in front. All but 1, 9 and 10 tell them; 2 tells all eight
abbrev told : Asked → List ℕ
told x = heading_number x.answer ∷ x.skipped ∷ []

abbrev behind_zeros : List ℕ → Audio → List ℕ
behind_zeros s a = told (ready_of (0 ∷ 0 ∷ s) 2048 2304 a)

pub passed_over_occurs : behind_zeros (header ++ replicate 622 0) (fresh plain)
    ∷ behind_zeros [] (fresh plain)
    ∷ behind_zeros (1 ∷ replicate 5 0) (fresh plain)
    ∷ behind_zeros (0xFF ∷ 0xFB ∷ replicate 4 0) (fresh plain)
    ∷ behind_zeros (0xFF ∷ 0xFD ∷ replicate 4 0) (fresh plain)
    ∷ behind_zeros (0xFF ∷ 0xFD ∷ 0xAC ∷ replicate 3 0) (fresh plain)
    ∷ behind_zeros (header ++ replicate 2 0) begun
    ∷ behind_zeros (header ++ replicate 2 0) (fresh plain)
    ∷ told (ready_of (0 ∷ 0 ∷ header) 2047 2304 (fresh plain))
    ∷ behind_zeros header broken
    ∷ []
    ≡ (0 ∷ 2 ∷ []) ∷ (1 ∷ 0 ∷ []) ∷ (2 ∷ 8 ∷ []) ∷ (3 ∷ 2 ∷ []) ∷ (4 ∷ 2 ∷ []) ∷ (5 ∷ 2 ∷ []) ∷ (6 ∷ 2 ∷ []) ∷ (7 ∷ 2 ∷ []) ∷ (9 ∷ 0 ∷ []) ∷ (10 ∷ 0 ∷ []) ∷ []
unfolding ready_of at_once_of headed_of attempt_of enough_of fresh in_range numbers_ok on_time are_same_bits start_time_of is_nan to_bits div of_int round units odd size
    header_of start_of sync_of seek_of search_of has_of skip_bytes_of field_of read_of bits_value bit_at first_from run ◌>>=◌ fields_of ident_of rates_of rest_of
    mode_of bound_of check_of size_of
passed_over_occurs = refl

-- a cut frame behind three bytes: the first call's 7 tells them, and a repeated one none
abbrev cut_behind_three : List ℕ
cut_behind_three = 1 ∷ 2 ∷ 3 ∷ header ++ replicate 2 0

pub seven_tells_it_once : let x = ready_of cut_behind_three 2048 2304 (fresh plain) in
    let y = ready_of cut_behind_three 2048 2304 x.state in
    (x.answer ∷ y.answer ∷ [] ≡ Err CutOff ∷ Err CutOff ∷ []) × (x.skipped ∷ y.skipped ∷ [] ≡ 3 ∷ 0 ∷ [])
unfolding ready_of at_once_of headed_of attempt_of enough_of fresh in_range numbers_ok on_time are_same_bits start_time_of is_nan to_bits div of_int round units odd size
    header_of start_of sync_of seek_of search_of has_of skip_bytes_of field_of read_of bits_value bit_at first_from run ◌>>=◌ fields_of ident_of rates_of rest_of
    mode_of bound_of check_of size_of
seven_tells_it_once = (refl, refl)

-- and the listing: what an accepted opening passed over goes to the next line; a refused one tells its own, and the line behind it only what
-- its own call passed over
abbrev refused_then_cut : List ℕ
refused_then_cut = 1 ∷ 0xFF ∷ 0xFD ∷ 0x00 ∷ 5 ∷ 6 ∷ header ++ replicate 2 0

pub lines_tell_it_once : (lines_of plain cut_behind_three ≡ End 7 (byte_at 7) 3 ∷ [])
    × (lines_of plain refused_then_cut ≡ RefusedLine 4 (byte_at 3) 1 ∷ End 7 (byte_at 10) 2 ∷ [])
unfolding shown_of called_of shown_from next_of decode_of open_of open_memory no_room_of blank table ready_of at_once_of headed_of attempt_of enough_of fresh in_range numbers_ok on_time are_same_bits
    start_time_of is_nan to_bits div of_int round units odd size header_of start_of sync_of seek_of search_of has_of skip_bytes_of field_of read_of bits_value bit_at
    first_from run ◌>>=◌ fields_of ident_of rates_of rest_of mode_of bound_of check_of size_of
lines_tell_it_once = (refl, refl)

-- the junk in words: of a stream without a frame all that was passed over; else what was passed over up to the first frame, and not the
-- 598 bytes behind it; and one byte is no bytes
abbrev frame_behind_junk : List Line
frame_behind_junk =
    RefusedLine 4 (byte_at 3) 1 ∷ FrameLine 0 (byte_at 9) 44100 192 0 188 nought 2 ∷ RefusedLine 2 (byte_at 634) 598 ∷ End 1 (byte_at 634) 0 ∷ []

pub junk_occurs : (lines_text (RefusedLine 4 (byte_at 3) 1 ∷ End 7 (byte_at 10) 2 ∷ [])
    ≡ letters "0 frames: nothing was played; 3 bytes of junk in front; 1 call refused with 4 (a bit rate that is none) from byte 3; ended with 7 (the last frame is cut off)\n")
    × (lines_text frame_behind_junk
    ≡ letters "1 frame, 0.03 s; 3 bytes of junk in front; 1 call refused with 2 (no sync found) from byte 634; 1 call refused with 4 (a bit rate that is none) from byte 3; ended with 1 (no header can follow)\n")
    × (junk_text 1 ≡ letters "; 1 byte of junk in front")
unfolding lines_text frames_text counted_text hundredths_of seconds_text junk_text junk_in refusals_text refusal_text reason_text end_from flat_map numbered decimal_of
    digits_in bracketed reason_of
junk_occurs = (refl, refl, refl)

-- read plainly, an opening gives 0 to 5 and 9 (memory only), a question tells a format or gives 1 to 5 and 10
abbrev firsts : List (List ℕ)
firsts =
    (header ++ replicate 2 0) ∷ [] ∷ (1 ∷ replicate 5 0) ∷ (0xFF ∷ 0xFB ∷ replicate 4 0) ∷ (0xFF ∷ 0xFD ∷ replicate 4 0)
    ∷ (0xFF ∷ 0xFD ∷ 0xAC ∷ replicate 3 0) ∷ []

pub openings_occur : map (λ s. heading_number (open_of plain s (quiet 2048)).answer) firsts ++ (heading_number (open_of plain [] (quiet 2047)).answer ∷ [])
    ≡ 0 ∷ 1 ∷ 2 ∷ 3 ∷ 4 ∷ 5 ∷ 9 ∷ []
unfolding open_of no_room_of attempt_of fresh header_of start_of sync_of seek_of search_of has_of skip_bytes_of field_of read_of bits_value bit_at first_from run ◌>>=◌
    fields_of ident_of rates_of rest_of mode_of bound_of check_of size_of
openings_occur = refl

pub questions_occur : map (λ s. (format_of s (fresh plain)).answer) firsts ++ ((format_of [] broken).answer ∷ [])
    ≡ Ok (clip_format 44100 192 0) ∷ Err NoHeader ∷ Err NoSync ∷ Err OtherLayer ∷ Err NoBitRate ∷ Err NoSampleRate ∷ Err BadState ∷ []
unfolding format_of known_of at_once_of attempt_of fresh in_range numbers_ok on_time are_same_bits start_time_of is_nan to_bits div of_int header_of start_of sync_of seek_of
    search_of has_of skip_bytes_of field_of read_of bits_value bit_at first_from run ◌>>=◌ fields_of ident_of rates_of rest_of mode_of bound_of check_of size_of
questions_occur = refl

-- 64 kbps, 48,000 Hz, mono: its header, and the format that it says
abbrev spoken : List ℕ
spoken = 0xFF ∷ 0xFD ∷ 0x44 ∷ 0xC0 ∷ 0 ∷ 0 ∷ []

abbrev voice : Format
voice = record { reading = plain; samplerate = 1; bitrate = 3; mode = 3; bound = 0 }

-- each of the three values is told, and the header's 188 bytes of data are pending; a refused question has moved on, to the end, past six
-- bytes; and a format that is known is told whatever follows in the stream
pub formats_occur : (format_of spoken (fresh plain) ≡ record { answer = Ok (clip_format 48000 64 3); state = pends (reader_at 32) voice 188 (fresh plain); skipped = 0 })
    × (format_of (1 ∷ replicate 5 0) (fresh plain) ≡ record { answer = Err NoSync; state = stands_at (reader_at 48) (fresh plain); skipped = 6 })
    × (format_of spoken begun ≡ record { answer = Ok (clip_format 44100 32 0); state = begun; skipped = 0 })
unfolding format_of known_of at_once_of attempt_of fresh in_range numbers_ok on_time are_same_bits start_time_of is_nan to_bits div of_int header_of start_of sync_of seek_of
    search_of has_of skip_bytes_of field_of read_of bits_value bit_at first_from run ◌>>=◌ fields_of ident_of rates_of rest_of mode_of bound_of check_of size_of
formats_occur = (refl, refl, refl)

-- 192 kbps, 48,000 Hz, stereo, and no data
abbrev pub cut : List ℕ
cut = 0xFF ∷ 0xFD ∷ 0xA4 ∷ replicate 3 0

-- no frame is heard of an empty clip, nor of one cut after its header: then E1's rate is 44,100, and not the header's (Wave `no-frame`)
pub silence_occurs : (clip_of [] ≡ []) × (clip_of cut ≡ []) × (rate_of (attempt_of cut (fresh plain)).state.format.samplerate ≡ 48000)
unfolding clip_of heard_of decode_of open_of open_memory no_room_of blank table ready_of at_once_of headed_of attempt_of enough_of fresh in_range numbers_ok
    on_time are_same_bits start_time_of is_nan to_bits div of_int round units odd size header_of start_of sync_of seek_of search_of has_of skip_bytes_of field_of read_of
    bits_value bit_at first_from run ◌>>=◌ fields_of ident_of rates_of rest_of mode_of bound_of check_of size_of
silence_occurs = (refl, refl, refl)

-- one byte too many
unfoldable pub long : List ℕ
long = table 16777217 (λ _. 0)

long_length : length long ≡ 16777217
unfolding long
long_length = length_table 16777217 (λ _. 0)

pub eight_occurs : (memory output : ℕ) (a : Audio) → verdict long memory output a ≡ 8
unfolding ready_of at_once_of
eight_occurs memory output a = simp (lt-ltb longest_stream (length long) (omega (arith, long_length)))

pub eight_occurs_first : (memory : List Float) (a : Audio) → ((open_of plain long memory).answer ≡ Err LongStream) × ((format_of long a).answer ≡ Err LongStream)
unfolding open_of no_room_of format_of known_of at_once_of
eight_occurs_first memory a = let many = lt-ltb longest_stream (length long) (omega (arith, long_length)) in (simp many, simp many)

-- ---- a call that is lent enough, and a past

pub enough_lent : Lent [] (quiet 2048) (quiet 2304)
enough_lent =
    record {
      short = omega arith;
      memory_long = omega (arith, length-replicate 2048 (fin false 0 (pos 0)));
      output_long = omega (arith, length-replicate 2304 (fin false 0 (pos 0)));
    }

pub a_past : Past (open_of plain [] (quiet 2048)).state (open_memory [] (quiet 2048))
a_past = opened plain [] (quiet 2048) enough_lent.short enough_lent.memory_long
