-- Two clips of three frames, for the promises on them: one begins with a frame whose last slot knocks, the other with silence, and then both
-- have two silent frames, each where the standard says that the one before it ends. What the decoder does on them, call by call, is
-- computed, with any memory and output that are long enough. Assumes nothing.
use Rattle.std.specs.Prelude.{ℕ, ◌-◌, ◌/◌, ◌≤◌, ◌≡◌, true, false, ltb, ℤ, pos, negsuc, Float, length, replicate, set, Ok}
use Rattle.std.proofs.Math.Path.{refl, ap}
use Rattle.std.proofs.Common.{◌∙◌}
use mathlib.Core.List.{List, [], ◌∷◌, ◌++◌}
use borrow.Author.Tests.{le-ltb, ltb-false}
use Rattle.std.specs.Float.Ieee.{is_nan, div, of_int, to_bits}
use Rattle.std.proofs.Math.ListN.{get_or}
use Rattle.ground.specs.First.{first_from}
use Rattle.buffer.specs.Bits.{longest_stream, bit_at, bits_value}
use Rattle.buffer.specs.Calls.{reader_at, read_of, field_of, has_of, skip_bytes_of, align_of}
use Rattle.buffer.specs.declared.Reader.{Reader}
use Rattle.grammar.specs.Reads.{◌>>=◌, Taken, taken, run}
use Rattle.tables.specs.Standard.{limit_of, chosen, serves, sblimit, rows_of, levels_of, code_bits_of, grouped_of, quantisation_of, classes}
use Rattle.tables.specs.Source.{source_row_of, width_of, quantiser_of}
use Rattle.tables.specs.Differences.{table_of}
use Rattle.header.specs.Header.{header_of, start_of, sync_of, fields_of, ident_of, rates_of, rest_of, mode_of, bound_of, check_of, size_of}
use Rattle.readings.specs.Readings.{plain}
use Rattle.header.specs.declared.Format.{Format}
use Rattle.samples.specs.Sample.{scale_of, adj_of, scaled_by, sample_of, factor_of}
use Rattle.side.specs.Bands.{bands, pair_of, channels_of}
use Rattle.side.specs.Side.{allocation_of, allocation_band_of, selector_of, factors_of, side_of}
use Rattle.codes.specs.Frame.{place_of, singles_of, codes_of, three_samples_of, copied, sample_band_of, granule_of, granules_of, frame_of}
use Rattle.synthesis.specs.Slots.{position_after, memory_length, output_length}
use Rattle.frame.specs.Frame.{codes_in, cut_format, granules_at}
use Rattle.clock.specs.Clock.{are_same_bits, on_time, start_time_of}
use Rattle.state.specs.State.{fresh, numbers_ok, in_range, pends, framed_to}
use Rattle.state.specs.declared.Audio.{Audio}
use Rattle.verdict.specs.Verdict.{asked, attempt_of, headed_of, enough_of, ready_of, at_once_of, Asked}
use Rattle.audio.specs.Calls.{aligned_of, after_of, framed_of, open_of, open_memory, no_room_of, Decoded}
use Rattle.past.specs.Pasts.{Past, opened, decoded}
use Rattle.past.specs.Calls.{Call, outcome, new_memory, before, known_leaves}
use Rattle.past.specs.Ring.{memory_kept_long}

-- ---- the streams: 32 kbps, 44,100 Hz, mono, so frames of 104 bytes

-- one subband of three levels at scale factor 0: eleven granules of zeros, and a twelfth whose third sample is not 0
abbrev pub knocking : List ℕ
knocking =
    0xFF ∷ 0xFD ∷ 0x10 ∷ 0xC0 ∷ 0x10 ∷ 0x00 ∷ 0x00 ∷ 0x20 ∷ 0x1A ∷ 0xD6 ∷ 0xB5 ∷ 0xAD ∷ 0x6B ∷ 0x5A ∷ 0xD6 ∷ 0xD8 ∷ replicate 88 0

abbrev pub silent : List ℕ
silent = 0xFF ∷ 0xFD ∷ 0x10 ∷ 0xC0 ∷ replicate 100 0

abbrev pub behind : List ℕ → List ℕ
behind first = first ++ (silent ++ silent)

-- ---- what the frames hold

abbrev pub silence : List (List ℤ)
silence = replicate 12 (replicate 192 (pos 0))

-- −32768 in the lowest subband of both channels, in the last slot
abbrev pub knock : List (List ℤ)
knock = replicate 11 (replicate 192 (pos 0)) ++ (set (set (replicate 192 (pos 0)) 128 (negsuc 32767)) 160 (negsuc 32767) ∷ [])

-- ---- the states between the calls; the first frame ends at bit `end`

abbrev pub mono : Format
mono = record { reading = plain; samplerate = 0; bitrate = 0; mode = 3; bound = 0 }

abbrev pub headed : Audio
headed = pends (reader_at 32) mono 100 (fresh plain)

abbrev pub one : ℕ → Audio
one end = framed_to (reader_at end) mono 768 headed

-- wherever that was, the second header stands at the same place
abbrev pub headed_two : Audio
headed_two = pends (reader_at 864) mono 100 (one 0)

abbrev pub two : Audio
two = framed_to (reader_at 896) mono 512 headed_two

abbrev pub headed_three : Audio
headed_three = pends (reader_at 1696) mono 100 two

-- each with the bytes that were passed over: to the second from where the first frame's reading ended
abbrev pub headings : ℕ → List Asked
headings end = asked 0 (Ok tt) headed ∷ asked (104 - end / 8) (Ok tt) headed_two ∷ asked 96 (Ok tt) headed_three ∷ []

-- what is computed of a stream: its headers and that their data are there, the frames, and that the states are in range
pub record Course (s : List ℕ) (granules : List (List ℤ)) (last end : ℕ) : Type 0 where
  pub short : ltb longest_stream (length s) ≡ false
  pub ranged : in_range headed ∷ in_range (one end) ∷ in_range two ∷ [] ≡ true ∷ true ∷ true ∷ []
  pub found : attempt_of s (fresh plain) ∷ attempt_of s (one end) ∷ attempt_of s two ∷ [] ≡ headings end
  pub enough : enough_of s 0 headed ∷ enough_of s (104 - end / 8) headed_two ∷ enough_of s 96 headed_three ∷ [] ≡ headings end
  pub reads : granules_at s (reader_at 32) mono ∷ granules_at s (reader_at 864) mono ∷ [] ≡ taken granules (reader_at last) ∷ taken silence (reader_at 890) ∷ []
  pub aligned : aligned_of s (reader_at last) ∷ aligned_of s (reader_at 890) ∷ [] ≡ reader_at end ∷ reader_at 896 ∷ []

pub courses : Course (behind knocking) knock 126 128 × Course (behind silent) silence 58 64
unfolding attempt_of enough_of fresh header_of start_of sync_of has_of skip_bytes_of field_of read_of bits_value bit_at first_from run ◌>>=◌ fields_of ident_of rates_of
    rest_of mode_of bound_of check_of size_of in_range numbers_ok on_time start_time_of are_same_bits is_nan to_bits of_int div granules_at codes_in frame_of side_of bands
    pair_of allocation_of allocation_band_of channels_of selector_of factors_of place_of singles_of codes_of three_samples_of copied sample_band_of granule_of granules_of
    table_of limit_of chosen serves sblimit rows_of source_row_of width_of quantiser_of levels_of code_bits_of grouped_of quantisation_of classes sample_of scaled_by
    scale_of adj_of factor_of aligned_of align_of
courses = (
  record { short = refl; ranged = refl; found = refl; enough = refl; reads = refl; aligned = refl },
  record { short = refl; ranged = refl; found = refl; enough = refl; reads = refl; aligned = refl },
)

-- ---- a decoder opened on a stream, and its calls one after the other

module _ (s : List ℕ) (m o : List Float) where
  abbrev pub first : Call
  first = record { stream = s; memory = open_memory s m; output = o; state = (open_of plain s m).state }

  abbrev next : Call → Call
  next c = record { stream = s; memory = new_memory c; output = o; state = (outcome c).state }

  abbrev pub second : Call
  second = next first

  abbrev pub third : Call
  third = next second

-- with any memory and output that are long enough
module _ {s : List ℕ} {granules : List (List ℤ)} {last end : ℕ} (course : Course s granules last end) (m o : List Float) (long : memory_length ≤ length m)
    (room : output_length ≤ length o) where
  abbrev on : List Float → Audio → Call
  on memory a = record { stream = s; memory = memory; output = o; state = a }

  abbrev one_call : Call
  one_call = first s m o

  abbrev two_calls : Call
  two_calls = second s m o

  abbrev three_calls : Call
  three_calls = third s m o

  abbrev pub past_one : Past one_call.state one_call.memory
  past_one = opened plain s m (ltb-false _ _ course.short) long

  abbrev pub past_two : Past two_calls.state two_calls.memory
  past_two = decoded past_one s o

  abbrev pub past_three : Past three_calls.state three_calls.memory
  past_three = decoded past_two s o

  -- a call from a known state, and the state that its frame leaves
  module _ (memory : List Float) (k : ℕ) (a b : Audio) where
    stands : memory_length ≤ length memory → in_range a ≡ true → headed_of s a ≡ asked k (Ok tt) b → enough_of s k b ≡ asked k (Ok tt) b
        → (c : Audio) → c ≡ a → before (on memory c) ≡ asked k (Ok tt) b
    unfolding ready_of at_once_of
    stands big ranged heading enough c is =
        ap (λ (x : Audio). before (on memory x)) is ∙ simp (course.short, le-ltb _ _ big, le-ltb _ _ room, ranged, heading, enough)

    leaves : (xs : List (List ℤ)) (last end : ℕ) → before (on memory a) ≡ asked k (Ok tt) b → granules_at s b.reader b.format ≡ taken xs (reader_at last)
        → aligned_of s (reader_at last) ≡ reader_at end
        → (outcome (on memory a)).state ≡ framed_to (reader_at end) (cut_format b.format) (position_after b.ring 36) b
    unfolding framed_of after_of
    leaves xs last end is reads aligned =
        ap (λ (x : Decoded). x.state) (known_leaves (on memory a) (ap (λ (x : Asked). x.answer) is)).gives
        ∙ ap (λ (x : Asked). (framed_of s x.skipped x.state).state) is
        ∙ ap (λ (x : Taken (List (List ℤ))). framed_to (aligned_of s x.next) (cut_format b.format) (position_after b.ring 36) b) reads
        ∙ ap (λ (r : Reader). framed_to r (cut_format b.format) (position_after b.ring 36) b) aligned

  -- entry i of what was computed
  abbrev heading : ℕ → List Asked → Asked
  heading i xs = get_or xs i (asked 0 (Ok tt) headed)

  pub opened_at : one_call.state ≡ headed
  unfolding open_of no_room_of
  opened_at = simp (course.short, le-ltb _ _ long) (ap (λ xs. (heading 0 xs).state) course.found)

  pub before_first : before one_call ≡ asked 0 (Ok tt) headed
  unfolding headed_of
  before_first =
      stands one_call.memory 0 headed headed (memory_kept_long past_one) (ap (λ xs. get_or xs 0 false) course.ranged) refl
      (ap (heading 0) course.enough) one_call.state opened_at

  pub state_one : two_calls.state ≡ one end
  unfolding cut_format position_after fresh limit_of chosen serves sblimit rows_of
  state_one =
      leaves one_call.memory 0 one_call.state headed granules last end before_first (ap (λ xs. get_or xs 0 (taken [] (reader_at 0))) course.reads)
      (ap (λ xs. get_or xs 0 (reader_at 0)) course.aligned)

  pub before_second : before two_calls ≡ asked (104 - end / 8) (Ok tt) headed_two
  unfolding headed_of
  before_second =
      stands two_calls.memory (104 - end / 8) (one end) headed_two (memory_kept_long past_two) (ap (λ xs. get_or xs 1 false) course.ranged)
      (ap (heading 1) course.found) (ap (heading 1) course.enough) two_calls.state state_one

  state_two : three_calls.state ≡ two
  unfolding cut_format position_after fresh limit_of chosen serves sblimit rows_of
  state_two =
      leaves two_calls.memory (104 - end / 8) two_calls.state headed_two silence 890 896 before_second (ap (λ xs. get_or xs 1 (taken [] (reader_at 0))) course.reads)
      (ap (λ xs. get_or xs 1 (reader_at 0)) course.aligned)

  pub before_third : before three_calls ≡ asked 96 (Ok tt) headed_three
  unfolding headed_of
  before_third =
      stands three_calls.memory 96 two headed_three (memory_kept_long past_three) (ap (λ xs. get_or xs 2 false) course.ranged)
      (ap (heading 2) course.found) (ap (heading 2) course.enough) three_calls.state state_two
