-- 01's example of a listing, for FF FD A0 00 and 622 zero bytes: its three lines, and their text, without words and with them. 02, E2:
-- they "end with 0, 598 and 0". No sample is computed: the lines go by headers and bits. Assumes nothing.
use Rattle.std.specs.Prelude.{ℕ, ◌+◌, ◌-◌, ◌≤◌, ◌≡◌, refl, Float, length, Ok, Err}
use Rattle.std.proofs.Common.{sym, ◌∙◌, arith, lit<, lit≤}
use Rattle.std.proofs.Math.Path.{ap}
use mathlib.Core.List.{List, [], ◌∷◌, ◌++◌, map, flat_map}
use Rattle.std.proofs.lemmas.List.{length-replicate}
use Rattle.ground.specs.First.{first_from}
use Rattle.synthesis.specs.Slots.{memory_length, output_length, quiet}
use Rattle.buffer.specs.Bits.{bit_at, bits_value}
use Rattle.buffer.specs.Calls.{reader_at, byte_at, byte_after_of, read_of, field_of, has_of, skip_bytes_of, search_of}
use Rattle.buffer.specs.declared.BytePos.{BytePos}
use Rattle.buffer.specs.declared.Reader.{Reader}
use Rattle.window.specs.Output.{nought}
use Rattle.readings.specs.Readings.{plain}
use Rattle.header.specs.Header.{header_of, refusal, start_of, sync_of, seek_of}
use Rattle.header.specs.Moves.{few_bits_stay}
use Rattle.header.specs.declared.Format.{Format}
use Rattle.codes.specs.Rows.{zeros}
use Rattle.frame.specs.Frame.{cut_format}
use Rattle.state.specs.State.{fresh, stands_at}
use Rattle.state.specs.declared.Audio.{Audio}
use Rattle.verdict.specs.Verdict.{asked, tried, attempt_of, Asked}
use Rattle.verdict.specs.VerdictLaws.{no_header, verdict_only}
use Rattle.audio.specs.Calls.{open_of, answering, after_of, framed_of, decode_of, Decoded}
use Rattle.audio.specs.declared.Answer.{Answer}
use Rattle.audio.specs.declared.Answer.TheVariants.{Frame}
use Rattle.listing.specs.declared.Behind.TheVariants.{Nothing, Words}
use Rattle.listing.specs.declared.Line.{Line}
use Rattle.listing.specs.declared.Line.TheVariants.{Frame as FrameLine, Refused as RefusedLine, End}
use Rattle.listing.specs.Lines.{line_by, Shown, next_of, opening_shown, carried_by, shown_from, called_of, shown_of, lines_of}
use Rattle.listing.specs.Summary.{counted_text, hundredths_of, seconds_text, frames_text, junk_text, reason_text, refusal_text, refusals_text, lines_text, summary_of}
use Rattle.listing.specs.Tally.{end_from, junk_in}
use Rattle.listing.specs.Text.{digits_in, decimal_of, numbered, bracketed, place_text, format_text, frame_text, listing_of}
use Rattle.listing.specs.Words.{letters, reason_of, mode_words}
use Rattle.past.specs.Calls.{Call, outcome, Accepts, accepted_leaves}
use Rattle.heard.specs.Heard.{after, opening, Begun, opening_begun, begun_on}
use Rattle.claims.specs.Numbers.{passed, refused}
use Rattle.claims.specs.Widths.{aligned_after_the_bits}
use Rattle.claims.specs.Example.{headed, opened_to_header, before_zeros, zeros_accepted, begins_at_32, zeros_use_188_bits}
use Rattle.claims.specs.Lister.{line_at, lines_from, one_line, last_line, text_of, listing_is_its_lines, worded_of, worded_is_its_lines}
use Rattle.refusal.specs.declared.Refusal.{Refusal}
use Rattle.refusal.specs.declared.Refusal.TheVariants.{NoSync, NoHeader}

-- ---- a call that is refused as it seeks a header

module _ (c : Call) (n : Refusal) (sync : BytePos) (r : Reader) (b : Begun c) (none : c.state.pending ≡ 0)
    (e : (known : Format) → header_of c.stream c.state.reader known ≡ refusal n sync r) where
  refused_so : outcome c ≡ refused (passed c.state sync) n (stands_at r c.state)
  unfolding decode_of attempt_of
  refused_so =
      let sought : attempt_of c.stream c.state ≡ asked (passed c.state sync) (Err n) (stands_at r c.state) =
      ap (tried c.state) (e c.state.format) in
      let before = verdict_only c.stream (length c.memory) (length c.output) c.state (no_header b none sought) in
      ap (λ (x : Asked). answering c.stream x.skipped x.answer x.state) (sym before)

-- ---- the three calls

-- behind the frame there are zeros to the end, 626 bytes from the stream's start
zeros_no_sync : (known : Format) → header_of zeros (reader_at 224) known ≡ refusal NoSync (byte_at 626) (reader_at 5016)
unfolding header_of start_of sync_of seek_of search_of has_of skip_bytes_of field_of read_of bits_value bit_at first_from
zeros_no_sync known = refl

-- what is lent
memory_long : memory_length ≤ length (quiet memory_length)
memory_long = omega (arith, length-replicate memory_length nought)

output_long : output_length ≤ length (quiet output_length)
output_long = omega (arith, length-replicate output_length nought)

abbrev first : Call
first = opening plain zeros

abbrev accepted : Accepts first
accepted = zeros_accepted (quiet memory_length) (quiet output_length) memory_long output_long

bits_188 : accepted.bits ≡ 188
bits_188 = zeros_use_188_bits (quiet memory_length) (quiet output_length) memory_long output_long

opened_so : open_of plain zeros (quiet memory_length) ≡ asked 0 (Ok tt) headed
opened_so = opened_to_header (quiet memory_length) (quiet output_length) memory_long output_long

framed : outcome first ≡ framed_of zeros 0 headed
framed =
    (accepted_leaves first accepted).gives
    ∙ ap (λ (x : Asked). framed_of zeros x.skipped x.state) (before_zeros (quiet memory_length) (quiet output_length) memory_long output_long)

abbrev framed_state : Audio
framed_state = (outcome first).state

at_224 : framed_state.reader ≡ reader_at 224
at_224 = ap reader_at (aligned_after_the_bits accepted ∙ rw (begins_at_32 (quiet memory_length) (quiet output_length) memory_long output_long, bits_188))

frame_line : (number bits : ℕ) (time : Float) (a : Audio) → a.reader ≡ reader_at 224 → a.format ≡ cut_format headed.format → bits ≡ 188
    → line_by number 0 (Frame time bits) a ≡ FrameLine number (byte_at 4) 44100 192 0 188 time 0
unfolding cut_format
frame_line number bits time a e f g = rw (e, f, g)

first_line : line_at 0 first ≡ FrameLine 0 (byte_at 4) 44100 192 0 188 nought 0
unfolding next_of fresh framed_of after_of
first_line =
    let same : Frame accepted.time accepted.bits ≡ (framed_of zeros 0 headed).answer = sym accepted.answer ∙ ap (λ (x : Decoded). x.answer) framed in
    let start_on_time : accepted.time ≡ nought = cc in
    let format : framed_state.format ≡ cut_format headed.format = ap (λ (x : Decoded). x.state.format) framed in
    ap (λ (x : Asked). line_by x.state.frames (0 + (outcome first).skipped) (outcome first).answer framed_state) opened_so
    ∙ ap (λ (x : Decoded). line_by 0 (0 + x.skipped) (outcome first).answer framed_state) framed
    ∙ ap (λ (x : Answer). line_by 0 0 x framed_state) accepted.answer
    ∙ frame_line 0 accepted.bits accepted.time framed_state at_224 format bits_188
    ∙ ap (λ (time : Float). FrameLine 0 (byte_at 4) 44100 192 0 188 time 0) start_on_time

-- the second seeks a header and finds none, and the third has nothing left
first_begun : Begun first
first_begun = opening_begun plain zeros (lit≤ tt)

abbrev second : Call
second = after first

second_refused : outcome second ≡ refused 598 NoSync (stands_at (reader_at 5016) framed_state)
unfolding framed_of after_of
second_refused =
    refused_so second NoSync (byte_at 626) (reader_at 5016) (begun_on first first_begun) (ap (λ (x : Decoded). x.state.pending) framed)
    (λ known. ap (λ (r : Reader). header_of zeros r known) at_224 ∙ zeros_no_sync known)
    ∙ ap (λ (r : Reader). refused (626 - (byte_after_of r.at).0) NoSync (stands_at (reader_at 5016) framed_state)) at_224

abbrev third : Call
third = after second

third_refused : outcome third ≡ refused 0 NoHeader (stands_at (reader_at 5016) third.state)
unfolding framed_of after_of
third_refused =
    let there : third.state.reader ≡ reader_at 5016 = ap (λ (x : Decoded). x.state.reader) second_refused in
    refused_so third NoHeader (byte_at 627) (reader_at 5016) (begun_on second (begun_on first first_begun))
    (ap (λ (x : Decoded). x.state.pending) second_refused ∙ ap (λ (x : Decoded). x.state.pending) framed)
    (λ known. ap (λ (r : Reader). header_of zeros r known) there ∙ few_bits_stay zeros (reader_at 5016) known (lit≤ tt) (lit≤ tt) (lit< tt))
    ∙ ap (λ (r : Reader). refused (627 - (byte_after_of r.at).0) NoHeader (stands_at (reader_at 5016) third.state)) there

second_line : line_at 0 second ≡ RefusedLine 2 (byte_at 627) 598
unfolding next_of
second_line = ap (λ (x : Decoded). line_by second.state.frames (0 + x.skipped) x.answer x.state) second_refused

third_line : line_at 0 third ≡ End 1 (byte_at 627) 0
unfolding next_of
third_line = ap (λ (x : Decoded). line_by third.state.frames (0 + x.skipped) x.answer x.state) third_refused

-- ---- and the listing

abbrev pub the_three_lines : List Line
the_three_lines = FrameLine 0 (byte_at 4) 44100 192 0 188 nought 0 ∷ RefusedLine 2 (byte_at 627) 598 ∷ End 1 (byte_at 627) 0 ∷ []

called_so : lines_from 315 0 first ≡ the_three_lines
called_so =
    one_line 314 0 first _ first_line refl
    ∙ ap {B = List Line} (λ more. FrameLine 0 (byte_at 4) 44100 192 0 188 nought 0 ∷ more)
    (one_line 313 0 second _ second_line refl ∙ ap {B = List Line} (λ more. RefusedLine 2 (byte_at 627) 598 ∷ more) (last_line 312 0 third _ third_line refl))

pub three_lines : lines_of plain zeros ≡ the_three_lines
unfolding shown_of called_of
three_lines =
    ap (λ (x : Asked). map (λ (y : Shown). y.line) (opening_shown x.skipped x.answer first.state
    ++ shown_from 315 zeros first.memory first.output (carried_by x.skipped x.answer) first.state))
    opened_so
    ∙ called_so

-- "frame 0 at 4 rate 44100 kbps 192 mode 0 bits 188 skipped 0", "refused 2 at 627 skipped 598", "end 1 at 627 skipped 0", each with a
-- newline, in ASCII
pub three_lines_text : listing_of plain Nothing zeros ≡
    102 ∷ 114 ∷ 97 ∷ 109 ∷ 101 ∷ 32 ∷ 48 ∷ 32 ∷ 97 ∷ 116 ∷ 32 ∷ 52 ∷ 32 ∷ 114 ∷ 97 ∷ 116 ∷ 101 ∷ 32 ∷ 52 ∷ 52 ∷ 49 ∷ 48 ∷
    48 ∷ 32 ∷ 107 ∷ 98 ∷ 112 ∷ 115 ∷ 32 ∷ 49 ∷ 57 ∷ 50 ∷ 32 ∷ 109 ∷ 111 ∷ 100 ∷ 101 ∷ 32 ∷ 48 ∷ 32 ∷ 98 ∷ 105 ∷ 116 ∷ 115 ∷
    32 ∷ 49 ∷ 56 ∷ 56 ∷ 32 ∷ 115 ∷ 107 ∷ 105 ∷ 112 ∷ 112 ∷ 101 ∷ 100 ∷ 32 ∷ 48 ∷ 10 ∷
    114 ∷ 101 ∷ 102 ∷ 117 ∷ 115 ∷ 101 ∷ 100 ∷ 32 ∷ 50 ∷ 32 ∷ 97 ∷ 116 ∷ 32 ∷ 54 ∷ 50 ∷ 55 ∷
    32 ∷ 115 ∷ 107 ∷ 105 ∷ 112 ∷ 112 ∷ 101 ∷ 100 ∷ 32 ∷ 53 ∷ 57 ∷ 56 ∷ 10 ∷
    101 ∷ 110 ∷ 100 ∷ 32 ∷ 49 ∷ 32 ∷ 97 ∷ 116 ∷ 32 ∷ 54 ∷ 50 ∷ 55 ∷ 32 ∷ 115 ∷ 107 ∷ 105 ∷ 112 ∷ 112 ∷ 101 ∷ 100 ∷ 32 ∷ 48 ∷ 10 ∷ []
unfolding flat_map frame_text format_text place_text numbered decimal_of digits_in
three_lines_text = listing_is_its_lines plain zeros ∙ ap (flat_map text_of) three_lines

-- with words behind each line
pub three_lines_worded : listing_of plain Words zeros ≡
    letters "frame 0 at 4 rate 44100 kbps 192 mode 0 bits 188 skipped 0 (stereo)\nrefused 2 at 627 skipped 598 (no sync found)\nend 1 at 627 skipped 0 (no header can follow)\n"
unfolding flat_map frame_text format_text place_text numbered decimal_of digits_in bracketed mode_words reason_of
three_lines_worded = worded_is_its_lines plain zeros ∙ ap (flat_map worded_of) three_lines

-- and in one line: 1,152 samples at 44,100 a second are 0.026 seconds
pub three_lines_summary : summary_of plain zeros ≡
    letters "1 frame, 0.03 s; 1 call refused with 2 (no sync found) from byte 627; ended with 1 (no header can follow)\n"
unfolding summary_of lines_text frames_text counted_text hundredths_of seconds_text refusals_text refusal_text reason_text junk_text junk_in end_from flat_map numbered decimal_of digits_in bracketed reason_of
three_lines_summary = ap lines_text three_lines
