-- A listing is short enough to be counted: a line has at most 247 bytes, and there are no more lines than calls, and one for the opening.
-- Assumes nothing.
use Prim.Native.Nat.{ℕ, zero, suc, ◌+◌, ◌*◌, ◌/◌, ◌^◌, ◌≤◌, ◌<◌}
use mathlib.Core.List.{List, [], ◌∷◌}
use native.Mathlib.Omega.{arith}
use lib.Dec.{eqb, ltb, lit≤}
use lib.Ieee.{Float}
use lib.ListN.{length, length-append}
use borrow.Author.Tests.{ltb-false}
use Rattle.ground.specs.Tests.{by_test}
use Rattle.buffer.specs.declared.BytePos.{BytePos}
use Rattle.synthesis.specs.Slots.{memory_length, output_length, quiet}
use Rattle.readings.specs.declared.Reading.{Reading}
use Rattle.state.specs.declared.Audio.{Audio}
use Rattle.audio.specs.Calls.{open_of, open_memory, decode_memory, decode_output}
use Rattle.listing.specs.declared.Behind.{Behind}
use Rattle.listing.specs.declared.Behind.TheVariants.{Nothing, Marks, Words}
use Rattle.listing.specs.declared.Line.{Line}
use Rattle.listing.specs.declared.Line.TheVariants.{Frame, Refused, End, Long}
use Rattle.listing.specs.Lines.{Shown, shown, is_last, next_of, shown_from, opening_told, opening_shown, carried_by, called_of, shown_of}
use Rattle.listing.specs.Fnv.{sum_of}
use Rattle.listing.specs.Text.{frame_word, at_word, rate_word, kbps_word, mode_word, bits_word, refused_word, end_word, skipped_word, time_word, sum_word}
use Rattle.listing.specs.Text.{time_bits, marks_of, bracketed, behind_of}
use Rattle.listing.specs.Text.{place_text, format_text, frame_text, bare_text, text_by, texts_of, listing_of}
use Rattle.listing.specs.TextLaws.{short_number, short_hex, short_reason}
use Rattle.listing.specs.Words.{line_words, mode_words}
use Rattle.verdict.specs.Verdict.{Heading}
use Rattle.refusal.specs.Numbers.{number_of}
use Rattle.std.specs.Prelude.{Ok, Err}

abbrev Short : List ℕ → Type 0
Short text = length text ≤ 60

short_mode : (n : ℕ) → length (mode_words n) ≤ 60
unfolding mode_words
short_mode n =
    by_test Short (eqb n 0) _ _ (λ _. lit≤ tt)
    (λ _. by_test Short (eqb n 1) _ _ (λ _. lit≤ tt) (λ _. by_test Short (eqb n 2) _ _ (λ _. lit≤ tt) (λ _. lit≤ tt)))

short_words : (line : Line) → length (line_words line) ≤ 60
short_words (Frame number at rate kbps mode bits time skipped) = short_mode mode
short_words (Refused number at skipped) = short_reason number
short_words (End number at skipped) = short_reason number
short_words Long = lit≤ tt

short_marks : (line : Line) (samples : List Float) → length (marks_of line samples) ≤ 43
short_marks (Frame number at rate kbps mode bits time skipped) samples =
    simp length-append (omega (arith, short_hex time_word (time_bits time), short_hex sum_word (sum_of samples (length samples))))
short_marks (Refused number at skipped) samples = omega arith
short_marks (End number at skipped) samples = omega arith
short_marks Long samples = omega arith

short_behind : (behind : Behind) (line : Line) (samples : List Float) → length (behind_of behind line samples) ≤ 63
unfolding bracketed
short_behind Nothing line samples = omega arith
short_behind Marks line samples = omega (arith, short_marks line samples)
short_behind Words line samples = simp length-append (omega (arith, short_words line))

short_place : (word : List ℕ) (number : ℕ) (at : BytePos) (skipped : ℕ) → length (place_text word number at skipped) ≤ length word + 73
unfolding place_text
short_place word number at skipped =
    simp length-append (omega (arith, short_number word number, short_number at_word at.0, short_number skipped_word skipped))

short_frame : (number : ℕ) (at : BytePos) (rate kbps mode bits skipped : ℕ) → length (frame_text number at rate kbps mode bits skipped) ≤ 183
unfolding frame_text format_text
short_frame number at rate kbps mode bits skipped =
    simp length-append (omega (
      arith,
      short_number frame_word number,
      short_number at_word at.0,
      short_number rate_word rate,
      short_number kbps_word kbps,
      short_number mode_word mode,
      short_number bits_word bits,
      short_number skipped_word skipped,
    ))

short_bare : (line : Line) → length (bare_text line) ≤ 183
short_bare (Frame number at rate kbps mode bits time skipped) = short_frame number at rate kbps mode bits skipped
short_bare (Refused number at skipped) = omega (arith, short_place refused_word number at skipped)
short_bare (End number at skipped) = omega (arith, short_place end_word number at skipped)
short_bare Long = omega arith

short_line : (behind : Behind) (line : Line) (samples : List Float) → length (text_by behind line samples) ≤ 247
short_line behind line samples = simp length-append (omega (arith, short_bare line, short_behind behind line samples))

short_lines : (behind : Behind) (xs : List Shown) → length (texts_of behind xs) ≤ 247 * length xs
unfolding texts_of
short_lines behind [] = omega arith
short_lines behind (x ∷ xs) =
    omega (
      arith,
      length-append (text_by behind x.line x.samples) (texts_of behind xs),
      short_line behind x.line x.samples,
      short_lines behind xs,
    )

few_lines : (calls : ℕ) (s : List ℕ) (memory output : List Float) (carried : ℕ) (a : Audio)
    → length (shown_from calls s memory output carried a) ≤ calls
unfolding shown_from
few_lines zero s memory output carried a = omega arith
few_lines (suc calls) s memory output carried a =
    let x = next_of s memory output carried a in
    let fewer = few_lines calls s (decode_memory s memory output a) (decode_output s memory output a) 0 x.state in
    by_test (λ (xs : List Shown). suc (length xs) ≤ suc calls) (is_last x.line) _ _ (λ _. omega arith) (λ _. omega arith)

one_opening : (k : ℕ) (answer : Heading) (a : Audio) → length (opening_shown k answer a) ≤ 1
one_opening k (Ok _) a = omega arith
one_opening k (Err n) a = by_test (λ (xs : List Shown). length xs ≤ 1) (opening_told (number_of n)) _ _ (λ _. omega arith) (λ _. omega arith)

few_called : (c : Reading) (s : List ℕ) → length (called_of c s) ≤ length s / 2 + 3
unfolding called_of
few_called c s =
    let opened = open_of c s (quiet memory_length) in
    let m = open_memory s (quiet memory_length) in
    let o = quiet output_length in
    let carried = carried_by opened.skipped opened.answer in
    simp length-append (omega (
      arith,
      one_opening opened.skipped opened.answer opened.state,
      few_lines (length s / 2 + 2) s m o carried opened.state,
    ))

pub listing_fits : (c : Reading) (behind : Behind) (s : List ℕ) → length (listing_of c behind s) < 2 ^ 64
unfolding listing_of shown_of
listing_fits c behind s =
    by_test (λ (xs : List Shown). length (texts_of behind xs) < 2 ^ 64) (ltb 65536 (length s)) _ _ (λ _. omega (arith, short_lines behind (shown Long [] ∷ [])))
    (λ t. omega (arith, short_lines behind (called_of c s), few_called c s, ltb-false 65536 (length s) t))
