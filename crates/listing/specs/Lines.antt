-- The lines of the lister. From 01, "Table of proved examples" (The lister). Assumes nothing.
use Rattle.std.specs.Prelude.{ℕ, zero, suc, ◌+◌, ◌-◌, ◌/◌, Bool, true, false, cond, ◌&&◌, ◌||◌, List, [], ◌∷◌, ◌++◌, map, eqb, leb, ltb, Float, length, Ok, Err}
use Rattle.buffer.specs.Calls.{byte_pos_of, byte_after_of}
use Rattle.buffer.specs.declared.BytePos.{BytePos}
use Rattle.synthesis.specs.Slots.{memory_length, output_length, quiet}
use Rattle.readings.specs.declared.Reading.{Reading}
use Rattle.tables.specs.Standard.{kbps_of, rate_of}
use Rattle.audio.specs.Calls.{open_of, open_memory, decode_of, decode_memory, decode_output, Decoded}
use Rattle.audio.specs.Numbers.{ends}
use Rattle.state.specs.declared.Audio.{Audio}
use Rattle.audio.specs.declared.Answer.{Answer}
use Rattle.audio.specs.declared.Answer.TheVariants.{Frame, Refused}
use Rattle.listing.specs.declared.Line.{Line}
use Rattle.listing.specs.declared.Line.TheVariants.{Frame as FrameLine, Refused as RefusedLine, End, Long}
use Rattle.listing.specs.declared.Listed.{Listed}
use Rattle.verdict.specs.Verdict.{Heading}
use Rattle.refusal.specs.Numbers.{number_of}

-- "byte position afterwards, rounded down"
abbrev pub byte_position : Audio → BytePos
byte_position a = byte_pos_of a.reader.at

-- the byte before a position by so many bits, rounded up to bytes
abbrev pub byte_before : BytePos → ℕ → BytePos
byte_before end bits = record { 0 = end.0 - (byte_after_of (record { 0 = bits })).0 }

-- a frame: "number from 0, byte after header and check word, rate, kbps, mode, bits used"; its start time stands beside it for replay.
-- Its first bit is a byte's first, so that byte lies before the aligned position by the bits used, rounded up to bytes.
-- "calls until 1 or 7": those end the list. 02, E2: "Lister lines end with `skipped n`", the bytes that were passed over
abbrev pub line_by : ℕ → ℕ → Answer → Audio → Line
line_by number skipped (Frame time bits) a =
    FrameLine number (byte_before (byte_position a) bits) (rate_of a.format.samplerate) (kbps_of a.format.bitrate) a.format.mode bits time skipped
line_by number skipped (Refused n) a =
    cond (ends (number_of n)) (End (number_of n) (byte_position a) skipped) (RefusedLine (number_of n) (byte_position a) skipped)

-- a call's line, which tells what was carried to it beside what the call passed over, and the state after it
abbrev pub with_line : ℕ → ℕ → Decoded → Listed
with_line number carried d = record { line = line_by number (carried + d.skipped) d.answer d.state; state = d.state }

-- the next call's
unfoldable pub next_of : List ℕ → List Float → List Float → ℕ → Audio → Listed
next_of s memory output carried a = with_line a.frames carried (decode_of s memory output a)

-- ---- all lines of a stream

-- a line, and the output beside it: replay tells a frame's samples by it
pub record Shown : Type 0 where
  pub line : Line
  pub samples : List Float

-- its parts
abbrev pub shown : Line → List Float → Shown
shown line samples = record { line = line; samples = samples }

-- "calls until 1 or 7"; "the one line `long`": no line follows these
abbrev pub is_last : Line → Bool
is_last (FrameLine number at rate kbps mode bits time skipped) = false
is_last (RefusedLine number at skipped) = false
is_last (End number at skipped) = true
is_last Long = true

-- the lines of at most so many calls; what is carried goes to the first
unfoldable pub shown_from : ℕ → List ℕ → List Float → List Float → ℕ → Audio → List Shown
shown_from zero s memory output carried a = []
shown_from (suc calls) s memory output carried a =
    let x = next_of s memory output carried a in
    let m = decode_memory s memory output a in
    let o = decode_output s memory output a in
    shown x.line o ∷ cond (is_last x.line) [] (shown_from calls s m o 0 x.state)

-- "an opening refused with 2 to 5 prints it too". 02, E3: with 13 "just as 2 to 5"
abbrev pub opening_told : ℕ → Bool
opening_told n = (leb 2 n && leb n 5) || eqb n 13

-- "number and byte position afterwards", and what it passed over; an opening refused with 1 is told by the first call
abbrev pub opening_shown : ℕ → Heading → Audio → List Shown
opening_shown skipped (Ok _) a = []
opening_shown skipped (Err n) a = cond (opening_told (number_of n)) (shown (RefusedLine (number_of n) (byte_position a) skipped) [] ∷ []) []

-- 02, E2: "A header accepted at opening has no line; its number goes to the line after it"
abbrev pub carried_by : ℕ → Heading → ℕ
carried_by skipped (Ok _) = skipped
carried_by skipped (Err n) = 0

-- from a fresh opening in this reading; on n bytes call n/2 + 2 and all later ones give 1 or 7 (claims, `settles`)
unfoldable pub called_of : Reading → List ℕ → List Shown
called_of c s =
    let opened = open_of c s (quiet memory_length) in
    let carried = carried_by opened.skipped opened.answer in
    opening_shown opened.skipped opened.answer opened.state
    ++ shown_from (length s / 2 + 2) s (open_memory s (quiet memory_length)) (quiet output_length) carried opened.state

-- "at most 65,536 bytes"
abbrev pub too_long : List ℕ → Bool
too_long s = ltb 65536 (length s)

-- "more: the one line `long`"
unfoldable pub shown_of : Reading → List ℕ → List Shown
shown_of c s = cond (too_long s) (shown Long [] ∷ []) (called_of c s)

abbrev pub lines_in : List Shown → List Line
lines_in = map (λ (x : Shown). x.line)

-- the whole listing of a stream
abbrev pub lines_of : Reading → List ℕ → List Line
lines_of c s = lines_in (shown_of c s)
