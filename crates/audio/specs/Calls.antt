-- The three public calls: for each the answer with the new state, the memory and the output, whatever the input.
-- From 01, "Numbers a call can give" and "The tag's share of the code", and from 02, E7 and E2: "Each call that may seek a header hands
-- the number on", which is how many bytes were passed over.
use Rattle.std.specs.Prelude.{ℕ, ◌-◌, cond, false, List, ◌++◌, ltb, length, drop, pos, Float, Option, Some, None, Result, Ok, Err}
use Rattle.std.specs.Float.{fin}
use Rattle.ground.specs.Table.{table}
use Rattle.buffer.specs.Bits.{longest_stream}
use Rattle.buffer.specs.Calls.{align_of}
use Rattle.buffer.specs.declared.Reader.{Reader}
use Rattle.refusal.specs.declared.Refusal.{Refusal}
use Rattle.refusal.specs.declared.Refusal.TheVariants.{LongStream, LittleRoom}
use Rattle.tables.specs.Standard.{rate_of, kbps_of}
use Rattle.synthesis.specs.Slots.{position_after, memory_length}
use Rattle.frame.specs.Frame.{cut_format, granules_at, frame_memory, frame_output}
use Rattle.header.specs.declared.Format.{Format}
use Rattle.readings.specs.declared.Reading.{Reading}
use Rattle.state.specs.State.{fresh, framed_to}
use Rattle.state.specs.declared.Audio.{Audio}
use Rattle.verdict.specs.Verdict.{Heading, Asked, attempt_of, unless_at_once, ready_of, known_of}
use Rattle.verdict.specs.declared.Answered.{Answered}
use Rattle.audio.specs.declared.ClipFormat.{ClipFormat}
use Rattle.audio.specs.declared.Answer.{Answer}
use Rattle.audio.specs.declared.Answer.TheVariants.{Frame, Refused}

abbrev pub Reply : Type 0
Reply = Result ClipFormat Refusal

abbrev pub Replied : Type 0
Replied = Answered Reply

abbrev pub Decoded : Type 0
Decoded = Answered Answer

-- ---- a frame, from a state whose header is pending and whose data are there

-- "after it the position is aligned; it is not moved to the frame's end"
abbrev pub by_moved : Reader → Result Reader Refusal → Reader
by_moved r (Ok x) = x
by_moved r (Err n) = r

unfoldable pub aligned_of : List ℕ → Reader → Reader
aligned_of s r = by_moved r (align_of s r)

-- the bits used are "how far the position moves .. until the final alignment, which is not counted"
unfoldable pub after_of : List ℕ → ℕ → Audio → Reader → ℕ → Decoded
after_of s skipped a end ring =
    record {
      answer = Frame a.time (end.at.0 - a.reader.at.0);
      state = framed_to (aligned_of s end) (cut_format a.format) ring a;
      skipped = skipped;
    }

unfoldable pub framed_of : List ℕ → ℕ → Audio → Decoded
framed_of s skipped a = after_of s skipped a (granules_at s a.reader a.format).next (position_after a.ring 36)

unfoldable pub framed_memory : List ℕ → Audio → List Float → List Float
framed_memory s a memory = frame_memory (granules_at s a.reader a.format).value a.ring memory

unfoldable pub framed_output : List ℕ → Audio → List Float → List Float → List Float
framed_output s a memory output = frame_output (granules_at s a.reader a.format).value a.ring memory output

-- ---- decode: a frame, or a number, which leaves memory and output as they were

abbrev pub answering : List ℕ → ℕ → Heading → Audio → Decoded
answering s skipped (Ok _) a = framed_of s skipped a
answering s skipped (Err n) a = record { answer = Refused n; state = a; skipped = skipped }

abbrev pub remembering : List ℕ → List Float → Heading → Audio → List Float
remembering s memory (Ok _) a = framed_memory s a memory
remembering s memory (Err n) a = memory

abbrev pub sounding : List ℕ → List Float → List Float → Heading → Audio → List Float
sounding s memory output (Ok _) a = framed_output s a memory output
sounding s memory output (Err n) a = output

unfoldable pub decode_of : List ℕ → List Float → List Float → Audio → Decoded
decode_of s memory output a =
    let r = ready_of s (length memory) (length output) a in answering s r.skipped r.answer r.state

unfoldable pub decode_memory : List ℕ → List Float → List Float → Audio → List Float
decode_memory s memory output a =
    let r = ready_of s (length memory) (length output) a in remembering s memory r.answer r.state

unfoldable pub decode_output : List ℕ → List Float → List Float → Audio → List Float
decode_output s memory output a =
    let r = ready_of s (length memory) (length output) a in sounding s memory output r.answer r.state

-- ---- new: "unless it gives 8 or 9 it fills the memory's first 2,048 values with +0.0"

unfoldable pub blank : List Float
blank = table memory_length (λ _. fin false 0 (pos 0))

-- 8 or 9; or none
unfoldable pub no_room_of : List ℕ → ℕ → Option Refusal
no_room_of s memory = cond (ltb longest_stream (length s)) (Some LongStream) (cond (ltb memory memory_length) (Some LittleRoom) None)

unfoldable pub open_of : Reading → List ℕ → List Float → Asked
open_of reading s memory = unless_at_once (no_room_of s (length memory)) (fresh reading) (attempt_of s (fresh reading))

abbrev pub clearing : Option Refusal → List Float → List Float
clearing None memory = blank ++ drop memory_length memory
clearing (Some n) memory = memory

unfoldable pub open_memory : List ℕ → List Float → List Float
open_memory s memory = clearing (no_room_of s (length memory)) memory

-- ---- format: 02, E7: "attempts a header if there is none, and answers with sample rate, kbps and mode, or with the refusal number"

-- samples a second, kilobits a second, and the mode as a header has it: the units of the lister's line
abbrev pub clip_format : ℕ → ℕ → ℕ → ClipFormat
clip_format rate kbps mode = record { rate = rate; kbps = kbps; mode = mode }

abbrev pub saying : Heading → Format → Reply
saying (Ok _) f = Ok (clip_format (rate_of f.samplerate) (kbps_of f.bitrate) f.mode)
saying (Err n) f = Err n

-- and the state goes with it
abbrev pub replying : Asked → Replied
replying x = record { answer = saying x.answer x.state.format; state = x.state; skipped = x.skipped }

-- the position has moved if it was refused, and a header that was accepted is pending
unfoldable pub format_of : List ℕ → Audio → Replied
format_of s a = replying (known_of s a)
