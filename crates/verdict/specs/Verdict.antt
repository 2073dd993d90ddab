-- What a call asks before a frame is decoded: a header, pending or sought (1 to 6, 13), and its data (7). And what a question about the
-- format asks. From 01, "Numbers a call can give": order 8, 9, 10, then 1 to 6 as the header is read, then 7; and 02, E3. Assumes nothing.
use Rattle.std.specs.Prelude.{ℕ, ◌*◌, cond, List, eqb, ltb, length, Bool, true, false, Option, Some, None, Result, Ok, Err}
use Rattle.synthesis.specs.Slots.{memory_length, output_length}
use Rattle.buffer.specs.Bits.{longest_stream}
use Rattle.buffer.specs.Calls.{has_of}
use Rattle.buffer.specs.declared.Reader.{Reader}
use Rattle.refusal.specs.declared.Refusal.{Refusal}
use Rattle.refusal.specs.declared.Refusal.TheVariants.{CutOff, LongStream, LittleRoom, BadState}
use Rattle.header.specs.Header.{header_of, passed_by}
use Rattle.header.specs.declared.Attempt.{Attempt}
use Rattle.header.specs.declared.Accepted.{Accepted}
use Rattle.state.specs.State.{in_range, stands_at, pends}
use Rattle.state.specs.declared.Audio.{Audio}
use Rattle.verdict.specs.declared.Answered.{Answered}

-- whether a header is there, or why not
abbrev pub Heading : Type 0
Heading = Result (Unit {0}) Refusal

abbrev pub Asked : Type 0
Asked = Answered Heading

-- an answer and a state, with so many bytes passed over: 02, E2, "0 .. with no attempt"
abbrev pub asked : ℕ → Heading → Audio → Asked
asked skipped h a = record { answer = h; state = a; skipped = skipped }

-- an accepted header is pending; a refused one moves the position and keeps the old format
abbrev pub seeking : ℕ → Audio → Reader → Result Accepted Refusal → Asked
seeking skipped a r (Ok x) = asked skipped (Ok tt) (pends r x.format x.size a)
seeking skipped a r (Err n) = asked skipped (Err n) (stands_at r a)

abbrev pub tried : Audio → Attempt → Asked
tried a t = seeking (passed_by a.reader t) a t.next t.header

unfoldable pub attempt_of : List ℕ → Audio → Asked
attempt_of s a = tried a (header_of s a.reader a.format)

-- the header that is pending, or else the next
unfoldable pub headed_of : List ℕ → Audio → Asked
headed_of s a = cond (eqb a.pending 0) (attempt_of s a) (asked 0 (Ok tt) a)

-- 7: "fewer bits remain than 8 times its data size". What was passed over before the header is handed on
abbrev pub holding : ℕ → Audio → Result Bool Refusal → Asked
holding skipped a (Ok true) = asked skipped (Ok tt) a
holding skipped a (Ok false) = asked skipped (Err CutOff) a
holding skipped a (Err n) = asked skipped (Err n) a

unfoldable pub enough_of : List ℕ → ℕ → Audio → Asked
enough_of s skipped a = holding skipped a (has_of s a.reader (8 * a.pending))

abbrev pub going_on : List ℕ → ℕ → Heading → Audio → Asked
going_on s skipped (Ok _) a = enough_of s skipped a
going_on s skipped (Err n) a = asked skipped (Err n) a

abbrev pub pended : List ℕ → Asked → Asked
pended s h = going_on s h.skipped h.answer h.state

-- 8, 9 or 10, before anything is read, for a memory and an output of so many values; or none
unfoldable pub at_once_of : List ℕ → ℕ → ℕ → Audio → Option Refusal
at_once_of s memory output a =
    cond (ltb longest_stream (length s)) (Some LongStream)
    (cond (ltb memory memory_length) (Some LittleRoom)
    (cond (ltb output output_length) (Some LittleRoom) (cond (in_range a) None (Some BadState))))

-- what is asked next, where nothing is refused at once; else the refusal is given, and the state is the same
abbrev pub unless_at_once : Option Refusal → Audio → Asked → Asked
unless_at_once None a more = more
unless_at_once (Some n) a more = asked 0 (Err n) a

-- all of it
unfoldable pub ready_of : List ℕ → ℕ → ℕ → Audio → Asked
ready_of s memory output a = unless_at_once (at_once_of s memory output a) a (pended s (headed_of s a))

-- a question about the format (02, E7): the one that is known, else one attempt
abbrev pub knowing : List ℕ → Audio → Asked
knowing s a = cond (eqb a.format.samplerate 3) (attempt_of s a) (asked 0 (Ok tt) a)

-- all of it: 8, then 10, then that. No memory and no output is lent, so none is too short
unfoldable pub known_of : List ℕ → Audio → Asked
known_of s a = unless_at_once (at_once_of s memory_length output_length a) a (knowing s a)
