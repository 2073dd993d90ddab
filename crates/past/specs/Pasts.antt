-- A decoder is a state and the memory that it is lent; its past is the calls since its opening. Demand 3: "any two pasts of calls
-- since opening, nothing else having written to their state or memory"; 01: an opening that gave 8 or 9 does not count as one.
-- Assumes nothing.
use Rattle.std.specs.Prelude.{ℕ, ◌≤◌, ◌≡◌, List, ◌++◌, Float, length, take}
use Rattle.synthesis.specs.Slots.{memory_length}
use Rattle.buffer.specs.Bits.{longest_stream}
use Rattle.audio.specs.Calls.{open_of, open_memory, format_of, decode_of, decode_memory}
use Rattle.readings.specs.declared.Reading.{Reading}
use Rattle.audio.specs.declared.Answer.TheVariants.{Refused}
use Rattle.state.specs.declared.Audio.{Audio}
use Rattle.refusal.specs.declared.Refusal.{Refusal}

-- every call may be on another stream and, where it takes one, another output: too long, too short, cut, changed, or the same again
pub data Past : Audio → List Float → Type 0 where
  opened : (c : Reading) (s : List ℕ) (m : List Float) → length s ≤ longest_stream → memory_length ≤ length m → Past (open_of c s m).state (open_memory s m)
  asked : {a : Audio} {m : List Float} → Past a m → (s : List ℕ) → Past (format_of s a).state m
  decoded : {a : Audio} {m : List Float} → Past a m → (s : List ℕ) (o : List Float) → Past (decode_of s m o a).state (decode_memory s m o a)
  -- a call that is refused touches no memory, so it may have been lent any other
  refused : {a : Audio} {m : List Float} → Past a m → (s : List ℕ) (other o : List Float) (n : Refusal) → (decode_of s other o a).answer ≡ Refused n
      → Past (decode_of s other o a).state m
  -- the slice that is lent may be longer than the memory, and what lies past it is the caller's: it may change, or be cut off
  relent : {a : Audio} {m : List Float} → Past a m → (more : List Float) → Past a (take memory_length m ++ more)
