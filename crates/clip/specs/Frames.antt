-- A clip as the frames that are heard of it. From 02, E1: "every decoded frame"; 01, the lister: "calls until 1 or 7".
-- Assumes nothing.
use Rattle.std.specs.Prelude.{ℕ, zero, suc, ◌+◌, ◌/◌, cond, Option, Some, None, List, [], ◌∷◌, Float, length}
use Rattle.synthesis.specs.Slots.{memory_length, output_length, quiet}
use Rattle.readings.specs.Readings.{plain}
use Rattle.tables.specs.Standard.{rate_of}
use Rattle.audio.specs.Calls.{open_of, open_memory, decode_of, decode_memory, decode_output}
use Rattle.audio.specs.Numbers.{ends}
use Rattle.refusal.specs.Numbers.{number_of}
use Rattle.state.specs.declared.Audio.{Audio}
use Rattle.audio.specs.declared.Answer.{Answer}
use Rattle.audio.specs.declared.Answer.TheVariants.{Frame, Refused}
use Rattle.clip.specs.declared.Playing.{Playing}
use Rattle.clip.specs.declared.Reached.{Reached}
use Rattle.clip.specs.declared.Counted.{Counted}

-- a frame: its 2,304 samples, left and right in turn, and how many of each are heard in a second
pub record Heard : Type 0 where
  pub rate : ℕ
  pub samples : List Float

-- what a call adds, by its answer and the state after it: a refusal other than 1 and 7 is no end, and nothing is heard of it
abbrev pub hearing : Answer → Audio → List Float → List Heard → List Heard
hearing (Frame time bits) a samples more = record { rate = rate_of a.format.samplerate; samples = samples } ∷ more
hearing (Refused n) a samples more = cond (ends (number_of n)) [] more

-- the frames of at most so many calls
unfoldable pub heard_of : ℕ → List ℕ → List Float → List Float → Audio → List Heard
heard_of zero s memory output a = []
heard_of (suc calls) s memory output a =
    let x = decode_of s memory output a in
    let m = decode_memory s memory output a in
    let o = decode_output s memory output a in
    hearing x.answer x.state o (heard_of calls s m o x.state)

-- from a fresh opening; on n bytes call n/2 + 2 and all later ones give 1 or 7 (claims, `settles`)
abbrev pub opened_of : List ℕ → List Float → Playing
opened_of s memory = record { state = (open_of plain s memory).state; calls = length s / 2 + 2 }

-- every frame of a clip
unfoldable pub clip_of : List ℕ → List Heard
clip_of s = let p = opened_of s (quiet memory_length) in heard_of p.calls s (open_memory s (quiet memory_length)) (quiet output_length) p.state

-- "A stream with no frame gives a file with no samples and rate 44100."
abbrev pub rate_in : List Heard → ℕ
rate_in [] = 44100
rate_in (x ∷ more) = x.rate

-- what the first pass counts
abbrev pub count_of : List ℕ → Counted
count_of s = record { frames = length (clip_of s); rate = rate_in (clip_of s) }

-- ---- one frame after the other

-- where the calls stand, with memory and output
pub record Turn : Type 0 where
  pub reached : Reached
  pub memory : List Float
  pub output : List Float

-- its parts
abbrev pub turn : Option ℕ → Audio → ℕ → List Float → List Float → Turn
turn rate a calls memory output =
    record { reached = record { rate = rate; playing = record { state = a; calls = calls } }; memory = memory; output = output }

-- a frame ends a turn, and so does the stream's end
abbrev pub turning : Answer → Audio → ℕ → List Float → List Float → Turn → Turn
turning (Frame time bits) a calls memory output more = turn (Some (rate_of a.format.samplerate)) a calls memory output
turning (Refused n) a calls memory output more = cond (ends (number_of n)) (turn None a calls memory output) more

-- the calls up to the next frame, or to the end
unfoldable pub turn_of : ℕ → List ℕ → List Float → List Float → Audio → Turn
turn_of zero s memory output a = turn None a 0 memory output
turn_of (suc calls) s memory output a =
    let x = decode_of s memory output a in
    let m = decode_memory s memory output a in
    let o = decode_output s memory output a in
    turning x.answer x.state calls m o (turn_of calls s m o x.state)
