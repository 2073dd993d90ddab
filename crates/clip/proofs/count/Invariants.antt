use Prim.Native.Nat.{ℕ, ◌+◌}
use mathlib.Core.List.{List}
use lib.Ieee.{Float}
use mathlib.Core.Path.{◌≡◌}
use lib.ListN.{length}
use Rattle.synthesis.specs.Slots.{memory_length, output_length}
use Rattle.clip.specs.Frames.{Heard, clip_of, rate_in}
use Rattle.clip.specs.declared.Reached.{Reached}
use Rattle.clip.specs.Turns.{heard_by}
use Rattle.clip.proofs.count.Given as goal

-- what is heard from here on
abbrev pub heard_from : List ℕ → Reached → List Float → List Float → List Heard
heard_from s at memory output = heard_by s (record { reached = at; memory = memory; output = output })

abbrev pub invariant-loop-at : goal.invariant-loop-at
invariant-loop-at l =
    (length l.memory ≡ memory_length) × (length l.output ≡ output_length) × (l.rate ≡ rate_in (clip_of l.stream))
    × (l.frames + length (heard_from l.stream l.at l.memory l.output) ≡ length (clip_of l.stream))

abbrev pub decreases-loop-at : goal.decreases-loop-at
decreases-loop-at l =
    length (heard_from l.stream l.at l.memory l.output)
