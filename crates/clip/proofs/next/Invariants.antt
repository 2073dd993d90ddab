use mathlib.Core.Path.{◌≡◌}
use lib.ListN.{length}
use Rattle.clip.specs.Frames.{turn_of}
use Rattle.clip.proofs.next.Given as goal

abbrev pub invariant-loop-calls : goal.invariant-loop-calls
invariant-loop-calls l =
    (length l.memory ≡ length l.initial.memory) × (length l.output ≡ length l.initial.output)
    × (turn_of l.calls l.stream l.memory l.output l.state ≡ turn_of l.initial.calls l.stream l.initial.memory l.initial.output l.initial.state)

abbrev pub decreases-loop-calls : goal.decreases-loop-calls
decreases-loop-calls l = l.calls
