use Prim.Native.Nat.{◌-◌, ◌+◌, ◌≤◌}
use mathlib.Core.Path.{◌≡◌}
use lib.ListN.{length}
use Rattle.ground.specs.First.{first_from}
use Rattle.buffer.specs.Bits.{pair_at, stop_of}
use Rattle.buffer.proofs.first_pair.Given as goal

abbrev pub invariant-loop-i : goal.invariant-loop-i
invariant-loop-i l = (first_from (pair_at l.s) (length l.s - 1 - l.i) l.i ≡ stop_of l.s l.initial.i) × (l.initial.i ≤ l.i) × (l.i ≤ l.initial.i + length l.s)

abbrev pub decreases-loop-i : goal.decreases-loop-i
decreases-loop-i l = l.last - l.i
