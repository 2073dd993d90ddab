use Prim.Native.Nat.{◌-◌}
use mathlib.Core.Path.{◌≡◌}
use lib.ListN.{length}
use Rattle.ground.specs.First.{first_from}
use Rattle.buffer.specs.Bits.{other_at, past_of}
use Rattle.buffer.proofs.first_other.Given as goal

abbrev pub invariant-loop-i : goal.invariant-loop-i
invariant-loop-i l = first_from (other_at l.s l.v) (length l.s - l.i) l.i ≡ past_of l.s l.v l.from.0
