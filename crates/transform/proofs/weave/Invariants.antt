use mathlib.Core.Path.{◌≡◌}
use Prim.Native.Nat.{ℕ, ◌+◌, ◌<◌}
use lib.ListN.{length}
use Rattle.transform.specs.Transform.{at, joined_at}
use Rattle.transform.proofs.weave.Given as goal

abbrev pub invariant-loop-i : goal.invariant-loop-i
invariant-loop-i l =
    ((k : ℕ) → k < l.i → at l.values (k + k) ≡ at l.first k) × ((k : ℕ) → k < l.i → at l.values (k + k + 1) ≡ joined_at (length l.second) l.second k)
