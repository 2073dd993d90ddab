use mathlib.Core.Path.{◌≡◌}
use Prim.Native.Nat.{ℕ, ◌<◌}
use Rattle.transform.specs.Transform.{at, sum_at, difference_at}
use Rattle.transform.proofs.halve.Given as goal

abbrev pub invariant-loop-i : goal.invariant-loop-i
invariant-loop-i l =
    ((k : ℕ) → k < l.i → at l.sums k ≡ sum_at l.half l.values k) × ((k : ℕ) → k < l.i → at l.differences k ≡ difference_at l.half l.factors l.values k)
