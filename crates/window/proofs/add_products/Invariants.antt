use mathlib.Core.Path.{◌≡◌}
use Prim.Native.Nat.{◌+◌}
use Rattle.window.specs.Output.{taps}
use Rattle.window.proofs.add_products.Given as goal

abbrev pub invariant-loop-k : goal.invariant-loop-k
invariant-loop-k l = l.total ≡ taps l.ring (l.row + l.j) (l.start + l.j) l.k l.sum
