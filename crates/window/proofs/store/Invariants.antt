use mathlib.Core.Path.{◌≡◌}
use lib.ListN.{get_or}
use lib.Ieee.{nan}
use Rattle.window.specs.Output.{stores}
use Rattle.window.proofs.store.Given as goal

abbrev pub invariant-loop-j : goal.invariant-loop-j
invariant-loop-j l = l.output ≡ stores l.initial.output l.at (λ k. get_or l.values k nan) l.j
