use mathlib.Core.Path.{◌≡◌}
use Rattle.grammar.specs.Reads.{run, taken}
use Rattle.side.specs.Side.{allocations_of}
use Rattle.side.proofs.allocations.Given as goal

abbrev pub invariant-loop-sb : goal.invariant-loop-sb
invariant-loop-sb l =
    taken l.quant l.next ≡ run (allocations_of l.layout.table l.layout.bound l.sb l.initial.quant) l.s l.initial.next
