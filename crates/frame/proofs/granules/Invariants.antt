use mathlib.Core.Path.{◌≡◌}
use lib.ListN.{length}
use Rattle.side.specs.Info.{side_in}
use Rattle.frame.proofs.Twelve.{After}
use Rattle.frame.proofs.granules.Given as goal

abbrev pub invariant-loop-g : goal.invariant-loop-g
invariant-loop-g l =
    let side = l.side in
    (length l.memory ≡ length l.initial.memory) × (length l.output ≡ length l.initial.output)
    × After (side_in side) side.layout.bound side.layout.limit l.s l.initial.at.end l.initial.at.ring l.initial.memory l.initial.output l.g l.at.end l.at.ring l.memory l.output
