use mathlib.Core.Path.{◌≡◌}
use Rattle.grammar.specs.Reads.{run, taken}
use Rattle.codes.specs.Frame.{samples_from}
use Rattle.side.specs.Info.{side_in}
use Rattle.codes.proofs.read_granule.Given as goal

abbrev pub invariant-loop-sb : goal.invariant-loop-sb
invariant-loop-sb l =
    taken l.sample l.next ≡ run (samples_from (side_in l.side) l.part l.side.layout.bound l.sb l.initial.sample) l.s l.initial.next
