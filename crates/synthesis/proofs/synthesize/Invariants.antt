use mathlib.Core.Path.{◌≡◌}
use Rattle.window.specs.Output.{Place}
use Rattle.synthesis.specs.Slots.{position_after, slot_samples, memory_after, output_after}
use Rattle.synthesis.proofs.synthesize.Given as goal

abbrev pub invariant-loop-n : goal.invariant-loop-n
invariant-loop-n l = record {
  on_ring : Place l.position;
  position_is : l.position ≡ position_after l.p l.n;
  memory_is : l.memory ≡ memory_after (slot_samples l.sample) l.p l.initial.memory l.n;
  output_is : l.output ≡ output_after (slot_samples l.sample) l.p l.initial.memory l.initial.output l.at l.n;
}
