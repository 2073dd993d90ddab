-- `synthesis::synthesize` meets its contract: position, memory and output are those after `n` slots. Assumes nothing.
use mathlib.Core.Path.{refl, sym}
use Rattle.synthesis.specs.Slots.{position_after, slot_samples, output_after, interleaved}
use Rattle.synthesis.specs.Ring.{placed_before}
use Rattle.synthesis.specs.Memory.{memory_zero}
use Rattle.synthesis.proofs.Halves.{slot_more}
use Rattle.synthesis.proofs.synthesize.Goals as goal

pub loop-n-init : goal.loop-n-init
unfolding position_after output_after interleaved
loop-n-init c = record { on_ring = c.requires.0; position_is = refl; memory_is = sym (memory_zero _ _ _); output_is = refl }

pub loop-n-preserved : goal.loop-n-preserved
loop-n-preserved c =
    let a = c.args in
    let l = c.loop-n in
    let w = c.slot.ensures in
    let t =
    slot_more (slot_samples a.sample.now) c.requires.0 a.memory.now c.requires.1 l.n a.output.now a.at l.position l.memory _
    l.output _ l.invariant.position_is l.invariant.memory_is l.invariant.output_is (w.memory_after, w.output_after) in
    record { on_ring = placed_before l.invariant.on_ring; position_is = t.0; memory_is = t.1; output_is = t.2 }
