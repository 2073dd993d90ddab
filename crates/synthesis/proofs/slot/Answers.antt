-- `synthesis::slot` meets its contract: the halves are lent one after the other. Assumes nothing.
use mathlib.Core.Path.{refl, ◌∙◌}
use Prim.Native.Nat.{◌+◌, ◌*◌, ◌≤◌}
use native.Mathlib.Omega.{arith}
use lib.ListN.{length}
use lib.Seq.{length-take-le}
use Rattle.synthesis.specs.Slots.{memory_length, ring_of, slot_samples}
use Rattle.synthesis.proofs.Halves.{part_is, both}
use Rattle.synthesis.proofs.slot.Goals as goal

pub returns : goal.returns
unfolding ring_of
returns c =
    let a = c.args in
    let left = 64 * a.n in
    let right = left + 32 in
    let big : memory_length ≤ length a.memory.now = c.requires.1 in
    let whole = both (slot_samples a.sample.now) a.memory.now a.p a.n a.output.now a.at _ _ _ _ _ _
    (part_is a.sample.now left right refl 0 a.n (omega arith)) (part_is a.sample.now right (right + 32) refl 1 a.n (omega arith))
    (c.channel_slot.auto.ring ∙ length-take-le 1024 a.memory.now (omega arith)) (c.channel_slot.ensures.ring_after, c.channel_slot.ensures.output_after) (c.channel_slot-2.ensures.ring_after, c.channel_slot-2.ensures.output_after) in
    record { memory_after = whole.0; output_after = whole.1 }
