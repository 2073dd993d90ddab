use Prim.Native.Nat.{◌*◌}
use native.Mathlib.Omega.{arith}
use mathlib.Core.Path.{ap, ◌∙◌}
use Rattle.grammar.specs.Values.{learnt}
use Rattle.codes.specs.Frame.{granule_of}
use Rattle.codes.specs.Values.{Bounded, granule_bounded}
use Rattle.synthesis.specs.Slots.{slot_samples, memory_after, output_after}
use Rattle.frame.proofs.Twelve.{bounded_small}
use Rattle.frame.proofs.granule.Goals as goal

pub synthesize-ring-requires : goal.synthesize-ring-requires
unfolding granule_of
synthesize-ring-requires c =
    let lent = c.requires.1 in
    let codes = learnt Bounded _ _ _ c.read_granule-end.ensures (granule_bounded _ c.args.side.now.ranged _ _ _) in
    (lent.place, lent.memory_long, bounded_small _ codes, omega (arith, lent.output_long))

pub returns : goal.returns
unfolding granule_of
returns c =
    let a = c.args in
    let read = c.read_granule-end.ensures in
    let sound = c.synthesize-ring.ensures in
    record {
      end_is = ap (λ z. z.next) read;
      ring_is = sound.value;
      memory_is = sound.memory_after ∙ ap (λ z. memory_after (slot_samples z.value) a.start.ring a.memory.now 3) read;
      output_is = sound.output_after ∙ ap (λ z. output_after (slot_samples z.value) a.start.ring a.memory.now a.output.now (192 * a.g) 3) read;
    }
