use borrow.Author.Rules.{rules}
use Prim.Native.Nat.{◌*◌}
use mathlib.Core.Path.{◌≡◌, refl}
use native.Mathlib.Omega.{arith}
use Rattle.synthesis.specs.Ring.{place_after}
use Rattle.frame.specs.Frame.{frame_memory, frame_output}
use Rattle.frame.proofs.Twelve.{after_none, after_more}
use Rattle.frame.proofs.granules.Goals as goal

pub loop-g-init : goal.loop-g-init
loop-g-init c = (refl, refl, after_none _ _ _ _ _ _ _ _)

pub granule-at-requires : goal.granule-at-requires
granule-at-requires c =
    let l = c.loop-g in
    let lent = c.requires in (
      omega arith,
      record {
        place = rw l.invariant.2.place (place_after lent.place (3 * l.g));
        memory_long = omega (arith, lent.memory_long);
        output_long = omega (arith, lent.output_long);
      },
    )

pub loop-g-preserved : goal.loop-g-preserved
loop-g-preserved c =
    let lent = c.requires in
    let e = c.granule-at.ensures in (
      search rules,
      search rules,
      after_more _ _ _ _ _ _ _ _ lent.place lent.memory_long _ _ _ _ _ c.loop-g.invariant.2 _ _ _ _
          e.end_is e.ring_is e.memory_is e.output_is,
    )

pub returns : goal.returns
unfolding frame_memory frame_output
returns c =
    let l = c.loop-g in
    let done : l.g ≡ 12 = omega arith in
    let a = rw done at l.invariant.2 in
    record { end_is = a.read; ring_is = a.place; memory_is = a.kept; output_is = a.given }
