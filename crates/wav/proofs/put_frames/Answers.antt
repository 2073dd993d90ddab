use Prim.Native.Nat.{◌<◌}
use native.Mathlib.Numerals.{add-one}
use mathlib.Core.Path.{◌≡◌, subst, ◌∙◌}
use native.Mathlib.Omega.{arith}
use lib.Ieee.{of_bits}
use lib.ListN.{length}
use Rattle.clip.specs.Frames.{clip_of}
use Rattle.clip.specs.Turns.{heard_next, begins, found_at}
use Rattle.clip.specs.File.{frame_first, none_behind}
use Rattle.scribe.specs.Page.{Leaves}
use Rattle.scribe.specs.PageLaws.{left_next, left_behind, none_left}
use Rattle.scribe.specs.declared.Whole.TheVariants.{Wave}
use Rattle.wav.proofs.put_frames.Goals as goal

pub loop-init : goal.loop-init
unfolding of_bits
loop-init c =
    let e = c.start-playing.ensures in record { played = begins _ _ _ e.value e.memory_after; left = c.requires.left }

-- the turn at frame i finds it: that frame comes next, and then the other frames
pub put-requires : goal.put-requires
put-requires c =
    let l = c.loop in
    let n = c.next-reached in
    let e = n.ensures in
    let inside : l.counter < length (clip_of (c.args.stream.now)) = omega arith in
    let found = found_at _ _ _ _ _ inside (l.invariant.played ∙ heard_next _ _ _ _ _ _ _ _ e.value e.memory_after e.output_after) in
    rw c.write_samples.ensures (left_next _ (subst (Leaves Wave _ _) (frame_first _ _ _ inside found.0) l.invariant.left))

pub loop-preserved : goal.loop-preserved
loop-preserved c =
    let l = c.loop in
    let n = c.next-reached in
    let e = n.ensures in
    let inside : l.counter < length (clip_of (c.args.stream.now)) = omega arith in
    let found = found_at _ _ _ _ _ inside (l.invariant.played ∙ heard_next _ _ _ _ _ _ _ _ e.value e.memory_after e.output_after) in
    let put = rw c.write_samples.ensures at c.put.ensures in
    let left = left_behind put (subst (Leaves Wave _ _) (frame_first _ _ _ inside found.0) l.invariant.left) in
    record { played = rw (add-one l.counter) found.1; left = rw (add-one l.counter) left }

pub returns : goal.returns
returns c =
    let l = c.loop in
    let all : l.counter ≡ length (clip_of (c.args.stream.now)) = omega arith in
    none_left (subst (Leaves Wave _ _) (none_behind _ _ all) l.invariant.left)
