use Prim.Native.Nat.{suc}
use native.Mathlib.Nat.{zero-add}
use lib.Ieee.{of_bits}
use mathlib.Core.Path.{◌≡◌, ap, sym, ◌∙◌}
use native.Mathlib.Omega.{arith}
use lib.ListN.{length}
use borrow.Author.Rules.{rules}
use Rattle.std.specs.Prelude.{is_some}
use Rattle.refusal.specs.Handed.{not_there}
use Rattle.clip.specs.Frames.{clip_of, rate_in}
use Rattle.clip.specs.Turns.{heard_next, few_in_clip, begins, told_rate, none_found, one_fewer}
use Rattle.clip.proofs.count.Invariants.{heard_from}
use Rattle.clip.proofs.count.Goals as goal

pub loop-at-init : goal.loop-at-init
unfolding of_bits
loop-at-init c =
    let o = c.start-opened.ensures in
    let e = c.next-at.ensures in
    let is = begins _ _ _ o.value o.memory_after ∙ heard_next _ _ _ _ _ _ _ _ e.value e.memory_after e.output_after in (
      search rules,
      search rules,
      c.unwrap_or-rate.ensures ∙ told_rate c.args.stream.now _ ∙ sym (ap rate_in is),
      zero-add _ ∙ ap length (sym is),
    )

pub overflow_add-frames : goal.overflow_add-frames
overflow_add-frames c =
    record { fits = omega (arith, c.well_formed.0, few_in_clip c.args.stream.now) }

-- what is heard from a turn's head is its frame and what is heard from its end
pub loop-at-smaller : goal.loop-at-smaller
loop-at-smaller c =
    let l = c.loop-at in
    let n = c.next-at-in-Some in
    let e = n.ensures in
    let s = c.args.stream.now in
    let less : length (heard_from s l.at l.memory l.output) ≡ suc (length (heard_from s n.result n.new.memory n.new.output)) =
    one_fewer _ _ _ (ap is_some c.in-Some.is) (heard_next _ _ _ _ _ _ _ _ e.value e.memory_after e.output_after) in
    omega (arith, less)

pub loop-at-preserved : goal.loop-at-preserved
loop-at-preserved c =
    let l = c.loop-at in
    let n = c.next-at-in-Some in
    let e = n.ensures in
    let s = c.args.stream.now in
    let less : length (heard_from s l.at l.memory l.output) ≡ suc (length (heard_from s n.result n.new.memory n.new.output)) =
    one_fewer _ _ _ (ap is_some c.in-Some.is) (heard_next _ _ _ _ _ _ _ _ e.value e.memory_after e.output_after) in
    (search rules, search rules, search rules, omega (arith, less, l.invariant.3))

pub returns : goal.returns
returns c =
    let l = c.loop-at in
    let s = c.args.stream.now in
    let none = none_found s (record { reached = l.at; memory = l.memory; output = l.output }) (ap is_some (not_there _ c.in_default.not-Some)) in
    let all : l.frames ≡ length (clip_of s) = omega (arith, l.invariant.3, ap length none) in
    cc (l.invariant.2, all)
