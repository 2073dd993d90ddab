use Prim.Native.Nat.{◌+◌, ◌-◌, ◌/◌}
use mathlib.Core.Path.{refl}
use lib.ListN.{length}
use Rattle.std.proofs.Math.Nat.{sub-zero}
use native.Mathlib.Omega.{arith}
use lib.Ieee.{of_bits}
use Rattle.listing.specs.LinesLaws.{opening_carries_few}
use Rattle.scribe.specs.PageLaws.{all_left, left_next, left_behind}
use Rattle.report.proofs.Turns.{begins, line_next, no_calls, after_last, after_other}
use Rattle.report.proofs.list.Goals as goal

pub put_opening-requires : goal.put_opening-requires
unfolding of_bits
put_opening-requires c =
    let e = c.new-opened.ensures in
    left_next _ (all_left _ c.new-page.ensures (begins _ _ _ _ _ c.requires e.value e.memory_after _ refl))

pub loop-init : goal.loop-init
unfolding of_bits
loop-init c =
    let e = c.new-opened.ensures in
    record {
      few = opening_carries_few _ _ _ _ _ e.value c.carried-carried.ensures;
      left = rw (sub-zero _) (left_behind c.put_opening.ensures
          (all_left _ c.new-page.ensures (begins _ _ _ _ _ c.requires e.value e.memory_after _ c.carried-carried.ensures)));
    }

pub put_line-requires : goal.put_line-requires
put_line-requires c =
    let e = c.next_line-listed.ensures in
    line_next _ _ _ _ _ _ _ c.loop.invariant.left (length c.args.stream.now / 2 + 2 - (c.loop.counter + 1)) _ _ _ (omega arith) e.value e.memory_after e.output_after

pub loop-preserved : goal.loop-preserved
loop-preserved c =
    let e = c.next_line-listed.ensures in
    record {
      few = omega arith;
      left = after_other _ _ _ _ _ _ _ c.loop.invariant.left (length c.args.stream.now / 2 + 2 - (c.loop.counter + 1)) _ _ _ (omega arith) e.value e.memory_after e.output_after
          c.put_line.ensures _ c.is_last.ensures c.if-is_last.false;
    }

pub returns-after-loop : goal.returns-after-loop
returns-after-loop c = no_calls _ _ _ _ _ _ _ c.loop.invariant.left (omega arith)

pub returns-then-is_last : goal.returns-then-is_last
returns-then-is_last c =
    let e = c.next_line-listed.ensures in
    after_last _ _ _ _ _ _ _ c.loop.invariant.left (length c.args.stream.now / 2 + 2 - (c.loop.counter + 1)) _ _ _ (omega arith) e.value e.memory_after e.output_after
    c.put_line.ensures _ c.is_last.ensures c.if-is_last.true
