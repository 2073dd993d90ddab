use Prim.Native.Nat.{◌+◌, ◌-◌, ◌/◌}
use native.Mathlib.Omega.{arith}
use lib.Ieee.{of_bits}
use lib.ListN.{length}
use Rattle.std.proofs.Math.Nat.{sub-zero}
use Rattle.listing.specs.LinesLaws.{opening_carries_few}
use Rattle.tally.proofs.Turns.{begins, none_left, room_left, after_last, after_other}
use Rattle.tally.proofs.count.Goals as goal

pub loop-init : goal.loop-init
unfolding of_bits
loop-init c =
    let e = c.new-opened.ensures in
    record {
      few = opening_carries_few _ _ _ _ _ e.value c.carried-carried.ensures;
      left = rw (sub-zero _) (begins _ _ _ _ _ c.requires e.value e.memory_after c.opening-tally.ensures _ c.carried-carried.ensures);
    }

pub add-tally-requires : goal.add-tally-requires
add-tally-requires c =
    let e = c.next_line-listed.ensures in
    let i = c.loop.invariant in
    let whole = room_left _ _ _ _ _ _ _ _ c.requires i.left i.few (length c.args.stream.now / 2 + 2 - (c.loop.counter + 1)) _ _ _ (omega arith) e.value e.memory_after e.output_after in
    record { count_bound = whole.0; line_bound = whole.1 }

pub loop-preserved : goal.loop-preserved
loop-preserved c =
    let e = c.next_line-listed.ensures in
    let i = c.loop.invariant in
    record {
      few = omega arith;
      left = after_other _ _ _ _ _ _ _ _ c.requires i.left i.few (length c.args.stream.now / 2 + 2 - (c.loop.counter + 1)) _ _ _ (omega arith) e.value e.memory_after e.output_after
          _ _ c.add-tally.ensures c.is_last.ensures c.if-is_last.false;
    }

pub returns-after-loop : goal.returns-after-loop
returns-after-loop c = none_left _ _ _ _ _ _ _ _ c.requires c.loop.invariant.left (omega arith)

pub returns-then-is_last : goal.returns-then-is_last
returns-then-is_last c =
    let e = c.next_line-listed.ensures in
    let i = c.loop.invariant in
    after_last _ _ _ _ _ _ _ _ c.requires i.left i.few (length c.args.stream.now / 2 + 2 - (c.loop.counter + 1)) _ _ _ (omega arith) e.value e.memory_after e.output_after
    _ _ c.add-tally.ensures c.is_last.ensures c.if-is_last.true
