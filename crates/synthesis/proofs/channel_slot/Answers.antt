-- `synthesis::channel_slot` meets its contract: the ring's part that was lent comes back as the slot's values. Assumes nothing.
use mathlib.Core.Path.{◌≡◌}
use Prim.Native.Nat.{◌+◌, ◌-◌}
use native.Mathlib.Omega.{arith}
use Rattle.synthesis.specs.Slots.{put, slot_ring}
use Rattle.synthesis.proofs.channel_slot.Goals as goal

pub returns-clause-ring_after : goal.returns-clause-ring_after
unfolding slot_ring put
returns-clause-ring_after c = let whole : c.args.p + 64 - c.args.p ≡ 64 = omega arith in rw (whole, c.idct36.ensures)

pub returns-clause-output_after : goal.returns-clause-output_after
unfolding slot_ring put
returns-clause-output_after c = let whole : c.args.p + 64 - c.args.p ≡ 64 = omega arith in rw (whole, c.idct36.ensures) at c.window_slot.ensures
