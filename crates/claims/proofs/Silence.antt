-- The sound of 01's frame of zeros, of specs/Silence: all its samples are −0.0. Assumes nothing.
use Prim.Native.Nat.{ℕ, ◌+◌, ◌-◌, ◌*◌, ◌≤◌, ◌<◌}
use Rattle.std.specs.Prelude.{◌≡◌, true, List, pos, Float, length}
use Rattle.std.proofs.Math.Path.{ap}
use Rattle.std.proofs.Common.{zero-add, arith}
use Rattle.std.specs.Float.{fin, binary32}
use Rattle.std.specs.Float.Ieee.{to_bits}
use Rattle.synthesis.specs.Slots.{memory_length, output_length}
use Rattle.finite.specs.Each.{each_output}
use Rattle.frame.specs.Frame.{slots_of}
use Rattle.past.specs.Calls.{new_output, sample, granules_in, accepted_leaves}
use Rattle.past.specs.Ring.{ring_in_place, memory_kept_long}
use Rattle.claims.specs.Example.{opening, opened_on_zeros, zeros_accepted}
use Rattle.claims.specs.Silence.{Zero, silent_sums, memory_zero, slots_zero}

module _ (m o : List Float) (long : memory_length ≤ length m) (room : output_length ≤ length o) where
  -- "All 2,304 samples of that frame, from a fresh opening, are −0.0"
  pub zeros_sound_minus_zero : (channel k : ℕ) → channel < 2 → 1 ≤ k → k ≤ 1152 → sample (new_output (opening m o)) channel k ≡ fin true 0 (pos 0)
  zeros_sound_minus_zero channel k two first last =
      let c = opening m o in
      let past = opened_on_zeros m o long room in
      rw ((accepted_leaves c (zeros_accepted m o long room)).output, ← zero-add (2 * (k - 1) + channel))
      (each_output Zero (slots_of (granules_in c)) (ring_in_place past) c.memory (memory_kept_long past) (memory_zero m o long room) 36 (slots_zero m o long room)
      (λ x. x ≡ fin true 0 (pos 0)) silent_sums o 0 room (2 * (k - 1) + channel) (omega arith))

  -- "(bits 80000000)"
  pub zeros_sound_80000000 : (channel k : ℕ) → channel < 2 → 1 ≤ k → k ≤ 1152 → to_bits binary32 (sample (new_output (opening m o)) channel k) ≡ 0x80000000
  unfolding to_bits
  zeros_sound_80000000 channel k two first last = ap (to_bits binary32) (zeros_sound_minus_zero channel k two first last)
