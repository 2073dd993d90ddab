-- The window's sums: ring values of at most 2 ^ 36 give outputs of at most 8,259,553. What is summed is in specs/Sums.
-- From 01, "From samples to sound". Assumes nothing.
use Rattle.std.specs.Prelude.{◌≡◌, true, List, get_or, Float}
use Rattle.std.proofs.Common.{mul-pos, lit<, lit≤}
use Prim.Native.Nat.{ℕ, ◌+◌, ◌-◌, ◌*◌, ◌/◌, ◌%◌, ◌^◌, ◌<◌}
use native.Mathlib.Omega.{arith}
use Rattle.std.specs.Float.{nan, inf, fin, binary32}
use Rattle.std.specs.Float.Ieee.{up, down, div, unlike}
use Rattle.std.specs.Float.Ieee.Fits.{down_pos}
use Rattle.window.specs.Output.{Place, taps, output_of, nought, divisor}
use Rattle.finite.specs.Within.{Within, round_within, within_up}
use Rattle.finite.specs.Sums.{weight, sixteen, room, fits, taps_within}

div_within : (x : Float) → Within (2 ^ 53) x → Within 8259553 (div binary32 x divisor)
unfolding div
div_within nan h = absurd h
div_within (inf s) h = absurd h
div_within (fin s m e) h =
    round_within (unlike s true) (m * up e * 1) (1090519040 * down e) 8259553 (mul-pos (lit< tt) (down_pos e)) (room (m * up e) (down e) h) fits

module _ (ring : List Float) (hushed : (i : ℕ) → i < 1024 → Within (2 ^ 36) (get_or ring i nan)) where
  pub output_of_within : (p j : ℕ) → Place p → j < 32 → Within 8259553 (output_of ring p j)
  unfolding output_of
  output_of_within p j hp hj =
      let w = 512 - p / 2 + j in
      let s = sixteen w (omega arith) in
      let v : 544 - p / 2 + j ≡ w + 32 = omega arith in
      let first = taps_within ring hushed w (p % 128 / 2 + j) (omega arith) 8 (lit≤ tt) 0 nought (lit≤ tt) (omega arith) in
      rw v
      (div_within _
      (within_up _ _ (taps ring (w + 32) (96 - p % 128 / 2 + j) 8 (taps ring w (p % 128 / 2 + j) 8 nought)) (omega arith)
      (taps_within ring hushed (w + 32) (96 - p % 128 / 2 + j) (omega arith) 8 (lit≤ tt) (0 + weight w 8) _ first (omega arith))))
