-- The source's window loops (specs/Source) store `outputOf`, for every ring, ring position and channel. Assumes nothing.
use Prim.Native.Nat.{ℕ, zero, suc, ◌+◌, ◌-◌, ◌*◌, ◌/◌, ◌%◌, ◌≤◌, ◌<◌}
use Rattle.std.specs.Prelude.{◌≡◌, false, List, Float}
use Rattle.std.proofs.Math.Path.{refl, ap}
use Rattle.std.proofs.Common.{◌∙◌}
use native.Mathlib.Omega.{arith}
use Rattle.std.proofs.Math.ListN.{get_or}
use Rattle.std.specs.Float.{nan}
use Rattle.std.specs.Float.Ieee.{binary32, div, neg, round}
use Rattle.window.specs.Output.{Place, nought, divisor, output_of, stores}
use Rattle.window.specs.Source.{summed, divided, sounded, added_is_taps, low, low', first, second_loop}

-- ---- what they store is `outputOf`

module _ (v : List Float) {v_pos : ℕ} (place : Place v_pos) where
  output_at : (j : ℕ) → j < 32 → div binary32 (get_or (summed v v_pos).u j nan) (neg (round binary32 false 1090519040 1)) ≡ output_of v v_pos j
  unfolding output_of neg round
  output_at j b =
      ap (λ (x : Float). div binary32 x divisor)
      ((second_loop v place).holds j b
      ∙ added_is_taps v (first v place) (544 - v_pos / 2) (96 - v_pos % 128 / 2) (low' v place) j (omega arith) _
      (added_is_taps v (λ _. nought) (512 - v_pos / 2) (v_pos % 128 / 2) (low v place) j (omega arith) nought refl 8 (omega arith)) 8 (omega arith))

  module _ (interleaved : List Float) (out_pos ch : ℕ) where
    divided_is_stores : (n : ℕ) → n ≤ 32
        → divided (summed v v_pos).u interleaved out_pos ch n ≡ stores interleaved (2 * out_pos + ch) (output_of v v_pos) n
    unfolding stores
    divided_is_stores zero l = refl
    divided_is_stores (suc j) l =
        let e : (out_pos + j) * 2 + ch ≡ 2 * out_pos + ch + 2 * j = omega arith in
        rw (e, output_at j l, divided_is_stores j (omega arith))

    -- for every ring, ring position, place and channel
    pub source_is_output : sounded v v_pos interleaved out_pos ch ≡ stores interleaved (2 * out_pos + ch) (output_of v v_pos) 32
    unfolding sounded
    source_is_output = divided_is_stores 32 (omega arith)
