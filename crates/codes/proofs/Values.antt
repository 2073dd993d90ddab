-- From the limit up all of a frame is 0, whatever the stream.
-- Assumes nothing.
use Prim.Native.Nat.{ℕ, ◌+◌, ◌*◌, ◌%◌, ◌<◌}
use Rattle.std.specs.Prelude.{Bool, ℤ, pos, get_or, set, replicate}
use Rattle.std.proofs.Common.{◌∙◌, arith}
use mathlib.Core.List.{List}
use Rattle.std.proofs.Math.Seq.{get_or-set_other}
use Rattle.ground.specs.Entries.{copies_at}
use Rattle.grammar.specs.Values.{Always, always_bind, anything, always_anything}
use Rattle.ground.specs.Stores.{three}
use Rattle.side.specs.Side.{Side, side_of}
use Rattle.side.specs.Values.{bands_always, pair_always, allocated_always}
use Rattle.codes.specs.Frame.{codes_of, three_samples_of, place_of, copied, sample_band_of, granule_of, frame_of}
use Rattle.codes.specs.Values.{Silent, All, granules_all}

module _ (limit : ℕ) where
  set_silent : (xs : List ℤ) (k : ℕ) (v : ℤ) → k % 32 < limit → Silent limit xs → Silent limit (set xs k v)
  unfolding Silent
  set_silent xs k v h p i l = get_or-set_other xs k i v (pos 0) (λ e. omega arith) ∙ p i l

  three_silent : (place : ℕ) (x y z : ℤ) (xs : List ℤ) → place % 32 < limit → Silent limit xs → Silent limit (three place x y z xs)
  three_silent place x y z xs h p =
      set_silent _ (place + 128) z (omega arith) (set_silent _ (place + 64) y (omega arith) (set_silent xs place x h p))

  samples_silent : (q factor place : ℕ) → place % 32 < limit → (xs : List ℤ) → Silent limit xs → Always (Silent limit) (three_samples_of q factor place xs)
  unfolding three_samples_of Always
  samples_silent q factor place h xs p =
      always_bind anything (Silent limit) (codes_of q) _ (always_anything (codes_of q)) (λ c _. three_silent place _ _ _ xs h p)

  place_silent : (side : Side) (part place : ℕ) → place % 32 < limit → (xs : List ℤ) → Silent limit xs → Always (Silent limit) (place_of side part place xs)
  unfolding place_of
  place_silent side part place h =
      allocated_always (Silent limit) side.quant (λ k. three_samples_of (get_or side.quant k 0) (get_or side.factor (part * 64 + k) 0) k) place
      (λ _. samples_silent (get_or side.quant place 0) (get_or side.factor (part * 64 + place) 0) place h)

  band_silent : (side : Side) (part bound sb : ℕ) → sb < limit → (xs : List ℤ) → Silent limit xs → Always (Silent limit) (sample_band_of side part bound sb xs)
  unfolding sample_band_of copied
  band_silent side part bound sb h =
      pair_always (Silent limit) _ _ _ _ (place_silent side part sb (omega arith)) (place_silent side part (sb + 32) (omega arith))
      (λ xs p. three_silent (sb + 32) _ _ _ xs (omega arith) p)

  zeros_silent : (n : ℕ) → Silent limit (replicate n (pos 0))
  unfolding Silent
  zeros_silent n i l = copies_at (pos 0) n i

  pub granule_silent : (side : Side) (part bound : ℕ) → Always (Silent limit) (granule_of side part bound limit)
  unfolding granule_of
  granule_silent side part bound =
      bands_always (Silent limit) (sample_band_of side part bound) limit (band_silent side part bound) limit (omega arith) _ (zeros_silent 192)

pub frame_silent : (mono : Bool) (table bound limit : ℕ) → Always (All (Silent limit)) (frame_of mono table bound limit)
unfolding frame_of
frame_silent mono table bound limit =
    always_bind anything (All (Silent limit)) (side_of mono table bound limit) _ (always_anything (side_of mono table bound limit))
    (λ side _. granules_all (Silent limit) side bound limit (λ part. granule_silent limit side part bound) 12)
