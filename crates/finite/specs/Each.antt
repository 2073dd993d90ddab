-- What holds of each value that slots write, and of +0.0, holds of each ring value since the memory was cleared; and what follows of a sum
-- of such values holds of each output. From 01, "From samples to sound". Assumes nothing.
use Rattle.std.specs.Prelude.{◌≡◌, List, ◌++◌, ℤ, get_or, length, drop, Float}
use Rattle.std.proofs.Common.{sym, ◌∙◌, subst, get_or-take}
use Prim.Native.Nat.{ℕ, zero, suc, ◌+◌, ◌-◌, ◌*◌, ◌/◌, ◌%◌, ◌≤◌, ◌<◌}
use native.Mathlib.Omega.{arith}
use Rattle.std.proofs.Math.Decide.{dec_lt}
use Rattle.std.proofs.Math.ListN.{replicate, get_or-append}
use Rattle.std.proofs.lemmas.List.{length-replicate, get_or-replicate}
use Rattle.std.proofs.Math.Seq.{get_or-drop}
use Rattle.std.specs.Float.Ieee.{nan}
use Rattle.transform.specs.Transform.{idct, idct_length}
use Rattle.window.specs.Output.{Place, nought, output_of}
use Rattle.synthesis.specs.Slots.{memory_length, position_after, put, ring_after, slot_ring, outputs_at, ring_of, memory_after, output_after}
use Rattle.synthesis.specs.Ring.{place_after, put_low, put_in, put_high, ring_length}
use Rattle.synthesis.specs.Memory.{ring_of_length, memory_ring}
use Rattle.synthesis.specs.Output.{output_at}

-- of each value of a ring, of both rings of a memory, and of each value that a slot's samples become
unfoldable pub Each : (Float → Type 0) → List Float → Type 0
Each P ring = (i : ℕ) → i < 1024 → P (get_or ring i nan)

abbrev pub InBothRings : (Float → Type 0) → List Float → Type 0
InBothRings P memory = (channel : ℕ) → channel < 2 → Each P (ring_of channel memory)

unfoldable pub Written : (Float → Type 0) → List ℤ → Type 0
Written P samples = (i : ℕ) → i < 64 → P (get_or (idct samples) i nan)

-- of each sum over a ring
unfoldable pub Summed : (Float → Type 0) → List Float → Type 0
Summed Q ring = (p j : ℕ) → Place p → j < 32 → Q (output_of ring p j)

-- n values of +0.0, n being a variable, so that 2,048 of them are not written out
zeros_at : (n i : ℕ) (more : List Float) → i < n → get_or (replicate n nought ++ more) i nan ≡ nought
zeros_at n i more h =
    get_or-append (replicate n nought) more nan i (omega (arith, length-replicate n nought)) ∙ get_or-replicate n i nought nan h

module _ (P : Float → Type 0) where
  move : {a b : Float} → a ≡ b → P b → P a
  move e h = subst P (sym e) h

  -- so each value of a cleared memory has what +0.0 has
  pub each_cleared : P nought → (n : ℕ) (more : List Float) → memory_length ≤ n → InBothRings P (replicate n nought ++ more)
  unfolding ring_of Each
  each_cleared z n more h channel two i l =
      let memory = replicate n nought ++ more in
      let k = 1024 * channel in
      move (get_or-take 1024 (drop k memory) i nan l ∙ get_or-drop k memory i nan ∙ zeros_at n (k + i) more (omega arith)) z

  -- ---- one channel

  each_put : (ring : List Float) (p : ℕ) (values : List Float) → p + 64 ≤ length ring → length values ≡ 64 → Each P ring
      → ((i : ℕ) → i < 64 → P (get_or values i nan)) → Each P (put ring p values)
  unfolding Each
  each_put ring p values room full h g i l = go (dec_lt i p) (dec_lt i (p + 64))
    where
      go : Dec (i < p) → Dec (i < p + 64) → P (get_or (put ring p values) i nan)
      go (yes a) _ = move (put_low ring p values room full i a) (h i l)
      go (no a) (yes b) =
          let e : i ≡ p + (i - p) = omega arith in
          rw e (move (put_in ring p values room full (i - p) (omega arith)) (g (i - p) (omega arith)))
      go (no a) (no b) =
          let e : i ≡ p + (64 + (i - p - 64)) = omega arith in
          rw e (move (put_high ring p values room full (i - p - 64)) (rw e at (h i l)))

  module _ (f : ℕ → List ℤ) {p : ℕ} (h : Place p) (ring : List Float) (full : length ring ≡ 1024) (each : Each P ring) where
    each_ring : (n : ℕ) → ((k : ℕ) → k < n → Written P (f k)) → Each P (ring_after f p ring n)
    unfolding ring_after slot_ring Written
    each_ring zero q = each
    each_ring (suc n) q =
        let at : Place (position_after p (suc n)) = place_after h (suc n) in
        each_put (ring_after f p ring n) (position_after p (suc n)) (idct (f n)) (omega (arith, ring_length f h ring full n)) (idct_length (f n))
        (each_ring n (λ k l. q k (omega arith))) (q n (omega arith))

    each_outputs : (Q : Float → Type 0) → ((r : List Float) → Each P r → Summed Q r)
        → (n j : ℕ) → ((k : ℕ) → k < suc n → Written P (f k)) → j < 32 → Q (outputs_at f p ring n j)
    unfolding outputs_at Summed
    each_outputs Q sums n j q = sums (ring_after f p ring (suc n)) (each_ring (suc n) q) (position_after p (suc n)) j (place_after h (suc n))

  -- ---- both channels

  module _ (f : ℕ → ℕ → List ℤ) {p : ℕ} (h : Place p) (memory : List Float) (big : memory_length ≤ length memory) (both : InBothRings P memory) (n : ℕ)
      (written : (channel : ℕ) → channel < 2 → (k : ℕ) → k < n → Written P (f channel k)) where
    pub each_after : InBothRings P (memory_after f p memory n)
    each_after channel two =
        subst (Each P) (sym (memory_ring f h memory big channel two n))
        (each_ring (f channel) h (ring_of channel memory) (ring_of_length channel two memory big) (both channel two) n (written channel two))

    pub each_output : (Q : Float → Type 0) → ((r : List Float) → Each P r → Summed Q r)
        → (output : List Float) (at : ℕ) → at + 64 * n ≤ length output → (i : ℕ) → i < 64 * n → Q (get_or (output_after f p memory output at n) (at + i) nan)
    each_output Q sums output at room i hi =
        let channel = i % 2 in
        let two : channel < 2 = omega arith in
        subst Q (sym (output_at f p memory output at n room i hi))
        (each_outputs (f channel) h (ring_of channel memory) (ring_of_length channel two memory big) (both channel two) Q sums (i / 64) (i % 64 / 2)
        (λ k l. written channel two k (omega arith)) (omega arith))
