-- The memory's halves and the ring's part, lent one after the other: what comes back is a slot, and a turn of a run of slots.
-- From 01, "From samples to sound". Assumes nothing.
use mathlib.Core.Path.{◌≡◌, refl, ap, ap₂, ◌∙◌}
use mathlib.Core.List.{List, ◌++◌}
use Prim.Native.Nat.{ℕ, suc, ◌+◌, ◌-◌, ◌*◌, ◌≤◌}
use native.Mathlib.Numerals.{add-one}
use native.Mathlib.Omega.{arith}
use lib.IntN.{ℤ}
use lib.ListN.{length, take, drop}
use lib.Seq.{take_at, drop_at, drop-drop}
use lib.Ieee.{Float}
use borrow.Rule.Slice.PartMut.{put_mid, mid_of}
use Rattle.window.specs.Output.{Place, output_of, stores}
use Rattle.synthesis.specs.Slots.{memory_length, place_before, position_after, slot_ring, ring_after, outputs_at, ring_of, with_rings, interleaved, slot_memory, slot_output, memory_after, output_after, slot_samples}
use Rattle.synthesis.specs.Memory.{with_alike, memory_ring, memory_with}

-- ---- a slot's samples of one channel, from place a to place e

module _ (samples : List ℤ) (a e : ℕ) (wide : e ≡ a + 32) where
  w : e - a ≡ 32
  w = omega arith

  pub part_is : (channel n : ℕ) → a ≡ 64 * n + 32 * channel → take (e - a) (drop a samples) ≡ slot_samples samples channel n
  unfolding slot_samples
  part_is channel n is = rw (w, is)

-- ---- both channels: the left half of the memory is lent and comes back, then the right one

module _ (memory left : List Float) (full : length left ≡ 1024) where
  -- with the left half back, the right one is what it was
  right_after : mid_of 1024 1024 (put_mid 0 1024 memory left) ≡ ring_of 1 memory
  unfolding ring_of
  right_after = ap (λ (z : List Float). take 1024 z) (drop_at left (drop 1024 memory) 1024 full)

  both_after : (ring : ℕ → List Float) → left ≡ ring 0 → put_mid 1024 1024 (put_mid 0 1024 memory left) (ring 1) ≡ with_rings memory ring
  unfolding with_rings
  both_after ring is =
      ap (λ (z : List Float). z ++ (ring 1 ++ drop 1024 (drop 1024 (left ++ drop 1024 memory)))) (take_at left (drop 1024 memory) 1024 full)
      ∙ ap (λ (z : List Float). left ++ (ring 1 ++ drop 1024 z)) (drop_at left (drop 1024 memory) 1024 full)
      ∙ ap₂ (λ (y z : List Float). y ++ (ring 1 ++ z)) is (drop-drop 1024 1024 memory)

module _ (f : ℕ → ℕ → List ℤ) (memory : List Float) (p n : ℕ) (output : List Float) (at : ℕ) where
  pub both :
      (x y : List ℤ) (left right o₁ o₂ : List Float) → x ≡ f 0 n → y ≡ f 1 n → length left ≡ 1024
      → (left ≡ slot_ring (ring_of 0 memory) p x) × (o₁ ≡ stores output at (output_of (slot_ring (ring_of 0 memory) p x) p) 32)
      → (right ≡ slot_ring (mid_of 1024 1024 (put_mid 0 1024 memory left)) p y)
      × (o₂ ≡ stores o₁ (at + 1) (output_of (slot_ring (mid_of 1024 1024 (put_mid 0 1024 memory left)) p y) p) 32)
      → (put_mid 1024 1024 (put_mid 0 1024 memory left) right ≡ slot_memory f memory p n) × (o₂ ≡ slot_output f memory p n output at)
  unfolding slot_memory slot_output
  both x y left right o₁ o₂ ex ey full l r =
      let r' = rw (right_after memory left full) at r in
      (rw (r'.0, ey) (both_after memory left full _ (rw ex at l.0)), r'.1 ∙ rw (l.1, ex, ey))

-- ---- a turn of a run of slots

module _ (f : ℕ → ℕ → List ℤ) {p : ℕ} (h : Place p) (memory : List Float) (big : memory_length ≤ length memory) (n : ℕ) where
  memory_suc : slot_memory f (memory_after f p memory n) (position_after p (suc n)) n ≡ memory_after f p memory (suc n)
  unfolding slot_memory memory_after ring_after
  memory_suc =
      memory_with f h memory big n _ ∙ with_alike memory _ _
      (λ channel two. ap (λ (ring : List Float). slot_ring ring (position_after p (suc n)) (f channel n)) (memory_ring f h memory big channel two n))

  output_suc : (output : List Float) (at : ℕ)
      → slot_output f (memory_after f p memory n) (position_after p (suc n)) n (output_after f p memory output at n) (at + 64 * n)
      ≡ output_after f p memory output at (suc n)
  unfolding slot_output output_after interleaved outputs_at ring_after
  output_suc output at = rw (memory_ring f h memory big 0 (omega arith) n, memory_ring f h memory big 1 (omega arith) n)

  pub slot_more :
      (output : List Float) (at q : ℕ) (m₁ m₂ o₁ o₂ : List Float)
      → q ≡ position_after p n → m₁ ≡ memory_after f p memory n → o₁ ≡ output_after f p memory output at n
      → (m₂ ≡ slot_memory f m₁ (place_before q) n) × (o₂ ≡ slot_output f m₁ (place_before q) n o₁ (at + 64 * n))
      → (place_before q ≡ position_after p (n + 1)) × (m₂ ≡ memory_after f p memory (n + 1)) × (o₂ ≡ output_after f p memory output at (n + 1))
  unfolding position_after
  slot_more output at q m₁ m₂ o₁ o₂ eq em eo e =
      rw (add-one, e.0, e.1, em, eo, eq) (refl, memory_suc, output_suc output at)
