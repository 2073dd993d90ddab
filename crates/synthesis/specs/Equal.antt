-- Two channels with the same samples, on equal rings: the rings stay equal, and so are the outputs. For mono, which is "written to both
-- channels" (docs/DIFFERENCES.md, S10). Assumes nothing.
use Rattle.std.specs.Prelude.{◌≡◌, List, ℕ, ◌+◌, ◌*◌, ◌/◌, ◌%◌, ◌≤◌, ◌<◌, ℤ, pos, length, get_or, take, drop, Float}
use Rattle.std.proofs.Common.{sym, ap, ◌∙◌, subst, arith, length-drop, length-take-le, get_or-take, get_or-drop, ext_get_or}
use Rattle.std.specs.Float.{nan}
use Rattle.window.specs.Output.{Place}
use Rattle.synthesis.specs.Slots.{memory_length, ring_after, outputs_at, ring_of, memory_after, output_after, slot_samples}
use Rattle.synthesis.specs.Ring.{SameSlots, ring_alike, outputs_alike}
use Rattle.synthesis.specs.Memory.{memory_ring}
use Rattle.synthesis.specs.Output.{output_at}

-- a granule whose right samples are its left ones
pub slots_equal : (xs : List ℤ) → length xs ≡ 192 → ((i : ℕ) → i < 192 → i % 64 < 32 → get_or xs i (pos 0) ≡ get_or xs (i + 32) (pos 0))
    → SameSlots 3 (slot_samples xs 0) (slot_samples xs 1)
unfolding slot_samples
slots_equal xs full same n l =
    ext_get_or (pos 0) _ _ (many 0 (omega arith) ∙ sym (many 1 (omega arith)))
    (λ i h. let low : i < 32 = subst (λ (k : ℕ). i < k) (many 0 (omega arith)) h in
    entry 0 i (64 * n + i) low (omega arith) ∙ same (64 * n + i) (omega arith) (omega arith)
    ∙ sym (entry 1 i (64 * n + i + 32) low (omega arith)))
  where
    rest : ℕ → List ℤ
    rest channel = drop (64 * n + 32 * channel) xs

    many : (channel : ℕ) → channel < 2 → length (take 32 (rest channel)) ≡ 32
    many channel two = length-take-le 32 (rest channel) (omega (arith, length-drop (64 * n + 32 * channel) xs))

    entry : (channel i k : ℕ) → i < 32 → 64 * n + 32 * channel + i ≡ k → get_or (take 32 (rest channel)) i (pos 0) ≡ get_or xs k (pos 0)
    entry channel i k h e =
        get_or-take 32 (rest channel) i (pos 0) h ∙ get_or-drop (64 * n + 32 * channel) xs i (pos 0) ∙ ap (λ (j : ℕ). get_or xs j (pos 0)) e

module _ (f : ℕ → ℕ → List ℤ) {p : ℕ} (h : Place p) (memory : List Float) (big : memory_length ≤ length memory) (n : ℕ) (same : SameSlots n (f 0) (f 1))
    (rings : ring_of 0 memory ≡ ring_of 1 memory) where
  pub rings_stay_equal : ring_of 0 (memory_after f p memory n) ≡ ring_of 1 (memory_after f p memory n)
  rings_stay_equal =
      memory_ring f h memory big 0 (omega arith) n ∙ ring_alike (f 0) (f 1) p (ring_of 0 memory) n same
      ∙ ap (λ (ring : List Float). ring_after (f 1) p ring n) rings ∙ sym (memory_ring f h memory big 1 (omega arith) n)

  pub outputs_equal : (output : List Float) (at : ℕ) → at + 64 * n ≤ length output → (k : ℕ) → k < 32 * n
      → get_or (output_after f p memory output at n) (at + 2 * k) nan ≡ get_or (output_after f p memory output at n) (at + (2 * k + 1)) nan
  outputs_equal output at room k l =
      let i = 2 * k in
      let left : i % 2 ≡ 0 = omega arith in
      let right : (i + 1) % 2 ≡ 1 = omega arith in
      let slot : (i + 1) / 64 ≡ i / 64 = omega arith in
      let place : (i + 1) % 64 / 2 ≡ i % 64 / 2 = omega arith in
      (rw left at (output_at f p memory output at n room i (omega arith)))
      ∙ ap (λ (out : ℕ → Float). out (i % 64 / 2)) (outputs_alike (f 0) (f 1) p (ring_of 0 memory) (i / 64) (λ j m. same j (omega arith)))
      ∙ ap (λ (ring : List Float). outputs_at (f 1) p ring (i / 64) (i % 64 / 2)) rings
      ∙ sym (rw (right, slot, place) at (output_at f p memory output at n room (i + 1) (omega arith)))
