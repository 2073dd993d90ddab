-- Laws of the output, place by place: slots write left and right in turn from a place on, and nothing else.
-- From 01, "From samples to sound". Assumes nothing.
use Rattle.std.specs.Prelude.{◌≡◌, ◌⊎◌, ℤ, length, set, Float}
use Rattle.std.proofs.Math.Path.{refl, ap, subst}
use Rattle.std.proofs.Common.{sym, ◌∙◌, inl, inr, add-zero, add-suc, get_or-set_same}
use mathlib.Core.List.{List}
use Prim.Native.Nat.{ℕ, zero, suc, ◌+◌, ◌-◌, ◌*◌, ◌/◌, ◌%◌, ◌≤◌, ◌<◌}
use native.Mathlib.Omega.{arith}
use Rattle.std.proofs.Math.Decide.{ℕ_discrete}
use Rattle.std.proofs.Math.ListN.{get_or, length-set}
use Rattle.std.proofs.Math.Seq.{get_or-set_other}
use Rattle.std.specs.Float.Ieee.{nan}
use Rattle.window.specs.Output.{Place, stores}
use Rattle.synthesis.specs.Slots.{memory_length, position_after, outputs_at, ring_of, interleaved, memory_after, output_after}
use Rattle.synthesis.specs.Ring.{SameSlots, outputs_alike, outputs_add, slots_from}
use Rattle.synthesis.specs.Memory.{by_channel, memory_ring}

-- ---- stores at every second place

module _ (output : List Float) (at : ℕ) (f : ℕ → Float) where
  pub stores_length : (n : ℕ) → length (stores output at f n) ≡ length output
  unfolding stores
  stores_length zero = refl
  stores_length (suc n) = length-set (stores output at f n) (at + 2 * n) (f n) ∙ stores_length n

  -- a place that is none of those stored to is as it was
  pub stores_other : (n i : ℕ) → ((j : ℕ) → j < n → i ≡ at + 2 * j → ⊥) → get_or (stores output at f n) i nan ≡ get_or output i nan
  unfolding stores
  stores_other zero i h = refl
  stores_other (suc n) i h =
      get_or-set_other (stores output at f n) (at + 2 * n) i (f n) nan (λ e. h n (omega arith) e)
      ∙ stores_other n i (λ j l. h j (omega arith))

  -- and the j-th holds f j
  pub stores_at : (n : ℕ) → at + 2 * n ≤ length output + 1 → (j : ℕ) → j < n → get_or (stores output at f n) (at + 2 * j) nan ≡ f j
  unfolding stores
  stores_at zero room j l = absurd (none l)
    where
      none : j < 0 → ⊥
      none x = omega arith
  stores_at (suc n) room j l = go (stores_at n (omega arith) j) (ℕ_discrete j n)
    where
      go : (j < n → get_or (stores output at f n) (at + 2 * j) nan ≡ f j) → Dec (j ≡ n)
          → get_or (set (stores output at f n) (at + 2 * n) (f n)) (at + 2 * j) nan ≡ f j
      go before (yes e) =
          subst (λ (k : ℕ). get_or (set (stores output at f n) (at + 2 * n) (f n)) (at + 2 * k) nan ≡ f k) (sym e)
          (get_or-set_same (stores output at f n) (at + 2 * n) (f n) nan (omega (arith, stores_length n)))
      go before (no e) = get_or-set_other (stores output at f n) (at + 2 * n) (at + 2 * j) (f n) nan (omega arith) ∙ before (omega arith)

-- ---- slots of both channels

module _ (out : ℕ → ℕ → ℕ → Float) (output : List Float) (at : ℕ) where
  abbrev done : ℕ → List Float
  done n = interleaved out output at n

  -- with the left channel's outputs of slot n
  abbrev half : ℕ → List Float
  half n = stores (done n) (at + 64 * n) (out 0 n) 32

  pub interleaved_length : (n : ℕ) → length (done n) ≡ length output
  unfolding interleaved
  interleaved_length zero = refl
  interleaved_length (suc n) =
      stores_length (half n) (at + 64 * n + 1) (out 1 n) 32 ∙ stores_length (done n) (at + 64 * n) (out 0 n) 32 ∙ interleaved_length n

  -- slot n stores to its own 64 places
  slot_other : (n i : ℕ) → ((j : ℕ) → j < 64 → i ≡ at + 64 * n + j → ⊥) → get_or (done (suc n)) i nan ≡ get_or (done n) i nan
  unfolding interleaved
  slot_other n i h =
      stores_other (half n) (at + 64 * n + 1) (out 1 n) 32 i (λ j k e. h (1 + 2 * j) (omega arith) (omega arith))
      ∙ stores_other (done n) (at + 64 * n) (out 0 n) 32 i (λ j k e. h (2 * j) (omega arith) (omega arith))

  -- there the value 2 j + channel is the channel's output j
  slot_at : (n : ℕ) → at + 64 * suc n ≤ length output → (j : ℕ) → j < 32 → (channel : ℕ) → channel < 2
      → get_or (done (suc n)) (at + 64 * n + channel + 2 * j) nan ≡ out channel n j
  unfolding interleaved
  slot_at n room j hj =
      let first : at + 64 * n + 0 + 2 * j ≡ at + 64 * n + 2 * j = omega arith in
      by_channel (λ channel. get_or (done (suc n)) (at + 64 * n + channel + 2 * j) nan ≡ out channel n j)
      (ap (λ (z : ℕ). get_or (done (suc n)) z nan) first
      ∙ stores_other (half n) (at + 64 * n + 1) (out 1 n) 32 (at + 64 * n + 2 * j) (λ i l e. omega arith)
      ∙ stores_at (done n) (at + 64 * n) (out 0 n) 32 (omega (arith, interleaved_length n)) j hj)
      (stores_at (half n) (at + 64 * n + 1) (out 1 n) 32 (omega (arith, interleaved_length n, stores_length (done n) (at + 64 * n) (out 0 n) 32)) j hj)

  -- outside the n slots' places the output is as it was
  pub interleaved_other : (n i : ℕ) → (i < at) ⊎ (at + 64 * n ≤ i) → get_or (done n) i nan ≡ get_or output i nan
  unfolding interleaved
  interleaved_other zero i h = refl
  interleaved_other (suc n) i (inl h) = slot_other n i (λ j l e. omega arith) ∙ interleaved_other n i (inl h)
  interleaved_other (suc n) i (inr h) = slot_other n i (λ j l e. omega arith) ∙ interleaved_other n i (inr (omega arith))

  -- a later slot leaves an earlier one's places
  interleaved_kept : (n k i : ℕ) → i < at + 64 * n → get_or (done (n + k)) i nan ≡ get_or (done n) i nan
  interleaved_kept n zero i h = ap (λ (z : ℕ). get_or (done z) i nan) (add-zero n)
  interleaved_kept n (suc k) i h =
      ap (λ (z : ℕ). get_or (done z) i nan) (add-suc n k) ∙ slot_other (n + k) i (λ j l e. omega arith) ∙ interleaved_kept n k i h

  -- the place i behind `at` is of channel i mod 2, slot i / 64, output (i mod 64) / 2
  pub interleaved_at : (n : ℕ) → at + 64 * n ≤ length output → (i : ℕ) → i < 64 * n
      → get_or (done n) (at + i) nan ≡ out (i % 2) (i / 64) (i % 64 / 2)
  interleaved_at n room i hi =
      let k = i / 64 in
      let up : n ≡ suc k + (n - suc k) = omega arith in
      let place : at + i ≡ at + 64 * k + i % 2 + 2 * (i % 64 / 2) = omega arith in
      ap (λ (z : ℕ). get_or (done z) (at + i) nan) up
      ∙ interleaved_kept (suc k) (n - suc k) (at + i) (omega arith)
      ∙ ap (λ (z : ℕ). get_or (done (suc k)) z nan) place
      ∙ slot_at k (omega arith) (i % 64 / 2) (omega arith) (i % 2) (omega arith)

  -- n + k slots are n slots and k more
  pub interleaved_add : (n k : ℕ) → done (n + k) ≡ interleaved (λ channel i. out channel (n + i)) (done n) (at + 64 * n) k
  unfolding interleaved
  interleaved_add n zero = ap done (add-zero n)
  interleaved_add n (suc k) =
      let e : at + 64 * n + 64 * k ≡ at + 64 * (n + k) = omega arith in
      ap done (add-suc n k) ∙ rw (e, ← interleaved_add n k)

-- only the first n slots' outputs matter
pub interleaved_alike : (a b : ℕ → ℕ → ℕ → Float) (output : List Float) (at n : ℕ)
    → ((channel : ℕ) → channel < 2 → (k : ℕ) → k < n → a channel k ≡ b channel k) → interleaved a output at n ≡ interleaved b output at n
unfolding interleaved
interleaved_alike a b output at zero e = refl
interleaved_alike a b output at (suc n) e =
    let before = interleaved_alike a b output at n (λ channel two k l. e channel two k (omega arith)) in
    rw (e 0 (omega arith) n (omega arith), e 1 (omega arith) n (omega arith), before)

-- ---- runs of slots

module _ (f : ℕ → ℕ → List ℤ) (p : ℕ) (memory output : List Float) (at : ℕ) where
  abbrev outputs : ℕ → ℕ → ℕ → Float
  outputs channel = outputs_at (f channel) p (ring_of channel memory)

  pub output_after_length : (n : ℕ) → length (output_after f p memory output at n) ≡ length output
  unfolding output_after
  output_after_length n = interleaved_length outputs output at n

  pub output_other : (n i : ℕ) → (i < at) ⊎ (at + 64 * n ≤ i) → get_or (output_after f p memory output at n) i nan ≡ get_or output i nan
  unfolding output_after
  output_other n i h = interleaved_other outputs output at n i h

  -- the place i behind `at` is of channel i mod 2, slot i / 64, output (i mod 64) / 2
  pub output_at : (n : ℕ) → at + 64 * n ≤ length output → (i : ℕ) → i < 64 * n
      → get_or (output_after f p memory output at n) (at + i) nan ≡ outputs_at (f (i % 2)) p (ring_of (i % 2) memory) (i / 64) (i % 64 / 2)
  unfolding output_after
  output_at n room i hi = interleaved_at outputs output at n room i hi

  pub output_alike : (g : ℕ → ℕ → List ℤ) (n : ℕ) → ((channel : ℕ) → channel < 2 → SameSlots n (f channel) (g channel))
      → output_after f p memory output at n ≡ output_after g p memory output at n
  unfolding output_after
  output_alike g n e =
      interleaved_alike _ _ output at n
      (λ channel two k h. outputs_alike (f channel) (g channel) p (ring_of channel memory) k (λ i l. e channel two i (omega arith)))

  -- n + k slots are n slots and k more
  pub output_add : Place p → memory_length ≤ length memory → (n k : ℕ)
      → output_after f p memory output at (n + k)
      ≡ output_after (λ channel. slots_from n (f channel)) (position_after p n) (memory_after f p memory n) (output_after f p memory output at n) (at + 64 * n) k
  unfolding output_after
  output_add h big n k =
      interleaved_add outputs output at n k
      ∙ interleaved_alike _ _ (interleaved outputs output at n) (at + 64 * n) k
      (λ channel two i l. outputs_add (f channel) p (ring_of channel memory) n i
      ∙ ap (λ (ring : List Float). outputs_at (slots_from n (f channel)) (position_after p n) ring i) (sym (memory_ring f h memory big channel two n)))
