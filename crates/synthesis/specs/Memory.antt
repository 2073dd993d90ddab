-- Laws of the memory, which holds both channels' rings and a rest that stays. From 01, "From samples to sound". Assumes nothing.
use Rattle.std.specs.Prelude.{◌≡◌, ℕ, zero, suc, ◌+◌, ◌*◌, ◌≤◌, ◌<◌, ℤ, length, Float}
use Rattle.std.proofs.Math.Path.{sym, ap}
use Rattle.std.proofs.Common.{ap₂, ◌∙◌, arith, length-append, take-append-drop, length-take-le, drop-drop}
use mathlib.Core.List.{List, ◌++◌}
use Rattle.std.proofs.Math.ListN.{take, drop, length-drop}
use Rattle.std.proofs.Math.Seq.{take_at, drop_at}
use Rattle.window.specs.Output.{Place}
use Rattle.synthesis.specs.Slots.{memory_length, position_after, ring_after, ring_of, with_rings, memory_after}
use Rattle.synthesis.specs.Ring.{SameSlots, ring_length, ring_alike, ring_add, slots_from}

-- ---- the rings

-- a channel is 0 or 1
pub by_channel : (P : ℕ → Type 0) → P 0 → P 1 → (channel : ℕ) → channel < 2 → P channel
by_channel P left right zero two = left
by_channel P left right (suc zero) two = right
by_channel P left right (suc (suc channel)) two = absurd (omega arith)

pub ring_of_length : (channel : ℕ) → channel < 2 → (memory : List Float) → memory_length ≤ length memory → length (ring_of channel memory) ≡ 1024
unfolding ring_of
ring_of_length channel two memory big = length-take-le 1024 (drop (1024 * channel) memory) (omega (arith, length-drop (1024 * channel) memory))

with_own : (memory : List Float) → with_rings memory (λ channel. ring_of channel memory) ≡ memory
unfolding with_rings ring_of
with_own memory =
    ap (λ (z : List Float). take 1024 memory ++ (take 1024 (drop 1024 memory) ++ z)) (sym (drop-drop 1024 1024 memory))
    ∙ ap (λ (z : List Float). take 1024 memory ++ z) (take-append-drop 1024 (drop 1024 memory))
    ∙ take-append-drop 1024 memory

-- the two rings are all that counts
pub with_alike : (memory : List Float) (a b : ℕ → List Float) → ((channel : ℕ) → channel < 2 → a channel ≡ b channel)
    → with_rings memory a ≡ with_rings memory b
unfolding with_rings
with_alike memory a b e = ap₂ (λ x y. x ++ (y ++ drop memory_length memory)) (e 0 (omega arith)) (e 1 (omega arith))

module _ (memory : List Float) (ring : ℕ → List Float) (full : (channel : ℕ) → channel < 2 → length (ring channel) ≡ 1024) where
  past_left : drop 1024 (with_rings memory ring) ≡ ring 1 ++ drop memory_length memory
  unfolding with_rings
  past_left = drop_at (ring 0) (ring 1 ++ drop memory_length memory) 1024 (full 0 (omega arith))

  ring_of_with : (channel : ℕ) → channel < 2 → ring_of channel (with_rings memory ring) ≡ ring channel
  unfolding ring_of with_rings
  ring_of_with =
      by_channel (λ channel. ring_of channel (with_rings memory ring) ≡ ring channel)
      (take_at (ring 0) (ring 1 ++ drop memory_length memory) 1024 (full 0 (omega arith)))
      (ap (λ (z : List Float). take 1024 z) past_left ∙ take_at (ring 1) (drop memory_length memory) 1024 (full 1 (omega arith)))

  rest_of : drop memory_length (with_rings memory ring) ≡ drop memory_length memory
  rest_of =
      sym (drop-drop 1024 1024 (with_rings memory ring))
      ∙ ap (λ (z : List Float). drop 1024 z) past_left
      ∙ drop_at (ring 1) (drop memory_length memory) 1024 (full 1 (omega arith))

  with_with : (new : ℕ → List Float) → with_rings (with_rings memory ring) new ≡ with_rings memory new
  unfolding with_rings
  with_with new = ap (λ (z : List Float). new 0 ++ (new 1 ++ z)) rest_of

-- ---- runs of slots

module _ (f : ℕ → ℕ → List ℤ) {p : ℕ} (h : Place p) (memory : List Float) (big : memory_length ≤ length memory) where
  abbrev after : ℕ → ℕ → List Float
  after n channel = ring_after (f channel) p (ring_of channel memory) n

  full : (n channel : ℕ) → channel < 2 → length (after n channel) ≡ 1024
  full n channel two = ring_length (f channel) h (ring_of channel memory) (ring_of_length channel two memory big) n

  -- each ring is its channel's
  pub memory_ring : (channel : ℕ) → channel < 2 → (n : ℕ)
      → ring_of channel (memory_after f p memory n) ≡ ring_after (f channel) p (ring_of channel memory) n
  unfolding memory_after
  memory_ring channel two n = ring_of_with memory (after n) (full n) channel two

  pub memory_with : (n : ℕ) (new : ℕ → List Float) → with_rings (memory_after f p memory n) new ≡ with_rings memory new
  unfolding memory_after
  memory_with n new = with_with memory (after n) (full n) new

  pub memory_after_length : (n : ℕ) → length (memory_after f p memory n) ≡ length memory
  unfolding memory_after with_rings
  memory_after_length n = simp (length-append, length-drop, full n 0 (omega arith), full n 1 (omega arith)) (omega arith)

  -- n + k slots are n slots and k more
  pub memory_add : (n k : ℕ)
      → memory_after f p memory (n + k) ≡ memory_after (λ channel. slots_from n (f channel)) (position_after p n) (memory_after f p memory n) k
  unfolding memory_after
  memory_add n k =
      with_alike memory _ _
      (λ channel two. ring_add (f channel) p (ring_of channel memory) n k
      ∙ ap (λ (ring : List Float). ring_after (slots_from n (f channel)) (position_after p n) ring k) (sym (memory_ring channel two n)))
      ∙ sym (memory_with n _)

pub memory_zero : (f : ℕ → ℕ → List ℤ) (p : ℕ) (memory : List Float) → memory_after f p memory 0 ≡ memory
unfolding memory_after ring_after
memory_zero f p memory = with_own memory

-- only the samples of the first n slots matter
pub memory_alike : (f g : ℕ → ℕ → List ℤ) (p : ℕ) (memory : List Float) (n : ℕ) → ((channel : ℕ) → channel < 2 → SameSlots n (f channel) (g channel))
    → memory_after f p memory n ≡ memory_after g p memory n
unfolding memory_after
memory_alike f g p memory n e =
    with_alike memory _ _ (λ channel two. ring_alike (f channel) (g channel) p (ring_of channel memory) n (e channel two))
