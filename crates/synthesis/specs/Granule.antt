-- A frame is twelve granules: one granule more, after n slots, is three slots more of the run. For the loop of a caller.
-- From 01, "From a header to codes" (12 granules) and "From samples to sound". Assumes nothing.
use Rattle.std.specs.Prelude.{◌≡◌, List, ℕ, ◌+◌, ◌*◌, ◌≤◌, ◌<◌, ℤ, length, Float}
use Rattle.window.specs.Output.{Place}
use Rattle.synthesis.specs.Slots.{memory_length, position_after, memory_after, output_after}
use Rattle.synthesis.specs.Ring.{SameSlots, slots_from, position_add}
use Rattle.synthesis.specs.Memory.{memory_add, memory_alike}
use Rattle.synthesis.specs.Output.{output_add, output_alike}

-- f: the samples of the whole run; g: those of the granule
module _ (f g : ℕ → ℕ → List ℤ) {p : ℕ} (h : Place p) (memory output : List Float) (big : memory_length ≤ length memory) (at n k : ℕ)
    (same : (channel : ℕ) → channel < 2 → SameSlots k (g channel) (slots_from n (f channel))) where
  pub granule_position : position_after (position_after p n) k ≡ position_after p (n + k)
  granule_position = rw position_add

  pub granule_memory : memory_after g (position_after p n) (memory_after f p memory n) k ≡ memory_after f p memory (n + k)
  granule_memory =
      rw (memory_add f h memory big n k) (memory_alike g (λ channel. slots_from n (f channel)) (position_after p n) (memory_after f p memory n) k same)

  pub granule_output :
      output_after g (position_after p n) (memory_after f p memory n) (output_after f p memory output at n) (at + 64 * n) k
      ≡ output_after f p memory output at (n + k)
  granule_output =
      rw (output_add f p memory output at h big n k)
      (output_alike g (position_after p n) (memory_after f p memory n) (output_after f p memory output at n) (at + 64 * n)
      (λ channel. slots_from n (f channel)) k same)
