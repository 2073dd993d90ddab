-- What slots make of the memory and the output. A slot has 32 samples of each channel; it moves the ring position back by 64,
-- writes the 64 values of `idct36` there in each channel's ring, and gives 32 outputs of each channel, interleaved.
-- From 01, "From samples to sound" and "The tag's share of the code" (memory and output). Assumes nothing.
use Rattle.std.specs.Prelude.{ℕ, zero, suc, ◌+◌, ◌*◌, ◌%◌, List, ◌++◌, ℤ, take, drop, replicate, Float}
use Rattle.transform.specs.Transform.{idct}
use Rattle.window.specs.Output.{nought, output_of, stores}

-- ---- the ring position

-- 64 places before p on the ring: where the next slot is written
abbrev pub place_before : ℕ → ℕ
place_before p = (p + 960) % 1024

-- the position after n slots
unfoldable pub position_after : ℕ → ℕ → ℕ
position_after p zero = p
position_after p (suc n) = place_before (position_after p n)

-- ---- one channel: a ring of 1,024 values

-- the ring with 64 values put at p
unfoldable pub put : List Float → ℕ → List Float → List Float
put ring p values = take p ring ++ (values ++ drop 64 (drop p ring))

-- with a slot's 64 values
unfoldable pub slot_ring : List Float → ℕ → List ℤ → List Float
slot_ring ring p samples = put ring p (idct samples)

-- from position p, f n being the samples of slot n
module _ (f : ℕ → List ℤ) (p : ℕ) (ring : List Float) where
  -- the ring after n slots
  unfoldable pub ring_after : ℕ → List Float
  ring_after zero = ring
  ring_after (suc n) = slot_ring (ring_after n) (position_after p (suc n)) (f n)

  -- the 32 outputs of slot n
  unfoldable pub outputs_at : ℕ → ℕ → Float
  outputs_at n = output_of (ring_after (suc n)) (position_after p (suc n))

-- ---- both channels

-- the values of the synthesis memory, two rings, and of a frame's output, 36 slots of 64: 01, "The tag's share of the code"
abbrev pub memory_length : ℕ
memory_length = 2048

abbrev pub output_length : ℕ
output_length = 2304

-- +0.0, n times: what a program's memory and output are before an opening
abbrev pub quiet : ℕ → List Float
quiet n = replicate n nought

-- a channel's ring, 0 being left and 1 right: the memory is the left ring, the right ring, the rest
unfoldable pub ring_of : ℕ → List Float → List Float
ring_of channel memory = take 1024 (drop (1024 * channel) memory)

-- the memory with other rings, the rest as it was
unfoldable pub with_rings : List Float → (ℕ → List Float) → List Float
with_rings memory ring = ring 0 ++ (ring 1 ++ drop memory_length memory)

-- the outputs of n slots, left and right in turn, from `at` on; out channel n being those of slot n
unfoldable pub interleaved : (ℕ → ℕ → ℕ → Float) → List Float → ℕ → ℕ → List Float
interleaved out output at zero = output
interleaved out output at (suc n) =
    stores (stores (interleaved out output at n) (at + 64 * n) (out 0 n) 32) (at + 64 * n + 1) (out 1 n) 32

-- f channel n being the samples of the channel in slot n: what slot n makes of the memory and the output, at position p
module _ (f : ℕ → ℕ → List ℤ) (memory : List Float) (p n : ℕ) where
  abbrev written : ℕ → List Float
  written channel = slot_ring (ring_of channel memory) p (f channel n)

  unfoldable pub slot_memory : List Float
  slot_memory = with_rings memory written

  unfoldable pub slot_output : List Float → ℕ → List Float
  slot_output output at = stores (stores output at (output_of (written 0) p) 32) (at + 1) (output_of (written 1) p) 32

-- and what n slots make of them, from position p
module _ (f : ℕ → ℕ → List ℤ) (p : ℕ) (memory : List Float) where
  unfoldable pub memory_after : ℕ → List Float
  memory_after n = with_rings memory (λ channel. ring_after (f channel) p (ring_of channel memory) n)

  unfoldable pub output_after : List Float → ℕ → ℕ → List Float
  output_after output at n = interleaved (λ channel. outputs_at (f channel) p (ring_of channel memory)) output at n

-- the samples of a channel in slot n, in a granule's (or a frame's) list: slot by slot, in each the left channel first
unfoldable pub slot_samples : List ℤ → ℕ → ℕ → List ℤ
slot_samples samples channel n = take 32 (drop (64 * n + 32 * channel) samples)
