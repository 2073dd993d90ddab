-- A slot's 32 outputs of one channel, from a ring of 1,024 values: sixteen products each, added in the source's order.
-- From 01, "From samples to sound"; ISO/IEC 11172-3, 2.4.3.2.2 (the window and the sum of sixteen vectors). Assumes nothing.
use Rattle.std.specs.Prelude.{ℕ, zero, suc, ◌+◌, ◌-◌, ◌*◌, ◌/◌, ◌%◌, ◌<◌, ◌≡◌, false, true, List, pos, get_or, set, Float}
use Rattle.std.specs.Float.{fin, nan, binary32}
use Rattle.std.specs.Float.Ieee.{add, mul, div}
use Rattle.window.specs.Window.{window_at}

-- a ring position: a multiple of 64 below 1,024
pub record Place (p : ℕ) : Type 0 where
  pub whole : p % 64 ≡ 0
  pub on_ring : p < 1024

-- +0.0, and -1090519040 = -65 * 2 ^ 24
abbrev pub nought : Float
nought = fin false 0 (pos 0)

abbrev pub divisor : Float
divisor = fin true 65 (pos 24)

-- x with n products added, one after the other: window (w + 64 k) mod 512 with ring r + 128 k
unfoldable pub taps : List Float → ℕ → ℕ → ℕ → Float → Float
taps ring w r zero x = x
taps ring w r (suc k) x = add binary32 (taps ring w r k x) (mul binary32 (window_at ((w + 64 * k) % 512)) (get_or ring (r + 128 * k) nan))

-- output j of the slot at p. The second eight start in the ring at 96 where p mod 128 is 0, and at 64 where it is 64
unfoldable pub output_of : List Float → ℕ → ℕ → Float
output_of ring p j =
    div binary32
    (taps ring (544 - p / 2 + j) (96 - p % 128 / 2 + j) 8 (taps ring (512 - p / 2 + j) (p % 128 / 2 + j) 8 nought))
    divisor

-- f 0, .., f (n - 1) stored at every second place from `at` on
unfoldable pub stores : List Float → ℕ → (ℕ → Float) → ℕ → List Float
stores output at f zero = output
stores output at f (suc n) = set (stores output at f n) (at + 2 * n) (f n)
