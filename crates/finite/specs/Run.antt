-- Since the memory was cleared, through any slots whose samples are as the codes make them: every ring value is finite and at most 2 ^ 36,
-- and every output is finite and at most 8,259,553 (proofs/Run), so below 16,777,216. So no NaN is there, and equal values are equal bits.
-- From 01, "From samples to sound". Assumes nothing.
use Rattle.std.specs.Prelude.{List, ℕ, ◌^◌, ◌≤◌, ◌<◌, ℤ, length, Float}
use Rattle.window.specs.Output.{Place}
use Rattle.synthesis.specs.Slots.{memory_length, memory_after}
use Rattle.finite.specs.Within.{Within}
use Rattle.finite.specs.Halving.{Quiet, idct_within}
use Rattle.finite.specs.Each.{InBothRings, Written, each_after}

-- a memory that holds what such slots wrote
abbrev pub Calm : List Float → Type 0
Calm memory = InBothRings (Within (2 ^ 36)) memory

quiet_written : {samples : List ℤ} → Quiet samples → Written (Within (2 ^ 36)) samples
unfolding Written
quiet_written {samples} q = idct_within samples q

module _ (f : ℕ → ℕ → List ℤ) {p : ℕ} (h : Place p) (memory : List Float) (big : memory_length ≤ length memory) (calm : Calm memory) (n : ℕ)
    (quiet : (channel : ℕ) → channel < 2 → (k : ℕ) → k < n → Quiet (f channel k)) where
  pub written : (channel : ℕ) → channel < 2 → (k : ℕ) → k < n → Written (Within (2 ^ 36)) (f channel k)
  written channel two k l = quiet_written (quiet channel two k l)

  -- n slots leave a calm memory calm
  pub calm_after : Calm (memory_after f p memory n)
  calm_after = each_after (Within (2 ^ 36)) f h memory big calm n written
