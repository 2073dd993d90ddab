-- Each output of such slots (specs/Run) is finite and at most 8,259,553.
-- From 01, "From samples to sound". Assumes nothing.
use Rattle.std.specs.Prelude.{List, ℕ, ◌+◌, ◌*◌, ◌^◌, ◌≤◌, ◌<◌, ℤ, get_or, length, Float}
use Rattle.std.specs.Float.{nan}
use Rattle.window.specs.Output.{Place}
use Rattle.synthesis.specs.Slots.{memory_length, output_after}
use Rattle.finite.specs.Within.{Within}
use Rattle.finite.specs.Halving.{Quiet}
use Rattle.finite.proofs.Sums.{output_of_within}
use Rattle.finite.specs.Each.{Each, Summed, each_output}
use Rattle.finite.specs.Run.{Calm, written}

calm_summed : (ring : List Float) → Each (Within (2 ^ 36)) ring → Summed (Within 8259553) ring
unfolding Each Summed
calm_summed ring h = output_of_within ring h

module _ (f : ℕ → ℕ → List ℤ) {p : ℕ} (h : Place p) (memory : List Float) (big : memory_length ≤ length memory) (calm : Calm memory) (n : ℕ)
    (quiet : (channel : ℕ) → channel < 2 → (k : ℕ) → k < n → Quiet (f channel k)) where
  -- and each of their outputs is finite and small
  pub output_within : (output : List Float) (at : ℕ) → at + 64 * n ≤ length output → (i : ℕ) → i < 64 * n
      → Within 8259553 (get_or (output_after f p memory output at n) (at + i) nan)
  output_within = each_output (Within (2 ^ 36)) f h memory big calm n (written f h memory big calm n quiet) (Within 8259553) calm_summed
