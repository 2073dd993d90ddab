use mathlib.Core.Path.{◌≡◌}
use Prim.Native.Nat.{ℕ, ◌*◌, ◌<◌}
use lib.ListN.{get_or}
use Rattle.riff.specs.Level.{pcm_of}
use Rattle.riff.proofs.write_samples.Given as goal

abbrev pub invariant-loop-i : goal.invariant-loop-i
invariant-loop-i l = (k : ℕ) → k < 2 * l.i → get_or l.bytes k 0 ≡ get_or (pcm_of l.values) k 0
