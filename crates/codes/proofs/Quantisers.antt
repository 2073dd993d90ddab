-- A grouped quantiser has levels to divide by.
-- Assumes nothing.
use Prim.Native.Nat.{ℕ, zero, suc, ◌<◌}
use mathlib.Core.Path.{◌≡◌}
use mathlib.Core.Bool.{true}
use native.Mathlib.Omega.{arith}
use Rattle.tables.specs.Standard.{classes, quantisation_of, levels_of, grouped_of}
use Rattle.tables.specs.Laws.{sized}

pub grouped_levels : (q : ℕ) → q < 18 → grouped_of q ≡ true → 0 < levels_of q
unfolding grouped_of quantisation_of classes
grouped_levels zero h g = absurd (let e : ◌≡◌ {A = ℕ} 0 1 = cc in omega arith)
grouped_levels (suc q) h g = omega (arith, (sized (suc q) (omega arith) h).least)
