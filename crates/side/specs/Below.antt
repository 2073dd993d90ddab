-- A list whose entries are all below a number, and the side information as its two lists: quantisers below 18, factors at most 33,554,432.
-- Assumes nothing.
use Rattle.std.specs.Prelude.{ℕ, ◌<◌, List, get_or}
use Rattle.side.specs.Side.{Side}

pub record Below (m : ℕ) (xs : List ℕ) : Type 0 where
  pub each : (i : ℕ) → get_or xs i 0 < m

abbrev pub side_with : List ℕ → List ℕ → Side
side_with quant factor = record { quant = quant; factor = factor }

pub record SideInRange (side : Side) : Type 0 where
  pub quant : Below 18 side.quant
  pub factor : Below 33554433 side.factor
