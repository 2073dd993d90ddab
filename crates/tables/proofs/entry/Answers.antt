-- `tables::entry` meets its contract: a class of bit rates is at most 2.
use Prim.Native.Nat.{ℕ, ◌≤◌}
use mathlib.Core.Path.{◌≡◌}
use mathlib.Core.Bool.{Bool}
use native.Mathlib.Omega.{arith}
use Rattle.tables.specs.Source.{class_of, entry_of}
use Rattle.tables.specs.Laws.{class≤2}
use Rattle.tables.proofs.entry.Goals as goal

-- a class of bit rates is at most 2
small : (mono : Bool) (bitrate class : ℕ) → class ≡ class_of mono bitrate → class ≤ 2
small mono bitrate class e = rw e (class≤2 mono bitrate)

pub offset_bounds-class : goal.offset_bounds-class
offset_bounds-class c = omega (arith, small _ _ _ c.class-class.ensures)

pub bounds-class : goal.bounds-class
bounds-class c = omega (arith, small _ _ _ c.class-class.ensures)

pub returns : goal.returns
unfolding entry_of
returns c = rw c.class-class.ensures
