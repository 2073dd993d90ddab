-- Floats that are numbers, told by a test that code can make: only the NaN differs from itself.
-- Assumes nothing.
use Rattle.std.specs.Prelude.{◌≡◌, true, false, not, T, Float}
use Rattle.std.proofs.Common.{sym, ◌∙◌, subst}
use Rattle.std.specs.Float.{nan, inf, fin}
use Rattle.std.specs.Float.Ieee.{ne, is_nan}
use Rattle.std.specs.Float.Ieee.Compare.{differs_from_itself, nan_differs}

-- x is no NaN
abbrev pub Real : Float → Type 0
Real x = T (not (is_nan x))

pub nan_of_other : (x : Float) → ne x x ≡ true → x ≡ nan
nan_of_other x h = differs_from_itself x (subst T (sym h) tt)

pub real_of_same : (x : Float) → ne x x ≡ false → Real x
unfolding is_nan
real_of_same nan h = subst T (sym nan_differs ∙ h) tt
real_of_same (inf s) h = tt
real_of_same (fin s m e) h = tt
