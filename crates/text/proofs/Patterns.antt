-- A NaN is told by differing from itself: what is chosen by that is chosen by `is_nan`.
-- Assumes nothing.
use Rattle.std.proofs.Common.{◌≡◌, ℕ, true, false, cond, T, sym, refl, subst}
use lib.Ieee.{Float, nan, inf, fin, is_nan, ne}
use lib.Ieee.Compare.{differs_from_itself}
use Rattle.ground.specs.Floats.{real_of_same}

pub nan_chosen : (x : Float) (a b : ℕ) → ne x x ≡ true → a ≡ cond (is_nan x) a b
unfolding is_nan
nan_chosen x a b h = rw (differs_from_itself x (subst T (sym h) tt))

pub real_chosen : (x : Float) (a b : ℕ) → ne x x ≡ false → b ≡ cond (is_nan x) a b
unfolding is_nan
real_chosen nan a b h = absurd (real_of_same nan h)
real_chosen (inf s) a b h = refl
real_chosen (fin s m e) a b h = refl
