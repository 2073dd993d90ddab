-- What callers need of the clock: the start of a frame is no NaN, and a float that is no NaN and has another's bits is the other.
-- Assumes nothing.
use Rattle.std.specs.Prelude.{◌≡◌, refl, Bool, true, false, not, cond, ℕ, zero, suc, ◌+◌, ◌*◌, ◌^◌, T, eqb, ltb, ℤ, pos, Float}
use Rattle.std.proofs.Common.{sym, ap, ◌∙◌, arith, le-leb, eqb→eq}
use Rattle.std.proofs.Math.Dec.{eqb-suc-zero}
use Rattle.std.specs.Float.{Format, binary64, nan, inf, fin}
use Rattle.std.specs.Float.Ieee.{is_nan, fits, to_bits, of_bits, odd, units, round, of_int, div, ne, size, prec, low, emax, unlike, up, down}
use Rattle.std.specs.Float.Ieee.Fits.{and_r, round_is}
use Rattle.std.specs.Float.Ieee.Bits.{of_bits-to_bits}
use Rattle.ground.specs.Floats.{Real, nan_of_other}
use Rattle.clock.specs.Clock.{start_time_of, are_same_bits}

cond_real : (b : Bool) (x y : Float) → Real x → Real y → Real (cond b x y)
cond_real true x y p q = p
cond_real false x y p q = q

odd_real : (d : ℕ) (s : Bool) (q k l : ℕ) → Real (odd d s q k l)
unfolding odd is_nan
odd_real d s zero k l = tt
odd_real d s (suc q) k l = tt

units_real : (f : Format) (s : Bool) (q k : ℕ) → Real (units f s q k)
unfolding units is_nan
units_real f s q k =
    cond_real (ltb (q * 2 ^ k) (2 ^ (low f + suc (emax f)))) (odd (suc (prec f)) s q k (low f)) (inf s)
    (odd_real (suc (prec f)) s q k (low f)) tt

round_real : (f : Format) (s : Bool) (a b : ℕ) → Real (round f s a b)
round_real f s a b = rw round_is (units_real f s _ _)

pub nan_unlike : (x y : Float) → ne x x ≡ true → false ≡ are_same_bits x y
unfolding are_same_bits is_nan
nan_unlike x y h = rw (nan_of_other x h)

pub like_bits : (x y : Float) → Real x → eqb (to_bits binary64 x) (to_bits binary64 y) ≡ are_same_bits x y
unfolding are_same_bits is_nan
like_bits nan y h = absurd h
like_bits (inf s) y h = refl
like_bits (fin s m e) y h = refl

-- what the test shows: x is y
pub same_is : (x y : Float) → T (fits binary64 x) → T (fits binary64 y) → T (are_same_bits x y) → x ≡ y
unfolding are_same_bits
same_is x y p q t =
    sym (of_bits-to_bits binary64 x p) ∙ ap (of_bits binary64) (eqb→eq _ _ (and_r (not (is_nan x)) _ t)) ∙ of_bits-to_bits binary64 y q

div_real : (f : Format) (x : Float) (t : Bool) (n : ℕ) (d : ℤ) → Real x → Real (div f x (fin t (suc n) d))
unfolding div is_nan
div_real f nan t n d h = h
div_real f (inf s) t n d h = tt
div_real f (fin s m e) t n d h = rw eqb-suc-zero (round_real f (unlike s t) (m * up e * down d) (suc n * up d * down e))

pub start_real : (frames samplerate : ℕ) → Real (start_time_of frames samplerate)
unfolding start_time_of of_int is_nan round units odd size
start_real frames zero = div_real binary64 _ false 11024 (pos 2) (round_real binary64 false (frames * 1152) 1)
start_real frames (suc zero) = div_real binary64 _ false 374 (pos 7) (round_real binary64 false (frames * 1152) 1)
start_real frames (suc (suc zero)) = div_real binary64 _ false 124 (pos 8) (round_real binary64 false (frames * 1152) 1)
start_real frames (suc (suc (suc k))) = rw (le-leb 3 (suc (suc (suc k))) (omega arith)) tt
