-- `idct36`: 32 samples of a slot become its 64 values. The transform of 2 ^ k values by halving, with the source's factors.
-- From 01, "From samples to sound"; ISO/IEC 11172-3, 2.4.3.2.2 (matrixing). Assumes nothing.
use Rattle.std.specs.Prelude.{ℕ, zero, suc, ◌+◌, ◌-◌, ◌/◌, ◌%◌, ◌^◌, ◌≤◌, ◌<◌, cond, List, [], ◌∷◌, T, ltb, eqb, ℤ, pos, negsuc, nat_abs, get_or, length, Float, ◌≡◌}
use Rattle.std.proofs.Common.{arith, le→leb, lt→ltb}
use Rattle.std.specs.Float.{nan, binary32}
use Rattle.std.specs.Float.Ieee.{add, sub, mul, neg, of_bits, of_int, in_float}
use Rattle.ground.specs.Table.{table, length_table}

-- the value at i of a list of floats
abbrev pub at : List Float → ℕ → Float
at values i = get_or values i nan

abbrev f32 : ℕ → Float
f32 bits = of_bits binary32 bits

-- ---- the factors, each the f32 nearest the source's literal

-- row k: those of width 2 ^ (k + 1), 1 / (2 cos (pi (2 i + 1) / 2 ^ (k + 2))), but for the first of width 16, which is given
unfoldable pub halving_factors : Float → ℕ → List Float
halving_factors first k =
    get_or
    ((f32 0x3f3504f3 ∷ [])
    ∷ (f32 0x3f0a8bd4 ∷ f32 0x3fa73d75 ∷ [])
    ∷ (f32 0x3f0281f7 ∷ f32 0x3f19f1bd ∷ f32 0x3f6664d7 ∷ f32 0x402406cf ∷ [])
    ∷ (first ∷ f32 0x3f05c278 ∷ f32 0x3f11233f ∷ f32 0x3f25961d ∷ f32 0x3f49c480 ∷ f32 0x3f87c449 ∷ f32 0x3fdc7926 ∷ f32 0x40a33c9c ∷ [])
    ∷ (f32 0x3f002785 ∷ f32 0x3f01668b ∷ f32 0x3f03f45b ∷ f32 0x3f07f268 ∷ f32 0x3f0d9838 ∷ f32 0x3f153b3a ∷ f32 0x3f1f5c6e ∷ f32 0x3f2cc03d
    ∷ f32 0x3f3e99ee ∷ f32 0x3f56df9e ∷ f32 0x3f78fa3b ∷ f32 0x3f95b035 ∷ f32 0x3fbdf91b ∷ f32 0x4003b2af ∷ f32 0x405a1642 ∷ f32 0x41230a46 ∷ [])
    ∷ [])
    k []

-- the first factor of width 16: 0.502419286188 in the half of the sums, 0.500602998235 in the half of the differences
abbrev pub usual_factor : Float
usual_factor = f32 0x3f009e8d

abbrev pub other_factor : Float
other_factor = f32 0x3f002785

-- ---- one halving: 2 h values become h sums and h differences, and the two halves' results are woven into 2 h

abbrev pub sum_at : ℕ → List Float → ℕ → Float
sum_at h values i = add binary32 (at values i) (at values (h + h - 1 - i))

abbrev pub difference_at : ℕ → List Float → List Float → ℕ → Float
difference_at h factor values i = mul binary32 (sub binary32 (at values i) (at values (h + h - 1 - i))) (at factor i)

unfoldable pub sums_of : ℕ → List Float → List Float
sums_of h values = table h (sum_at h values)

unfoldable pub differences_of : ℕ → List Float → List Float → List Float
differences_of h factor values = table h (difference_at h factor values)

-- in the second half's result neighbours are added, and the last value stands alone
abbrev pub joined_at : ℕ → List Float → ℕ → Float
joined_at h second i = cond (ltb (i + 1) h) (add binary32 (at second i) (at second (i + 1))) (at second i)

abbrev pub woven_at : ℕ → List Float → List Float → ℕ → Float
woven_at h first second i = cond (eqb (i % 2) 0) (at first (i / 2)) (joined_at h second (i / 2))

unfoldable pub woven_of : ℕ → List Float → List Float → List Float
woven_of h first second = table (h + h) (woven_at h first second)

-- f and d: the first factor of width 16 in the half of the sums, and in the half of the differences
unfoldable pub transform : ℕ → Float → Float → List Float → List Float
transform zero f d values = values
transform (suc k) f d values =
    woven_of (2 ^ k) (transform k f f (sums_of (2 ^ k) values)) (transform k d d (differences_of (2 ^ k) (halving_factors f k) values))

-- ---- from 32 samples to the 64 values of a slot

-- each sample is an f32 exactly: its magnitude is at most 2 ^ 24
abbrev pub Small : List ℤ → Type 0
Small samples = (i : ℕ) → i < length samples → T (in_float binary32 (get_or samples i (pos 0)))

pub exact_float : (n : ℤ) → nat_abs n ≤ 2 ^ 24 → T (in_float binary32 n)
unfolding in_float
exact_float (pos n) h = le→leb n (2 ^ 24) h
exact_float (negsuc n) h = lt→ltb n (2 ^ 24) (omega arith)

abbrev pub float_at : List ℤ → ℕ → Float
float_at samples i = of_int binary32 (get_or samples i (pos 0))

unfoldable pub floats : List ℤ → List Float
floats samples = table (length samples) (float_at samples)

-- the results from 16 on; +0.0; those from 31 down to 1, negated; those from 0 to 15, negated
abbrev pub slot_at : List Float → ℕ → Float
slot_at results i =
    cond (ltb i 16) (at results (16 + i))
    (cond (eqb i 16) (f32 0) (cond (ltb i 48) (neg (at results (48 - i))) (neg (at results (i - 48)))))

unfoldable pub slot_of : List Float → List Float
slot_of results = table 64 (slot_at results)

-- `idct36`
unfoldable pub idct : List ℤ → List Float
idct samples = slot_of (transform 5 usual_factor other_factor (floats samples))

pub idct_length : (samples : List ℤ) → length (idct samples) ≡ 64
unfolding idct slot_of
idct_length samples = length_table 64 (slot_at (transform 5 usual_factor other_factor (floats samples)))
