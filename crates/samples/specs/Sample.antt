-- The sample that a code stands for: 01, "From a header to codes". Shifts of negative numbers round downward: `floorBy`.
-- Assumes nothing.
use Rattle.std.specs.Prelude.{ℕ, ◌+◌, ◌-◌, ◌/◌, ◌%◌, ◌^◌, cond, List, [], ◌∷◌, eqb, ℤ, pos, negsuc, ◌+ℤ◌, ◌-ℤ◌, ◌*ℤ◌, get_or}
use Rattle.samples.specs.declared.Three.{Three}

-- z divided by m, rounded downward: -(a + 1) divided by m is -(a / m + 1)
abbrev pub floor_by : ℤ → ℕ → ℤ
floor_by (pos a) m = pos (a / m)
floor_by (negsuc a) m = negsuc (a / m)

-- "`scale` 65536 div (levels + 1)"
unfoldable pub scale_of : ℕ → ℕ
scale_of levels = 65536 / (levels + 1)

-- "`adj` half of (levels + 1), less 1"
unfoldable pub adj_of : ℕ → ℕ
adj_of levels = (levels + 1) / 2 - 1

-- "`val` is (adj − code) · scale"
abbrev pub centred_by : ℕ → ℕ → ℕ → ℤ
centred_by adj scale code = (pos adj -ℤ pos code) *ℤ pos scale

-- "(val · (sf >> 12) + ((val · (sf mod 4096) + 2048) >> 12)) >> 12", sf in its two parts
unfoldable pub scaled_by : ℤ → ℕ → ℕ → ℤ
scaled_by val high low = floor_by ((val *ℤ pos high) +ℤ floor_by ((val *ℤ pos low) +ℤ pos 2048) 4096) 4096

unfoldable pub sample_of : ℕ → ℕ → ℕ → ℤ
sample_of levels code factor = scaled_by (centred_by (adj_of levels) (scale_of levels) code) (factor / 4096) (factor % 4096)

-- the source's SCALEFACTOR_BASE
abbrev pub bases : List ℕ
bases = 0x2000000 ∷ 0x1965FEA ∷ 0x1428A30 ∷ []

-- "63 gives 0; else the base for index mod 3, rounded and shifted right by index div 3"
unfoldable pub factor_of : ℕ → ℕ
factor_of index = cond (eqb index 63) 0 ((get_or bases (index % 3) 0 + 2 ^ (index / 3) / 2) / 2 ^ (index / 3))

-- "first digit the remainder by the levels, then again, the third is the last quotient and is not reduced"
abbrev pub digits_of : ℕ → ℕ → Three
digits_of levels code = record { first = code % levels; second = code / levels % levels; third = code / levels / levels }
