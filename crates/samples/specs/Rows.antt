-- Rows 9 to 13 of 01's table of examples, computed.
-- Assumes nothing.
use Rattle.std.specs.Prelude.{◌≡◌, refl, List, [], ◌∷◌, ℕ, ℤ, pos, negsuc}
use Rattle.std.proofs.Common.{mul-zero}
use Rattle.samples.specs.Sample.{scale_of, adj_of, centred_by, scaled_by, sample_of, factor_of, digits_of}
use Rattle.samples.specs.declared.Three.{Three}

abbrev list_of : Three → List ℕ
list_of d = d.first ∷ d.second ∷ d.third ∷ []

abbrev pub row9 : List (List ℕ)
row9 = list_of (digits_of 3 26) ∷ list_of (digits_of 3 31) ∷ []

pub row_9 : row9 ≡ (2 ∷ 2 ∷ 2 ∷ []) ∷ (1 ∷ 1 ∷ 3 ∷ []) ∷ []
row_9 = refl

abbrev pub row10 : List (List ℕ)
row10 = list_of (digits_of 5 127) ∷ list_of (digits_of 9 1023) ∷ []

pub row_10 : row10 ≡ (2 ∷ 0 ∷ 5 ∷ []) ∷ (6 ∷ 5 ∷ 12 ∷ []) ∷ []
row_10 = refl

abbrev pub row11 : List ℤ
row11 = sample_of 3 0 (factor_of 0) ∷ sample_of 3 3 (factor_of 0) ∷ []

pub row_11 : row11 ≡ pos 32768 ∷ negsuc 65535 ∷ []
unfolding sample_of scaled_by scale_of adj_of factor_of
row_11 = refl

abbrev pub row12 : List ℤ
row12 = sample_of 3 0 (factor_of 62) ∷ sample_of 3 2 (factor_of 62) ∷ []

pub row_12 : row12 ≡ pos 0 ∷ negsuc 0 ∷ []
unfolding sample_of scaled_by scale_of adj_of factor_of
row_12 = refl

silent : (val : ℤ) → scaled_by val 0 0 ≡ pos 0
unfolding scaled_by
silent (pos n) = simp mul-zero
silent (negsuc n) = simp mul-zero

-- any digit at scale factor 63
pub row_13 : (levels digit : ℕ) → sample_of levels digit (factor_of 63) ≡ pos 0
unfolding sample_of factor_of
row_13 levels digit = silent (centred_by (adj_of levels) (scale_of levels) digit)
