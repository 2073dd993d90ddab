-- The codes of a frame and the samples they stand for, after the side information: the syntax of ISO/IEC 11172-3, 2.4.1.6, and 01,
-- "From a header to codes". The table of allocations, the limit, the bound and whether it is mono are arguments.
-- Assumes nothing.
use Rattle.std.specs.Prelude.{ℕ, zero, suc, ◌+◌, ◌*◌, ◌/◌, Bool, cond, List, [], ◌∷◌, ◌++◌, ltb, ℤ, pos, get_or, replicate}
use Rattle.grammar.specs.Reads.{Reads, done, ask, ◌>>=◌}
use Rattle.tables.specs.Standard.{levels_of, code_bits_of, grouped_of}
use Rattle.samples.specs.Sample.{sample_of, digits_of}
use Rattle.samples.specs.declared.Three.{Three}
use Rattle.ground.specs.Stores.{three}
use Rattle.side.specs.Bands.{bands, pair_of, allocated_of}
use Rattle.side.specs.Side.{Side, side_of}

-- three codes, one for each slot
unfoldable pub singles_of : ℕ → Reads Three
singles_of bits = ask bits λ a. ask bits λ b. ask bits λ c. done (record { first = a; second = b; third = c })

-- one code holds three digits, or each slot has its own
unfoldable pub codes_of : ℕ → Reads Three
codes_of q =
    cond (grouped_of q) (ask (code_bits_of q) λ v. done (digits_of (levels_of q) v)) (singles_of (code_bits_of q))

-- the three samples of a place
unfoldable pub three_samples_of : ℕ → ℕ → ℕ → List ℤ → Reads (List ℤ)
three_samples_of q factor place xs =
    let sample : ℕ → ℤ = λ code. sample_of (levels_of q) code factor in
    codes_of q >>= λ c. done (three place (sample c.first) (sample c.second) (sample c.third) xs)

unfoldable pub place_of : Side → ℕ → ℕ → List ℤ → Reads (List ℤ)
place_of side part =
    allocated_of side.quant (λ place. three_samples_of (get_or side.quant place 0) (get_or side.factor (part * 64 + place) 0) place)

-- "from the bound up both channels take the left channel's finished sample"
unfoldable pub copied : ℕ → List ℤ → List ℤ
copied sb xs = three (sb + 32) (get_or xs sb (pos 0)) (get_or xs (sb + 64) (pos 0)) (get_or xs (sb + 128) (pos 0)) xs

unfoldable pub sample_band_of : Side → ℕ → ℕ → ℕ → List ℤ → Reads (List ℤ)
sample_band_of side part bound sb = pair_of (ltb sb bound) (place_of side part sb) (place_of side part (sb + 32)) (copied sb)

-- a granule: three slots of 64 samples, the left channel's 32 and the right's. What is not allocated, and "from the limit up all", is 0
abbrev pub samples_from : Side → ℕ → ℕ → ℕ → List ℤ → Reads (List ℤ)
samples_from side part bound limit = bands (sample_band_of side part bound) limit

unfoldable pub granule_of : Side → ℕ → ℕ → ℕ → Reads (List ℤ)
granule_of side part bound limit = samples_from side part bound limit (replicate 192 (pos 0))

-- the first n of "12 granules, four to each scale-factor part"
unfoldable pub granules_of : Side → ℕ → ℕ → ℕ → Reads (List (List ℤ))
granules_of side bound limit zero = done []
granules_of side bound limit (suc g) =
    granules_of side bound limit g >>= λ xs. granule_of side (g / 4) bound limit >>= λ x. done (xs ++ (x ∷ []))

unfoldable pub frame_of : Bool → ℕ → ℕ → ℕ → Reads (List (List ℤ))
frame_of mono table bound limit = side_of mono table bound limit >>= λ side. granules_of side bound limit 12
