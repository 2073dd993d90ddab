-- What stands between a frame's check word and its codes, in the order of the syntax of ISO/IEC 11172-3, 2.4.1.6: allocations,
-- selectors, scale factors. From 01, "From a header to codes". The table of allocations, the limit, the bound and whether it is
-- mono are arguments.
-- Assumes nothing.
use Rattle.std.specs.Prelude.{ℕ, zero, suc, ◌+◌, min, Bool, List, ltb, get_or, set, replicate}
use Rattle.grammar.specs.Reads.{Reads, done, ask, ◌>>=◌}
use Rattle.tables.specs.Source.{width_of, quantiser_of}
use Rattle.samples.specs.Sample.{factor_of}
use Rattle.ground.specs.Stores.{three}
use Rattle.side.specs.Bands.{bands, pair_of, channels_of, allocated_of}

-- "bound is cut down to it": to the limit
abbrev pub cut_of : ℕ → ℕ → ℕ
cut_of bound limit = min bound limit

-- an allocation, of the width that the table says: what it stands for goes to its place
unfoldable pub allocation_of : ℕ → ℕ → ℕ → List ℕ → Reads (List ℕ)
allocation_of table sb place quant = ask (width_of table sb) λ v. done (set quant place (quantiser_of table sb v))

-- "below the bound each channel has its own allocation, left first; from the bound up one serves both"
unfoldable pub allocation_band_of : ℕ → ℕ → ℕ → List ℕ → Reads (List ℕ)
allocation_band_of table bound sb =
    pair_of (ltb sb bound) (allocation_of table sb sb) (allocation_of table sb (sb + 32)) (λ quant. set quant (sb + 32) (get_or quant sb 0))

-- "selectors, 2 bits"
unfoldable pub selector_of : ℕ → List ℕ → Reads (List ℕ)
selector_of place selector = ask 2 λ v. done (set selector place v)

-- "scale factors of 6 bits: selector 0 three, 1 two (first, first, second), 2 one, 3 two (first, second, second)"
unfoldable pub factors_of : ℕ → ℕ → List ℕ → Reads (List ℕ)
factors_of zero place factor = ask 6 λ a. ask 6 λ b. ask 6 λ c. done (three place (factor_of a) (factor_of b) (factor_of c) factor)
factors_of (suc zero) place factor = ask 6 λ a. ask 6 λ b. done (three place (factor_of a) (factor_of a) (factor_of b) factor)
factors_of (suc (suc zero)) place factor = ask 6 λ a. done (three place (factor_of a) (factor_of a) (factor_of a) factor)
factors_of (suc (suc (suc n))) place factor = ask 6 λ a. ask 6 λ b. done (three place (factor_of a) (factor_of b) (factor_of b) factor)

abbrev pub place_factors_of : List ℕ → List ℕ → ℕ → List ℕ → Reads (List ℕ)
place_factors_of quant selector = allocated_of quant (λ place. factors_of (get_or selector place 0) place)

-- what stands before the codes: a quantiser for each place, and a factor for each part and place
pub record Side : Type 0 where
  pub quant : List ℕ
  pub factor : List ℕ

abbrev pub allocations_of : ℕ → ℕ → ℕ → List ℕ → Reads (List ℕ)
allocations_of table bound limit = bands (allocation_band_of table bound) limit

abbrev pub selectors_of : Bool → List ℕ → ℕ → List ℕ → Reads (List ℕ)
selectors_of mono quant limit = bands (channels_of mono (allocated_of quant selector_of)) limit

abbrev pub scale_factors_of : Bool → List ℕ → List ℕ → ℕ → List ℕ → Reads (List ℕ)
scale_factors_of mono quant selector limit = bands (channels_of mono (place_factors_of quant selector)) limit

unfoldable pub side_of : Bool → ℕ → ℕ → ℕ → Reads Side
side_of mono table bound limit =
    allocations_of table bound limit (replicate 64 0) >>= λ quant.
    selectors_of mono quant limit (replicate 64 0) >>= λ selector.
    scale_factors_of mono quant selector limit (replicate 192 0) >>= λ factor.
    done (record { quant = quant; factor = factor })
