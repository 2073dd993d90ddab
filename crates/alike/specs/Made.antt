-- The samples that 01's formulas make of a frame's fields as the standard has them, with a table's steps. From 01, "From a header to
-- codes": grouped codes, scale, sample, and "from the bound up both channels take the left channel's finished sample".
-- Assumes nothing.
use Rattle.std.specs.Prelude.{ℕ, zero, suc, ◌+◌, ◌*◌, ◌/◌, Bool, cond, ◌&&◌, List, [], ◌∷◌, eqb, ltb, ℤ, pos, get_or, replicate}
use Rattle.ground.specs.Stores.{three}
use Rattle.tables.specs.Standard.{Table, sblimit}
use Rattle.samples.specs.Sample.{sample_of, digits_of, factor_of}
use Rattle.samples.specs.declared.Three.{Three}
use Rattle.standard.specs.Header.{nch, bound, allocation_table}
use Rattle.standard.specs.AudioData.{Steps, place, AudioFields, Code, grouped, single, none}

-- "first digit the remainder by the levels, then again, the third is the last quotient"
abbrev pub code_digits : ℕ → Code → Three
code_digits steps (grouped v) = digits_of steps v
code_digits steps (single x y z) = record { first = x; second = y; third = z }

-- the three samples of a place
abbrev pub samples_at : ℕ → ℕ → Three → ℕ → List ℤ → List ℤ
samples_at steps factor d at xs = three at (sample_of steps d.first factor) (sample_of steps d.second factor) (sample_of steps d.third factor) xs

-- channel 1 takes the finished samples of channel 0
abbrev pub shared : ℕ → List ℤ → List ℤ
shared sb xs = three (sb + 32) (get_or xs sb (pos 0)) (get_or xs (sb + 64) (pos 0)) (get_or xs (sb + 128) (pos 0)) xs

module _ (steps : Steps) (t : Table) (channels bound : ℕ) (allocation scalefactor : List ℕ) (part : ℕ) where
  -- where something is allocated
  unfoldable pub placed : ℕ → ℕ → Code → List ℤ → List ℤ
  placed ch sb c xs =
      let n = steps t sb (get_or allocation (place ch sb) 0) in
      cond (eqb (get_or allocation (place ch sb) 0) 0) xs
      (samples_at n (factor_of (get_or scalefactor (part * 64 + place ch sb) 63)) (code_digits n c) (place ch sb) xs)

  -- whether channel 1 has codes of its own
  abbrev pub own : ℕ → Bool
  own sb = eqb channels 2 && ltb sb bound

  -- a subband's two channels
  unfoldable pub band : ℕ → Code → Code → List ℤ → List ℤ
  band sb left right xs = cond (own sb) (placed 1 sb right (placed 0 sb left xs)) (shared sb (placed 0 sb left xs))

  -- the first n subbands of a granule; what is not made is 0
  unfoldable pub made : List Code → ℕ → List ℤ
  made cs zero = replicate 192 (pos 0)
  made cs (suc n) = band n (get_or cs (place 0 n) none) (get_or cs (place 1 n) none) (made cs n)

module _ (steps : Steps) (t : Table) (channels bound : ℕ) where
  -- granule g, and all that follow; "four to each scale-factor part"
  unfoldable pub made_from : List ℕ → List ℕ → ℕ → List (List Code) → List (List ℤ)
  made_from a f g [] = []
  made_from a f g (cs ∷ more) = made steps t channels bound a f (g / 4) cs (sblimit t) ∷ made_from a f (suc g) more

  unfoldable pub made_by01 : AudioFields → List (List ℤ)
  made_by01 x = made_from x.allocation x.scalefactor 0 x.codes

-- by the header's mode, mode_extension, bitrate_index and sampling_frequency, as the standard's `audioData`
abbrev pub samples_by01 : Steps → ℕ → ℕ → ℕ → ℕ → AudioFields → List (List ℤ)
samples_by01 steps mode extension index frequency =
    let t = allocation_table mode index frequency in made_by01 steps t (nch mode) (bound mode extension t)
