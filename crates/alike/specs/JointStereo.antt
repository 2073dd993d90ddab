-- Joint stereo from the bound up, by ISO/IEC 11172-3, 2.4.1.6 and 2.4.3.3.4: the codes are shared, and each channel scales them with its own
-- scale factors. The source, and 01 with it, gives both channels the left's finished sample: docs/DIFFERENCES.md, S5. Where the two scale
-- factors are equal it is the same (`frame_alike`, proofs/JointStereo). Assumes nothing.
use Prim.Native.Nat.{ℕ, zero, suc, ◌+◌, ◌*◌, ◌/◌}
use Rattle.std.specs.Prelude.{◌≡◌, List, [], ◌∷◌, eqb, ℤ, pos, replicate}
use Rattle.std.proofs.Math.Bool.{cond}
use Rattle.std.proofs.Math.Dec.{ltb}
use Rattle.std.proofs.Math.ListN.{get_or}
use Rattle.tables.specs.Standard.{Table, sblimit}
use Rattle.standard.specs.Header.{nch, bound as header_bound, allocation_table}
use Rattle.standard.specs.AudioData.{Steps, place, AudioFields, Code, none}
use Rattle.alike.specs.Made.{shared, placed}

-- ---- the standard's way

module _ (steps : Steps) (t : Table) (channels bound : ℕ) (allocation scalefactor : List ℕ) (part : ℕ) where
  -- channel 1 has its own codes below the bound, and those of channel 0 from it up. With one channel there is nothing to be shared
  unfoldable pub own_band : ℕ → Code → Code → List ℤ → List ℤ
  own_band sb left right xs =
      let first = placed steps t channels bound allocation scalefactor part 0 sb left xs in
      cond (eqb channels 2) (placed steps t channels bound allocation scalefactor part 1 sb (cond (ltb sb bound) right left) first) (shared sb first)

  unfoldable pub own_made : List Code → ℕ → List ℤ
  own_made cs zero = replicate 192 (pos 0)
  own_made cs (suc n) = own_band n (get_or cs (place 0 n) none) (get_or cs (place 1 n) none) (own_made cs n)

module _ (steps : Steps) (t : Table) (channels bound : ℕ) where
  unfoldable pub own_made_from : List ℕ → List ℕ → ℕ → List (List Code) → List (List ℤ)
  own_made_from a f g [] = []
  own_made_from a f g (cs ∷ more) = own_made steps t channels bound a f (g / 4) cs (sblimit t) ∷ own_made_from a f (suc g) more

  -- as `madeBy01`, but for the second channel from the bound up
  unfoldable pub made_by_own_factors : AudioFields → List (List ℤ)
  made_by_own_factors x = own_made_from x.allocation x.scalefactor 0 x.codes

-- by the header's fields, as `samplesBy01`
abbrev pub samples_by_own_factors : Steps → ℕ → ℕ → ℕ → ℕ → AudioFields → List (List ℤ)
samples_by_own_factors steps mode extension index frequency =
    let t = allocation_table mode index frequency in made_by_own_factors steps t (nch mode) (header_bound mode extension t)

-- ---- where they are the same

-- of a subband and a part of the frame, both channels have the same allocation, which `sharedAllocation` gives them from the bound up, and
-- the same scale factor
pub record SameScale (a f : List ℕ) (part sb : ℕ) : Type 0 where
  pub allocation : get_or a (place 1 sb) 0 ≡ get_or a (place 0 sb) 0
  pub scalefactor : get_or f (part * 64 + place 1 sb) 63 ≡ get_or f (part * 64 + place 0 sb) 63
