-- The bit rates that the standard keeps for one mode, in the words of 02, E3; crate alike has that they are the standard's own (Pairs).
-- Assumes nothing.
use Rattle.std.specs.Prelude.{ℕ, ◌≡◌, refl, Bool, true, false, cond, ◌&&◌, ◌||◌, List, [], ◌∷◌, map, eqb}
use Rattle.tables.specs.Standard.{kbps_of}
use Rattle.readings.specs.Readings.{plain, reading_by, strict}
use Rattle.readings.specs.declared.Reading.{Reading}

-- "Layer II allows 32, 48, 56 and 80 kbps only in mono,"
abbrev pub only_mono : ℕ → Bool
only_mono kbps = eqb kbps 32 || eqb kbps 48 || eqb kbps 56 || eqb kbps 80

-- "and 224, 256, 320 and 384 kbps never in mono"
abbrev pub never_mono : ℕ → Bool
never_mono kbps = eqb kbps 224 || eqb kbps 256 || eqb kbps 320 || eqb kbps 384

-- in the strict reading; the bit rate by its index from 0, and mode 3 is mono
abbrev pub barred : Reading → ℕ → ℕ → Bool
barred reading bitrate mode = strict reading && cond (eqb mode 3) (never_mono (kbps_of bitrate)) (only_mono (kbps_of bitrate))

-- 32 and 320 kbps in stereo, joint stereo, two channels and mono: strictly, and plainly
abbrev barred_in_each_mode : Reading → ℕ → List Bool
barred_in_each_mode reading bitrate = map (barred reading bitrate) (0 ∷ 1 ∷ 2 ∷ 3 ∷ [])

pub in_each_mode : barred_in_each_mode (reading_by 1) 0 ∷ barred_in_each_mode (reading_by 1) 12 ∷ barred_in_each_mode plain 0 ∷ barred_in_each_mode plain 12 ∷ []
    ≡ (true ∷ true ∷ true ∷ false ∷ [])
    ∷ (false ∷ false ∷ false ∷ true ∷ [])
    ∷ (false ∷ false ∷ false ∷ false ∷ [])
    ∷ (false ∷ false ∷ false ∷ false ∷ []) ∷ []
in_each_mode = refl
