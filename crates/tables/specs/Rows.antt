-- Rows 6 and 7 of 01's table of examples, computed: modes 0 (stereo) and 3 (mono), bit rates 96 (5) and 80 (4) kbit/s.
-- Assumes nothing.
use Rattle.std.specs.Prelude.{ℕ, ◌≡◌, refl, List, [], ◌∷◌}
use Rattle.tables.specs.Standard.{limit_of, chosen, serves, sblimit, rows_of}

abbrev pub row6 : List ℕ
row6 = limit_of 0 5 0 ∷ limit_of 0 5 2 ∷ []

pub row_6 : row6 ≡ 8 ∷ 12 ∷ []
unfolding limit_of chosen serves sblimit rows_of
row_6 = refl

abbrev pub row7 : List ℕ
row7 = limit_of 3 4 2 ∷ limit_of 3 5 0 ∷ []

pub row_7 : row7 ≡ 27 ∷ 30 ∷ []
unfolding limit_of chosen serves sblimit rows_of
row_7 = refl
