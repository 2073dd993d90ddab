-- How a decoder reads, chosen at its opening and kept since: five choices, each a bit of a number. From 02. A choice has no effect
-- until its request has landed: today E3's has one. Assumes nothing.
use Rattle.std.specs.Prelude.{ℕ, ◌/◌, ◌%◌, ◌≡◌, refl, Bool, true, false, List, [], ◌∷◌, map, eqb}
use Rattle.readings.specs.declared.Reading.{Reading}

-- 01's decoder: no choice is taken
abbrev pub plain : Reading
plain = record { choices = 0 }

-- a caller's number: what is no choice yet is dropped
abbrev pub reading_by : ℕ → Reading
reading_by n = record { choices = n % 32 }

-- E3: only the pairs of bit rate and mode that the standard has
abbrev pub strict : Reading → Bool
strict c = eqb (c.choices % 2) 1

-- E5: in joint stereo the right channel has its own scale factors
abbrev pub own : Reading → Bool
own c = eqb (c.choices / 2 % 2) 1

-- E6: the next header is sought from the frame's end
abbrev pub end : Reading → Bool
end c = eqb (c.choices / 4 % 2) 1

-- E8: the check word is heeded
abbrev pub check : Reading → Bool
check c = eqb (c.choices / 8 % 2) 1

-- E10: the low sampling rates
abbrev pub low : Reading → Bool
low c = eqb (c.choices / 16 % 2) 1

-- each choice by its number alone; none of them is plain's; and a sixth bit is none
abbrev pub choices_taken : Reading → List Bool
choices_taken c = strict c ∷ own c ∷ end c ∷ check c ∷ low c ∷ []

pub one_bit_each : map (λ n. choices_taken (reading_by n)) (0 ∷ 1 ∷ 2 ∷ 4 ∷ 8 ∷ 16 ∷ 32 ∷ 31 ∷ [])
    ≡ (false ∷ false ∷ false ∷ false ∷ false ∷ [])
    ∷ (true ∷ false ∷ false ∷ false ∷ false ∷ [])
    ∷ (false ∷ true ∷ false ∷ false ∷ false ∷ [])
    ∷ (false ∷ false ∷ true ∷ false ∷ false ∷ [])
    ∷ (false ∷ false ∷ false ∷ true ∷ false ∷ [])
    ∷ (false ∷ false ∷ false ∷ false ∷ true ∷ [])
    ∷ (false ∷ false ∷ false ∷ false ∷ false ∷ [])
    ∷ (true ∷ true ∷ true ∷ true ∷ true ∷ [])
    ∷ []
one_bit_each = refl

pub no_choice : reading_by 0 ≡ plain
no_choice = refl
