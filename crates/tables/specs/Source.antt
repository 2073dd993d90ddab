-- The source's compressed tables, and what it looks up in them. 01: "Tables are those of the source".
-- Assumes nothing.
use Rattle.std.specs.Prelude.{ℕ, ◌/◌, ◌%◌, Bool, cond, List, [], ◌∷◌, get_or}

-- QUANT_LUT_STEP_1: a class for each bit rate, in mono and in the other modes
abbrev pub step1 : List (List ℕ)
step1 =
    (0 ∷ 0 ∷ 1 ∷ 1 ∷ 1 ∷ 2 ∷ 2 ∷ 2 ∷ 2 ∷ 2 ∷ 2 ∷ 2 ∷ 2 ∷ 2 ∷ 0 ∷ 0 ∷ [])
    ∷ (0 ∷ 0 ∷ 0 ∷ 0 ∷ 0 ∷ 0 ∷ 1 ∷ 1 ∷ 1 ∷ 2 ∷ 2 ∷ 2 ∷ 2 ∷ 2 ∷ 0 ∷ 0 ∷ [])
    ∷ []

-- QUANT_LUT_STEP_2: class, sample rate: the limit, and 64 more for the high-rate table
abbrev pub step2 : List (List ℕ)
step2 = (8 ∷ 8 ∷ 12 ∷ []) ∷ (91 ∷ 91 ∷ 91 ∷ []) ∷ (94 ∷ 91 ∷ 94 ∷ []) ∷ []

-- QUANT_LUT_STEP_3: table (0 low rates, 1 high), subband: 16 times nbal, and a row of the next table
abbrev pub step3 : List (List ℕ)
step3 =
    (0x44 ∷ 0x44 ∷ 0x34 ∷ 0x34 ∷ 0x34 ∷ 0x34 ∷ 0x34 ∷ 0x34 ∷ 0x34 ∷ 0x34 ∷ 0x34 ∷ 0x34 ∷ 0 ∷ 0 ∷ 0 ∷ 0 ∷ 0 ∷ 0
    ∷ 0 ∷ 0 ∷ 0 ∷ 0 ∷ 0 ∷ 0 ∷ 0 ∷ 0 ∷ 0 ∷ 0 ∷ 0 ∷ 0 ∷ 0 ∷ 0 ∷ [])
    ∷ (0x43 ∷ 0x43 ∷ 0x43 ∷ 0x42 ∷ 0x42 ∷ 0x42 ∷ 0x42 ∷ 0x42 ∷ 0x42 ∷ 0x42 ∷ 0x42 ∷ 0x31 ∷ 0x31 ∷ 0x31 ∷ 0x31
    ∷ 0x31 ∷ 0x31 ∷ 0x31 ∷ 0x31 ∷ 0x31 ∷ 0x31 ∷ 0x31 ∷ 0x31 ∷ 0x20 ∷ 0x20 ∷ 0x20 ∷ 0x20 ∷ 0x20 ∷ 0x20 ∷ 0x20 ∷ 0 ∷ 0 ∷ [])
    ∷ []

-- QUANT_LUT_STEP_4: row, allocation: the quantiser
abbrev pub step4 : List (List ℕ)
step4 =
    (0 ∷ 1 ∷ 2 ∷ 17 ∷ 0 ∷ 0 ∷ 0 ∷ 0 ∷ 0 ∷ 0 ∷ 0 ∷ 0 ∷ 0 ∷ 0 ∷ 0 ∷ 0 ∷ [])
    ∷ (0 ∷ 1 ∷ 2 ∷ 3 ∷ 4 ∷ 5 ∷ 6 ∷ 17 ∷ 0 ∷ 0 ∷ 0 ∷ 0 ∷ 0 ∷ 0 ∷ 0 ∷ 0 ∷ [])
    ∷ (0 ∷ 1 ∷ 2 ∷ 3 ∷ 4 ∷ 5 ∷ 6 ∷ 7 ∷ 8 ∷ 9 ∷ 10 ∷ 11 ∷ 12 ∷ 13 ∷ 14 ∷ 17 ∷ [])
    ∷ (0 ∷ 1 ∷ 3 ∷ 5 ∷ 6 ∷ 7 ∷ 8 ∷ 9 ∷ 10 ∷ 11 ∷ 12 ∷ 13 ∷ 14 ∷ 15 ∷ 16 ∷ 17 ∷ [])
    ∷ (0 ∷ 1 ∷ 2 ∷ 4 ∷ 5 ∷ 6 ∷ 7 ∷ 8 ∷ 9 ∷ 10 ∷ 11 ∷ 12 ∷ 13 ∷ 14 ∷ 15 ∷ 17 ∷ [])
    ∷ []

-- QUANT_TAB: levels, group, bits
abbrev pub quant_tab : List ℕ
quant_tab =
    3 ∷ 1 ∷ 5
    ∷ 5 ∷ 1 ∷ 7
    ∷ 7 ∷ 0 ∷ 3
    ∷ 9 ∷ 1 ∷ 10
    ∷ 15 ∷ 0 ∷ 4
    ∷ 31 ∷ 0 ∷ 5
    ∷ 63 ∷ 0 ∷ 6
    ∷ 127 ∷ 0 ∷ 7
    ∷ 255 ∷ 0 ∷ 8
    ∷ 511 ∷ 0 ∷ 9
    ∷ 1023 ∷ 0 ∷ 10
    ∷ 2047 ∷ 0 ∷ 11
    ∷ 4095 ∷ 0 ∷ 12
    ∷ 8191 ∷ 0 ∷ 13
    ∷ 16383 ∷ 0 ∷ 14
    ∷ 32767 ∷ 0 ∷ 15
    ∷ 65535 ∷ 0 ∷ 16
    ∷ []

-- what stands in a row and a column
abbrev at : List (List ℕ) → ℕ → ℕ → ℕ
at rows i j = get_or (get_or rows i []) j 0

-- steps 1 and 2, from mono or not, the bit rate and the sample rate
unfoldable pub class_of : Bool → ℕ → ℕ
class_of mono bitrate = at step1 (cond mono 0 1) bitrate

unfoldable pub entry_of : Bool → ℕ → ℕ → ℕ
unfolding class_of
entry_of mono bitrate samplerate = at step2 (class_of mono bitrate) samplerate

-- step 3: the width of a subband's allocation field is its upper half
unfoldable pub source_row_of : ℕ → ℕ → ℕ
source_row_of table sb = at step3 table sb

unfoldable pub width_of : ℕ → ℕ → ℕ
unfolding source_row_of
width_of table sb = source_row_of table sb / 16

-- step 4, in the row that the lower half says: the quantiser that an allocation stands for
unfoldable pub quantiser_of : ℕ → ℕ → ℕ → ℕ
unfolding source_row_of
quantiser_of table sb allocation = at step4 (source_row_of table sb % 16) allocation
