-- The tables of ISO/IEC 11172-3, Layer II, as four programs that follow it have them (docs/DIFFERENCES.md, "How the standard was read"):
-- bit rates and sampling rates (2.4.2.3), allocation (Tables B.2a to B.2d) and quantisation (Table B.4).
-- Assumes nothing.
use Rattle.std.specs.Prelude.{ℕ, ◌/◌, Bool, cond, List, [], ◌∷◌, ◌++◌, eqb, leb, length, get_or, replicate}

-- kbit/s for the values 1 to 14 of the field bitrate_index, so that `kbpsOf 0` is that of 1
abbrev pub bit_rates : List ℕ
bit_rates = 32 ∷ 48 ∷ 56 ∷ 64 ∷ 80 ∷ 96 ∷ 112 ∷ 128 ∷ 160 ∷ 192 ∷ 224 ∷ 256 ∷ 320 ∷ 384 ∷ []

abbrev pub kbps_of : ℕ → ℕ
kbps_of bitrate = get_or bit_rates bitrate 0

-- hertz for the values 0 to 2 of the field sampling_frequency; 3 is reserved, and has 0 here
abbrev pub sampling_rates : List ℕ
sampling_rates = 44100 ∷ 48000 ∷ 32000 ∷ 0 ∷ []

abbrev pub rate_of : ℕ → ℕ
rate_of samplerate = get_or sampling_rates samplerate 0

-- a subband's row of Table B.2: nbal, the bits of its allocation field, and the number of steps for allocation 1, 2, ..
pub record Row : Type 0 where
  pub nbal : ℕ
  pub steps : List ℕ

-- one row for each of n subbands
abbrev pub subbands : ℕ → ℕ → List ℕ → List Row
subbands n nbal steps = replicate n (record { nbal = nbal; steps = steps })

pub data Table : Type 0 where
  B2a : Table
  B2b : Table
  B2c : Table
  B2d : Table

-- the four tables, subband after subband
unfoldable pub rows_of : Table → List Row
rows_of B2a =
    subbands 3 4 (3 ∷ 7 ∷ 15 ∷ 31 ∷ 63 ∷ 127 ∷ 255 ∷ 511 ∷ 1023 ∷ 2047 ∷ 4095 ∷ 8191 ∷ 16383 ∷ 32767 ∷ 65535 ∷ [])
    ++ (subbands 8 4 (3 ∷ 5 ∷ 7 ∷ 9 ∷ 15 ∷ 31 ∷ 63 ∷ 127 ∷ 255 ∷ 511 ∷ 1023 ∷ 2047 ∷ 4095 ∷ 8191 ∷ 65535 ∷ [])
    ++ (subbands 12 3 (3 ∷ 5 ∷ 7 ∷ 9 ∷ 15 ∷ 31 ∷ 65535 ∷ [])
    ++ subbands 4 2 (3 ∷ 5 ∷ 65535 ∷ [])))
rows_of B2b =
    subbands 3 4 (3 ∷ 7 ∷ 15 ∷ 31 ∷ 63 ∷ 127 ∷ 255 ∷ 511 ∷ 1023 ∷ 2047 ∷ 4095 ∷ 8191 ∷ 16383 ∷ 32767 ∷ 65535 ∷ [])
    ++ (subbands 8 4 (3 ∷ 5 ∷ 7 ∷ 9 ∷ 15 ∷ 31 ∷ 63 ∷ 127 ∷ 255 ∷ 511 ∷ 1023 ∷ 2047 ∷ 4095 ∷ 8191 ∷ 65535 ∷ [])
    ++ (subbands 12 3 (3 ∷ 5 ∷ 7 ∷ 9 ∷ 15 ∷ 31 ∷ 65535 ∷ [])
    ++ subbands 7 2 (3 ∷ 5 ∷ 65535 ∷ [])))
rows_of B2c =
    subbands 2 4 (3 ∷ 5 ∷ 9 ∷ 15 ∷ 31 ∷ 63 ∷ 127 ∷ 255 ∷ 511 ∷ 1023 ∷ 2047 ∷ 4095 ∷ 8191 ∷ 16383 ∷ 32767 ∷ [])
    ++ subbands 6 3 (3 ∷ 5 ∷ 9 ∷ 15 ∷ 31 ∷ 63 ∷ 127 ∷ [])
rows_of B2d =
    subbands 2 4 (3 ∷ 5 ∷ 9 ∷ 15 ∷ 31 ∷ 63 ∷ 127 ∷ 255 ∷ 511 ∷ 1023 ∷ 2047 ∷ 4095 ∷ 8191 ∷ 16383 ∷ 32767 ∷ [])
    ++ subbands 10 3 (3 ∷ 5 ∷ 9 ∷ 15 ∷ 31 ∷ 63 ∷ 127 ∷ [])

-- sblimit: how many subbands a table has
unfoldable pub sblimit : Table → ℕ
unfolding rows_of
sblimit t = length (rows_of t)

-- a table's row for a subband; past the table's end there is nothing to read
unfoldable pub row_of : Table → ℕ → Row
unfolding rows_of
row_of t sb = get_or (rows_of t) sb (record { nbal = 0; steps = [] })

-- the steps that an allocation stands for; 0 allocates nothing
unfoldable pub steps_of : Table → ℕ → ℕ → ℕ
unfolding row_of
steps_of t sb allocation = get_or (0 ∷ (row_of t sb).steps) allocation 0

-- which table serves, by kbit/s for each channel and hertz: to 48 B.2d at 32 kHz, else B.2c; to 80 B.2a; above B.2a at 48 kHz, else B.2b
unfoldable pub serves : ℕ → ℕ → Table
serves kbps hertz =
    cond (leb kbps 48) (cond (eqb hertz 32000) B2d B2c) (cond (leb kbps 80) B2a (cond (eqb hertz 48000) B2a B2b))

-- the bit rate is that of one channel in mono, of two otherwise
unfoldable pub chosen : Bool → ℕ → ℕ → Table
unfolding serves
chosen mono bitrate samplerate = serves (kbps_of bitrate / cond mono 1 2) (rate_of samplerate)

-- 01's limit; mode 3 is mono
unfoldable pub limit_of : ℕ → ℕ → ℕ → ℕ
unfolding sblimit chosen
limit_of mode bitrate samplerate = sblimit (chosen (eqb mode 3) bitrate samplerate)

-- a row of Table B.4: number of steps, samples to a code (three: grouping), bits to a code
pub record Class : Type 0 where
  pub steps : ℕ
  pub samples : ℕ
  pub bits : ℕ

abbrev pub class : ℕ → ℕ → ℕ → Class
class steps samples bits = record { steps = steps; samples = samples; bits = bits }

-- Table B.4, from the second entry on: a quantiser is a number from 1 to 17, and 0 where nothing is allocated
unfoldable pub classes : List Class
classes =
    class 0 0 0
    ∷ class 3 3 5
    ∷ class 5 3 7
    ∷ class 7 1 3
    ∷ class 9 3 10
    ∷ class 15 1 4
    ∷ class 31 1 5
    ∷ class 63 1 6
    ∷ class 127 1 7
    ∷ class 255 1 8
    ∷ class 511 1 9
    ∷ class 1023 1 10
    ∷ class 2047 1 11
    ∷ class 4095 1 12
    ∷ class 8191 1 13
    ∷ class 16383 1 14
    ∷ class 32767 1 15
    ∷ class 65535 1 16
    ∷ []

unfoldable pub quantisation_of : ℕ → Class
unfolding classes
quantisation_of q = get_or classes q (class 0 0 0)

unfoldable pub levels_of : ℕ → ℕ
unfolding quantisation_of
levels_of q = (quantisation_of q).steps

unfoldable pub code_bits_of : ℕ → ℕ
unfolding quantisation_of
code_bits_of q = (quantisation_of q).bits

unfoldable pub grouped_of : ℕ → Bool
unfolding quantisation_of
grouped_of q = eqb (quantisation_of q).samples 3
