-- The header of ISO/IEC 11172-3 for Layer II: what its fields' values mean, its fields at a byte of a stream, in the standard's order and
-- by the standard's names, and the frame's size. Nothing here is the port's. Assumes nothing.
use Rattle.std.specs.Prelude.{ℕ, ◌+◌, ◌-◌, ◌*◌, ◌/◌, ◌≤◌, min, ◌≡◌, Bool, true, false, cond, List, [], ◌∷◌, eqb, get_or}
use Rattle.buffer.specs.Bits.{bits_value}
use Rattle.tables.specs.Standard.{kbps_of, rate_of, Table, sblimit, chosen}

-- ---- what the fields' values mean, by 2.4.2.3

-- bitrate_index 1 to 14, in bit/s; 0 is free format, 15 is forbidden
abbrev pub bit_rate : ℕ → ℕ
bit_rate index = 1000 * kbps_of (index - 1)

-- sampling_frequency 0 to 2, in hertz; 3 is reserved
abbrev pub sampling_rate : ℕ → ℕ
sampling_rate = rate_of

-- mode: 0 stereo, 1 joint_stereo, 2 dual_channel, 3 single_channel
abbrev pub joint_stereo : ℕ → Bool
joint_stereo mode = eqb mode 1

abbrev pub single_channel : ℕ → Bool
single_channel mode = eqb mode 3

-- nch, the number of channels
abbrev pub nch : ℕ → ℕ
nch mode = cond (single_channel mode) 1 2

-- which of Tables B.2a to B.2d serves, by the bit rate for each channel and the sampling frequency
abbrev pub allocation_table : ℕ → ℕ → ℕ → Table
allocation_table mode index frequency = chosen (single_channel mode) (index - 1) frequency

-- mode_extension: in joint stereo the subbands from 4, 8, 12 or 16 up are in intensity stereo, as far as the table has them; in the
-- other modes none is, and the bound is sblimit
abbrev pub bound : ℕ → ℕ → Table → ℕ
bound mode extension t = cond (joint_stereo mode) (min (get_or (4 ∷ 8 ∷ 12 ∷ 16 ∷ []) extension 0) (sblimit t)) (sblimit t)

-- the bit rates and the modes that may have them: a row for each bitrate_index, with whether single_channel may, and the other modes
pub record Pair : Type 0 where
  pub kbps : ℕ
  pub single : Bool
  pub others : Bool

abbrev pair : ℕ → Bool → Bool → Pair
pair kbps single others = record { kbps = kbps; single = single; others = others }

abbrev pub pairs : List Pair
pairs =
    pair 32 true false ∷ pair 48 true false ∷ pair 56 true false ∷ pair 64 true true ∷ pair 80 true false ∷ pair 96 true true ∷ pair 112 true true
    ∷ pair 128 true true ∷ pair 160 true true ∷ pair 192 true true ∷ pair 224 false true ∷ pair 256 false true ∷ pair 320 false true
    ∷ pair 384 false true ∷ []

abbrev pub permitted : ℕ → ℕ → Bool
permitted mode index = let p = get_or pairs (index - 1) (pair 0 false false) in cond (single_channel mode) p.single p.others

-- 2.4.3.1: N, the frame's bytes, header included: 144 times bit rate by sampling rate, rounded down, and one more with padding
abbrev pub frame_bytes : ℕ → ℕ → ℕ → ℕ
frame_bytes index frequency padding = 144 * bit_rate index / sampling_rate frequency + padding

-- 2.4.1.3, 2.4.1.4: the header's 4 bytes, and 2 of crc_check where protection_bit is 0
abbrev pub header_bytes : ℕ → ℕ
header_bytes protection = cond (eqb protection 0) 6 4

-- ---- a header that begins at a byte: 2.4.1.3. private_bit, copyright, original/home and emphasis have no part in what is read

module _ (s : List ℕ) (byte : ℕ) where
  abbrev pub syncword : ℕ
  syncword = bits_value s (byte * 8) 12

  abbrev pub id : ℕ
  id = bits_value s (byte * 8 + 12) 1

  abbrev pub layer : ℕ
  layer = bits_value s (byte * 8 + 13) 2

  abbrev pub protection_bit : ℕ
  protection_bit = bits_value s (byte * 8 + 15) 1

  abbrev pub bitrate_index : ℕ
  bitrate_index = bits_value s (byte * 8 + 16) 4

  abbrev pub sampling_frequency : ℕ
  sampling_frequency = bits_value s (byte * 8 + 20) 2

  abbrev pub padding_bit : ℕ
  padding_bit = bits_value s (byte * 8 + 22) 1

  abbrev pub mode_bits : ℕ
  mode_bits = bits_value s (byte * 8 + 24) 2

  abbrev pub mode_extension : ℕ
  mode_extension = bits_value s (byte * 8 + 26) 2

  -- twelve ones; ID 1, which is this standard; layer 2 for Layer II; a bit rate and a sampling frequency out of the tables
  pub record HeaderFields : Type 0 where
    pub syncword : syncword ≡ 4095
    pub id : id ≡ 1
    pub layer : layer ≡ 2
    pub bitrate_least : 1 ≤ bitrate_index
    pub bitrate_most : bitrate_index ≤ 14
    pub frequency : sampling_frequency ≤ 2

  -- its frame's size, the bytes of it behind header and crc_check, and the bit at which these begin
  abbrev pub frame_size : ℕ
  frame_size = frame_bytes bitrate_index sampling_frequency padding_bit

  abbrev pub data_size : ℕ
  data_size = frame_size - header_bytes protection_bit

  abbrev pub data_bit : ℕ
  data_bit = (byte + header_bytes protection_bit) * 8
