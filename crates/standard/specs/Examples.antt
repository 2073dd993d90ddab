-- What the definitions give, computed: bounds, frame sizes, the pairs of bit rate and mode, and the bits of a frame in which nothing is
-- allocated.
-- Assumes nothing.
use Rattle.std.specs.Prelude.{◌≡◌, refl, ℕ, ◌-◌, cond, length, replicate}
use mathlib.Core.List.{List, [], ◌∷◌, map, flat_map}
use Rattle.buffer.specs.Bits.{bit_at, bits_value}
use Rattle.buffer.specs.Calls.{reader_at, read_of, field_of}
use Rattle.grammar.specs.Reads.{◌>>=◌, called}
use Rattle.tables.specs.Standard.{bit_rates, kbps_of, B2b, B2c, rows_of, row_of, sblimit, serves, chosen}
use Rattle.standard.specs.Header.{bound, Pair, pairs, permitted, frame_bytes}
use Rattle.standard.specs.AudioData.{loop, allocation, shared_allocation, allocations, scfsi, scalefactors, each_allocated, code_at, granule, granules, after_allocations, audio_data_by, audio_data}

-- joint stereo with mode_extension 0 to 3 in Table B.2b, which has 30 subbands, and 3 in B.2c, which has 8; stereo; single channel
pub bounds : bound 1 0 B2b ∷ bound 1 1 B2b ∷ bound 1 2 B2b ∷ bound 1 3 B2b ∷ bound 1 3 B2c ∷ bound 0 3 B2b ∷ bound 3 0 B2b ∷ []
    ≡ 4 ∷ 8 ∷ 12 ∷ 16 ∷ 8 ∷ 30 ∷ 30 ∷ []
unfolding sblimit rows_of
bounds = refl

-- 192 kbit/s at 44.1 kHz, without padding and with it; 32 kbit/s at 48 kHz; 384 kbit/s at 32 kHz with padding
pub sizes : frame_bytes 10 0 0 ∷ frame_bytes 10 0 1 ∷ frame_bytes 1 1 0 ∷ frame_bytes 14 2 1 ∷ [] ≡ 626 ∷ 627 ∷ 96 ∷ 1729 ∷ []
sizes = refl

-- the pairs have the rates of bitrate_index. In single channel ten of them are permitted, in stereo, joint stereo and dual channel ten others:
-- 40 pairs of 56
abbrev rates : ℕ → List ℕ
rates mode = flat_map (λ index. cond (permitted mode index) (kbps_of (index - 1) ∷ []) []) (1 ∷ 2 ∷ 3 ∷ 4 ∷ 5 ∷ 6 ∷ 7 ∷ 8 ∷ 9 ∷ 10 ∷ 11 ∷ 12 ∷ 13 ∷ 14 ∷ [])

pub the_pairs : (map (λ (p : Pair). p.kbps) pairs ≡ bit_rates)
    × (rates 3 ≡ 32 ∷ 48 ∷ 56 ∷ 64 ∷ 80 ∷ 96 ∷ 112 ∷ 128 ∷ 160 ∷ 192 ∷ [])
    × (map rates (0 ∷ 1 ∷ 2 ∷ []) ≡ replicate 3 (64 ∷ 96 ∷ 112 ∷ 128 ∷ 160 ∷ 192 ∷ 224 ∷ 256 ∷ 320 ∷ 384 ∷ []))
    × (length (flat_map rates (0 ∷ 1 ∷ 2 ∷ 3 ∷ [])) ≡ 40)
unfolding flat_map
the_pairs = (refl, refl, refl, refl)

-- 192 kbit/s at 44.1 kHz in stereo, and in joint stereo with bound 4; 32 kbit/s in single channel
pub nothing_allocated : (called (audio_data 0 0 10 0) (replicate 24 0) (reader_at 0) ≡ 188)
    × (called (audio_data 1 0 10 0) (replicate 24 0) (reader_at 0) ≡ 110)
    × (called (audio_data 3 0 1 0) (replicate 24 0) (reader_at 0) ≡ 26)
unfolding called ◌>>=◌ audio_data_by allocations loop allocation shared_allocation each_allocated scfsi scalefactors after_allocations granules granule code_at
    row_of rows_of sblimit chosen serves field_of read_of bits_value bit_at
nothing_allocated = (refl, refl, refl)
