-- Row 8 of 01's table of examples, and the 188 bits of 01's frame of zeros, computed. Rows 9 to 13 are in `samples`.
-- Assumes nothing.
use Rattle.std.specs.Prelude.{ℕ, ◌+◌, ◌*◌, ◌≡◌, refl, false, List, [], ◌∷◌, ℤ, replicate}
use Rattle.buffer.specs.Bits.{bit_at, bits_value}
use Rattle.buffer.specs.Calls.{read_of, reader_at, field_of}
use Rattle.grammar.specs.Reads.{Reads, ◌>>=◌, called}
use Rattle.tables.specs.Standard.{limit_of, chosen, serves, sblimit, rows_of}
use Rattle.tables.specs.Source.{source_row_of, width_of, quantiser_of}
use Rattle.tables.specs.Differences.{table_of}
use Rattle.side.specs.Bands.{bands, pair_of, channels_of}
use Rattle.side.specs.Side.{cut_of, allocation_of, allocation_band_of, selector_of, factors_of, side_of}
use Rattle.codes.specs.Frame.{place_of, copied, sample_band_of, granule_of, granules_of, frame_of}

-- joint stereo with extension 3 has bound 16, and 96 kbit/s at 44.1 kHz the limit 8
abbrev pub row8 : List ℕ
row8 = cut_of (4 * (3 + 1)) (limit_of 1 5 0) ∷ []

pub row_8 : row8 ≡ 8 ∷ []
unfolding limit_of chosen serves sblimit rows_of
row_8 = refl

-- FF FD A0 00 and 622 zero bytes: mode 0, 192 kbit/s, 44.1 kHz, read from bit 32
abbrev pub zeros : List ℕ
zeros = 0xFF ∷ 0xFD ∷ 0xA0 ∷ 0 ∷ replicate 622 0

abbrev pub zero_frame : Reads (List (List ℤ))
zero_frame = frame_of false (table_of 0 9 0) (cut_of 32 (limit_of 0 9 0)) (limit_of 0 9 0)

pub row_188 : called zero_frame zeros (reader_at 32) ≡ 188
unfolding called ◌>>=◌ frame_of side_of bands pair_of allocation_of allocation_band_of channels_of selector_of factors_of place_of copied sample_band_of granule_of
    granules_of field_of read_of bits_value bit_at table_of limit_of chosen serves sblimit rows_of source_row_of width_of quantiser_of
row_188 = refl
