-- The order of what stands before the codes, computed on a byte or two. From 01, "From a header to codes": "left first", "below the bound
-- each channel has its own allocation"; in mono there is one channel. Assumes nothing.
use Rattle.std.specs.Prelude.{◌≡◌, refl, true, false, [], ◌∷◌, get_or, replicate}
use Rattle.buffer.specs.Bits.{bit_at, bits_value}
use Rattle.buffer.specs.Calls.{reader_at, read_of, field_of}
use Rattle.grammar.specs.Reads.{◌>>=◌, run}
use Rattle.tables.specs.Source.{source_row_of, width_of, quantiser_of}
use Rattle.side.specs.Bands.{bands, pair_of, channels_of}
use Rattle.side.specs.Side.{allocation_of, allocation_band_of, allocations_of, selector_of, selectors_of}

-- allocations 1 and 2, of four bits each: the left channel's is the first
pub left_first : (let quant = (run (allocations_of 0 1 1 (replicate 64 0)) (0x12 ∷ []) (reader_at 0)).value in get_or quant 0 0 ∷ get_or quant 32 0 ∷ []) ≡ 1 ∷ 2 ∷ []
unfolding bands pair_of allocation_of allocation_band_of run ◌>>=◌ field_of read_of bits_value bit_at source_row_of width_of quantiser_of
left_first = refl

-- both channels allocated: mono has the selector of one, the other modes of two
pub mono_has_one : (run (selectors_of true (replicate 64 1) 1 (replicate 64 0)) (0x55 ∷ []) (reader_at 0)).next
    ∷ (run (selectors_of false (replicate 64 1) 1 (replicate 64 0)) (0x55 ∷ []) (reader_at 0)).next ∷ [] ≡ reader_at 2 ∷ reader_at 4 ∷ []
unfolding bands pair_of channels_of selector_of run ◌>>=◌ field_of read_of bits_value bit_at
mono_has_one = refl
