-- Where the source leaves ISO/IEC 11172-3, one small theorem each, by the numbers and the smallest streams of docs/DIFFERENCES.md: in a
-- frame's fields and codes (S), and in what is taken for a frame (F). Assumes nothing.
use Rattle.std.specs.Prelude.{ℕ, ◌+◌, ◌*◌, ◌/◌, ◌%◌, ◌<◌, ◌≡◌, refl, true, false, cond, List, [], ◌∷◌, ◌++◌, T, eqb, ℤ, pos, negsuc, get_or, replicate, Err, Ok}
use Rattle.std.proofs.Common.{sym, mod-eq_of_lt, div-lt_iff_lt-mul, ltb→lt}
use Rattle.std.specs.Float.{fin, binary32}
use Rattle.std.specs.Float.Ieee.{of_int, add, mul, div, lt}
use Rattle.ground.specs.First.{first_from}
use Rattle.ground.specs.Upto.{upto}
use Rattle.buffer.specs.Bits.{bit_at, bits_value}
use Rattle.buffer.specs.Calls.{reader_at, byte_at, left, read_of, field_of, has_of, skip_bytes_of}
use Rattle.grammar.specs.Reads.{Reads, ◌>>=◌, run, called}
use Rattle.tables.specs.Standard.{B2c, rows_of, row_of, steps_of, sblimit, serves, chosen, limit_of, classes, quantisation_of, levels_of, code_bits_of, grouped_of}
use Rattle.tables.specs.Source.{source_row_of, width_of, quantiser_of}
use Rattle.tables.specs.Differences.{taken, table_of}
use Rattle.header.specs.Header.{header_of, header_number, start_of, sync_of, fields_of, ident_of, rates_of, rest_of, mode_of, bound_of, check_of, size_of, accepted_header}
use Rattle.readings.specs.Readings.{plain}
use Rattle.header.specs.Rows.{unknown}
use Rattle.header.specs.declared.Attempt.{Attempt}
use Rattle.header.specs.declared.Format.{Format}
use Rattle.samples.specs.Sample.{scale_of, adj_of, scaled_by, sample_of, factor_of, digits_of}
use Rattle.side.specs.Bands.{bands, pair_of, channels_of}
use Rattle.side.specs.Side.{allocation_of, allocation_band_of, selector_of, factors_of, side_of}
use Rattle.codes.specs.Frame.{singles_of, codes_of, three_samples_of, place_of, copied, sample_band_of, granule_of, granules_of, frame_of}
use Rattle.window.specs.Output.{divisor, taps, output_of}
use Rattle.window.specs.Window.{standard_d, half, window_list, window_at}
use Rattle.standard.specs.Header.{HeaderFields, bitrate_index, mode_bits, permitted, frame_size, data_size}
use Rattle.standard.specs.AudioData.{loop, allocation, shared_allocation, allocations, scfsi, scalefactors, each_allocated, find, class_for, code, code_at, granule, granules, after_allocations, audio_data_by, audio_data, AudioFields}
use Rattle.standard.specs.Fractions.{Same, ◌over◌, times}
use Rattle.standard.specs.Values.{table_b4, requantisation_of, requantised}
use Rattle.alike.specs.Made.{placed}
use Rattle.alike.specs.JointStereo.{own_band, own_made, own_made_from, made_by_own_factors, samples_by_own_factors}
use Rattle.alike.specs.Fields.{header_fields}
use Rattle.refusal.specs.declared.Refusal.TheVariants.{OtherLayer, NoBitRate, OtherFormat}

-- the streams below begin FF FD 10 C0: mono, 32 kbit/s, 44.1 kHz, a frame of 104 bytes, the audio data from bit 32 on
abbrev mono32 : List ℕ → List ℕ
mono32 rest = 0xFF ∷ 0xFD ∷ 0x10 ∷ 0xC0 ∷ rest

-- what the port keeps of such a header, and its frame's program of reads
abbrev mono_format : Format
mono_format = record { reading = plain; samplerate = 0; bitrate = 0; mode = 3; bound = 0 }

abbrev mono_frame : Reads (List (List ℤ))
mono_frame = frame_of true (table_of 3 0 0) 0 (limit_of 3 0 0)

-- S1: allocation 15 of Tables B.2c and B.2d, subbands 0 and 1. `differs-only` in tables says that no other entry differs
pub entry_15 : (taken B2c 0 15 ≡ 65535) × (steps_of B2c 0 15 ≡ 32767)
unfolding quantiser_of source_row_of levels_of quantisation_of classes steps_of row_of rows_of
entry_15 = (refl, refl)

-- what it costs: subband 0 with allocation 15 and selector 2. The port uses 610 bits, the standard's reading 574
abbrev listed_stream : List ℕ
listed_stream = mono32 (0xF0 ∷ 0x00 ∷ 0x00 ∷ 0x20 ∷ replicate 96 0)

pub port_uses_610 : (run mono_frame listed_stream (reader_at 32)).next ≡ reader_at (32 + 610)
unfolding run ◌>>=◌ frame_of side_of bands pair_of allocation_of allocation_band_of channels_of selector_of factors_of place_of copied sample_band_of granule_of granules_of
    three_samples_of codes_of singles_of levels_of code_bits_of grouped_of quantisation_of classes field_of read_of bits_value bit_at table_of limit_of chosen serves sblimit
    rows_of source_row_of width_of quantiser_of
port_uses_610 = refl

pub standard_uses_574 : (run (audio_data 3 0 1 0) listed_stream (reader_at 32)).next ≡ reader_at (32 + 574)
unfolding run ◌>>=◌ audio_data_by allocations loop allocation shared_allocation each_allocated scfsi scalefactors after_allocations granules granule code_at code
    class_for find classes steps_of row_of rows_of sblimit chosen serves field_of read_of bits_value bit_at
standard_uses_574 = refl

-- S2: code 0 of 3 steps at scale factor 0, which is 2. The standard's sample is -4/3; the port's is 32768, that is 1, of the other sign.
-- For every code: `val-beside-requantised` and `share-is` in Values
pub three_steps : Same (times (pos 2 over 1) (requantised 1 0)) (negsuc 3 over 3) × (sample_of 3 0 (factor_of 0) ≡ pos 32768)
unfolding requantisation_of table_b4 sample_of scaled_by scale_of adj_of factor_of
three_steps = (record { left_some = ltb→lt _ _ tt; right_some = ltb→lt _ _ tt; crosswise = refl }, refl)

-- S3: 2 ^ 30 belongs there. What would be 65 / 64 is 1; the sign is that of the samples, turned back
pub divisor_65 : (div binary32 (fin true 65 (pos 24)) divisor ≡ fin false 1 (pos 0))
    × (div binary32 (fin false 65 (pos 24)) (fin false 1 (pos 30)) ≡ fin false 65 (negsuc 5))
unfolding div
divisor_65 = (refl, refl)

-- S4: transform/specs/Cosines, `other-is-not`

-- S5: joint stereo with bound 4. Subband 4 has 3 steps, scale factor 0 on the left and 62 on the right, and code 0 for both
abbrev joint_stream : List ℕ
joint_stream = 0xFF ∷ 0xFD ∷ 0x10 ∷ 0x40 ∷ 0x00 ∷ 0x00 ∷ 0x00 ∷ 0x02 ∷ 0x00 ∷ 0xA0 ∷ 0x3E ∷ replicate 93 0

-- both channels of subband 4, in the first slot
abbrev fourth : List (List ℤ) → List ℤ
fourth granules = let xs = get_or granules 0 [] in get_or xs 4 (pos 0) ∷ get_or xs 36 (pos 0) ∷ []

abbrev joint_fields : AudioFields
joint_fields = (run (audio_data 1 0 1 0) joint_stream (reader_at 32)).value

-- the port copies the left's sample; the right's own scale factor makes 0 of the code. `frame-alike` has when the two are the same
pub in_joint_stereo : (fourth (run (frame_of false (table_of 1 0 0) 4 (limit_of 1 0 0)) joint_stream (reader_at 32)).value ≡ pos 32768 ∷ pos 32768 ∷ [])
    × (fourth (samples_by_own_factors steps_of 1 0 1 0 joint_fields) ≡ pos 32768 ∷ pos 0 ∷ [])
unfolding run ◌>>=◌ frame_of side_of bands pair_of allocation_of allocation_band_of channels_of selector_of factors_of place_of copied sample_band_of granule_of granules_of
    three_samples_of codes_of singles_of levels_of code_bits_of grouped_of quantisation_of classes field_of read_of bits_value bit_at table_of limit_of chosen serves sblimit
    rows_of source_row_of width_of quantiser_of scale_of adj_of scaled_by sample_of factor_of audio_data_by allocations loop allocation shared_allocation each_allocated
    scfsi scalefactors after_allocations granules granule code_at code class_for find steps_of row_of made_by_own_factors own_made_from own_made own_band placed
in_joint_stereo = (refl, refl)

-- S6: `factor-beside-table` and `factor-17-too-large` in Values; a sample that is rounded downward: samples/specs/Rows, `row-12`

-- S7: Table B.1 ends at 62; the source takes 63 as silence
pub factor_63 : factor_of 63 ≡ 0
unfolding factor_of
factor_63 = refl

-- S8: a third digit that is reduced as the other two are: libmad has it so, and the programs differ. It is the same for every code that
-- three digits make ..
abbrev pub reduced_third : ℕ → ℕ → ℕ
reduced_third levels v = v / levels / levels % levels

pub same_third_digit : (levels v : ℕ) → 0 < levels → v < levels * levels * levels → (digits_of levels v).third ≡ reduced_third levels v
same_third_digit levels v some h = sym (mod-eq_of_lt ((div-lt_iff_lt-mul some).1 ((div-lt_iff_lt-mul some).1 h)))

-- .. and not past them
pub code_31 : ((digits_of 3 31).third ≡ 3) × (reduced_third 3 31 ≡ 0)
code_31 = (refl, refl)

-- S9: all ones is no level; the source takes it as one step above the last
pub all_ones : sample_of 15 15 (factor_of 0) ≡ negsuc 65535
unfolding sample_of scaled_by scale_of adj_of factor_of
all_ones = refl

-- S10: nothing is clipped. Out of a ring full of -65536 comes more than 1. That mono is on both channels: claims/specs/Mono, `mono-alike`
pub above_one : T (lt (fin false 1 (pos 0)) (output_of (replicate 1024 (fin true 1 (pos 16))) 0 0))
unfolding output_of taps window_at window_list half standard_d of_int div add mul lt
above_one = tt

-- ---- framing

abbrev first : List ℕ → Attempt
first s = header_of s (reader_at 0) unknown

-- F1: whatever the check word says, the header is accepted
pub check_word_unread : (a b : ℕ)
    → first (0xFF ∷ 0xFC ∷ 0x10 ∷ 0xC0 ∷ a ∷ b ∷ replicate 98 0) ≡ record { header = Ok (accepted_header mono_format 98); sync = byte_at 0; next = reader_at 48 }
unfolding header_of start_of sync_of has_of skip_bytes_of field_of read_of bits_value bit_at first_from run ◌>>=◌ fields_of ident_of rates_of rest_of mode_of bound_of check_of
    size_of
check_word_unread a b = refl

-- F2: free format is refused with 4; ID 0, which ISO/IEC 11172-3 reserves, with 3
pub free_format : ((first (0xFF ∷ 0xFD ∷ 0x00 ∷ 0xC0 ∷ 0 ∷ 0 ∷ [])).header ≡ Err NoBitRate) × ((first (0xFF ∷ 0xF5 ∷ 0x10 ∷ 0xC0 ∷ 0 ∷ 0 ∷ [])).header ≡ Err OtherLayer)
unfolding header_of start_of sync_of has_of skip_bytes_of field_of read_of bits_value bit_at first_from run ◌>>=◌ fields_of ident_of rates_of
free_format = (refl, refl)

-- F3: 384 kbit/s in mono and 32 in stereo, which the standard does not permit, are accepted
abbrev not_permitted : List ℕ → Type 0
not_permitted s = (header_number (first s).header ≡ 0) × (permitted (mode_bits s 0) (bitrate_index s 0) ≡ false)

pub every_pair : not_permitted (0xFF ∷ 0xFD ∷ 0xE0 ∷ 0xC0 ∷ 0 ∷ 0 ∷ []) × not_permitted (0xFF ∷ 0xFD ∷ 0x10 ∷ 0x00 ∷ 0 ∷ 0 ∷ [])
unfolding header_of start_of sync_of has_of skip_bytes_of field_of read_of bits_value bit_at first_from run ◌>>=◌ fields_of ident_of rates_of rest_of mode_of bound_of check_of
    size_of
every_pair = ((refl, refl), (refl, refl))

-- F4: stereo, then joint stereo: a header of the standard, refused with 6
abbrev stereo_then_joint : List ℕ
stereo_then_joint = 0xFF ∷ 0xFD ∷ 0x10 ∷ 0x00 ∷ replicate 100 0 ++ (0xFF ∷ 0xFD ∷ 0x10 ∷ 0x40 ∷ replicate 100 0)

abbrev stereo : Format
stereo = record { reading = plain; samplerate = 0; bitrate = 0; mode = 0; bound = 32 }

pub first_holds_for_good : ((first stereo_then_joint).header ≡ Ok (accepted_header stereo 100)) × HeaderFields stereo_then_joint 104
    × ((header_of stereo_then_joint (reader_at 832) stereo).header ≡ Err OtherFormat)
unfolding header_of start_of sync_of has_of skip_bytes_of field_of read_of bits_value bit_at first_from run ◌>>=◌ fields_of ident_of rates_of rest_of mode_of bound_of check_of
    size_of
first_holds_for_good = (refl, header_fields stereo_then_joint 104 tt, refl)

-- F5: the next header is sought behind the last code, at bit 58 here, and one is found in the ancillary bytes, though the frame has 104
abbrev ancillary : List ℕ
ancillary = mono32 (0 ∷ 0 ∷ 0 ∷ 0 ∷ mono32 (replicate 100 0))

pub inside_the_frame : ((run mono_frame ancillary (reader_at 32)).next ≡ reader_at 58) × (frame_size ancillary 0 ≡ 104)
    × (header_of ancillary (reader_at 58) mono_format ≡ record { header = Ok (accepted_header mono_format 100); sync = byte_at 8; next = reader_at 96 })
unfolding header_of start_of sync_of has_of skip_bytes_of field_of read_of bits_value bit_at first_from run ◌>>=◌ fields_of ident_of rates_of rest_of mode_of bound_of check_of
    size_of frame_of side_of bands pair_of allocation_of allocation_band_of channels_of selector_of factors_of place_of copied sample_band_of granule_of granules_of
    table_of limit_of chosen serves sblimit rows_of source_row_of width_of quantiser_of
inside_the_frame = (refl, refl, refl)

-- F6: 1074 bits of codes in a frame that has 800: the reading goes on into the next frame
abbrev past_the_end : List ℕ
past_the_end = mono32 (0xEE ∷ replicate 99 0 ++ mono32 (replicate 100 0))

pub beyond_the_frame : ((run mono_frame past_the_end (reader_at 32)).next ≡ reader_at (32 + 1074)) × (data_size past_the_end 0 ≡ 100) × HeaderFields past_the_end 104
unfolding run ◌>>=◌ frame_of side_of bands pair_of allocation_of allocation_band_of channels_of selector_of factors_of place_of copied sample_band_of granule_of granules_of
    three_samples_of codes_of singles_of levels_of code_bits_of grouped_of quantisation_of classes field_of read_of bits_value bit_at table_of limit_of chosen serves sblimit
    rows_of source_row_of width_of quantiser_of
beyond_the_frame = (refl, refl, header_fields past_the_end 104 tt)

-- F7: FF and E0 to FF, but for FC and FD, cost 16 bits and a 3 (FC and FD here have bit rate 0: 4) ..
abbrev almost : ℕ → List ℕ
almost v = 0xFF ∷ (0xE0 + v) ∷ replicate 4 0

pub almost_a_sync : T (upto (λ (v : ℕ). eqb (header_number (first (almost v)).header) (cond (eqb (v / 2) 14) 4 3)) 32)
unfolding header_of start_of sync_of has_of skip_bytes_of field_of read_of bits_value bit_at first_from run ◌>>=◌ fields_of ident_of rates_of
almost_a_sync = tt

-- .. and a header of the standard at the second of two FF is lost: the next attempt starts behind its first byte
pub lost_header : HeaderFields (0xFF ∷ mono32 (replicate 100 0)) 1
    × (first (0xFF ∷ mono32 (replicate 100 0)) ≡ record { header = Err OtherLayer; sync = byte_at 0; next = reader_at 16 })
unfolding header_of start_of sync_of has_of skip_bytes_of field_of read_of bits_value bit_at first_from run ◌>>=◌ fields_of ident_of rates_of
lost_header = (header_fields (0xFF ∷ mono32 (replicate 100 0)) 1 tt, refl)

-- F8: a last frame that lacks a byte: 792 bits are left of 8 · 100, and its codes call for 26. 01 gives 7
abbrev stream_cut_short : List ℕ
stream_cut_short = mono32 (replicate 99 0)

pub cut_short : (first stream_cut_short ≡ record { header = Ok (accepted_header mono_format 100); sync = byte_at 0; next = reader_at 32 }) × (left stream_cut_short (reader_at 32) ≡ 792)
    × (called mono_frame stream_cut_short (reader_at 32) ≡ 26)
unfolding header_of start_of sync_of has_of skip_bytes_of field_of read_of bits_value bit_at first_from run called ◌>>=◌ fields_of ident_of rates_of rest_of mode_of bound_of
    check_of size_of frame_of side_of bands pair_of allocation_of allocation_band_of channels_of selector_of factors_of place_of copied sample_band_of granule_of
    granules_of table_of limit_of chosen serves sblimit rows_of source_row_of width_of quantiser_of
cut_short = (refl, refl, refl)

-- F9: four bytes that say 48 kbit/s, and true frames of 32 behind them. No header stands where a frame of the first would end, at byte 156;
-- it is accepted, and a true header is then refused with 6
abbrev false_start : List ℕ
false_start = 0xFF ∷ 0xFD ∷ 0x20 ∷ 0xC0 ∷ mono32 (replicate 100 0 ++ mono32 (replicate 100 0))

abbrev mono48 : Format
mono48 = record { reading = plain; samplerate = 0; bitrate = 1; mode = 3; bound = 0 }

pub unconfirmed : ((first false_start).header ≡ Ok (accepted_header mono48 152)) × (bits_value false_start (8 * 156) 12 ≡ 0) × HeaderFields false_start 108
    × ((header_of false_start (reader_at 864) mono48).header ≡ Err OtherFormat)
unfolding header_of start_of sync_of has_of skip_bytes_of field_of read_of bits_value bit_at first_from run ◌>>=◌ fields_of ident_of rates_of rest_of mode_of bound_of check_of
    size_of
unconfirmed = (refl, refl, header_fields false_start 108 tt, refl)

-- F10: a header cut behind its third byte is accepted: what is missing reads as 0, which is stereo
pub cut_header : first (0 ∷ 0 ∷ 0 ∷ 0xFF ∷ 0xFD ∷ 0x10 ∷ []) ≡ record { header = Ok (accepted_header stereo 100); sync = byte_at 3; next = reader_at 48 }
unfolding header_of start_of sync_of has_of skip_bytes_of field_of read_of bits_value bit_at first_from run ◌>>=◌ fields_of ident_of rates_of rest_of mode_of bound_of check_of
    size_of
cut_header = refl
