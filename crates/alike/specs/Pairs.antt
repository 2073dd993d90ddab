-- The pairs of bit rate and mode: what the strict reading refuses with 13 is what the standard does not have. 02, E3: "in the strict one demand 2
-- is over the standard's pairs". Assumes nothing.
use Rattle.std.specs.Prelude.{ℕ, ◌+◌, ◌-◌, ◌*◌, ◌≤◌, ◌<◌, ◌≡◌, refl, Bool, true, false, cond, not, ◌&&◌, List, [], ◌∷◌, T, eqb, length}
use Rattle.std.proofs.Common.{sym, ap, ◌∙◌, arith}
use Rattle.ground.specs.First.{first_from}
use Rattle.ground.specs.Rows.{never}
use Rattle.ground.specs.Upto.{upto, below2}
use Rattle.buffer.specs.Bits.{longest_stream, bit_at, bits_value}
use Rattle.buffer.specs.Calls.{reader_at, read_of, field_of, has_of, skip_bytes_of}
use Rattle.buffer.specs.Laws.{bits_below}
use Rattle.grammar.specs.Reads.{◌>>=◌, run}
use Rattle.tables.specs.Standard.{kbps_of}
use Rattle.readings.specs.Readings.{strict, reading_by}
use Rattle.readings.specs.Pairs.{only_mono, never_mono, barred}
use Rattle.header.specs.Header.{header_number, header_of, start_of, sync_of, fields_of, ident_of, rates_of, rest_of, mode_of, bound_of, check_of, size_of}
use Rattle.header.specs.Attempts.{pair_barred}
use Rattle.readings.specs.declared.Reading.{Reading}
use Rattle.standard.specs.Header.{permitted, mode_bits, bitrate_index}
use Rattle.alike.specs.Fields.{after_sync, says}

-- ---- each pair

same : Bool → Bool → Bool
same true b = b
same false b = not b

are_same : (a b : Bool) → T (same a b) → a ≡ b
unfolding same
are_same true true t = refl
are_same true false t = absurd t
are_same false true t = absurd t
are_same false false t = refl

-- the two lists of 02 say of each of the 56 pairs what the standard's table says
lists_agree : ℕ → ℕ → Bool
lists_agree bitrate mode = same (cond (eqb mode 3) (never_mono (kbps_of bitrate)) (only_mono (kbps_of bitrate))) (not (permitted mode (bitrate + 1)))

pub barred_is_not_permitted : (reading : Reading) (bitrate mode : ℕ) → bitrate < 14 → mode < 4
    → barred reading bitrate mode ≡ (strict reading && not (permitted mode (bitrate + 1)))
unfolding lists_agree same
barred_is_not_permitted reading bitrate mode l m =
    ap (λ (t : Bool). strict reading && t) (are_same _ _ (below2 lists_agree 14 4 tt bitrate mode l m))

implied : (a b : Bool) → (a ≡ true → b ≡ true) → (a && not b) ≡ false
implied true b h = rw (h refl)
implied false b h = refl

implies : (a b : Bool) → (a && not b) ≡ false → a ≡ true → b ≡ true
implies true true h e = refl
implies true false h e = sym h
implies false b h e = absurd (never e refl)

-- so where a pair is not refused, the standard has it, if the reading is strict
pub not_barred_is_permitted : (reading : Reading) (bitrate mode : ℕ) → bitrate < 14 → mode < 4 → barred reading bitrate mode ≡ false
    → strict reading ≡ true → permitted mode (bitrate + 1) ≡ true
not_barred_is_permitted reading bitrate mode l m h = implies _ _ (sym (barred_is_not_permitted reading bitrate mode l m) ∙ h)

-- ---- whole headers: strict accepts exactly the standard's pairs, and plain accepts every pair

abbrev header_with : ℕ → ℕ → List ℕ
header_with index mode = 0xFF ∷ 0xFD ∷ 16 * index ∷ 64 * mode ∷ 0 ∷ 0 ∷ []

abbrev number_of : ℕ → ℕ → ℕ → ℕ
number_of choices mode index =
    header_number
    (header_of (header_with index mode) (reader_at 0) (record { reading = reading_by choices; samplerate = 3; bitrate = 0; mode = 0; bound = 0 })).header

pub strict_takes_the_standards_pairs : T (upto (λ mode. upto (λ i. eqb (number_of 1 mode (i + 1)) (cond (permitted mode (i + 1)) 0 13)) 14) 4)
    × T (upto (λ mode. upto (λ i. eqb (number_of 0 mode (i + 1)) 0) 14) 4)
unfolding header_of start_of sync_of has_of skip_bytes_of field_of read_of bits_value bit_at first_from run ◌>>=◌ fields_of ident_of rates_of rest_of mode_of bound_of check_of
    size_of
strict_takes_the_standards_pairs = (tt, tt)

-- ---- the header at a byte of a stream

-- read strictly, its bit rate is one that the standard has in its mode: docs/DIFFERENCES.md, F3
abbrev pub Permits : Reading → List ℕ → ℕ → Type 0
Permits reading s byte = strict reading ≡ true → permitted (mode_bits s byte) (bitrate_index s byte) ≡ true

module _ (s : List ℕ) (byte : ℕ) (short : length s ≤ longest_stream) (room : 8 * byte + 32 ≤ 8 * length s) (least : 1 ≤ bitrate_index s byte)
    (most : bitrate_index s byte ≤ 14) (reading : Reading) where
  goes_by_the_table : pair_barred s (after_sync byte) reading ≡ (strict reading && not (permitted (mode_bits s byte) (bitrate_index s byte)))
  goes_by_the_table =
      let w = says s byte short room reading in
      let index : bitrate_index s byte - 1 + 1 ≡ bitrate_index s byte = omega arith in
      rw (w.bitrate, w.mode)
      (barred_is_not_permitted reading (bitrate_index s byte - 1) (mode_bits s byte) (omega arith) (bits_below s (byte * 8 + 24) 2)
      ∙ ap (λ (i : ℕ). strict reading && not (permitted (mode_bits s byte) i)) index)

  pub permitted_is_taken : Permits reading s byte → pair_barred s (after_sync byte) reading ≡ false
  permitted_is_taken h = goes_by_the_table ∙ implied _ _ h

  pub taken_is_permitted : pair_barred s (after_sync byte) reading ≡ false → Permits reading s byte
  taken_is_permitted h = implies _ _ (sym goes_by_the_table ∙ h)

  pub not_permitted_is_refused : strict reading ≡ true → permitted (mode_bits s byte) (bitrate_index s byte) ≡ false → pair_barred s (after_sync byte) reading ≡ true
  not_permitted_is_refused chosen none = goes_by_the_table ∙ rw (chosen, none)
