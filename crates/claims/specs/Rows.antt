-- 01's table of proved examples: the thirteen rows as one list, with one claim. What is given stands in `rows`, what is got in `got`.
-- Assumes nothing.
use Rattle.std.specs.Prelude.{ℕ, ◌≡◌, List, [], ◌∷◌, ◌++◌, map, ℤ, pos, negsuc, Result, Ok, Err, cond, eqb}
use Rattle.std.proofs.Common.{ap₂}
use Rattle.ground.specs.First.{first_from}
use Rattle.buffer.specs.Bits.{bit_at, bits_value}
use Rattle.buffer.specs.Calls.{reader_at, read_of, field_of, has_of, skip_bytes_of}
use Rattle.buffer.specs.Rows.{reads, row_1}
use Rattle.buffer.specs.declared.Taken.{Taken}
use Rattle.grammar.specs.Reads.{◌>>=◌, run}
use Rattle.tables.specs.Standard.{limit_of, chosen, serves, sblimit, rows_of}
use Rattle.header.specs.Header.{bound_by, header_of, start_of, sync_of, fields_of, ident_of, rates_of, rest_of, mode_of, bound_of, check_of, size_of}
use Rattle.header.specs.Rows.{announced}
use Rattle.side.specs.Side.{cut_of}
use Rattle.samples.specs.Sample.{scale_of, adj_of, scaled_by, sample_of, factor_of, digits_of}
use Rattle.samples.specs.Rows.{row_13}
use Rattle.samples.specs.declared.Three.{Three}
use Rattle.refusal.specs.declared.Refusal.{Refusal}
use Rattle.refusal.specs.Numbers.{number_of}

-- what an example gives: whole numbers, and reads that are short
pub data Cell : Type 0 where
  number : ℤ → Cell
  short : Cell
  refused : ℕ → Cell

abbrev counts : List ℕ → List Cell
counts = map (λ n. number (pos n))

abbrev answers : List (Result (Taken ℕ) Refusal) → List Cell
answers = map cell
  where
    cell : Result (Taken ℕ) Refusal → Cell
    cell (Ok x) = number (pos x.value)
    cell (Err n) = cond (eqb (number_of n) 12) short (refused (number_of n))

abbrev digits : Three → List ℕ
digits d = d.first ∷ d.second ∷ d.third ∷ []

-- row 13 says "any digit": `levels` and `digit` are any
unfoldable pub rows : ℕ → ℕ → List (List Cell)
rows levels digit =
    answers (reads (0xA5 ∷ 0x3C ∷ []) (reader_at 0) (4 ∷ 8 ∷ 5 ∷ 4 ∷ []))
    ∷ counts (announced 0xFF 0xFD 0xA0 0x00 ∷ [])
    ∷ counts (announced 0xFF 0xFD 0xA2 0x00 ∷ announced 0xFF 0xFC 0xA0 0x00 ∷ [])
    ∷ counts (announced 0xFF 0xFC 0x14 0x00 ∷ [])
    ∷ counts (announced 0xFF 0xFD 0xEA 0x00 ∷ [])
    ∷ counts (limit_of 0 5 0 ∷ limit_of 0 5 2 ∷ [])
    ∷ counts (limit_of 3 4 2 ∷ limit_of 3 5 0 ∷ [])
    ∷ counts (cut_of (bound_by 1 3) (limit_of 1 5 0) ∷ [])
    ∷ counts (digits (digits_of 3 26) ++ digits (digits_of 3 31))
    ∷ counts (digits (digits_of 5 127) ++ digits (digits_of 9 1023))
    ∷ (number (sample_of 3 0 (factor_of 0)) ∷ number (sample_of 3 3 (factor_of 0)) ∷ [])
    ∷ (number (sample_of 3 0 (factor_of 62)) ∷ number (sample_of 3 2 (factor_of 62)) ∷ [])
    ∷ (number (sample_of levels digit (factor_of 63)) ∷ [])
    ∷ []

-- rows 2 to 12, and 13 behind them
abbrev pub middle : Cell → List (List Cell)
middle last =
    counts (622 ∷ [])
    ∷ counts (623 ∷ 620 ∷ [])
    ∷ counts (90 ∷ [])
    ∷ counts (1725 ∷ [])
    ∷ counts (8 ∷ 12 ∷ [])
    ∷ counts (27 ∷ 30 ∷ [])
    ∷ counts (8 ∷ [])
    ∷ counts (2 ∷ 2 ∷ 2 ∷ 1 ∷ 1 ∷ 3 ∷ [])
    ∷ counts (2 ∷ 0 ∷ 5 ∷ 6 ∷ 5 ∷ 12 ∷ [])
    ∷ (number (pos 32768) ∷ number (negsuc 65535) ∷ [])
    ∷ (number (pos 0) ∷ number (negsuc 0) ∷ [])
    ∷ (last ∷ [])
    ∷ []

abbrev pub got : List (List Cell)
got = (number (pos 10) ∷ number (pos 83) ∷ short ∷ number (pos 12) ∷ []) ∷ middle (number (pos 0))

pub the_thirteen_rows : (levels digit : ℕ) → rows levels digit ≡ got
unfolding rows read_of field_of bits_value bit_at announced header_of start_of sync_of has_of skip_bytes_of first_from run ◌>>=◌ fields_of ident_of rates_of rest_of
    mode_of bound_of check_of size_of limit_of chosen serves sblimit rows_of sample_of scaled_by scale_of adj_of factor_of
the_thirteen_rows levels digit = ap₂ (λ first last. answers first ∷ middle (number last)) row_1 (row_13 levels digit)
