-- The source's tables say what the standard's say, but for the entry listed here: each claim is a test computed over all entries.
-- Assumes nothing.
use Rattle.std.specs.Prelude.{ℕ, ◌/◌, ◌%◌, ◌^◌, ◌<◌, ◌≡◌, refl, Bool, true, false, cond, ◌&&◌, ◌||◌, List, [], ◌∷◌, T, eqb, ltb, leb, drop}
use Rattle.std.proofs.Common.{eqb→eq}
use Rattle.ground.specs.Upto.{upto, below, below2}
use Rattle.tables.specs.Standard.{Table, B2a, B2b, B2c, B2d, rows_of, sblimit, row_of, steps_of, chosen, Class, classes, quantisation_of, levels_of}
use Rattle.tables.specs.Source.{quant_tab, entry_of, source_row_of, width_of, quantiser_of}

-- the source's table for each of the standard's: 0 that of the low rates, 1 that of the high
abbrev pub number_of : Table → ℕ
number_of B2a = 1
number_of B2b = 1
number_of B2c = 0
number_of B2d = 0

-- that of a mode, a bit rate and a sample rate
unfoldable pub table_of : ℕ → ℕ → ℕ → ℕ
table_of mode bitrate samplerate = number_of (chosen (eqb mode 3) bitrate samplerate)

-- THE LIST of what differs: Tables B.2c and B.2d, subbands 0 and 1, allocation 15
abbrev pub differs_at : Table → ℕ → ℕ → Bool
differs_at B2a sb allocation = false
differs_at B2b sb allocation = false
differs_at B2c sb allocation = ltb sb 2 && eqb allocation 15
differs_at B2d sb allocation = ltb sb 2 && eqb allocation 15

-- the steps that the source takes for an allocation
abbrev pub taken : Table → ℕ → ℕ → ℕ
taken t sb allocation = levels_of (quantiser_of (number_of t) sb allocation)

-- what is said of an allocation: the steps are the standard's, but where it is listed, 65535 for 32767
pub record Compared (t : Table) (sb allocation : ℕ) : Type 0 where
  pub same : differs_at t sb allocation ≡ false → taken t sb allocation ≡ steps_of t sb allocation
  pub other : differs_at t sb allocation ≡ true → (taken t sb allocation ≡ 65535) × (steps_of t sb allocation ≡ 32767)

-- the widths of the allocation fields
width_test : Table → ℕ → Bool
width_test t sb = eqb (width_of (number_of t) sb) (row_of t sb).nbal

widths_hold : (t : Table) → T (upto (width_test t) (sblimit t))
unfolding width_test width_of source_row_of row_of rows_of sblimit
widths_hold B2a = tt
widths_hold B2b = tt
widths_hold B2c = tt
widths_hold B2d = tt

pub same_width : (t : Table) (sb : ℕ) → sb < sblimit t → width_of (number_of t) sb ≡ (row_of t sb).nbal
unfolding width_test
same_width t sb h = eqb→eq _ _ (below (width_test t) (sblimit t) (widths_hold t) sb h)

-- the steps, wherever a field of that width can lead
abbrev pub agrees : Table → ℕ → ℕ → Bool
agrees t sb a =
    cond (differs_at t sb a) (eqb (taken t sb a) 65535 && eqb (steps_of t sb a) 32767) (eqb (taken t sb a) (steps_of t sb a))

unfoldable pub step_test : Table → ℕ → ℕ → Bool
step_test t sb a = agrees t sb a || leb (2 ^ (row_of t sb).nbal) a

pub steps_hold : (t : Table) → T (upto (λ (sb : ℕ). upto (step_test t sb) 16) (sblimit t))
unfolding step_test quantiser_of source_row_of levels_of quantisation_of classes steps_of row_of rows_of sblimit
steps_hold B2a = tt
steps_hold B2b = tt
steps_hold B2c = tt
steps_hold B2d = tt

-- the limit and the table, for mono and not, each bit rate and each sample rate: 84 choices
limit_test : Bool → ℕ → ℕ → Bool
limit_test mono b s = eqb (entry_of mono b s % 64) (sblimit (chosen mono b s))

pub same_limit : (mono : Bool) (b s : ℕ) → b < 14 → s < 3 → entry_of mono b s % 64 ≡ sblimit (chosen mono b s)
unfolding limit_test entry_of sblimit rows_of chosen
same_limit true b s p q = eqb→eq _ _ (below2 (limit_test true) 14 3 tt b s p q)
same_limit false b s p q = eqb→eq _ _ (below2 (limit_test false) 14 3 tt b s p q)

table_test : Bool → ℕ → ℕ → Bool
table_test mono b s = eqb (entry_of mono b s / 64) (number_of (chosen mono b s))

pub same_table : (mono : Bool) (b s : ℕ) → b < 14 → s < 3 → entry_of mono b s / 64 ≡ number_of (chosen mono b s)
unfolding table_test entry_of chosen
same_table true b s p q = eqb→eq _ _ (below2 (table_test true) 14 3 tt b s p q)
same_table false b s p q = eqb→eq _ _ (below2 (table_test false) 14 3 tt b s p q)

-- the quantisers, 1 to 17: levels, whether three samples share a code, bits
abbrev pub columns : List Class → List ℕ
columns [] = []
columns (c ∷ cs) = c.steps ∷ cond (eqb c.samples 3) 1 0 ∷ c.bits ∷ columns cs

pub same_classes : columns (drop 1 classes) ≡ quant_tab
unfolding classes
same_classes = refl
