-- The one entry of the standard's tables that the source has otherwise: docs/DIFFERENCES.md, S1. The table with this entry replaced is
-- the source's, and the standard's but for this entry. Assumes nothing.
use Rattle.std.specs.Prelude.{ℕ, zero, suc, ◌^◌, ◌<◌, ◌≡◌, true, false, cond, T}
use Rattle.std.proofs.Common.{sym, subst, arith, eqb-true, ltb-true}
use Rattle.ground.specs.Tests.{by_test, both}
use Rattle.tables.specs.Standard.{Table, B2a, B2b, B2c, B2d, row_of, sblimit, steps_of}
use Rattle.tables.specs.Differences.{differs_at, taken}
use Rattle.tables.proofs.Differences.{differs_only}
use Rattle.standard.specs.AudioData.{Steps}

-- the entries of the list
pub data Listed : Table → ℕ → ℕ → Type 0 where
  B2c-0 : Listed B2c 0 15
  B2c-1 : Listed B2c 1 15
  B2d-0 : Listed B2d 0 15
  B2d-1 : Listed B2d 1 15

first_two : (P : ℕ → ℕ → Type 0) → P 0 15 → P 1 15 → (sb : ℕ) → sb < 2 → P sb 15
first_two P a b zero l = a
first_two P a b (suc zero) l = b
first_two P a b (suc (suc n)) l = absurd (omega arith)

-- no other differs
pub the_list : (t : Table) (sb allocation : ℕ) → differs_at t sb allocation ≡ true → Listed t sb allocation
the_list B2a sb a e = absurd (subst T (sym e) tt)
the_list B2b sb a e = absurd (subst T (sym e) tt)
the_list B2c sb a e = let b = both e in rw (eqb-true a 15 b.second) (first_two (Listed B2c) B2c-0 B2c-1 sb (ltb-true sb 2 b.first))
the_list B2d sb a e = let b = both e in rw (eqb-true a 15 b.second) (first_two (Listed B2d) B2d-0 B2d-1 sb (ltb-true sb 2 b.first))

-- there 65535 steps in place of 32767; nothing else is replaced
unfoldable pub replaced : Steps
replaced t sb allocation = cond (differs_at t sb allocation) 65535 (steps_of t sb allocation)

pub else_the_standards : (t : Table) (sb allocation : ℕ) → differs_at t sb allocation ≡ false → replaced t sb allocation ≡ steps_of t sb allocation
unfolding replaced
else_the_standards t sb allocation e = rw e

pub taken_is_replaced : (t : Table) (sb allocation : ℕ) → sb < sblimit t → allocation < 2 ^ (row_of t sb).nbal
    → taken t sb allocation ≡ replaced t sb allocation
unfolding replaced
taken_is_replaced t sb a h l =
    let d = differs_only t sb a h l in
    by_test (λ (n : ℕ). taken t sb a ≡ n) (differs_at t sb a) 65535 (steps_of t sb a) (λ e. (d.other e).0) d.same
