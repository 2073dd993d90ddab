-- The source's steps are the standard's, but for the entry listed in specs/Differences.
-- Assumes nothing.
use Rattle.std.specs.Prelude.{ℕ, ◌^◌, ◌≤◌, ◌<◌, T, eqb, leb}
use Rattle.std.proofs.Common.{lt_of_lt_of_le, arith, eqb→eq, leb→le, pow_mono}
use Rattle.ground.specs.Upto.{below2, and_left, and_right, or_left}
use Rattle.tables.specs.Standard.{Table, row_of, sblimit, steps_of}
use Rattle.tables.specs.Laws.{width≤4}
use Rattle.tables.specs.Differences.{number_of, taken, Compared, same_width, agrees, step_test, steps_hold}

pub differs_only : (t : Table) (sb allocation : ℕ) → sb < sblimit t → allocation < 2 ^ (row_of t sb).nbal → Compared t sb allocation
unfolding step_test
differs_only t sb a h l =
    let small : 2 ^ (row_of t sb).nbal ≤ 2 ^ 4 = pow_mono (rw (same_width t sb h) at (width≤4 (number_of t) sb)) in
    let holds : T (agrees t sb a) =
    or_left (agrees t sb a) (leb (2 ^ (row_of t sb).nbal) a)
    (below2 (step_test t) (sblimit t) 16 (steps_hold t) sb a h (lt_of_lt_of_le l small))
    (λ k. let g : 2 ^ (row_of t sb).nbal ≤ a = leb→le _ _ k in omega arith) in
    record {
      same = λ e. eqb→eq _ _ (rw e at holds);
      other = λ e.
          let both = rw e at holds in (
            eqb→eq _ _ (and_left (eqb (taken t sb a) 65535) (eqb (steps_of t sb a) 32767) both),
            eqb→eq _ _ (and_right (eqb (taken t sb a) 65535) (eqb (steps_of t sb a) 32767) both),
          );
    }
