-- `transform::pass16` meets its contract, by the law of one halving. Assumes nothing.
use native.Mathlib.Omega.{arith}
use Rattle.transform.proofs.Halving.{wide}
use Rattle.transform.proofs.pass16.Goals as goal

pub returns : goal.returns
returns c =
    let f = c.args.first in
    wide 3 f f _ _ _ _ _ _ (omega arith) (omega arith) c.weave.ensures
    c.halve.ensures.sums_after (rw c.factors_16.ensures at c.halve.ensures.differences_after) (c.pass8.ensures f) (c.pass8-2.ensures f)
