-- `transform::pass32` meets its contract, by the law of one halving. Assumes nothing.
use native.Mathlib.Omega.{arith}
use Rattle.transform.specs.Transform.{halving_factors, usual_factor, other_factor}
use Rattle.transform.proofs.Halving.{wide}
use Rattle.transform.proofs.pass32.Goals as goal

pub returns : goal.returns
unfolding halving_factors
returns c =
    wide 4 usual_factor other_factor _ _ _ _ _ _ (omega arith) (omega arith)
    c.weave.ensures c.halve.ensures.sums_after c.halve.ensures.differences_after c.pass16.ensures c.pass16-2.ensures
