-- `transform::pass8` meets its contract, by the law of one halving. Assumes nothing.
use native.Mathlib.Omega.{arith}
use Rattle.transform.specs.Transform.{halving_factors}
use Rattle.transform.proofs.Halving.{wide}
use Rattle.transform.proofs.pass8.Goals as goal

pub returns : goal.returns
unfolding halving_factors
returns c =
    λ f. wide 2 f f _ _ _ _ _ _ (omega arith) (omega arith)
    c.weave.ensures c.halve.ensures.sums_after c.halve.ensures.differences_after (c.pass4.ensures f) (c.pass4-2.ensures f)
