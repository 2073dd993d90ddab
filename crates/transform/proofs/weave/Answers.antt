-- `transform::weave` meets its contract: all pairs are woven. Assumes nothing.
use Rattle.std.proofs.Common.{arith}
use Rattle.std.proofs.lemmas.Grind.{common_steps}
use Rattle.transform.proofs.Halving.{is_woven}
use Rattle.transform.proofs.weave.Goals as goal

pub loop-i-preserved : goal.loop-i-preserved
loop-i-preserved c =
    (λ k h. grind (arith, common_steps, c.loop-i.invariant.0 k), λ k h. grind (arith, common_steps, c.loop-i.invariant.1 k))

pub returns : goal.returns
returns c = grind (arith, is_woven, c.loop-i.invariant.0, c.loop-i.invariant.1)
