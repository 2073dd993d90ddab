-- `transform::pass2` meets its contract. Assumes nothing.
use Rattle.transform.proofs.Halving.{narrow}
use Rattle.transform.specs.Transform.{halving_factors}
use Rattle.transform.proofs.pass2.Goals as goal

pub returns : goal.returns
unfolding halving_factors
returns c = λ f. narrow f _ c.requires
