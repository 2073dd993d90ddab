use Rattle.std.proofs.Common.{arith}
use Rattle.std.proofs.lemmas.Int.{to_z-of_z}
use Rattle.samples.proofs.Bounds.{scaled_small}
use Rattle.samples.proofs.sample.Goals as goal

pub returns-clause-small : goal.returns-clause-small
returns-clause-small c = grind (arith, to_z-of_z, scaled_small)
