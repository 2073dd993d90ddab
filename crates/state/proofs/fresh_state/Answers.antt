use mathlib.Core.Path.{refl}
use lib.Ieee.{of_bits}
use Rattle.state.specs.State.{fresh}
use Rattle.state.proofs.fresh_state.Goals as goal

pub returns : goal.returns
unfolding fresh of_bits
returns c = refl
