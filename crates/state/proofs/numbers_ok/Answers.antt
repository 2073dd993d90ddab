use mathlib.Core.Path.{refl}
use Rattle.state.specs.State.{numbers_ok}
use Rattle.state.proofs.numbers_ok.Goals as goal

pub returns : goal.returns
unfolding numbers_ok
returns c = refl
