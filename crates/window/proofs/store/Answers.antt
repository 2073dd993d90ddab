-- `window::store` meets its contract: the first `j` values are stored. Assumes nothing.
use mathlib.Core.Path.{refl}
use native.Mathlib.Numerals.{add-one}
use Rattle.window.specs.Output.{stores}
use Rattle.window.proofs.store.Goals as goal

pub loop-j-init : goal.loop-j-init
unfolding stores
loop-j-init c = refl

pub loop-j-preserved : goal.loop-j-preserved
unfolding stores
loop-j-preserved c = rw (add-one, c.loop-j.invariant)
