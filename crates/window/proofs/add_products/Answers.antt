-- `window::add_products` meets its contract: `total` has the first `k` products.
-- Assumes nothing.
use mathlib.Core.Path.{refl}
use Rattle.window.specs.Output.{taps}
use Rattle.window.proofs.Products.{product_more}
use Rattle.window.proofs.add_products.Goals as goal

pub loop-k-init : goal.loop-k-init
unfolding taps
loop-k-init c = refl

pub loop-k-preserved : goal.loop-k-preserved
loop-k-preserved c =
    product_more _ _ _ _ _ _ c.args.sum _ c.args.window.now.listed c.requires.1 c.requires.4 c.loop-k.invariant
