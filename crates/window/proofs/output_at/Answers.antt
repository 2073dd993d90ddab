-- `window::output_at` meets its contract. Assumes nothing.
use lib.Ieee.{neg, of_bits}
use Rattle.window.specs.Output.{output_of}
use Rattle.window.proofs.output_at.Goals as goal

pub returns : goal.returns
unfolding output_of neg of_bits
returns c = rw (c.add_products-sum.ensures, c.add_products-half.ensures)
