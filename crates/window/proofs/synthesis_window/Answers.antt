-- `window::synthesis_window` meets its contract: the bit patterns of its 512 values are those of the standard's table, halved.
-- Assumes nothing.
use mathlib.Core.Path.{refl}
use lib.Ieee.{mul, of_int, of_bits}
use Rattle.window.specs.Window.{window_list, half, standard_d}
use Rattle.window.proofs.synthesis_window.Goals as goal

pub invariant_of-result : goal.invariant_of-result
unfolding window_list half standard_d mul of_int of_bits
invariant_of-result c = record { listed = refl }
