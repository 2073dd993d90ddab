use mathlib.Core.Path.{◌≡◌}
use Rattle.buffer.specs.Bits.{bits_value}
use Rattle.buffer.proofs.last_bits.Given as goal

abbrev pub invariant-loop-done : goal.invariant-loop-done
invariant-loop-done l = l.value ≡ bits_value l.s l.at l.done
