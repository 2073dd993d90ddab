use borrow.Author.Rules.{rules}
use native.Mathlib.Numerals.{add-one}
use native.Mathlib.Omega.{arith}
use Rattle.buffer.specs.Bits.{bit_at, bits_value}
use Rattle.buffer.proofs.Words.{double_fits}
use Rattle.buffer.proofs.last_bits.Goals as goal

pub loop-done-init : goal.loop-done-init
unfolding bits_value
loop-done-init c = search rules

pub overflow_mul-value : goal.overflow_mul-value
overflow_mul-value c = omega (arith, double_fits _ _ _ _ c.loop-done.invariant (omega arith))

pub overflow_add-value : goal.overflow_add-value
overflow_add-value c = omega (arith, double_fits _ _ _ _ c.loop-done.invariant (omega arith), c.bit.ensures)

pub loop-done-preserved : goal.loop-done-preserved
unfolding bits_value bit_at
loop-done-preserved c = rw (add-one, c.loop-done.invariant, c.bit.ensures)
