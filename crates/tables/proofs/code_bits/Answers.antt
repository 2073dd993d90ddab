-- `tables::code_bits` meets its contract: the first five quantisers one by one, the others by the rule.
use native.Mathlib.Omega.{arith}
use Rattle.tables.specs.Standard.{classes, quantisation_of, code_bits_of}
use Rattle.tables.proofs.Quantisers.{bits_rule}
use Rattle.tables.proofs.code_bits.Goals as goal

pub returns-in-0 : goal.returns-in-0
unfolding code_bits_of quantisation_of classes
returns-in-0 c = rw c.in-0.is

pub returns-in-1 : goal.returns-in-1
unfolding code_bits_of quantisation_of classes
returns-in-1 c = rw c.in-1.is

pub returns-in-2 : goal.returns-in-2
unfolding code_bits_of quantisation_of classes
returns-in-2 c = rw c.in-2.is

pub returns-in-3 : goal.returns-in-3
unfolding code_bits_of quantisation_of classes
returns-in-3 c = rw c.in-3.is

pub returns-in-4 : goal.returns-in-4
unfolding code_bits_of quantisation_of classes
returns-in-4 c = rw c.in-4.is

pub returns-in_default : goal.returns-in_default
returns-in_default c = bits_rule c.args.q (omega arith) c.requires
