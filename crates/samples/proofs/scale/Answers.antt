-- `samples::scale` meets its contract: the grouped quantisers one by one, the others by the rule.
use Rattle.std.proofs.Common.{arith, rules}
use Rattle.tables.specs.Laws.{bits≤16}
use Rattle.samples.proofs.Quantisers.{scale_rule}
use Rattle.samples.proofs.scale.Goals as goal

pub overflow_cast-result : goal.overflow_cast-result
overflow_cast-result c = omega (arith, c.code_bits.ensures, bits≤16 c.args.q)

pub overflow_shr-result : goal.overflow_shr-result
overflow_shr-result c = omega (arith, c.code_bits.ensures, bits≤16 c.args.q)

pub returns-in_default : goal.returns-in_default
returns-in_default c =
    rw c.code_bits.ensures (scale_rule c.args.q c.requires.1 (search rules) (search rules) (search rules))
