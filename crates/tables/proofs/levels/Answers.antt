-- `tables::levels` meets its contract: 2 q + 1 for the grouped quantisers, a power of 2 less 1 for the others.
use Prim.Native.Nat.{◌≤◌}
use mathlib.Core.Path.{sym, ◌∙◌}
use native.Mathlib.Omega.{arith}
use Rattle.tables.specs.Laws.{bits≤16}
use Rattle.tables.proofs.Quantisers.{power_positive, levels_rule}
use Rattle.tables.proofs.levels.Goals as goal

bits_small : (c : goal.After-code_bits) → c.code_bits.result ≤ 16
bits_small c = rw c.code_bits.ensures (bits≤16 c.args.q)

pub returns-then-grouped : goal.returns-then-grouped
returns-then-grouped c =
    rw (sym c.grouped.ensures ∙ c.if-grouped.true) at (levels_rule c.args.q c.requires)

pub overflow_cast-result-2 : goal.overflow_cast-result-2
overflow_cast-result-2 c = omega (arith, bits_small c)

pub overflow_shl-result : goal.overflow_shl-result
overflow_shl-result c = omega (arith, bits_small c)

pub overflow_sub-result : goal.overflow_sub-result
overflow_sub-result c = rw c.code_bits.ensures (power_positive c.args.q c.requires)

pub returns : goal.returns
returns c =
    rw c.code_bits.ensures
    (rw (sym c.grouped.ensures ∙ c.if-grouped.false) at (levels_rule c.args.q c.requires))
