-- `side::read_allocation` meets its contract: an allocation has at most 4 bits.
use Prim.Native.Nat.{◌<◌, ◌^◌}
use native.Mathlib.Nat.{lt_of_lt_of_le}
use lib.Pow.{pow_mono}
use mathlib.Core.Path.{ap, sym, ◌∙◌}
use lib.ListN.{set}
use Rattle.buffer.specs.Calls.{field_of}
use Rattle.grammar.specs.Reads.{taken}
use Rattle.grammar.specs.Run.{field_then, run_done}
use Rattle.tables.specs.Source.{width_of}
use Rattle.tables.specs.Laws.{width≤4}
use Rattle.side.specs.Side.{allocation_of}
use Rattle.side.proofs.read_allocation.Goals as goal

pub quantiser-requires : goal.quantiser-requires
quantiser-requires c =
    let a = c.args in
    let small : c.field-f.result.value < 2 ^ width_of a.table a.sb =
    rw c.allocation_bits.ensures at c.field-f.ensures.small in
    (c.requires.0, c.requires.1, lt_of_lt_of_le small (pow_mono (width≤4 a.table a.sb)))

pub returns : goal.returns
unfolding allocation_of
returns c =
    let a = c.args in
    field_then _ _ _ _ (c.field-f.ensures.is ∙ ap (field_of a.s.now a.reader) c.allocation_bits.ensures)
    (ap (λ q. taken (set a.quant.now a.place q) c.field-f.result.next) c.quantiser.ensures ∙ sym (run_done _ _ _))
