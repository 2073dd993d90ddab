-- `codes::read_codes` meets its contract.
use mathlib.Core.Path.{ap, sym, ◌∙◌}
use Rattle.buffer.specs.Calls.{field_of}
use Rattle.grammar.specs.Reads.{taken}
use Rattle.grammar.specs.Run.{field_then, run_done}
use Rattle.samples.specs.Sample.{digits_of}
use Rattle.codes.specs.Frame.{codes_of}
use Rattle.codes.proofs.Quantisers.{grouped_levels}
use Rattle.codes.proofs.read_codes.Goals as goal

pub digits-value-requires : goal.digits-value-requires
digits-value-requires c =
    rw c.levels.ensures (grouped_levels c.args.q c.requires (sym c.grouped.ensures ∙ c.if-grouped.true))

pub returns-then-grouped : goal.returns-then-grouped
unfolding codes_of
returns-then-grouped c =
    let a = c.args in
    simp (sym c.grouped.ensures ∙ c.if-grouped.true)
    (field_then _ _ _ _ (c.field-f.ensures.is ∙ ap (field_of a.s.now a.reader) c.code_bits-bits.ensures)
    (ap (λ d. taken d c.field-f.result.next) (c.digits-value.ensures ∙ ap (λ l. digits_of l c.field-f.result.value) c.levels.ensures)
    ∙ sym (run_done _ _ _)))

pub returns : goal.returns
unfolding codes_of
returns c =
    simp (sym c.grouped.ensures ∙ c.if-grouped.false)
    (cc (c.read_three.ensures, c.code_bits-bits.ensures))
