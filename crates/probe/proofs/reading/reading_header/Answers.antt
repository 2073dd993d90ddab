use Rattle.std.proofs.Common.{ap, ◌∙◌}
use Rattle.probe.specs.Headers.{header_call_of, stored}
use Rattle.probe.proofs.reading.reading_header.Goals as goal

pub returns : goal.returns
returns c =
    let e = c.header_call-h.ensures ∙ ap (header_call_of _ _) c.format.ensures in record { number = ap (λ h. h.number) e; given = c.store.ensures ∙ ap (λ h. stored h c.args.answer.now) e }
