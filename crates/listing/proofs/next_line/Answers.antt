use mathlib.Core.Path.{ap, ◌∙◌}
use native.Mathlib.Omega.{arith}
use Rattle.audio.specs.CallsLaws.{decode_passes_few}
use Rattle.listing.specs.declared.Listed.{Listed}
use Rattle.listing.specs.Lines.{next_of, with_line}
use Rattle.listing.proofs.next_line.Goals as goal
use Rattle.audio.specs.Calls.{Decoded}

-- a slice has fewer than 2^63 bytes
pub overflow_add-carried : goal.overflow_add-carried
overflow_add-carried c =
    let a = c.args in
    omega (
      arith,
      ap (λ (d : Decoded). d.skipped) c.decode-d.ensures.value,
      decode_passes_few a.stream.now a.memory.now a.output.now a.a,
    )

pub returns : goal.returns
unfolding next_of
returns c =
    let a = c.args in
    let e = c.decode-d.ensures in
    record {
      value = ap {B = Listed} (λ l. record { line = l; state = c.decode-d.result.state }) c.line_of-line.ensures ∙ ap (with_line a.a.frames a.carried) e.value;
      memory_after = e.memory_after;
      output_after = e.output_after;
    }
