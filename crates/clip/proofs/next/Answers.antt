use mathlib.Core.Path.{ap, ◌∙◌}
use Rattle.audio.specs.Numbers.{ends}
use native.Mathlib.Omega.{arith}
use borrow.Author.Rules.{rules}
use Rattle.clip.proofs.Turns.{frame_rate, frame_found, end_found, goes_past, by_parts, no_call_left}
use Rattle.clip.proofs.next.Goals as goal

pub rate-requires : goal.rate-requires
rate-requires c =
    frame_rate _ _ _ _ _ _ _ c.decode-decoded.ensures.value c.in-Frame.is

pub returns-in-Frame : goal.returns-in-Frame
returns-in-Frame c =
    let e = c.decode-decoded.ensures in
    let whole = by_parts
    (frame_found _ _ _ _ _ (omega arith) _ _ _ e.value e.memory_after e.output_after _ _ _ c.in-Frame.is c.rate.ensures
    ∙ c.loop-calls.invariant.2) in
    record { value = whole.0; memory_after = whole.1.0; output_after = whole.1.1 }

pub loop-calls-preserved : goal.loop-calls-preserved
loop-calls-preserved c =
    let e = c.decode-decoded.ensures in (
      search rules,
      search rules,
      goes_past _ _ _ _ _ (omega arith) _ _ _ e.value e.memory_after e.output_after _ _ c.in-Refused.is (c.ends.ensures ∙ ap ends c.number.ensures) c.if-ends.false
          ∙ c.loop-calls.invariant.2,
    )

pub returns-after-loop-calls : goal.returns-after-loop-calls
returns-after-loop-calls c =
    let whole = by_parts (no_call_left _ _ _ _ _ (omega arith) ∙ c.loop-calls.invariant.2) in
    record { value = whole.0; memory_after = whole.1.0; output_after = whole.1.1 }

pub returns-then-ends : goal.returns-then-ends
returns-then-ends c =
    let e = c.decode-decoded.ensures in
    let whole = by_parts
    (end_found _ _ _ _ _ (omega arith) _ _ _ e.value e.memory_after e.output_after _ _ c.in-Refused.is (c.ends.ensures ∙ ap ends c.number.ensures) c.if-ends.true
    ∙ c.loop-calls.invariant.2) in
    record { value = whole.0; memory_after = whole.1.0; output_after = whole.1.1 }
