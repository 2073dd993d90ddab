use mathlib.Core.Path.{ap, ◌∙◌}
use Rattle.std.specs.Prelude.{Ok}
use Rattle.buffer.specs.Calls.{bit_of, align_of}
use Rattle.buffer.proofs.Gate.{goes_on, refuses}
use Rattle.buffer.proofs.Reader.align.Goals as goal

pub returns-in_err-admitted : goal.returns-in_err-admitted
unfolding align_of
returns-in_err-admitted c = refuses c.args.s.now c.args.self _ c.from_residual.ensures c.admitted.ensures c.in_err-admitted.was

pub returns : goal.returns
unfolding align_of
returns c =
    ap (λ i. Ok (record { at = i })) (c.bit-at.ensures ∙ ap bit_of c.byte_after.ensures)
    ∙ (goes_on c.args.s.now c.args.self _ c.admitted.ensures c.in_ok-admitted.was).2
