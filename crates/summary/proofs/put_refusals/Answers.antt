use mathlib.Core.Path.{◌≡◌}
use native.Mathlib.Omega.{arith}
use Rattle.summary.specs.Refusals.{refusals_by}
use Rattle.scribe.specs.PageLaws.{next_first, next_behind, puts_both, puts_nothing}
use Rattle.summary.proofs.Parts.{around, one_more}
use Rattle.summary.proofs.put_refusals.Goals as goal

pub loop-number-init : goal.loop-number-init
unfolding refusals_by
loop-number-init c = puts_nothing

pub put_refusal-requires : goal.put_refusal-requires
put_refusal-requires c =
    next_first _ (next_behind c.loop-number.invariant (rw (around c.args.refused.now c.loop-number.number (omega arith) (omega arith)) at c.requires))

pub loop-number-preserved : goal.loop-number-preserved
loop-number-preserved c =
    rw (one_more c.args.refused.now c.loop-number.number (omega arith) (omega arith)) (puts_both c.loop-number.invariant c.put_refusal.ensures)

pub returns : goal.returns
returns c =
    let l = c.loop-number in
    let end : l.number ≡ 16 = omega (arith, l.auto.number-end (omega arith)) in
    rw end at l.invariant
