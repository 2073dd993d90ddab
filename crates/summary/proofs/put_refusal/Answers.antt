use native.Mathlib.Omega.{arith}
use borrow.Author.Tests.{ne_eqb}
use Rattle.listing.specs.Summary.{refusal_text}
use Rattle.scribe.specs.PageLaws.{next_first, next_behind, puts_both}
use Rattle.summary.proofs.put_refusal.Goals as goal

pub put_reason-requires : goal.put_reason-requires
unfolding refusal_text
put_reason-requires c =
    next_first _ (next_behind c.put_counted.ensures (rw (ne_eqb c.args.refused.count 0 (λ e. omega (arith, e))) at c.requires))

pub put_number-requires : goal.put_number-requires
unfolding refusal_text
put_number-requires c =
    let told = next_behind c.put_counted.ensures (rw (ne_eqb c.args.refused.count 0 (λ e. omega (arith, e))) at c.requires) in
    next_behind c.put_reason.ensures told

pub returns-then-refused-gt0 : goal.returns-then-refused-gt0
unfolding refusal_text
returns-then-refused-gt0 c =
    rw (ne_eqb c.args.refused.count 0 (λ e. omega (arith, e))) (puts_both c.put_counted.ensures (puts_both c.put_reason.ensures c.put_number.ensures))
