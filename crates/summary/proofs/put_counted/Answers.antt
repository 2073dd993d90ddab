use borrow.Author.Tests.{ne_eqb}
use Rattle.listing.specs.Summary.{counted_text}
use Rattle.scribe.specs.PageLaws.{next_first, next_behind}
use Rattle.summary.proofs.put_counted.Goals as goal

pub put-requires : goal.put-requires
unfolding counted_text
put-requires c = next_first _ (next_behind c.put_number.ensures c.requires)

pub put-requires-then-n-ne1 : goal.put-requires-then-n-ne1
unfolding counted_text
put-requires-then-n-ne1 c =
    rw (ne_eqb c.args.n 1 c.if-n-ne1.true) at (next_behind c.put.ensures (next_behind c.put_number.ensures c.requires))
