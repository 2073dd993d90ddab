use native.Mathlib.Omega.{arith}
use borrow.Author.Tests.{ne_eqb}
use Rattle.listing.specs.Summary.{junk_text}
use Rattle.scribe.specs.PageLaws.{next_behind}
use Rattle.summary.proofs.put_junk.Goals as goal

pub put-requires : goal.put-requires
unfolding junk_text
put-requires c = next_behind c.put_counted.ensures (rw (ne_eqb c.args.bytes 0 (λ e. omega (arith, e))) at c.requires)
