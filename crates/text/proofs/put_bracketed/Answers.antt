use Rattle.listing.specs.Text.{bracketed}
use Rattle.listing.specs.Words.{letters}
use Rattle.scribe.specs.PageLaws.{next_first, next_behind}
use Rattle.text.proofs.put_bracketed.Goals as goal

pub put-requires-2 : goal.put-requires-2
unfolding bracketed
put-requires-2 c = next_first _ (next_behind {p = letters " ("} c.put.ensures c.requires)

pub put-requires-3 : goal.put-requires-3
unfolding bracketed
put-requires-3 c = next_behind c.put-2.ensures (next_behind {p = letters " ("} c.put.ensures c.requires)
