use Rattle.listing.specs.Summary.{reason_text}
use Rattle.scribe.specs.PageLaws.{next_behind}
use Rattle.summary.proofs.put_reason.Goals as goal

pub put_bracketed-requires : goal.put_bracketed-requires
unfolding reason_text
put_bracketed-requires c = rw c.reason.ensures (next_behind c.put_number.ensures c.requires)
