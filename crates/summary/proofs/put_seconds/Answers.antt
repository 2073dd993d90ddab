use Rattle.listing.specs.Summary.{seconds_text}
use Rattle.scribe.specs.PageLaws.{next_first, next_behind}
use Rattle.summary.proofs.put_seconds.Goals as goal

pub put_number-requires-2 : goal.put_number-requires-2
unfolding seconds_text
put_number-requires-2 c = next_first _ (next_behind c.put_number.ensures c.requires)

pub put_number-requires-3 : goal.put_number-requires-3
unfolding seconds_text
put_number-requires-3 c = next_first _ (next_behind c.put_number-2.ensures (next_behind c.put_number.ensures c.requires))

pub put-requires : goal.put-requires
unfolding seconds_text
put-requires c =
    next_behind c.put_number-3.ensures (next_behind c.put_number-2.ensures (next_behind c.put_number.ensures c.requires))
