use Rattle.scribe.specs.PageLaws.{next_first, next_behind}
use Rattle.listing.specs.Text.{place_text}
use Rattle.text.proofs.put_place.Goals as goal

pub put_at-requires : goal.put_at-requires
unfolding place_text
put_at-requires c = next_first _ (next_behind c.put_number.ensures c.requires)

pub put_number-requires-2 : goal.put_number-requires-2
unfolding place_text
put_number-requires-2 c = next_behind c.put_at.ensures (next_behind c.put_number.ensures c.requires)
