use Rattle.scribe.specs.PageLaws.{next_first, next_behind}
use Rattle.listing.specs.Text.{format_text}
use Rattle.text.proofs.put_format.Goals as goal

pub put_number-requires-2 : goal.put_number-requires-2
unfolding format_text
put_number-requires-2 c = next_first _ (next_behind c.put_number.ensures c.requires)

pub put_number-requires-3 : goal.put_number-requires-3
unfolding format_text
put_number-requires-3 c = next_first _ (next_behind c.put_number-2.ensures (next_behind c.put_number.ensures c.requires))

pub put_number-requires-4 : goal.put_number-requires-4
unfolding format_text
put_number-requires-4 c =
    next_behind c.put_number-3.ensures (next_behind c.put_number-2.ensures (next_behind c.put_number.ensures c.requires))
