use Rattle.listing.specs.Text.{frame_text}
use Rattle.scribe.specs.PageLaws.{next_first, next_behind}
use Rattle.text.proofs.put_bare.Goals as goal

pub put_at-requires : goal.put_at-requires
unfolding frame_text
put_at-requires c = next_first _ (next_behind c.put_number.ensures (rw c.in-Frame.is at c.requires))

pub put_format-requires : goal.put_format-requires
unfolding frame_text
put_format-requires c =
    next_first _ (next_behind c.put_at.ensures (next_behind c.put_number.ensures (rw c.in-Frame.is at c.requires)))

pub put_number-requires-in-Frame : goal.put_number-requires-in-Frame
unfolding frame_text
put_number-requires-in-Frame c =
    let placed = next_behind c.put_at.ensures (next_behind c.put_number.ensures (rw c.in-Frame.is at c.requires)) in
    next_behind c.put_format.ensures placed
