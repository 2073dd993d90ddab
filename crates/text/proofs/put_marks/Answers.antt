use Rattle.scribe.specs.PageLaws.{next_behind}
use Rattle.text.proofs.put_marks.Goals as goal

pub put_hex-requires-in-Frame : goal.put_hex-requires-in-Frame
put_hex-requires-in-Frame c =
    rw c.sum.ensures (next_behind (rw c.time_bits.ensures at c.put_hex.ensures) (rw c.in-Frame.is at c.requires))
