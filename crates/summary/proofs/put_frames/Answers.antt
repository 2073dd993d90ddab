use borrow.Author.Tests.{ne_eqb}
use Rattle.listing.specs.Summary.{frames_text}
use Rattle.scribe.specs.PageLaws.{next_behind}
use Rattle.summary.proofs.put_frames.Goals as goal

pub put_seconds-requires : goal.put_seconds-requires
unfolding frames_text
put_seconds-requires c =
    rw c.hundredths.ensures (next_behind c.put_counted.ensures (rw (ne_eqb c.args.frames.count 0 c.if-frames-eq0.false) at c.requires))
