use Rattle.header.specs.Header.{sync_of}
use borrow.Author.Tests.{eq-eqb, ne_eqb}
use Rattle.header.proofs.sync.Goals as goal

pub returns-then-ones-eq-FRAME_SYNC : goal.returns-then-ones-eq-FRAME_SYNC
unfolding sync_of
returns-then-ones-eq-FRAME_SYNC c =
    simp (← c.field-ones.ensures.is, eq-eqb _ _ c.if-ones-eq-FRAME_SYNC.true, ← c.byte-begin.ensures)

pub returns : goal.returns
unfolding sync_of
returns c = simp (← c.field-ones.ensures.is, ne_eqb _ _ c.if-ones-eq-FRAME_SYNC.false) c.seek.ensures
