use Rattle.header.specs.Header.{size_of}
use Rattle.header.proofs.data_size.Goals as goal

pub returns-then-check : goal.returns-then-check
unfolding size_of
returns-then-check c = rw (c.kbps-kbps.ensures, c.rate.ensures, c.if-check.true)

pub returns : goal.returns
unfolding size_of
returns c = rw (c.kbps-kbps.ensures, c.rate.ensures, c.if-check.false)
