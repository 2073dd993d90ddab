-- `riff::header` meets its contract: with its four numbers put in, the blank header is the one defined. Assumes nothing.
use Rattle.riff.specs.Header.{wave_header_of}
use Rattle.riff.proofs.header.Goals as goal

pub returns-clause-bytes : goal.returns-clause-bytes
unfolding wave_header_of
returns-clause-bytes c = rw (c.put-4.ensures, c.put-3.ensures, c.put-2.ensures, c.put.ensures)
