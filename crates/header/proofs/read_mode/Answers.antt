use Rattle.grammar.specs.Reads.{run}
use Rattle.header.specs.Header.{mode_of}
use Rattle.header.proofs.read_mode.Goals as goal

pub returns : goal.returns
unfolding mode_of run
returns c = cc (c.field.ensures.is, c.field-private.ensures.is)
