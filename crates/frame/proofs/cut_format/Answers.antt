use Rattle.frame.specs.Frame.{cut_format}
use Rattle.frame.proofs.cut_format.Goals as goal

pub returns : goal.returns
unfolding cut_format
returns c = cc (c.cut.ensures, c.limit-limit.ensures)
