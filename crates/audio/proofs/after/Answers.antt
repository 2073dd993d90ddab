use Rattle.audio.specs.Calls.{after_of}
use Rattle.audio.proofs.after.Goals as goal

pub returns : goal.returns
unfolding after_of
returns c = cc (c.start_time-time.ensures, c.cut_format-format.ensures, c.aligned-reader.ensures)
