use mathlib.Core.List.{[]}
use native.Mathlib.Omega.{arith}
use Rattle.clip.specs.File.{none_of_long}
use Rattle.scribe.specs.PageLaws.{all_left, none_left}
use Rattle.wav.proofs.whole.Goals as goal

pub returns-else-stream-le65536 : goal.returns-else-stream-le65536
returns-else-stream-le65536 c = none_left (all_left [] c.new-page.ensures (none_of_long _ (omega arith)))
