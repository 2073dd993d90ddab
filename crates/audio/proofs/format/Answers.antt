use Rattle.audio.specs.CallsLaws.{told_fits, tells}
use Rattle.audio.proofs.format.Goals as goal

pub say-requires : goal.say-requires
say-requires c = told_fits _ _ _ c.known-h.ensures

pub returns : goal.returns
returns c = tells _ _ _ c.known-h.ensures _ c.say.ensures
