use Rattle.probe.proofs.reading.format.Goals as goal

pub returns : goal.returns
returns c = cc c.plain-reading.ensures
