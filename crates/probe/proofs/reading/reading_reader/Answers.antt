use Rattle.std.proofs.Common.{ap}
use Rattle.probe.specs.Answers.{answer_into}
use Rattle.probe.proofs.reading.reading_reader.Goals as goal

pub returns : goal.returns
returns c = let e = c.reader_call-a.ensures in record { number = ap (λ a. a.number) e; given = ap (λ a. answer_into a c.args.answer.now) e }
