use Rattle.probe.specs.Headers.{header_call_of}
use Rattle.probe.proofs.reading.header_call.Goals as goal

pub returns : goal.returns
unfolding header_call_of
returns c = cc (c.of_attempt.ensures, c.decode_header.ensures)
