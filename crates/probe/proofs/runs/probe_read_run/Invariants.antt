use Rattle.std.proofs.Common.{◌≡◌}
use Rattle.buffer.specs.Calls.{reader_at}
use Rattle.probe.specs.Runs.{reader_after, run_sum}
use Rattle.probe.proofs.runs.probe_read_run.Given as goal

abbrev pub invariant-loop-turn : goal.invariant-loop-turn
invariant-loop-turn l =
    (l.reader ≡ reader_after l.stream l.width (reader_at l.at) l._turn) × (l.sum ≡ run_sum l.stream l.width (reader_at l.at) l._turn)
