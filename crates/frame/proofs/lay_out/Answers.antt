use native.Mathlib.Omega.{arith}
use Rattle.tables.specs.Laws.{limit≤30}
use Rattle.frame.proofs.lay_out.Goals as goal

pub invariant_of-result : goal.invariant_of-result
invariant_of-result c =
    let f = c.args.f in
    record { subbands = omega (arith, c.limit-limit.ensures, limit≤30 f.mode f.bitrate f.samplerate) }
