use Rattle.std.proofs.Common.{add-one, refl}
use Rattle.probe.specs.Runs.{reader_after, run_sum}
use Rattle.probe.proofs.runs.probe_read_run.Goals as goal

pub loop-turn-init : goal.loop-turn-init
unfolding reader_after run_sum
loop-turn-init c = (refl, refl)

pub loop-turn-preserved : goal.loop-turn-preserved
unfolding reader_after run_sum
loop-turn-preserved c =
    let l = c.loop-turn in
    let f = c.field-f in
    let added = c.wrapping_add_u64-sum.ensures.value in
    (simp add-one (cc (f.ensures.is, l.invariant.0)), simp add-one (cc (f.ensures.is, l.invariant.0, l.invariant.1, added)))
