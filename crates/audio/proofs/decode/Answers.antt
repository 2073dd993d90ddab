use Rattle.audio.specs.CallsLaws.{goes, decodes, refuses}
use Rattle.audio.proofs.decode.Goals as goal

pub framed-requires : goal.framed-requires
framed-requires c =
    let g = goes _ _ _ _ _ c.ready-r.ensures c.in-Ok.is in
    (g.ready, g.memory_long, g.output_long)

pub returns-in-Ok : goal.returns-in-Ok
returns-in-Ok c =
    let e = c.framed.ensures in
    let whole = decodes _ _ _ _ _ c.ready-r.ensures c.in-Ok.is _ _ _ e.value e.memory_after e.output_after in
    record { value = whole.0; memory_after = whole.1.0; output_after = whole.1.1 }

pub returns-in-Err : goal.returns-in-Err
returns-in-Err c =
    let whole = refuses _ _ _ _ _ c.ready-r.ensures _ c.in-Err.is in
    record { value = whole.0; memory_after = whole.1.0; output_after = whole.1.1 }
