use Rattle.audio.specs.Calls.{framed_memory, framed_output}
use Rattle.audio.specs.CallsLaws.{ended, frames}
use Rattle.audio.proofs.framed.Goals as goal

pub decode_frame-played-requires : goal.decode_frame-played-requires
decode_frame-played-requires c =
    let p = c.requires in
    (p.0.fit, p.0.place, p.1, p.2)

pub after-requires : goal.after-requires
after-requires c =
    ended _ _ _ c.requires.0 c.decode_frame-played.ensures.end_is

pub returns : goal.returns
unfolding framed_memory framed_output
returns c =
    let e = c.decode_frame-played.ensures in record { value = frames _ _ _ _ _ e.end_is e.ring_is _ c.after.ensures; memory_after = e.memory_is; output_after = e.output_is }
