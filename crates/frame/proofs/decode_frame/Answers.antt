use mathlib.Core.Path.{ap, ◌∙◌}
use Rattle.frame.specs.Frame.{frame_memory, frame_output}
use Rattle.frame.proofs.Whole.{table<2, whole_by}
use Rattle.frame.proofs.decode_frame.Goals as goal

pub read_side-side-requires : goal.read_side-side-requires
read_side-side-requires c = let f = c.args.f in rw c.lay_out.ensures.table (table<2 f.mode f.bitrate f.samplerate)

-- the granules behind the side information are the whole frame's
pub returns : goal.returns
returns c =
    let a = c.args in
    let played = c.granules.ensures in
    let laid = c.lay_out.ensures in
    let side = c.read_side-side in
    let w = whole_by a.s.now a.reader a.f side.result _ laid.mono laid.table laid.bound laid.limit side.ensures.layout side.ensures.side in
    record {
      end_is = played.end_is ∙ ap (λ z. z.next) w;
      ring_is = played.ring_is;
      memory_is = played.memory_is ∙ ap (λ z. frame_memory z.value a.ring a.memory.now) w;
      output_is = played.output_is ∙ ap (λ z. frame_output z.value a.ring a.memory.now a.output.now) w;
    }
