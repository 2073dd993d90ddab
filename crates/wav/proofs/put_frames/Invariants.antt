use mathlib.Core.Path.{◌≡◌}
use lib.ListN.{drop}
use Rattle.clip.specs.Frames.{clip_of, heard_of}
use Rattle.clip.specs.File.{frame_parts, joined}
use Rattle.scribe.specs.Page.{Leaves}
use Rattle.scribe.specs.declared.Whole.TheVariants.{Wave}
use Rattle.wav.proofs.put_frames.Given as goal

-- what is left to write are the frames that are left to play
abbrev pub invariant-loop : goal.invariant-loop
invariant-loop l =
    record {
      played : drop l.counter (clip_of l.stream) ≡ heard_of l.playing.calls l.stream l.memory l.output l.playing.state;
      left : Leaves Wave l.stream l.page (joined (frame_parts (drop l.counter (clip_of l.stream))));
    }
