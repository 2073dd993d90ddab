-- The decoder's state: a fresh one, when one is in range, and the three ways in which a call changes it.
-- From 01, "Numbers a call can give" (State in range; what is left behind). Assumes nothing.
use Rattle.std.specs.Prelude.{ℕ, ◌+◌, ◌*◌, ◌%◌, Bool, false, cond, not, ◌&&◌, ◌||◌, eqb, ltb, leb, pos}
use Rattle.std.specs.Float.{fin}
use Rattle.buffer.specs.Bits.{farthest_bit}
use Rattle.buffer.specs.Calls.{reader_at}
use Rattle.buffer.specs.declared.Reader.{Reader}
use Rattle.header.specs.Header.{least_data, most_data}
use Rattle.header.specs.declared.Format.{Format}
use Rattle.readings.specs.declared.Reading.{Reading}
use Rattle.clock.specs.Clock.{start_time_of, on_time}
use Rattle.state.specs.declared.Audio.{Audio}

-- "the fresh state at position 0": code 3 means no header yet
unfoldable pub fresh : Reading → Audio
fresh reading =
    record {
      reader = reader_at 0;
      format = record { reading = reading; samplerate = 3; bitrate = 0; mode = 0; bound = 0 };
      frames = 0;
      pending = 0;
      ring = 0;
      time = fin false 0 (pos 0);
    }

-- ---- in range

-- the whole numbers of the list, in its order
unfoldable pub numbers_ok : Audio → Bool
numbers_ok a =
    leb a.reader.at.0 farthest_bit && leb (a.frames * 16) a.reader.at.0
    && leb a.format.samplerate 3 && leb a.format.bitrate 13 && leb a.format.mode 3 && leb a.format.bound 32
    && (not (eqb a.format.mode 3) || eqb a.format.bound 0)
    && eqb (a.ring % 64) 0 && ltb a.ring 1024
    && (eqb a.pending 0 || (leb least_data a.pending && leb a.pending most_data))
    && (not (eqb a.format.samplerate 3) || (eqb a.frames 0 && eqb a.pending 0))

-- and the start time, by its bits
unfoldable pub in_range : Audio → Bool
in_range a = cond (numbers_ok a) (on_time a.time a.frames a.format.samplerate) false

-- ---- what a call changes of it. A state is made nowhere else, but for `fresh` and across the boundary (tag)

-- "position moved, old format kept": nothing else changes
abbrev pub stands_at : Reader → Audio → Audio
stands_at r a = record { reader = r; format = a.format; frames = a.frames; pending = a.pending; ring = a.ring; time = a.time }

-- a header accepted: its format, and its data size pending
abbrev pub pends : Reader → Format → ℕ → Audio → Audio
pends r f size a = record { reader = r; format = f; frames = a.frames; pending = size; ring = a.ring; time = a.time }

-- a frame decoded: one more, and the next one's start; nothing is pending
abbrev pub framed_to : Reader → Format → ℕ → Audio → Audio
framed_to r f ring a =
    record {
      reader = r;
      format = f;
      frames = a.frames + 1;
      pending = 0;
      ring = ring;
      time = start_time_of (a.frames + 1) a.format.samplerate;
    }
