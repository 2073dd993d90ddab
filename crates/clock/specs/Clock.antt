-- The start of a frame in seconds. From 01, "State in range": "frames times 1152, divided once in f64 by the rate,
-- and any other bits there give 10".
use Rattle.std.specs.Prelude.{ℕ, ◌*◌, Bool, false, not, cond, ◌&&◌, eqb, leb, pos, Float}
use Rattle.std.specs.Float.{fin, binary64}
use Rattle.std.specs.Float.Ieee.{of_int, div, is_nan, to_bits}
use Rattle.tables.specs.Standard.{rate_of}

-- code 3 means no header yet, "and then frames, pending size and time are 0"
unfoldable pub start_time_of : ℕ → ℕ → Float
start_time_of frames samplerate =
    cond (leb 3 samplerate) (fin false 0 (pos 0))
    (div binary64 (of_int binary64 (pos (frames * 1152))) (of_int binary64 (pos (rate_of samplerate))))

-- x is no NaN and has y's bits
unfoldable pub are_same_bits : Float → Float → Bool
are_same_bits x y = not (is_nan x) && eqb (to_bits binary64 x) (to_bits binary64 y)

unfoldable pub on_time : Float → ℕ → ℕ → Bool
on_time x frames samplerate = are_same_bits x (start_time_of frames samplerate)
