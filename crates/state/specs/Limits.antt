-- Each limit of a state in range, with 01's numbers, from both sides: the last state inside it and the first past it. From 01, "State in
-- range: bit position at most 134,217,736; accepted frames times 16 at most the bit position; sample-rate code 0 to 3; bit-rate index 0 to
-- 13; mode 0 to 3; bound 0 to 32, and 0 in mode 3; ring position a multiple of 64 below 1,024; pending data size 0 or 90 to 1,725. Code 3
-- means no header yet, and then frames, pending size and time are 0 .. any other bits there give 10." Assumes nothing.
use Rattle.std.specs.Prelude.{ℕ, ◌≡◌, refl, true, false, [], ◌∷◌, map, replicate}
use Rattle.std.specs.Float.{binary64}
use Rattle.std.specs.Float.Ieee.{of_bits, to_bits, is_nan, div, of_int}
use Rattle.buffer.specs.Calls.{reader_at}
use Rattle.readings.specs.Readings.{plain}
use Rattle.clock.specs.Clock.{start_time_of, are_same_bits, on_time}
use Rattle.state.specs.State.{numbers_ok, in_range}
use Rattle.state.specs.declared.Audio.{Audio}

-- a state by its numbers, the start time by its bits
abbrev state : ℕ → ℕ → ℕ → ℕ → ℕ → ℕ → ℕ → ℕ → ℕ → Audio
state position frames samplerate bitrate mode bound ring pending time =
    record {
      reader = reader_at position;
      format = record { reading = plain; samplerate = samplerate; bitrate = bitrate; mode = mode; bound = bound };
      frames = frames;
      pending = pending;
      ring = ring;
      time = of_bits binary64 time;
    }

-- one frame of 44,100 Hz lasts 1152 / 44100 seconds: 0.026122.., whose f64 is the bits below
abbrev one : ℕ
one = 0x3F9ABFD7E03C2FA6

abbrev minus_zero : ℕ
minus_zero = 0x8000000000000000

pub inside : map in_range (
    state 134217736 0 0 0 0 0 0 0 0
    ∷ state 16 1 0 0 0 0 0 0 one
    ∷ state 0 0 3 0 0 0 0 0 0
    ∷ state 0 0 2 13 0 32 960 0 0
    ∷ state 0 0 0 0 3 0 0 0 0
    ∷ state 0 0 0 0 2 32 64 90 0
    ∷ state 0 0 0 0 0 0 0 1725 0
    ∷ []) ≡ replicate 7 true
unfolding in_range numbers_ok on_time are_same_bits start_time_of is_nan to_bits of_bits div of_int
inside = refl

pub outside : map in_range (
    state 134217737 0 0 0 0 0 0 0 0
    ∷ state 15 1 0 0 0 0 0 0 one
    ∷ state 0 0 4 0 0 0 0 0 0
    ∷ state 0 0 0 14 0 0 0 0 0
    ∷ state 0 0 0 0 4 0 0 0 0
    ∷ state 0 0 0 0 0 33 0 0 0
    ∷ state 0 0 0 0 3 1 0 0 0
    ∷ state 0 0 0 0 0 0 32 0 0
    ∷ state 0 0 0 0 0 0 1024 0 0
    ∷ state 0 0 0 0 0 0 0 89 0
    ∷ state 0 0 0 0 0 0 0 1726 0
    ∷ state 16 1 3 0 0 0 0 0 0
    ∷ state 0 0 3 0 0 0 0 90 0
    ∷ state 0 0 3 0 0 0 0 0 one
    ∷ state 16 1 0 0 0 0 0 0 0x3F9ABFD7E03C2FA5
    ∷ state 16 1 0 0 0 0 0 0 0x3F9ABFD7E03C2FA7
    ∷ state 0 0 0 0 0 0 0 0 minus_zero
    ∷ state 0 0 0 0 0 0 0 0 0x7FF8000000000000
    ∷ []) ≡ replicate 18 false
unfolding in_range numbers_ok on_time are_same_bits start_time_of is_nan to_bits of_bits div of_int
outside = refl
