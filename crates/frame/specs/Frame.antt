-- A frame whose header is accepted: its codes read, and their sound. From 01, "From a header to codes" (the limit and the cut
-- bound) and "From samples to sound" (36 slots, three to a granule).
use Rattle.std.specs.Prelude.{ℕ, ◌/◌, ◌%◌, ◌≤◌, ◌<◌, List, [], eqb, ℤ, Float, get_or}
use Rattle.buffer.specs.declared.Reader.{Reader}
use Rattle.grammar.specs.Reads.{Reads, Taken, run}
use Rattle.tables.specs.Standard.{limit_of}
use Rattle.tables.specs.Differences.{table_of}
use Rattle.header.specs.declared.Format.{Format}
use Rattle.side.specs.Side.{cut_of}
use Rattle.codes.specs.Frame.{frame_of}
use Rattle.synthesis.specs.Slots.{slot_samples, memory_after, output_after}

-- a format that an accepted header can have
pub record Fit (f : Format) : Type 0 where
  pub samplerate : f.samplerate < 3
  pub bitrate : f.bitrate < 14
  pub mode : f.mode < 4
  pub bound : f.bound ≤ 32

abbrev pub limit_in : Format → ℕ
limit_in f = limit_of f.mode f.bitrate f.samplerate

-- "bound is cut down to it, in the state too"
unfoldable pub cut_format : Format → Format
cut_format f = record { reading = f.reading; samplerate = f.samplerate; bitrate = f.bitrate; mode = f.mode; bound = cut_of f.bound (limit_in f) }

-- the program of reads: 12 granules of 192 samples
unfoldable pub codes_in : Format → Reads (List (List ℤ))
codes_in f = frame_of (eqb f.mode 3) (table_of f.mode f.bitrate f.samplerate) (cut_of f.bound (limit_in f)) (limit_in f)

-- the granules of the frame at a reader, and the reader after its last code
unfoldable pub granules_at : List ℕ → Reader → Format → Taken (List (List ℤ))
granules_at s r f = run (codes_in f) s r

-- the samples of channel ch in slot n
abbrev pub slots_of : List (List ℤ) → ℕ → ℕ → List ℤ
slots_of granules ch n = slot_samples (get_or granules (n / 3) []) ch (n % 3)

unfoldable pub frame_memory : List (List ℤ) → ℕ → List Float → List Float
frame_memory granules ring memory = memory_after (slots_of granules) ring memory 36

unfoldable pub frame_output : List (List ℤ) → ℕ → List Float → List Float → List Float
frame_output granules ring memory output = output_after (slots_of granules) ring memory output 0 36
