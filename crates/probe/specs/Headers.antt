-- An attempt at a header as numbers: what the comparison gets across the boundary.
-- The answer is 01's number, the bit position afterwards, a format, the pending data size and the byte of the sync; a refusal leaves the
-- known format and 0.
use Rattle.std.specs.Prelude.{ℕ, ◌%◌, List, set, slice_index, slice_set, Result, Ok, Err}
use Rattle.buffer.specs.Calls.{reader_at}
use Rattle.header.specs.Header.{header_of}
use Rattle.header.specs.declared.Attempt.{Attempt}
use Rattle.readings.specs.Readings.{plain}
use Rattle.header.specs.declared.Format.{Format}
use Rattle.probe.specs.declared.reading.Headed.{Headed}
use Rattle.header.specs.declared.Accepted.{Accepted}
use Rattle.refusal.specs.Numbers.{number_of}
use Rattle.refusal.specs.declared.Refusal.{Refusal}

-- sample-rate code, bit-rate index, mode and bound; the mode is cut to the 32 bits of its type
abbrev pub format_from : List ℕ → Format
format_from k = record { reading = plain; samplerate = slice_index k 0; bitrate = slice_index k 1; mode = slice_index k 2 % 4294967296; bound = slice_index k 3 }

-- what the header says, or the refusal
abbrev pub by_header : Format → ℕ → ℕ → Result Accepted Refusal → Headed
by_header known p sync (Ok x) = record { number = 0; at = p; format = x.format; size = x.size; sync = sync }
by_header known p sync (Err n) = record { number = number_of n; at = p; format = known; size = 0; sync = sync }

-- and where the reader stands then, with the byte of the sync
abbrev pub of_attempt : Format → Attempt → Headed
of_attempt known a = by_header known a.next.at.0 a.sync.0 a.header

-- one attempt at bit `at`, with the format that is known
unfoldable pub header_call_of : List ℕ → ℕ → Format → Headed
header_call_of s at known = of_attempt known (header_of s (reader_at at) known)

-- position, sample-rate code, bit-rate index, mode, bound, data size, sync
abbrev pub stored : Headed → List ℕ → List ℕ
stored h o =
    set
    (slice_set (slice_set (slice_set (slice_set (slice_set (slice_set o 0 h.at) 1 h.format.samplerate) 2 h.format.bitrate) 3 h.format.mode) 4 h.format.bound) 5 h.size)
    6 h.sync
