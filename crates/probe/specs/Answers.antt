-- The reader's calls as numbers: what the comparison gets across the boundary.
-- Each answer is 01's number, a value, and the bit position afterwards; a refusal gives the value 0 and the old position. Behind them stand
-- the byte that a search came to and the bytes that it passed over, else 0.
use Rattle.std.specs.Prelude.{ℕ, zero, suc, ◌%◌, Bool, true, false, List, Result, Ok, Err, slice_set}
use Rattle.buffer.specs.Calls.{reader_at, has_of, ended_of, read_of, align_of, skip_of, skip_bytes_of, tell_of, search_of}
use Rattle.buffer.specs.declared.BytePos.{BytePos}
use Rattle.buffer.specs.declared.Reader.{Reader}
use Rattle.buffer.specs.declared.Taken.{Taken}
use Rattle.buffer.specs.declared.Sync.{Sync}
use Rattle.buffer.specs.declared.Sync.TheVariants.{Found, Missing}
use Rattle.refusal.specs.Numbers.{number_of}
use Rattle.refusal.specs.declared.Refusal.{Refusal}
use Rattle.probe.specs.declared.reading.Answer.{Answer}

-- number, value, position
abbrev pub as_numbers : ℕ → ℕ → ℕ → Answer
as_numbers n v p = record { number = n; value = v; at = p; sync = 0; skipped = 0 }

-- whether so many bits are left: 1 or 0
abbrev pub of_holds : ℕ → Result Bool Refusal → Answer
of_holds at (Ok true) = as_numbers 0 1 at
of_holds at (Ok false) = as_numbers 0 0 at
of_holds at (Err n) = as_numbers (number_of n) 0 at

-- the value read, or how many bytes were skipped; 12 where too few bits are left
abbrev pub of_taken : ℕ → Result (Taken ℕ) Refusal → Answer
of_taken at (Ok x) = as_numbers 0 x.value x.next.at.0
of_taken at (Err n) = as_numbers (number_of n) 0 at

-- only the position
abbrev pub of_moved : ℕ → Result Reader Refusal → Answer
of_moved at (Ok r) = as_numbers 0 0 r.at.0
of_moved at (Err n) = as_numbers (number_of n) 0 at

-- the byte position
abbrev pub of_told : ℕ → Result BytePos Refusal → Answer
of_told at (Ok p) = as_numbers 0 p.0 at
of_told at (Err n) = as_numbers (number_of n) 0 at

-- whether a sync was found: 1 or 0
abbrev pub of_search : Sync → Answer
of_search (Found sync skipped r) = record { number = 0; value = 1; at = r.at.0; sync = sync.0; skipped = skipped }
of_search (Missing sync skipped r) = record { number = 0; value = 0; at = r.at.0; sync = sync.0; skipped = skipped }

abbrev pub of_sync : ℕ → Result Sync Refusal → Answer
of_sync at (Ok f) = of_search f
of_sync at (Err n) = as_numbers (number_of n) 0 at

-- call 0 has, 1 has_ended, 2 read, 3 align, 4 skip, 5 skip_bytes, 6 tell, 7 and above find_frame_sync
unfoldable pub call_of : ℕ → List ℕ → ℕ → ℕ → Answer
call_of zero s at n = of_holds at (has_of s (reader_at at) n)
call_of (suc zero) s at n = of_holds at (ended_of s (reader_at at))
call_of (suc (suc zero)) s at n = of_taken at (read_of s (reader_at at) n)
call_of (suc (suc (suc zero))) s at n = of_moved at (align_of s (reader_at at))
call_of (suc (suc (suc (suc zero)))) s at n = of_moved at (skip_of s (reader_at at) n)
call_of (suc (suc (suc (suc (suc zero))))) s at n = of_taken at (skip_bytes_of s (reader_at at) (n % 256))
call_of (suc (suc (suc (suc (suc (suc zero)))))) s at n = of_told at (tell_of s (reader_at at))
call_of (suc (suc (suc (suc (suc (suc (suc k))))))) s at n = of_sync at (search_of s (reader_at at))

-- value, position, sync, passed over
abbrev pub answer_into : Answer → List ℕ → List ℕ
answer_into a o = slice_set (slice_set (slice_set (slice_set o 0 a.value) 1 a.at) 2 a.sync) 3 a.skipped
