-- One header attempt: 01, "From the bytes to a header". The fields after the sync stand in the order of
-- ISO/IEC 11172-3, 2.4.1.3: ID, layer, protection_bit, bitrate_index, sampling_frequency, padding_bit, private_bit,
-- mode, mode_extension, copyright, original/home, emphasis; then crc_check.
use Rattle.std.specs.Prelude.{ℕ, ◌+◌, ◌-◌, ◌*◌, ◌/◌, Bool, true, false, Option, Some, None, Result, Ok, Err, cond, not, ◌&&◌, ◌||◌, List, eqb}
use Rattle.buffer.specs.Calls.{byte_pos_of, byte_after_of, field_of, has_of, skip_bytes_of, search_of}
use Rattle.buffer.specs.declared.BytePos.{BytePos}
use Rattle.buffer.specs.declared.Reader.{Reader}
use Rattle.buffer.specs.declared.Sync.{Sync}
use Rattle.buffer.specs.declared.Sync.TheVariants.{Found, Missing}
use Rattle.grammar.specs.Reads.{Reads, done, ask, ◌>>=◌, Taken, taken, run}
use Rattle.tables.specs.Standard.{kbps_of, rate_of}
use Rattle.readings.specs.Pairs.{barred}
use Rattle.buffer.specs.Numbers.{result_number}
use Rattle.refusal.specs.declared.Refusal.{Refusal}
use Rattle.refusal.specs.declared.Refusal.TheVariants.{NoHeader, NoSync, OtherLayer, NoBitRate, NoSampleRate, OtherFormat, BarredRate}
use Rattle.header.specs.declared.Rates.{Rates}
use Rattle.header.specs.declared.Format.{Format}
use Rattle.header.specs.declared.Accepted.{Accepted}
use Rattle.header.specs.declared.Attempt.{Attempt}
use Rattle.header.specs.declared.Unsynced.{Unsynced}
use Rattle.header.specs.declared.Stopped.{Stopped}

-- ---- the sync

-- no sync, with the byte of the FF, or the length if there is none, and the reader's place
abbrev pub unsynced : Refusal → BytePos → Reader → Unsynced
unsynced e sync r = record { refusal = e; sync = sync; next = r }

-- where nothing was sought: the byte that starts at the position or after it
abbrev pub unsought_of : Refusal → Reader → Unsynced
unsought_of e r = unsynced e (byte_after_of r.at) r

-- a pair found; none, which is 2; what the reader refuses is handed on
abbrev pub by_search : Reader → Result Sync Refusal → Result (Taken BytePos) Unsynced
by_search r (Ok (Found sync skipped next)) = Ok (taken sync next)
by_search r (Ok (Missing sync skipped next)) = Err (unsynced NoSync sync next)
by_search r (Err e) = Err (unsought_of e r)

unfoldable pub seek_of : List ℕ → Reader → Result (Taken BytePos) Unsynced
seek_of s r = by_search r (search_of s r)

-- "reads 11 bits. If they are not all ones, the search starts at the byte holding the reading position"
unfoldable pub sync_of : List ℕ → Reader → Result (Taken BytePos) Unsynced
sync_of s r =
    cond (eqb (field_of s r 11).value 2047) (Ok (taken (byte_pos_of r.at) (field_of s r 11).next)) (seek_of s (field_of s r 11).next)

-- "it aligns, passes zero bytes"
abbrev pub by_skip : List ℕ → Reader → Result (Taken ℕ) Refusal → Result (Taken BytePos) Unsynced
by_skip s r (Ok zeros) = sync_of s zeros.next
by_skip s r (Err e) = Err (unsought_of e r)

-- "a header attempt needs 48 bits": else 1
abbrev pub by_has : List ℕ → Reader → Result Bool Refusal → Result (Taken BytePos) Unsynced
by_has s r (Ok true) = by_skip s r (skip_bytes_of s r 0)
by_has s r (Ok false) = Err (unsought_of NoHeader r)
by_has s r (Err e) = Err (unsought_of e r)

unfoldable pub start_of : List ℕ → Reader → Result (Taken BytePos) Unsynced
start_of s r = by_has s r (has_of s r 48)

-- ---- the fields after it

-- version 2 bits, layer 2, protection 1 (0 means a check word); 3 "falls after the protection bit"
unfoldable pub ident_of : Reads (Result Bool Refusal)
ident_of =
    ask 2 λ version. ask 2 λ layer. ask 1 λ protection.
    done (cond (eqb version 3 && eqb layer 2) (Ok (eqb protection 0)) (Err OtherLayer))

abbrev pub rates : ℕ → ℕ → ℕ → Rates
rates bitrate samplerate padding = record { bitrate = bitrate; samplerate = samplerate; padding = padding }

-- bit rate 4, sample rate 2, padding 1; 4 and 5 "as soon as their field is read"
unfoldable pub rates_of : Reads (Result Rates Refusal)
rates_of =
    ask 4 λ b. cond (eqb b 0 || eqb b 15) (done (Err NoBitRate))
    (ask 2 λ f. cond (eqb f 3) (done (Err NoSampleRate)) (ask 1 λ p. done (Ok (rates (b - 1) f p))))

-- private 1, mode 2
unfoldable pub mode_of : Reads ℕ
mode_of = ask 1 λ _. ask 2 λ mode. done mode

-- "joint stereo (1) gives 4 times (extension + 1), mono (3) gives 0, others 32"
abbrev pub bound_by : ℕ → ℕ → ℕ
bound_by mode extension = cond (eqb mode 1) (4 * (extension + 1)) (cond (eqb mode 3) 0 32)

-- 16 check bits, skipped unread
unfoldable pub check_of : Bool → Reads ℕ
check_of check = cond check (ask 16 λ _. done 0) (done 0)

-- extension 2, four flag bits, and the check word: what is kept of them is the bound
unfoldable pub bound_of : ℕ → Bool → Reads ℕ
bound_of mode check = ask 2 λ extension. ask 4 λ _. check_of check >>= λ _. done (bound_by mode extension)

-- "144000 times kbps divided by the sample rate, rounded down, plus padding .. less 4, or less 6 with a check word"
unfoldable pub size_of : ℕ → ℕ → ℕ → Bool → ℕ
size_of bitrate samplerate padding check = 144000 * kbps_of bitrate / rate_of samplerate + padding - cond check 6 4

-- "pending data size 0 or 90 to 1,725": the bytes that an accepted header can announce
abbrev pub least_data : ℕ
least_data = 90

abbrev pub most_data : ℕ
most_data = 1725

-- "a header was accepted earlier, and bit rate, sample rate or mode differs"; code 3 means no header yet
abbrev pub differs : Format → ℕ → ℕ → ℕ → Bool
differs known bitrate samplerate mode =
    not (eqb known.samplerate 3)
    && (not (eqb known.bitrate bitrate) || not (eqb known.samplerate samplerate) || not (eqb known.mode mode))

-- the refusals that fall "after the mode": 13 "before 6", then 6; or none
abbrev pub after_mode_of : Format → ℕ → ℕ → ℕ → Option Refusal
after_mode_of known bitrate samplerate mode =
    cond (barred known.reading bitrate mode) (Some BarredRate) (cond (differs known bitrate samplerate mode) (Some OtherFormat) None)

-- a refusal ends the reading; without one it goes on
abbrev pub unless_refused : {A : Type 0} → Option Refusal → Reads (Result A Refusal) → Reads (Result A Refusal)
unless_refused (Some e) more = done (Err e)
unless_refused None more = more

abbrev pub accepted_header : Format → ℕ → Accepted
accepted_header f size = record { format = f; size = size }

-- without a refusal the header is accepted, with its format and its data size
unfoldable pub rest_of : Format → Bool → ℕ → ℕ → ℕ → Reads (Result Accepted Refusal)
rest_of known check bitrate samplerate padding =
    mode_of >>= λ mode. unless_refused (after_mode_of known bitrate samplerate mode)
    (bound_of mode check >>= λ bound.
    done
    (Ok
    (accepted_header (record { reading = known.reading; samplerate = samplerate; bitrate = bitrate; mode = mode; bound = bound })
    (size_of bitrate samplerate padding check))))

abbrev pub by_rates : Format → Bool → Result Rates Refusal → Reads (Result Accepted Refusal)
by_rates known check (Ok x) = rest_of known check x.bitrate x.samplerate x.padding
by_rates known check (Err e) = done (Err e)

abbrev pub by_ident : Format → Result Bool Refusal → Reads (Result Accepted Refusal)
by_ident known (Ok check) = rates_of >>= by_rates known check
by_ident known (Err e) = done (Err e)

unfoldable pub fields_of : Format → Reads (Result Accepted Refusal)
fields_of known = ident_of >>= by_ident known

-- a reading that can be refused, with its reader beside the answer: the form that `run` gives
abbrev pub settled : {A : Type 0} → Result (Taken A) Stopped → Taken (Result A Refusal)
settled (Ok x) = taken (Ok x.value) x.next
settled (Err e) = taken (Err e.refusal) e.next

-- ---- the attempt

abbrev pub attempt : BytePos → Taken (Result Accepted Refusal) → Attempt
attempt sync x = record { header = x.value; sync = sync; next = x.next }

abbrev pub refusal : Refusal → BytePos → Reader → Attempt
refusal e sync r = record { header = Err e; sync = sync; next = r }

abbrev pub by_start : List ℕ → Format → Result (Taken BytePos) Unsynced → Attempt
by_start s known (Ok x) = attempt x.value (run (fields_of known) s x.next)
by_start s known (Err e) = refusal e.refusal e.sync e.next

unfoldable pub header_of : List ℕ → Reader → Format → Attempt
header_of s r known = by_start s known (start_of s r)

-- 02, E2: "the header attempt [reports the bytes] from its aligned start, to the FF of the sync, or to the stream's end if there is none"
abbrev pub passed_by : Reader → Attempt → ℕ
passed_by r t = t.sync.0 - (byte_after_of r.at).0

-- 01's number of an attempt
abbrev pub header_number : Result Accepted Refusal → ℕ
header_number = result_number
