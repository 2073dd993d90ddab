-- The numbers of 01's table by name, and for each answer its number and its values.
use Rattle.std.specs.Prelude.{ℕ, Bool, false, ◌||◌, eqb, pos, Float, Ok, Err}
use Rattle.std.specs.Float.{fin}
use Rattle.buffer.specs.Numbers.{result_number}
use Rattle.refusal.specs.Numbers.{number_of}
use Rattle.verdict.specs.Verdict.{Heading}
use Rattle.audio.specs.Calls.{Reply}
use Rattle.audio.specs.declared.Answer.{Answer}
use Rattle.audio.specs.declared.Answer.TheVariants.{Frame, Refused}

abbrev pub heading_number : Heading → ℕ
heading_number = result_number

abbrev pub reply_number : Reply → ℕ
reply_number = result_number

abbrev pub answer_number : Answer → ℕ
answer_number (Frame time bits) = 0
answer_number (Refused n) = number_of n

-- samples a second, kilobits a second, and the mode; zeros beside a refusal
abbrev pub reply_rate : Reply → ℕ
reply_rate (Ok x) = x.rate
reply_rate (Err n) = 0

abbrev pub reply_kbps : Reply → ℕ
reply_kbps (Ok x) = x.kbps
reply_kbps (Err n) = 0

abbrev pub reply_mode : Reply → ℕ
reply_mode (Ok x) = x.mode
reply_mode (Err n) = 0

-- a frame's start in seconds, and the bits that it used; zeros beside a refusal
abbrev pub answer_start : Answer → Float
answer_start (Frame time bits) = time
answer_start (Refused n) = fin false 0 (pos 0)

abbrev pub answer_bits : Answer → ℕ
answer_bits (Frame time bits) = bits
answer_bits (Refused n) = 0

-- ---- the numbers, by name: firmware/tag.h has the same

-- frame decoded, or header accepted
abbrev pub succeeded : ℕ
succeeded = 0

-- no header pending, fewer than 48 bits remain
abbrev pub no_header_can_follow : ℕ
no_header_can_follow = 1

-- header sought, no sync found
abbrev pub no_sync : ℕ
no_sync = 2

-- another version or layer
abbrev pub other_layer : ℕ
other_layer = 3

-- a bit-rate field that is no bit rate
abbrev pub no_bit_rate : ℕ
no_bit_rate = 4

-- a sample-rate field that is no sample rate
abbrev pub no_sample_rate : ℕ
no_sample_rate = 5

-- bit rate, sample rate or mode is not that of the first header
abbrev pub other_format : ℕ
other_format = 6

-- the frame's data does not all remain
abbrev pub frame_cut_off : ℕ
frame_cut_off = 7

-- stream above 16,777,216 bytes
abbrev pub long_stream : ℕ
long_stream = 8

-- memory under 2,048 or output under 2,304 values
abbrev pub little_room : ℕ
little_room = 9

-- a state out of range
abbrev pub bad_state : ℕ
bad_state = 10

-- a bit rate that the standard does not have in this mode; in the strict reading (02, E3)
abbrev pub barred_rate : ℕ
barred_rate = 13

-- "On the same stream 1 and 7 repeat for ever": they end it. After any other number a later call may give a frame
abbrev pub ends : ℕ → Bool
ends n = eqb n no_header_can_follow || eqb n frame_cut_off

-- 8, 9 and 10 are found before anything is read ("same state"): the caller lent or saved something wrong
abbrev pub callers_mistake : ℕ → Bool
callers_mistake n = eqb n long_stream || (eqb n little_room || eqb n bad_state)
