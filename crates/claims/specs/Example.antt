-- Demand 3's premises can be met: two decoders opened on 01's frame of zeros, FF FD A0 00 and 622 zero bytes, with any two memories and
-- outputs, accept it, agree, and both use 188 bits. Assumes nothing.
use Rattle.std.specs.Prelude.{ℕ, ◌+◌, ◌*◌, ◌%◌, ◌≤◌, ◌<◌, ◌≡◌, refl, true, List, Float, length, Ok}
use Rattle.std.proofs.Common.{sym, ap, ◌∙◌, lit≤}
use Rattle.std.specs.Float.Ieee.{is_nan, to_bits, of_int, div}
use borrow.Author.Tests.{le-ltb}
use Rattle.ground.specs.First.{first_from}
use Rattle.synthesis.specs.Slots.{memory_length, output_length}
use Rattle.buffer.specs.Bits.{bit_at, bits_value}
use Rattle.buffer.specs.Calls.{reader_at, read_of, field_of, has_of, skip_bytes_of}
use Rattle.grammar.specs.Reads.{◌>>=◌, run, called}
use Rattle.grammar.specs.Widths.{Agree}
use Rattle.header.specs.Header.{header_of, start_of, sync_of, fields_of, ident_of, rates_of, rest_of, mode_of, bound_of, check_of, size_of}
use Rattle.codes.specs.Rows.{zeros, row_188}
use Rattle.frame.specs.Frame.{codes_in}
use Rattle.clock.specs.Clock.{are_same_bits, on_time, start_time_of}
use Rattle.readings.specs.Readings.{plain}
use Rattle.state.specs.State.{fresh, numbers_ok, in_range, pends}
use Rattle.verdict.specs.Verdict.{asked, attempt_of, headed_of, enough_of, ready_of, at_once_of, Asked}
use Rattle.audio.specs.Calls.{open_of, open_memory, no_room_of}
use Rattle.state.specs.declared.Audio.{Audio}
use Rattle.past.specs.Pasts.{Past, opened}
use Rattle.past.specs.Calls.{Call, new_output, sample, before, frame_state, first_bit, bits_called, Accepts, known_accepted}
use Rattle.past.specs.Ring.{memory_kept_long}
use Rattle.claims.specs.Widths.{bits_are_the_widths}
use Rattle.ringout.specs.RingOut.{Agreeing, agree_on}
use Rattle.ringout.proofs.RingOut.{rings_out}

-- the state after the header
abbrev pub headed : Audio
headed = pends (reader_at 32) (record { reading = plain; samplerate = 0; bitrate = 9; mode = 0; bound = 32 }) 622 (fresh plain)

found : attempt_of zeros (fresh plain) ≡ asked 0 (Ok tt) headed
unfolding attempt_of fresh header_of start_of sync_of has_of skip_bytes_of field_of read_of bits_value bit_at first_from run ◌>>=◌ fields_of ident_of rates_of rest_of
    mode_of bound_of check_of size_of
found = refl

sound : in_range headed ≡ true
unfolding fresh in_range numbers_ok on_time start_time_of are_same_bits is_nan to_bits of_int div
sound = refl

headed_calls : called (codes_in headed.format) zeros headed.reader ≡ 188
unfolding codes_in
headed_calls = row_188

-- a decoder opened on it with any memory, lent any output
abbrev pub opening : List Float → List Float → Call
opening m o = record { stream = zeros; memory = open_memory zeros m; output = o; state = (open_of plain zeros m).state }

module _ (m o : List Float) (long : memory_length ≤ length m) (room : output_length ≤ length o) where
  pub opened_on_zeros : Past (opening m o).state (opening m o).memory
  opened_on_zeros = opened plain zeros m (lit≤ tt) long

  pub opened_to_header : open_of plain zeros m ≡ asked 0 (Ok tt) headed
  unfolding open_of no_room_of
  opened_to_header = simp (le-ltb _ _ long) found

  at_header : (opening m o).state ≡ headed
  at_header = ap (λ (x : Asked). x.state) opened_to_header

  pub before_zeros : before (opening m o) ≡ asked 0 (Ok tt) headed
  unfolding ready_of at_once_of headed_of enough_of has_of
  before_zeros = simp (at_header, le-ltb _ _ (memory_kept_long opened_on_zeros), le-ltb _ _ room, sound)

  pub zeros_accepted : Accepts (opening m o)
  zeros_accepted = known_accepted (opening m o) headed before_zeros

  pub frame_state_headed : frame_state (opening m o) ≡ headed
  frame_state_headed = ap (λ (x : Asked). x.state) before_zeros

  calls_188 : bits_called (opening m o) ≡ 188
  calls_188 = ap (λ (a : Audio). called (codes_in a.format) zeros a.reader) frame_state_headed ∙ headed_calls

  pub begins_at_32 : first_bit (opening m o) ≡ 32
  begins_at_32 = ap (λ (a : Audio). a.reader.at.0) frame_state_headed

  all_there : first_bit (opening m o) + bits_called (opening m o) ≤ 8 * length zeros
  all_there = rw (calls_188, begins_at_32) (lit≤ tt)

  pub zeros_use_188_bits : zeros_accepted.bits ≡ 188
  zeros_use_188_bits = bits_are_the_widths zeros_accepted all_there ∙ calls_188

pub zeros_agree : (m n o u : List Float) → memory_length ≤ length m → memory_length ≤ length n → output_length ≤ length o → output_length ≤ length u
    → Agreeing (opening m o) (opening n u)
unfolding Agree
zeros_agree m n o u lm ln lo lu =
    agree_on (opening m o) (opening n u) headed (before_zeros m o lm lo) (before_zeros n u ln lu) 0 188 refl headed_calls (lit≤ tt) (lit≤ tt) (λ i l. refl)

-- so demand 3 says of them what it says
pub zeros_ring_out : (m n o u : List Float) → memory_length ≤ length m → memory_length ≤ length n → output_length ≤ length o → output_length ≤ length u
    → (channel k : ℕ) → channel < 2 → 481 ≤ k → k ≤ 1152 → sample (new_output (opening m o)) channel k ≡ sample (new_output (opening n u)) channel k
zeros_ring_out m n o u lm ln lo lu =
    rings_out (opened_on_zeros m o lm lo) (opened_on_zeros n u ln lu)
    (ap (λ (a : Audio). a.frames % 4) (at_header m o lm lo ∙ sym (at_header n u ln lu))) (zeros_agree m n o u lm ln lo lu)
