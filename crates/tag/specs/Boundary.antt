-- The decoder's state and answers as numbers: what firmware, or a test in another language, gets across the boundary, and what each
-- of the four calls promises there. Three are audio's calls; the fourth rounds a frame's samples. Assumes nothing.
use Rattle.std.specs.Prelude.{ℕ, ◌≡◌, refl, Bool, false, cond, ◌||◌, List, [], ◌∷◌, ◌++◌, ltb, length, take, drop, get_or, pos, Float, Err}
use Rattle.std.proofs.Common.{ap, ◌∙◌}
use Rattle.std.specs.Float.{fin, nan, binary64}
use Rattle.std.specs.Float.Ieee.{of_bits, to_bits, is_nan, div, of_int}
use Rattle.ground.specs.First.{first_from}
use Rattle.buffer.specs.Bits.{bit_at, bits_value}
use Rattle.buffer.specs.Calls.{reader_at, read_of, field_of, has_of, skip_bytes_of, search_of}
use Rattle.grammar.specs.Reads.{◌>>=◌, run}
use Rattle.header.specs.Header.{header_of, start_of, sync_of, seek_of, fields_of, ident_of, rates_of, rest_of, mode_of, bound_of, check_of, size_of}
use Rattle.readings.specs.Readings.{plain}
use Rattle.synthesis.specs.Slots.{memory_length, output_length, quiet}
use Rattle.riff.specs.Level.{words_of}
use Rattle.clock.specs.Clock.{start_time_of, are_same_bits, on_time}
use Rattle.state.specs.State.{fresh, numbers_ok, in_range}
use Rattle.state.specs.declared.Audio.{Audio}
use Rattle.verdict.specs.Verdict.{attempt_of, headed_of, enough_of, at_once_of, ready_of, known_of, Asked}
use Rattle.audio.specs.Calls.{no_room_of, open_of, format_of, decode_of, decode_memory, decode_output, Reply, Decoded}
use Rattle.audio.specs.Numbers.{heading_number, reply_number, reply_rate, reply_kbps, reply_mode, answer_number, answer_start, answer_bits, little_room}
use Rattle.audio.specs.declared.Answer.{Answer}
use Rattle.audio.specs.declared.Answer.TheVariants.{Refused as AnswerRefused}
use Rattle.tag.specs.declared.Named.{Named}
use Rattle.tag.specs.declared.Played.{Played}
use Rattle.refusal.specs.declared.Refusal.TheVariants.{NoSync, CutOff}

-- ---- the state as three arrays

-- bit position, sample-rate code, bit-rate index, bound, pending data size, ring position. The last two are not read: the seventh is 0,
-- kept for the end of the pending frame (02, E6); the eighth is an answer, the bytes that the call passed over (E2)
abbrev pub places_of : ℕ → Audio → List ℕ
places_of skipped a =
    a.reader.at.0 ∷ a.format.samplerate ∷ a.format.bitrate ∷ a.format.bound ∷ a.pending ∷ a.ring ∷ 0 ∷ skipped ∷ []

-- mode, frames, the choices. The others are 0 and not read: three are kept for the check word (E8), two are spare
abbrev pub counts_of : Audio → List ℕ
counts_of a = a.format.mode ∷ a.frames ∷ a.format.reading.choices ∷ 0 ∷ 0 ∷ 0 ∷ 0 ∷ 0 ∷ []

-- the next start
abbrev pub time_of : Audio → List Float
time_of a = a.time ∷ []

abbrev pub state_of : List ℕ → List ℕ → List Float → Audio
state_of places counts time =
    record {
      reader = reader_at (get_or places 0 0);
      format =
          record {
            reading = record { choices = get_or counts 2 0 };
            samplerate = get_or places 1 0;
            bitrate = get_or places 2 0;
            mode = get_or counts 0 0;
            bound = get_or places 3 0;
          };
      frames = get_or counts 1 0;
      pending = get_or places 4 0;
      ring = get_or places 5 0;
      time = get_or time 0 nan;
    }

-- a state that was written is the state that is read, whatever was passed over
pub round_trip : (skipped : ℕ) (a : Audio) → state_of (places_of skipped a) (counts_of a) (time_of a) ≡ a
round_trip skipped a = refl

-- a state saved when there were six places and two counts, widened with zeros, is that state, read plainly
pub widened : (position samplerate bitrate bound pending ring mode frames : ℕ) (time : Float)
    → state_of (position ∷ samplerate ∷ bitrate ∷ bound ∷ pending ∷ ring ∷ 0 ∷ 0 ∷ []) (mode ∷ frames ∷ 0 ∷ 0 ∷ 0 ∷ 0 ∷ 0 ∷ 0 ∷ []) (time ∷ [])
    ≡ record {
      reader = reader_at position;
      format = record { reading = plain; samplerate = samplerate; bitrate = bitrate; mode = mode; bound = bound };
      frames = frames;
      pending = pending;
      ring = ring;
      time = time;
    }
widened position samplerate bitrate bound pending ring mode frames time = refl

-- ---- the answers: 01's number and values

abbrev pub named_of : Reply → Named
named_of r = record { number = reply_number r; rate = reply_rate r; kbps = reply_kbps r; mode = reply_mode r }

abbrev pub played_of : Answer → Played
played_of a = record { number = answer_number a; start = answer_start a; bits = answer_bits a }

-- ---- what each call promises: the number that it returns, and what it leaves in all that it was lent

-- the arrays hold the state, and what the call passed over
pub record HeldIn (skipped : ℕ) (a : Audio) (places counts : List ℕ) (time : List Float) : Type 0 where
  pub places_hold : places ≡ places_of skipped a
  pub counts_hold : counts ≡ counts_of a
  pub time_holds : time ≡ time_of a

-- an opening: its number, and the state
pub record TagOpen (x : Asked) (number : ℕ) (places counts : List ℕ) (time : List Float) : Type 0 where
  pub number_is : number ≡ heading_number x.answer
  pub state_is : HeldIn x.skipped x.state places counts time

-- the question about the format
module _ (s : List ℕ) (a : Audio) where
  abbrev named : Named
  named = named_of (format_of s a).answer

  pub record TagFormat (number : ℕ) (places counts : List ℕ) (time : List Float) (rate kbps mode : List ℕ) : Type 0 where
    pub number_is : number ≡ named.number
    pub state_is : HeldIn (format_of s a).skipped (format_of s a).state places counts time
    pub rate_is : rate ≡ named.rate ∷ []
    pub kbps_is : kbps ≡ named.kbps ∷ []
    pub mode_is : mode ≡ named.mode ∷ []

module _ (s : List ℕ) (memory output : List Float) (a : Audio) where
  abbrev decoded : Decoded
  decoded = decode_of s memory output a

  abbrev played : Played
  played = played_of decoded.answer

  pub record TagDecode (number : ℕ) (memory' output' : List Float) (places counts : List ℕ) (time start : List Float) (bits : List ℕ) : Type 0 where
    pub number_is : number ≡ played.number
    pub memory_is : memory' ≡ decode_memory s memory output a
    pub output_is : output' ≡ decode_output s memory output a
    pub state_is : HeldIn decoded.skipped decoded.state places counts time
    pub start_is : start ≡ played.start ∷ []
    pub bits_are : bits ≡ played.bits ∷ []

-- whether one of two slices has no room for a frame
abbrev pub no_room_for : List Float → List ℕ → Bool
no_room_for output samples = ltb (length output) output_length || ltb (length samples) output_length

-- a frame's samples in 16 bits (02, E1's rounding); what lies behind them stays, and so does all where there is no room
pub record TagSamples16 (output : List Float) (samples : List ℕ) (number : ℕ) (samples' : List ℕ) : Type 0 where
  pub number_is : number ≡ cond (no_room_for output samples) little_room 0
  pub samples_are : samples' ≡ cond (no_room_for output samples) samples (words_of (take output_length output) ++ drop output_length samples)

-- ---- call after call

-- what one call left in the arrays, the next one reads; so an opening and then a decode call are in proofs/Boundary
pub read_back : {k : ℕ} {a : Audio} {places counts : List ℕ} {time : List Float} → HeldIn k a places counts time → state_of places counts time ≡ a
read_back {k} {a} {places} {counts} {time} h =
    ap (λ (xs : List ℕ). state_of xs counts time) h.places_hold
    ∙ ap (λ (xs : List ℕ). state_of (places_of k a) xs time) h.counts_hold
    ∙ ap (λ (xs : List Float). state_of (places_of k a) (counts_of a) xs) h.time_holds

-- ---- the order of the places and counts, and their units

-- at bit 832, 48,000 Hz, 192 kbps, dual channel, bound 12; five frames played, 100 bytes pending, the last slot at 768; the next frame
-- starts at 0.12 seconds, 5 times 1152 / 48000. Seven bytes were passed over
abbrev example : Audio
example =
    record {
      reader = reader_at 832;
      format = record { reading = record { choices = 17 }; samplerate = 1; bitrate = 9; mode = 2; bound = 12 };
      frames = 5;
      pending = 100;
      ring = 768;
      time = of_bits binary64 0x3FBEB851EB851EB8;
    }

pub order : (places_of 7 example ≡ 832 ∷ 1 ∷ 9 ∷ 12 ∷ 100 ∷ 768 ∷ 0 ∷ 7 ∷ []) × (counts_of example ≡ 2 ∷ 5 ∷ 17 ∷ 0 ∷ 0 ∷ 0 ∷ 0 ∷ 0 ∷ [])
order = (refl, refl)

-- hertz in `rate`, kilobits a second in `kbps`, and the mode's number; and the time is this state's, so it is in seconds
pub units : TagFormat [] example 0 (places_of 0 example) (counts_of example) (time_of example) (48000 ∷ []) (192 ∷ []) (2 ∷ [])
unfolding format_of known_of at_once_of in_range numbers_ok on_time are_same_bits start_time_of is_nan to_bits of_bits div of_int
units =
    record {
      number_is = refl;
      state_is = record { places_hold = refl; counts_hold = refl; time_holds = refl };
      rate_is = refl;
      kbps_is = refl;
      mode_is = refl;
    }

-- a zero byte and another one in front of a header, 64 kbps, 48,000 Hz, mono, whose data are missing: an opening, a question and a decode
-- call each pass two bytes over, and leave the same places, counts and time
abbrev junk : List ℕ
junk = 0x00 ∷ 0x01 ∷ 0xFF ∷ 0xFD ∷ 0x44 ∷ 0xC0 ∷ 0x00 ∷ 0x00 ∷ []

abbrev left : List ℕ
left = 48 ∷ 1 ∷ 3 ∷ 0 ∷ 188 ∷ 0 ∷ 0 ∷ 2 ∷ []

abbrev mono : List ℕ
mono = 3 ∷ 0 ∷ 0 ∷ 0 ∷ 0 ∷ 0 ∷ 0 ∷ 0 ∷ []

abbrev zero : List Float
zero = fin false 0 (pos 0) ∷ []

pub two_passed : TagOpen (open_of plain junk (quiet memory_length)) 0 left mono zero
    × TagFormat junk (fresh plain) 0 left mono zero (48000 ∷ []) (64 ∷ []) (3 ∷ [])
    × TagDecode junk (quiet memory_length) (quiet output_length) (fresh plain) 7 (quiet memory_length) (quiet output_length) left mono zero zero (0 ∷ [])
unfolding open_of no_room_of format_of known_of decode_of decode_memory decode_output ready_of headed_of enough_of at_once_of attempt_of fresh in_range numbers_ok on_time
    are_same_bits start_time_of is_nan to_bits div of_int header_of start_of sync_of seek_of search_of has_of skip_bytes_of field_of read_of bits_value bit_at first_from
    run ◌>>=◌ fields_of ident_of rates_of rest_of mode_of bound_of check_of size_of
two_passed =
    let same : HeldIn 2 (state_of left mono zero) left mono zero = record { places_hold = refl; counts_hold = refl; time_holds = refl } in (
      record { number_is = refl; state_is = same },
      record { number_is = refl; state_is = same; rate_is = refl; kbps_is = refl; mode_is = refl },
      record { number_is = refl; memory_is = refl; output_is = refl; state_is = same; start_is = refl; bits_are = refl },
    )

-- beside a refusal there are zeros
pub zeros_beside : (named_of (Err NoSync) ≡ record { number = 2; rate = 0; kbps = 0; mode = 0 })
    × (played_of (AnswerRefused CutOff) ≡ record { number = 7; start = fin false 0 (pos 0); bits = 0 })
zeros_beside = (refl, refl)
