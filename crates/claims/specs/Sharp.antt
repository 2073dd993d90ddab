-- Demand 3 is sharp: "It rings on for 15 blocks of 32 samples", and a sample of the fifteenth block can tell two pasts apart. One decoder
-- is opened on a frame whose last slot knocks, the other on a silent frame; then both accept two silent frames, which agree. Sample 480
-- of the first of these still differs, by demand 3 none from 481 on does, and none of the second. The knock's sample has the unchanged
-- Rust's bits: its `Audio::new` and `decode` were run on the two streams. Assumes nothing.
use Prim.Native.Nat.{ℕ, ◌+◌, ◌%◌, ◌≤◌, ◌<◌}
use Rattle.std.specs.Prelude.{◌≡◌, refl, Bool, eqb, ℤ, Float, length, get_or, replicate}
use Rattle.std.proofs.Common.{sym, ◌∙◌, arith, lit≤, eqb→eq}
use Rattle.std.proofs.Math.Path.{ap, ap₂}
use mathlib.Core.List.{List, [], ◌∷◌}
use Rattle.std.proofs.Math.Dec.{lit<}
use Rattle.std.specs.Float.{binary32}
use Rattle.std.specs.Float.Ieee.{add, sub, mul, div, neg, of_int, of_bits, to_bits}
use Rattle.std.proofs.lemmas.List.{length-replicate}
use Rattle.ground.specs.Table.{table}
use Rattle.ground.specs.Upto.{below}
use Rattle.buffer.specs.Bits.{bit_at, bits_value}
use Rattle.buffer.specs.Calls.{reader_at, read_of, field_of}
use Rattle.grammar.specs.Reads.{◌>>=◌, Taken, taken, called}
use Rattle.grammar.specs.Widths.{Agree}
use Rattle.tables.specs.Standard.{limit_of, chosen, serves, sblimit, rows_of}
use Rattle.tables.specs.Source.{source_row_of, width_of, quantiser_of}
use Rattle.tables.specs.Differences.{table_of}
use Rattle.side.specs.Bands.{bands, pair_of, channels_of}
use Rattle.side.specs.Side.{allocation_of, allocation_band_of, selector_of, factors_of, side_of}
use Rattle.codes.specs.Frame.{place_of, singles_of, codes_of, three_samples_of, copied, sample_band_of, granule_of, granules_of, frame_of}
use Rattle.transform.specs.Transform.{idct, floats, transform, sums_of, differences_of, woven_of, slot_of, halving_factors}
use Rattle.window.specs.Window.{standard_d, half, window_list, window_at}
use Rattle.window.specs.Output.{nought, taps, output_of}
use Rattle.synthesis.specs.Slots.{slot_samples, position_after, put, slot_ring, ring_of, ring_after, outputs_at, memory_length, output_length}
use Rattle.synthesis.specs.Memory.{ring_of_length, memory_ring}
use Rattle.synthesis.specs.Output.{output_at}
use Rattle.synthesis.specs.Wash.{washed}
use Rattle.frame.specs.Frame.{codes_in, granules_at, slots_of}
use Rattle.state.specs.State.{fresh}
use Rattle.state.specs.declared.Audio.{Audio}
use Rattle.past.specs.Pasts.{Past}
use Rattle.past.specs.Calls.{Call, new_output, sample, granules_in, known_accepted, accepted_leaves}
use Rattle.past.specs.Finite.{BitForBit}
use Rattle.past.specs.Ring.{ring_in_place, memory_kept_long}
use Rattle.claims.specs.Clips.{knocking, silent, behind, silence, knock, mono, headed, headed_two, headed_three, Course, courses, first, second, third, past_one, past_two, opened_at, before_first, state_one, before_second, before_third}
use Rattle.ringout.specs.RingOut.{Agreeing, agree_on, Together, begin}
use Rattle.ringout.proofs.RingOut.{rings_out, every_later_sample}
use Rattle.verdict.specs.Verdict.{Asked}

-- ---- sample 480 of the second frame

-- output 31 of slot 14 behind such a frame, in silence: sample 480
abbrev later : List (List ℤ) → Float
later g = outputs_at (slots_of silence 0) 768 (ring_after (slots_of g 0) 0 (replicate 1024 nought) 36) 14 31

pub later_bits : to_bits binary32 (later knock) ∷ to_bits binary32 (later silence) ∷ [] ≡ 0xB73A69A5 ∷ 0x80000000 ∷ []
unfolding outputs_at output_of taps ring_after slot_ring put position_after slot_samples standard_d half window_list window_at idct floats transform sums_of
    differences_of woven_of slot_of halving_factors table of_int of_bits add sub mul neg div to_bits
later_bits = refl

-- by what the first frame held: the ring before it is of no matter
module _ {s : List ℕ} {granules : List (List ℤ)} {last end : ℕ} (course : Course s granules last end) (m o : List Float) (long : memory_length ≤ length m)
    (room : output_length ≤ length o) where
  abbrev one_call : Call
  one_call = first s m o

  abbrev two_calls : Call
  two_calls = second s m o

  pub sample_480 : sample (new_output two_calls) 0 480 ≡ later granules
  unfolding fresh
  sample_480 =
      let past = past_one course m o long room in
      let at_first = before_first course m o long room in
      let at_second = before_second course m o long room in
      let left = accepted_leaves two_calls (known_accepted two_calls headed_two at_second) in
      let own = accepted_leaves one_call (known_accepted one_call headed at_first) in
      let frame : ℕ → List (Taken (List (List ℤ))) → List (List ℤ) = λ i xs. (get_or xs i (taken [] (reader_at 0))).value in
      let held : granules_in one_call ≡ granules =
      ap (λ (x : Asked). (granules_at s x.state.reader x.state.format).value) at_first ∙ ap (frame 0) course.reads in
      let read : granules_in two_calls ≡ silence =
      ap (λ (x : Asked). (granules_at s x.state.reader x.state.format).value) at_second ∙ ap (frame 1) course.reads in
      let begun : one_call.state.ring ≡ 0 = ap (λ (a : Audio). a.ring) (opened_at course m o long room) in
      let turned : two_calls.state.ring ≡ 768 = ap (λ (a : Audio). a.ring) (state_one course m o long room) in
      let ring : ring_of 0 two_calls.memory ≡ ring_after (slots_of granules 0) 0 (replicate 1024 nought) 36 =
      ap (ring_of 0) own.memory
      ∙ memory_ring (slots_of (granules_in one_call)) (ring_in_place past) one_call.memory (memory_kept_long past) 0 (omega arith) 36
      ∙ ap₂ (λ (p : ℕ) (xs : List (List ℤ)). ring_after (slots_of xs 0) p (ring_of 0 one_call.memory) 36) begun held
      ∙ washed (slots_of granules 0) (slots_of granules 0) (record { whole = refl; on_ring = lit< tt }) (ring_of 0 one_call.memory) (replicate 1024 nought)
      (ring_of_length 0 (omega arith) one_call.memory (memory_kept_long past)) (length-replicate 1024 nought) 36 (lit≤ tt) (λ k l. refl) in
      ap (λ (xs : List Float). sample xs 0 480) left.output
      ∙ output_at (slots_of (granules_in two_calls)) two_calls.state.ring two_calls.memory o 0 36 left.goes.output_long 958 (lit< tt)
      ∙ ap₂ (λ (p : ℕ) (xs : List (List ℤ)). outputs_at (slots_of xs 0) p (ring_of 0 two_calls.memory) 14 31) turned read
      ∙ ap (λ (xs : List Float). outputs_at (slots_of silence 0) 768 xs 14 31) ring

-- ---- the agreeing frames

same : ℕ → ℕ → Bool
same p i = eqb (bit_at (behind knocking) (p + i)) (bit_at (behind silent) (p + i))

-- the two agreeing frames call for 26 bits each, which are the same
same_bits : (called (codes_in mono) (behind knocking) (reader_at 864) ≡ 26) × (called (codes_in mono) (behind knocking) (reader_at 1696) ≡ 26)
    × Agree (behind knocking) 864 (behind silent) 864 26 × Agree (behind knocking) 1696 (behind silent) 1696 26
unfolding Agree same called codes_in ◌>>=◌ frame_of side_of bands pair_of allocation_of allocation_band_of channels_of selector_of factors_of place_of singles_of codes_of
    three_samples_of copied sample_band_of granule_of granules_of field_of read_of bits_value bit_at table_of limit_of chosen serves sblimit rows_of source_row_of
    width_of quantiser_of
same_bits = (refl, refl, λ i l. eqb→eq _ _ (below (same 864) 26 tt i l), λ i l. eqb→eq _ _ (below (same 1696) 26 tt i l))

-- ---- the two decoders, each with its own memory and output

abbrev pub knocked : Course (behind knocking) knock 126 128
knocked = courses.0

abbrev pub unknocked : Course (behind silent) silence 58 64
unknocked = courses.1

module _ (m n o u : List Float) (long : memory_length ≤ length m) (long' : memory_length ≤ length n) (room : output_length ≤ length o)
    (room' : output_length ≤ length u) where
  -- the premises of demand 3 hold
  pub second_frames_agree : Agreeing (second (behind knocking) m o) (second (behind silent) n u)
  second_frames_agree =
      agree_on _ _ headed_two (before_second knocked m o long room) (before_second unknocked n u long' room') 0 26 refl same_bits.0
      (lit≤ tt) (lit≤ tt) same_bits.2

  third_frames_agree : Agreeing (third (behind knocking) m o) (third (behind silent) n u)
  third_frames_agree =
      agree_on _ _ headed_three (before_third knocked m o long room) (before_third unknocked n u long' room') 0 26 refl same_bits.1
      (lit≤ tt) (lit≤ tt) same_bits.3

  pub remainder : (second (behind knocking) m o).state.frames % 4 ≡ (second (behind silent) n u).state.frames % 4
  remainder = ap (λ (a : Audio). a.frames % 4) (state_one knocked m o long room) ∙ sym (ap (λ (a : Audio). a.frames % 4) (state_one unknocked n u long' room'))

  together : Together (third (behind knocking) m o).state (third (behind knocking) m o).memory (third (behind silent) n u).state
      (third (behind silent) n u).memory
  together = begin _ _ (past_two knocked m o long room) (past_two unknocked n u long' room') remainder second_frames_agree

  -- the knock is over with the sixteenth block, and the next frame has nothing of it
  pub the_knock_stops : (channel k : ℕ) → channel < 2 → 481 ≤ k → k ≤ 1152
      → sample (new_output (second (behind knocking) m o)) channel k ≡ sample (new_output (second (behind silent) n u)) channel k
  the_knock_stops = rings_out (past_two knocked m o long room) (past_two unknocked n u long' room') remainder second_frames_agree

  pub nothing_in_the_next_frame : (channel k : ℕ) → channel < 2 → 1 ≤ k → k ≤ 1152
      → sample (new_output (third (behind knocking) m o)) channel k ≡ sample (new_output (third (behind silent) n u)) channel k
  nothing_in_the_next_frame = every_later_sample together third_frames_agree

-- demand 3's premises, and yet a sample of the fifteenth block is not equal bit for bit
pub record TellsApart (c d : Call) : Type 0 where
  pub past : Past c.state c.memory
  pub past' : Past d.state d.memory
  pub remainder : c.state.frames % 4 ≡ d.state.frames % 4
  pub agree : Agreeing c d
  pub differs : BitForBit (sample (new_output c) 0 480) (sample (new_output d) 0 480) → ⊥
