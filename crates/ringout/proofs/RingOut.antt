-- Demand 3, of the agreeing frames of specs/RingOut: what a change of that page takes away with it. Both use the same number of bits,
-- samples 481 to 1,152 of each channel are equal, and while the accepted frames go on agreeing so, every later sample. Assumes nothing.
use Rattle.std.specs.Prelude.{ℕ, ◌+◌, ◌-◌, ◌*◌, ◌%◌, ◌≤◌, ◌<◌, ◌≡◌, refl, List, ℤ, Float, get_or}
use Rattle.std.proofs.Math.Path.{sym, ap}
use Rattle.std.proofs.Common.{◌∙◌, zero-add, arith}
use Rattle.std.specs.Float.{nan}
use Rattle.grammar.specs.Reads.{run, called}
use Rattle.grammar.specs.Widths.{Agree, Alike, same_used}
use Rattle.header.specs.declared.Format.{Format}
use Rattle.window.specs.Output.{Place}
use Rattle.synthesis.specs.Slots.{position_after, ring_of, memory_after, output_after, output_length}
use Rattle.synthesis.specs.Wash.{ring_washed, output_by_rings}
use Rattle.frame.specs.Frame.{codes_in, granules_at, slots_of}
use Rattle.state.specs.declared.Audio.{Audio}
use Rattle.past.specs.Pasts.{Past, asked, decoded, refused, relent}
use Rattle.past.specs.Calls.{question_keeps, Call, outcome, new_memory, new_output, sample, frame_state, first_bit, bits_called, before_keeps, granules_in, Leaves, accepted_leaves, accepted_bits, refused_keeps}
use Rattle.past.specs.Ring.{memory_kept_long, relent_rings}
use Rattle.past.specs.Finite.{samples_finite, samples_fit, BitForBit, equal_values_equal_bits}
use Rattle.ringout.specs.RingOut.{Agreeing, one_format, reads_alike, Joined, memory_is, outputs_by_granules, whatever_the_memories, same_ring, Passes, asks, refuses, lends, Together, begin, one_passes, other_passes, again}

-- ---- agreeing frames

module _ {c d : Call} (agree : Agreeing c d) where
  format : (frame_state c).format ≡ (frame_state d).format
  format = one_format _ _ agree.extension agree.reading agree.samplerate agree.bitrate agree.mode agree.bound agree.bound'

  read_alike : Alike (codes_in (frame_state c).format) c.stream (frame_state c).reader d.stream (frame_state d).reader
  read_alike = reads_alike agree.accepts agree.accepts' agree.present agree.present' agree.equal

  -- the same samples are read
  same_granules : granules_in c ≡ granules_in d
  unfolding granules_at
  same_granules = read_alike.value ∙ ap (λ (f : Format). (run (codes_in f) d.stream (frame_state d).reader).value) format

  -- as many bits are called for
  pub same_bits_called : bits_called c ≡ bits_called d
  same_bits_called = read_alike.calls ∙ ap (λ (f : Format). called (codes_in f) d.stream (frame_state d).reader) format

  -- "both use the same number of bits"
  pub same_bits_used : agree.accepts.bits ≡ agree.accepts'.bits
  unfolding granules_at
  same_bits_used =
      accepted_bits c agree.accepts ∙ same_used read_alike
      ∙ ap (λ (f : Format). (run (codes_in f) d.stream (frame_state d).reader).next.at.0 - first_bit d) format
      ∙ sym (accepted_bits d agree.accepts')

-- the two may change places
pub agree_both_ways : {c d : Call} → Agreeing c d → Agreeing d c
unfolding Agree
agree_both_ways {c} {d} agree =
    let n = same_bits_called agree in
    record {
      accepts = agree.accepts';
      accepts' = agree.accepts;
      reading = sym agree.reading;
      samplerate = sym agree.samplerate;
      bitrate = sym agree.bitrate;
      mode = sym agree.mode;
      extension = agree.extension;
      bound = agree.bound';
      bound' = agree.bound;
      present = omega (arith, agree.present');
      present' = omega (arith, agree.present);
      equal = λ i l. sym (agree.equal i (omega arith));
    }

-- ---- the samples

-- two calls that accept agreeing frames, at one ring position
module _ {c d : Call} (agree : Agreeing c d) (ring : c.state.ring ≡ d.state.ring) where
  abbrev f : ℕ → ℕ → List ℤ
  f = slots_of (granules_in d)

  abbrev lent : Leaves c
  lent = accepted_leaves c agree.accepts

  abbrev lent' : Leaves d
  lent' = accepted_leaves d agree.accepts'

  place : Place c.state.ring
  place = rw (← (before_keeps c).ring) lent.goes.ready.place

  rings_after : (outcome c).state.ring ≡ (outcome d).state.ring
  rings_after = lent.ring ∙ ap (λ (p : ℕ). position_after p 36) ring ∙ sym lent'.ring

  memories : (half : List Float → List Float)
      → half (memory_after f c.state.ring c.memory 36) ≡ half (memory_after f c.state.ring d.memory 36) → half (new_memory c) ≡ half (new_memory d)
  memories half e =
      ap half (memory_is c agree.accepts c.state.ring refl (granules_in d) (same_granules agree)) ∙ e
      ∙ sym (ap half (memory_is d agree.accepts' c.state.ring (sym ring) (granules_in d) refl))

  outputs : (i : ℕ)
      → get_or (output_after f c.state.ring c.memory c.output 0 36) i nan ≡ get_or (output_after f c.state.ring d.memory d.output 0 36) i nan
      → get_or (new_output c) i nan ≡ get_or (new_output d) i nan
  outputs = outputs_by_granules agree.accepts agree.accepts' (same_granules agree) ring

  -- whatever the memories held, sixteen slots wash it out
  joined_after : Joined (outcome c).state (new_memory c) (outcome d).state (new_memory d)
  joined_after =
      let m = lent.goes.memory_long in
      let n = lent'.goes.memory_long in
      record {
        ring = rings_after;
        rings = λ channel two.
            memories (ring_of channel) (ring_washed f f place c.memory d.memory m n 36 (λ _ _ _ _. refl) channel two (omega arith));
      }

  -- where the rings are equal already, every sample is
  later_output : ((channel : ℕ) → channel < 2 → ring_of channel c.memory ≡ ring_of channel d.memory)
      → (i : ℕ) → i < output_length → get_or (new_output c) i nan ≡ get_or (new_output d) i nan
  later_output rings i l =
      outputs i
      (rw (← zero-add i)
      (output_by_rings f c.state.ring c.memory d.memory rings 36 c.output d.output 0 0
      lent.goes.output_long lent'.goes.output_long i l))

-- ---- the first agreeing frame, whatever came before

module _ {c d : Call} (past : Past c.state c.memory) (past' : Past d.state d.memory) (remainder : c.state.frames % 4 ≡ d.state.frames % 4)
    (agree : Agreeing c d) where
  -- "samples 481 to 1,152 of each channel are equal"
  pub rings_out : (channel k : ℕ) → channel < 2 → 481 ≤ k → k ≤ 1152 → sample (new_output c) channel k ≡ sample (new_output d) channel k
  rings_out = whatever_the_memories agree (same_ring past past' remainder agree)

  -- "bit for bit"
  pub rings_out_bit_for_bit : (channel k : ℕ) → channel < 2 → 481 ≤ k → k ≤ 1152
      → BitForBit (sample (new_output c) channel k) (sample (new_output d) channel k)
  rings_out_bit_for_bit channel k two late last =
      equal_values_equal_bits 8259553 (samples_finite past agree.accepts channel k two (omega arith) last)
      (samples_fit agree.accepts channel k two (omega arith) last) (rings_out channel k two late last)

  begun : Joined (outcome c).state (new_memory c) (outcome d).state (new_memory d)
  begun = joined_after agree (same_ring past past' remainder agree)

-- ---- and after it

-- such a call is one of a past's, and leaves what the synthesis sees
passed : {a b : Audio} {m n : List Float} → Past a m → Passes a m b n → Past b n
passed p (asks s) = asked p s
passed p (refuses s other o k e) = refused p s other o k e
passed p (lends more) = relent p more

past_one : {a b : Audio} {m n : List Float} → Together a m b n → Past a m
past_one (begin c d p q r e) = decoded p c.stream c.output
past_one (one_passes t x) = passed (past_one t) x
past_one (other_passes t x) = past_one t
past_one (again c d t e) = decoded (past_one t) c.stream c.output

past_other : {a b : Audio} {m n : List Float} → Together a m b n → Past b n
past_other (begin c d p q r e) = decoded q d.stream d.output
past_other (one_passes t x) = past_other t
past_other (other_passes t x) = passed (past_other t) x
past_other (again c d t e) = decoded (past_other t) d.stream d.output

passed_keeps : {a b : Audio} {m n : List Float} → Past a m → Passes a m b n → Joined b n a m
passed_keeps {a} p (asks s) = record { ring = (question_keeps s a).ring; rings = λ channel two. refl }
passed_keeps {a} p (refuses s other o k e) =
    record { ring = (refused_keeps (record { stream = s; memory = other; output = o; state = a }) k e).ring; rings = λ channel two. refl }
passed_keeps {a} {b} {m} p (lends more) =
    record { ring = refl; rings = λ channel two. relent_rings m (memory_kept_long p) channel two more }

stay_joined : {a b : Audio} {m n : List Float} → Together a m b n → Joined a m b n
stay_joined (begin c d p q r e) = begun p q r e
stay_joined (one_passes t x) =
    let j = stay_joined t in
    let k = passed_keeps (past_one t) x in
    record { ring = k.ring ∙ j.ring; rings = λ channel two. k.rings channel two ∙ j.rings channel two }
stay_joined (other_passes t x) =
    let j = stay_joined t in
    let k = passed_keeps (past_other t) x in
    record { ring = j.ring ∙ sym k.ring; rings = λ channel two. j.rings channel two ∙ sym (k.rings channel two) }
stay_joined (again c d t e) = joined_after e (stay_joined t).ring

-- "every later sample is equal too"
module _ {c d : Call} (together : Together c.state c.memory d.state d.memory) (agree : Agreeing c d) where
  pub every_later_sample : (channel k : ℕ) → channel < 2 → 1 ≤ k → k ≤ 1152 → sample (new_output c) channel k ≡ sample (new_output d) channel k
  every_later_sample channel k two first last =
      let j = stay_joined together in
      later_output agree j.ring j.rings (2 * (k - 1) + channel) (omega arith)

  pub every_later_sample_bit_for_bit : (channel k : ℕ) → channel < 2 → 1 ≤ k → k ≤ 1152
      → BitForBit (sample (new_output c) channel k) (sample (new_output d) channel k)
  every_later_sample_bit_for_bit channel k two first last =
      equal_values_equal_bits 8259553 (samples_finite (past_one together) agree.accepts channel k two first last)
      (samples_fit agree.accepts channel k two first last) (every_later_sample channel k two first last)
