-- In mono both channels sound alike, and a WAVE file has the same bytes for both. From docs/DIFFERENCES.md, S10: "Mono is written to both
-- channels"; 02, E1: "16-bit stereo". A mono frame's bound is 0, and from the bound up the right channel takes the left's samples; no
-- frame of another mode can have come before it (6), so the two rings are equal. Assumes nothing.
use Rattle.std.specs.Prelude.{ℕ, ◌+◌, ◌-◌, ◌*◌, ◌%◌, ◌≤◌, ◌<◌, ◌≡◌, List, Float, length, drop, Result, Ok, Err}
use Rattle.std.proofs.Math.Path.{refl, sym, ap}
use Rattle.std.proofs.Common.{◌∙◌, arith, ext_get_or, le-ltb}
use Rattle.std.specs.Float.{nan}
use Rattle.buffer.specs.Bits.{longest_stream}
use Rattle.buffer.specs.declared.Reader.{Reader}
use Rattle.tables.specs.Laws.{limit≤30}
use Rattle.header.specs.Header.{bound_by, header_of}
use Rattle.header.specs.Accepted.{SameFormat, GoodHeader, header_good}
use Rattle.header.specs.declared.Format.{Format}
use Rattle.side.specs.Side.{cut_of}
use Rattle.codes.specs.Twins.{Twins, frame_twins}
use Rattle.window.specs.Output.{nought}
use Rattle.synthesis.specs.Slots.{ring_of, memory_length}
use Rattle.synthesis.specs.Ring.{SameSlots}
use Rattle.synthesis.specs.Memory.{ring_of_length}
use Rattle.synthesis.specs.Equal.{slots_equal, rings_stay_equal, outputs_equal}
use Rattle.finite.specs.Each.{Each, InBothRings}
use Rattle.frame.specs.Frame.{limit_in, codes_in, granules_at, slots_of}
use Rattle.readings.specs.Readings.{plain}
use Rattle.state.specs.State.{fresh}
use Rattle.verdict.specs.Verdict.{seeking, attempt_of, Heading, Asked}
use Rattle.audio.specs.Calls.{decode_memory, open_of, open_memory, no_room_of}
use Rattle.audio.specs.CallsLaws.{question_leaves, by_opening}
use Rattle.state.specs.declared.Audio.{Audio}
use Rattle.past.specs.Pasts.{Past, opened, asked, decoded, refused, relent}
use Rattle.past.specs.Calls.{Call, outcome, new_memory, new_output, sample, before, frame_state, Accepts, granules_in, known_leaves, accepted_known, accepted_leaves}
use Rattle.past.specs.Ring.{ring_in_place, memory_kept_long, relent_rings}
use Rattle.past.specs.Finite.{opened_each}
use Rattle.frame.specs.FrameLaws.{granule_always}
use Rattle.past.specs.Sound.{sound_state_in_range, sound, frame_has_extension}
use Rattle.heard.specs.Heard.{after}
use Rattle.past.specs.Formats.{attempt_stays, after_frame, format_stays}
use Rattle.refusal.specs.declared.Refusal.{Refusal}
use Rattle.header.specs.declared.Accepted.{Accepted}

-- ---- a frame's slots

-- where the bound is 0, both channels have the same samples in every slot
slots_alike : (s : List ℕ) (r : Reader) (f : Format) → f.bound ≡ 0 → SameSlots 36 (slots_of (granules_at s r f).value 0) (slots_of (granules_at s r f).value 1)
unfolding codes_in
slots_alike s r f bound n l =
    let e : cut_of f.bound (limit_in f) ≡ 0 = omega arith in
    let small : limit_in f ≤ 32 = omega (arith, limit≤30 f.mode f.bitrate f.samplerate) in
    let t = granule_always (Twins 32) s r f (rw e (frame_twins _ _ (limit_in f) small)) n l in
    slots_equal _ t.many (λ i h left. t.same i h left (λ x. omega arith)) (n % 3) (omega arith)

-- ---- the two rings

-- a header, if one is known, is mono; and then it was so before
abbrev Mono : Format → Type 0
Mono f = (f.samplerate ≡ 3 → ⊥) → f.mode ≡ 3

was_mono : {f g : Format} → ((f.samplerate ≡ 3 → ⊥) → SameFormat f g) → Mono g → Mono f
was_mono stays mono known = let e = stays known in sym e.mode ∙ mono (λ none. known (sym e.samplerate ∙ none))

opened_rings : (s : List ℕ) (m : List Float) → length s ≤ longest_stream → memory_length ≤ length m → ring_of 0 (open_memory s m) ≡ ring_of 1 (open_memory s m)
unfolding open_memory no_room_of Each
opened_rings s m short long =
    let big = memory_kept_long (opened plain s m short long) in
    let full = ring_of_length 0 (omega arith) (open_memory s m) big in
    let both : InBothRings (λ x. x ≡ nought) (open_memory s m) =
    simp (le-ltb _ _ short, le-ltb _ _ long) (opened_each (λ x. x ≡ nought) refl (drop memory_length m)) in
    ext_get_or nan _ _ (full ∙ sym (ring_of_length 1 (omega arith) (open_memory s m) big))
    (λ i h. let l : i < 1024 = omega (arith, full) in both 0 (omega arith) i l ∙ sym (both 1 (omega arith) i l))

module _ (c : Call) (past : Past c.state c.memory) where
  -- a frame in mono has the bound 0
  frame_slots : (before c).answer ≡ Ok tt → (frame_state c).format.mode ≡ 3 → SameSlots 36 (slots_of (granules_in c) 0) (slots_of (granules_in c) 1)
  frame_slots known mono =
      let x = frame_has_extension c.stream (length c.memory) (length c.output) c.state (sound_state_in_range past) (sound past) known in
      slots_alike c.stream (frame_state c).reader (frame_state c).format (x.2 ∙ ap (λ (m : ℕ). bound_by m x.0) mono)

  decoded_rings : ring_of 0 c.memory ≡ ring_of 1 c.memory → Mono (outcome c).state.format → ring_of 0 (new_memory c) ≡ ring_of 1 (new_memory c)
  unfolding decode_memory
  decoded_rings rings mono = go (before c).answer refl
    where
      go : (h : Heading) → (before c).answer ≡ h → ring_of 0 (new_memory c) ≡ ring_of 1 (new_memory c)
      go (Ok _) e =
          let d = known_leaves c e in
          let is = was_mono (λ _. after_frame c) mono (λ none. let l = d.goes.ready.fit.samplerate in omega arith) in
          ap (ring_of 0) d.memory
          ∙ rings_stay_equal (slots_of (granules_in c)) (ring_in_place past) c.memory (memory_kept_long past) 36 (frame_slots e is) rings
          ∙ sym (ap (ring_of 1) d.memory)
      go (Err n) e = rw e rings

mono_rings : {a : Audio} {m : List Float} → Past a m → Mono a.format → ring_of 0 m ≡ ring_of 1 m
mono_rings (opened c s m short long) mono = opened_rings s m short long
mono_rings (asked {a} {m} p s) mono =
    mono_rings p
    (question_leaves s a (λ (b : Audio). Mono b.format → Mono a.format) (λ h. h) (λ _ _ _. was_mono (attempt_stays s a)) mono)
mono_rings (decoded {a} {m} p s o) mono =
    let c : Call = record { stream = s; memory = m; output = o; state = a } in
    decoded_rings c p (mono_rings p (was_mono (format_stays c) mono)) mono
mono_rings (refused {a} {m} p s other o n e) mono =
    mono_rings p (was_mono (format_stays (record { stream = s; memory = other; output = o; state = a })) mono)
mono_rings (relent {a} {m} p more) mono =
    let long = memory_kept_long p in
    relent_rings m long 0 (omega arith) more ∙ mono_rings p mono ∙ sym (relent_rings m long 1 (omega arith) more)

-- ---- the sound

-- "Mono is written to both channels", whatever calls there were since opening
pub mono_alike : {c : Call} → Past c.state c.memory → Accepts c → (frame_state c).format.mode ≡ 3
    → (k : ℕ) → 1 ≤ k → k ≤ 1152 → sample (new_output c) 0 k ≡ sample (new_output c) 1 k
mono_alike {c} past ok mono k first last =
    let d = accepted_leaves c ok in
    let rings = mono_rings past (was_mono (format_stays c) (λ _. (after_frame c).mode ∙ mono)) in
    let left : 2 * (k - 1) + 0 ≡ 0 + 2 * (k - 1) = omega arith in
    let right : 2 * (k - 1) + 1 ≡ 0 + (2 * (k - 1) + 1) = omega arith in
    rw (d.output, left, right)
    (outputs_equal (slots_of (granules_in c)) (ring_in_place past) c.memory (memory_kept_long past) 36 (frame_slots c past (accepted_known c ok) mono)
    rings c.output 0 d.goes.output_long (k - 1) (omega arith))

-- ---- a clip that opens in mono: it and its file are proofs/Mono's

pub open_known : (s : List ℕ) (m : List Float) → (open_of plain s m).state.format.mode ≡ 3 → (open_of plain s m).state.format.samplerate ≡ 3 → ⊥
unfolding attempt_of fresh
open_known s m =
    by_opening plain s m K (λ _ e. absurd (omega arith)) (λ _ _ e. absurd (omega arith))
    (λ _ _. let t = header_of s (fresh plain).reader (fresh plain).format in
    go _ t.header t.next (header_good s (fresh plain).reader (fresh plain).format))
  where
    K : Asked → Type 0
    K x = x.state.format.mode ≡ 3 → x.state.format.samplerate ≡ 3 → ⊥

    go : (k : ℕ) (h : Result Accepted Refusal) (r : Reader) → GoodHeader (fresh plain).format h → K (seeking k (fresh plain) r h)
    go k (Ok x) r g = λ _ none. let l = g.samplerate in omega arith
    go k (Err n) r g = λ e. absurd (omega arith)

pub record InMono (c : Call) : Type 0 where
  pub past : Past c.state c.memory
  pub known : c.state.format.samplerate ≡ 3 → ⊥
  pub mode : c.state.format.mode ≡ 3

pub mono_on : (c : Call) → InMono c → InMono (after c)
mono_on c q =
    let e = format_stays c q.known in
    record {
      past = decoded q.past c.stream c.output;
      known = λ none. q.known (sym e.samplerate ∙ none);
      mode = e.mode ∙ q.mode;
    }
