-- A state in range stays in range through every call, so a decoder since its opening never meets 10; and what more its states hold:
-- the start time by the count of frames, a pending header's mode extension, the opening's reading and its pairs (Ring has the ring position and the memory).
-- From 01, "Numbers a call can give" (State in range). Assumes nothing.
use Rattle.std.specs.Prelude.{ℕ, ◌+◌, ◌*◌, ◌/◌, ◌≤◌, ◌≡◌, true, List, Float, length, Ok, Err}
use Rattle.std.proofs.Math.Path.{refl}
use Rattle.std.proofs.Common.{sym, ap, ◌∙◌, add-zero, le-ltb}
use native.Mathlib.Omega.{arith}
use Rattle.buffer.specs.Bits.{longest_stream, farthest_bit}
use Rattle.buffer.specs.Calls.{align_of}
use Rattle.buffer.specs.declared.Reader.{Reader}
use Rattle.header.specs.Accepted.{Extended}
use Rattle.clock.specs.Clock.{start_time_of}
use Rattle.synthesis.specs.Ring.{place_after}
use Rattle.frame.specs.Frame.{cut_format, granules_at}
use Rattle.state.specs.State.{fresh, in_range}
use Rattle.verdict.specs.Verdict.{ready_of, Heading, Asked}
use Rattle.audio.specs.Calls.{aligned_of, answering, after_of, framed_of, decode_of, open_of, format_of, Decoded}
use Rattle.state.specs.StateLaws.{Ranged, ranged, ranged_in_range, fresh_ranged, framed_to_ranged}
use Rattle.audio.specs.CallsLaws.{Ready, goes, ended, question_leaves, by_opening}
use Rattle.verdict.specs.VerdictLaws.{Sound, Kept, attempt_kept, verdict_holds, verdict_kept}
use Rattle.past.specs.Calls.{Call, before, frame_state, Accepts, verdict_of, accepted_leaves, refused_keeps}
use Rattle.readings.specs.declared.Reading.{Reading}
use Rattle.state.specs.declared.Audio.{Audio}
use Rattle.audio.specs.declared.Answer.{Answer}
use Rattle.audio.specs.declared.Answer.TheVariants.{Frame, Refused as AnswerRefused}
use Rattle.past.specs.Pasts.{Past, opened, asked as has_asked, decoded, refused, relent}
use Rattle.frame.specs.FrameLaws.{frame_uses_16_bits}

-- ---- a frame

aligned_at : (s : List ℕ) (r : Reader) → length s ≤ longest_stream → r.at.0 ≤ farthest_bit → (aligned_of s r).at.0 ≡ (r.at.0 + 7) / 8 * 8
unfolding aligned_of align_of
aligned_at s r l h = simp (le-ltb _ _ l, le-ltb _ _ h)

module _ (s : List ℕ) (skipped : ℕ) (a : Audio) (y : Ready s a) (w : Ranged a) (some : a.pending ≡ 0 → ⊥) where
  -- it moves on by 16 bits at least, within the stream
  pub frame_moves : (a.reader.at.0 + 16 ≤ (framed_of s skipped a).state.reader.at.0)
      × ((framed_of s skipped a).state.reader.at.0 ≤ 8 * length s)
  unfolding framed_of after_of
  frame_moves =
      let end = (granules_at s a.reader a.format).next in
      let z = ended s a end y refl in
      let l = w.large some in
      let u = frame_uses_16_bits s a.reader a.format (record { short = y.short; near = w.near; enough = omega arith }) in
      let e = aligned_at s end y.short (omega arith) in
      (omega arith, omega arith)

  framed_ranged : Ranged (framed_of s skipped a).state
  unfolding framed_of after_of cut_format
  framed_ranged =
      let m = frame_moves in
      let l = y.short in
      let few = w.few in
      framed_to_ranged a _ _ _ w (omega arith) (omega arith) y.fit.samplerate (record { bitrate = refl; samplerate = refl; mode = refl }) (omega arith)
      (place_after w.place 36)

  framed_sound : Sound a → Sound (framed_of s skipped a).state
  unfolding framed_of after_of cut_format
  framed_sound h = record { extension = λ some. absurd (some refl); time = refl; pair = h.pair }

-- ---- the calls

-- an answer's frames: one, or none
abbrev pub frames_in : Answer → ℕ
frames_in (Frame time bits) = 1
frames_in (AnswerRefused n) = 0

-- a state in range leads to such a state, and a decoder's own state to such a one
record Leads (a b : Audio) (more : ℕ) : Type 0 where
  ranged : Ranged b
  sound : Sound a → Sound b
  frames : b.frames ≡ a.frames + more
  reading : b.format.reading ≡ a.format.reading

no_more : {a : Audio} {x : Asked} → Kept a x → Leads a x.state 0
no_more k = record { ranged = k.ranged; sound = k.sound; frames = k.frames ∙ sym (add-zero _); reading = k.reading }

decode_leads : (s : List ℕ) (m o : List Float) (a : Audio) → Ranged a → Leads a (decode_of s m o a).state (frames_in (decode_of s m o a).answer)
unfolding decode_of framed_of after_of cut_format
decode_leads s m o a w = go r.answer refl
  where
    r : Asked
    r = ready_of s (length m) (length o) a

    k : Kept a r
    k = verdict_kept w (verdict_holds s (length m) (length o) a)

    go : (y : Heading) → r.answer ≡ y → Leads a (answering s r.skipped y r.state).state (frames_in (answering s r.skipped y r.state).answer)
    go (Ok _) e =
        let y = (goes s (length m) (length o) a r refl e).ready in
        record {
          ranged = framed_ranged s r.skipped r.state y k.ranged (k.some e);
          sound = λ h. framed_sound s r.skipped r.state y k.ranged (k.some e) (k.sound h);
          frames = ap (λ n. n + 1) k.frames;
          reading = k.reading;
        }
    go (Err n) e = no_more k

stays_leads : (a : Audio) → Ranged a → Leads a a 0
stays_leads a w = record { ranged = w; sound = λ h. h; frames = sym (add-zero _); reading = refl }

question_leads : (s : List ℕ) (a : Audio) → Ranged a → Leads a (format_of s a).state 0
question_leads s a w = question_leaves s a (λ (b : Audio). Leads a b 0) (stays_leads a w) (λ l _ _. no_more (attempt_kept s l a w))

open_leads : (c : Reading) (s : List ℕ) (m : List Float) → Leads (fresh c) (open_of c s m).state 0
open_leads c s m =
    let same = stays_leads (fresh c) (fresh_ranged c) in
    by_opening c s m (λ (x : Asked). Leads (fresh c) x.state 0) (λ _. same) (λ _ _. same)
    (λ l _. no_more (attempt_kept s l (fresh c) (fresh_ranged c)))

pub fresh_in_range : (c : Reading) → in_range (fresh c) ≡ true
fresh_in_range c = ranged_in_range (fresh c) (fresh_ranged c)

-- every state that an opening gives is in range, one with 8 or 9 too, and every call keeps a state in range so
pub opening_is_in_range : (c : Reading) (s : List ℕ) (m : List Float) → in_range (open_of c s m).state ≡ true
opening_is_in_range c s m = ranged_in_range _ (open_leads c s m).ranged

pub decode_stays_in_range : (s : List ℕ) (m o : List Float) (a : Audio) → in_range a ≡ true → in_range (decode_of s m o a).state ≡ true
decode_stays_in_range s m o a r = ranged_in_range _ (decode_leads s m o a (ranged a r)).ranged

pub question_stays_in_range : (s : List ℕ) (a : Audio) → in_range a ≡ true → in_range (format_of s a).state ≡ true
question_stays_in_range s a r = ranged_in_range _ (question_leads s a (ranged a r)).ranged

-- ---- any past of calls since opening

pub sound_state_in_range : {a : Audio} {m : List Float} → Past a m → in_range a ≡ true
sound_state_in_range (opened c s m l k) = opening_is_in_range c s m
sound_state_in_range (has_asked {a} p s) = question_stays_in_range s a (sound_state_in_range p)
sound_state_in_range (decoded {a} {m} p s o) = decode_stays_in_range s m o a (sound_state_in_range p)
sound_state_in_range (refused {a} p s other o n e) = decode_stays_in_range s other o a (sound_state_in_range p)
sound_state_in_range (relent p more) = sound_state_in_range p

fresh_sound : (c : Reading) → Sound (fresh c)
unfolding fresh start_time_of
fresh_sound c = record { extension = λ some. absurd (some refl); time = refl; pair = λ some. absurd (some refl) }

-- the header of a frame about to be decoded has a mode extension
pub frame_has_extension : (s : List ℕ) (m o : ℕ) (a : Audio) → in_range a ≡ true → Sound a → (ready_of s m o a).answer ≡ Ok tt
    → Extended (ready_of s m o a).state.format.mode (ready_of s m o a).state.format.bound
frame_has_extension s m o a r h e = let k = verdict_kept (ranged a r) (verdict_holds s m o a) in (k.sound h).extension (k.some e)

pub sound : {a : Audio} {m : List Float} → Past a m → Sound a
sound (opened c s m l k) = (open_leads c s m).sound (fresh_sound c)
sound (has_asked {a} p s) = (question_leads s a (ranged a (sound_state_in_range p))).sound (sound p)
sound (decoded {a} {m} p s o) = (decode_leads s m o a (ranged a (sound_state_in_range p))).sound (sound p)
sound (refused {a} p s other o n e) = (decode_leads s other o a (ranged a (sound_state_in_range p))).sound (sound p)
sound (relent p more) = sound p

-- the reading that its opening chose, and that the state keeps it
unfoldable pub reading_of : {a : Audio} {m : List Float} → Past a m → Reading
reading_of (opened c s m l k) = c
reading_of (has_asked p s) = reading_of p
reading_of (decoded p s o) = reading_of p
reading_of (refused p s other o n e) = reading_of p
reading_of (relent p more) = reading_of p

pub the_reading_stays : {a : Audio} {m : List Float} (p : Past a m) → a.format.reading ≡ reading_of p
unfolding reading_of fresh
the_reading_stays (opened c s m l k) = (open_leads c s m).reading
the_reading_stays (has_asked {a} p s) = (question_leads s a (ranged a (sound_state_in_range p))).reading ∙ the_reading_stays p
the_reading_stays (decoded {a} {m} p s o) = (decode_leads s m o a (ranged a (sound_state_in_range p))).reading ∙ the_reading_stays p
the_reading_stays (refused {a} p s other o n e) = (decode_leads s other o a (ranged a (sound_state_in_range p))).reading ∙ the_reading_stays p
the_reading_stays (relent p more) = the_reading_stays p

-- the count of accepted frames, and that the state keeps it
unfoldable pub frames_of : {a : Audio} {m : List Float} → Past a m → ℕ
frames_of (opened c s m l k) = 0
frames_of (has_asked p s) = frames_of p
frames_of (decoded {a} {m} p s o) = frames_of p + frames_in (decode_of s m o a).answer
frames_of (refused p s other o n e) = frames_of p
frames_of (relent p more) = frames_of p

pub frames_are_counted : {a : Audio} {m : List Float} (p : Past a m) → a.frames ≡ frames_of p
unfolding frames_of fresh
frames_are_counted (opened c s m l k) = (open_leads c s m).frames
frames_are_counted (has_asked {a} p s) = (question_leads s a (ranged a (sound_state_in_range p))).frames ∙ add-zero _ ∙ frames_are_counted p
frames_are_counted (decoded {a} {m} p s o) =
    (decode_leads s m o a (ranged a (sound_state_in_range p))).frames
    ∙ ap (λ n. n + frames_in (decode_of s m o a).answer) (frames_are_counted p)
frames_are_counted (refused {a} p s other o n e) =
    (refused_keeps (record { stream = s; memory = other; output = o; state = a }) n e).frames ∙ frames_are_counted p
frames_are_counted (relent p more) = frames_are_counted p

-- the start time that an answer gives: by the count of frames before it
pub time_by_frames : {c : Call} → Past c.state c.memory → (ok : Accepts c) → ok.time ≡ start_time_of c.state.frames (frame_state c).format.samplerate
unfolding framed_of after_of
time_by_frames {c} past ok =
    let e = (accepted_leaves c ok).gives in
    let same : Frame ok.time ok.bits ≡ (framed_of c.stream (before c).skipped (frame_state c)).answer = sym ok.answer ∙ ap (λ (x : Decoded). x.answer) e in
    let told : ok.time ≡ (frame_state c).time = cc in
    let k = verdict_kept (ranged c.state (sound_state_in_range past)) (verdict_of c) in
    told ∙ (k.sound (sound past)).time ∙ ap (λ (n : ℕ). start_time_of n (frame_state c).format.samplerate) k.frames
