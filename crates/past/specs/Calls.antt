-- A call of decode and what it leaves; when it accepts a frame, and from which state: the one that has the frame's header. A call that
-- accepts none leaves frame count and ring position. From demand 3, "both accept a frame", and 01, "Numbers a call can give".
-- Assumes nothing.
use Rattle.std.specs.Prelude.{ℕ, ◌+◌, ◌-◌, ◌*◌, List, ℤ, Float, length, get_or, Ok, Err}
use Rattle.std.proofs.Math.Path.{◌≡◌, refl, ap, sym}
use Rattle.std.proofs.Common.{◌∙◌, arith}
use Rattle.std.specs.Float.{nan}
use Rattle.buffer.specs.declared.Reader.{Reader}
use Rattle.grammar.specs.Reads.{called}
use Rattle.synthesis.specs.Slots.{position_after, memory_after, output_after}
use Rattle.frame.specs.Frame.{codes_in, granules_at, slots_of, frame_memory, frame_output}
use Rattle.verdict.specs.Verdict.{asked, ready_of, Heading, Asked}
use Rattle.audio.specs.Calls.{after_of, framed_of, framed_memory, framed_output, answering, decode_of, decode_memory, decode_output, format_of, Decoded}
use Rattle.audio.specs.CallsLaws.{Goes, goes, question_leaves}
use Rattle.verdict.specs.VerdictLaws.{Stays, stays, attempt_keeps, Verdict, verdict_holds, verdict_leaves}
use Rattle.state.specs.declared.Audio.{Audio}
use Rattle.audio.specs.declared.Answer.TheVariants.{Frame, Refused as AnswerRefused}
use Rattle.refusal.specs.declared.Refusal.{Refusal}

-- a question leaves frame count and ring position
pub question_keeps : (s : List ℕ) (a : Audio) → Stays a (format_of s a).state
question_keeps s a = question_leaves s a (Stays a) (stays a) (λ _ _ _. attempt_keeps s a)

-- ---- a call of decode

-- a decoder's state, and what it is lent
pub record Call : Type 0 where
  pub stream : List ℕ
  pub memory : List Float
  pub output : List Float
  pub state : Audio

-- answer and state, memory and output afterwards
abbrev pub outcome : Call → Decoded
outcome c = decode_of c.stream c.memory c.output c.state

abbrev pub new_memory : Call → List Float
new_memory c = decode_memory c.stream c.memory c.output c.state

abbrev pub new_output : Call → List Float
new_output c = decode_output c.stream c.memory c.output c.state

-- sample k of a channel, left 0 and right 1, counted from 1
abbrev pub sample : List Float → ℕ → ℕ → Float
sample output channel k = get_or output (2 * (k - 1) + channel) nan

-- what was asked before the frame, and the state that has the frame's header, its reader at the first allocation bit
abbrev pub before : Call → Asked
before c = ready_of c.stream (length c.memory) (length c.output) c.state

abbrev pub frame_state : Call → Audio
frame_state c = (before c).state

-- the frame's first allocation bit, and how many bits it calls for
abbrev pub first_bit : Call → ℕ
first_bit c = (frame_state c).reader.at.0

abbrev pub bits_called : Call → ℕ
bits_called c = called (codes_in (frame_state c).format) c.stream (frame_state c).reader

-- the answer is a frame
pub record Accepts (c : Call) : Type 0 where
  pub time : Float
  pub bits : ℕ
  pub answer : (outcome c).answer ≡ Frame time bits

-- the samples of its twelve granules, and where the reading of them ends
abbrev pub granules_in : Call → List (List ℤ)
granules_in c = (granules_at c.stream (frame_state c).reader (frame_state c).format).value

abbrev pub end_of : Call → Reader
end_of c = (granules_at c.stream (frame_state c).reader (frame_state c).format).next

-- what it leaves, then
pub record Leaves (c : Call) : Type 0 where
  pub goes : Goes c.stream (length c.memory) (length c.output) (frame_state c)
  pub gives : outcome c ≡ framed_of c.stream (before c).skipped (frame_state c)
  pub ring : (outcome c).state.ring ≡ position_after c.state.ring 36
  pub memory : new_memory c ≡ memory_after (slots_of (granules_in c)) c.state.ring c.memory 36
  pub output : new_output c ≡ output_after (slots_of (granules_in c)) c.state.ring c.memory c.output 0 36

module _ (c : Call) where
  pub verdict_of : Verdict c.stream (length c.memory) (length c.output) c.state (before c)
  verdict_of = verdict_holds c.stream (length c.memory) (length c.output) c.state

  pub before_keeps : Stays c.state (frame_state c)
  before_keeps = verdict_leaves (λ _. Stays c.state) (stays c.state) (attempt_keeps c.stream c.state) verdict_of

  pub known_leaves : (before c).answer ≡ Ok tt → Leaves c
  unfolding decode_of decode_memory decode_output framed_of after_of framed_memory framed_output frame_memory frame_output
  known_leaves k =
      let e = before_keeps.ring in
      record {
        goes = goes c.stream (length c.memory) (length c.output) c.state (before c) refl k;
        gives = rw k;
        ring = rw (k, e);
        memory = rw (k, e);
        output = rw (k, e);
      }

  pub accepted_known : Accepts c → (before c).answer ≡ Ok tt
  unfolding decode_of
  accepted_known ok = by_verdict (before c).skipped (before c).answer (before c).state ok.answer
    where
      by_verdict : (k : ℕ) (h : Heading) (b : Audio) → (answering c.stream k h b).answer ≡ Frame ok.time ok.bits → h ≡ Ok tt
      by_verdict k (Ok _) b e = refl
      by_verdict k (Err n) b e = absurd (let z : ◌≡◌ {A = ℕ} 0 1 = cc in omega arith)

  pub known_accepted : {k : ℕ} (b : Audio) → before c ≡ asked k (Ok tt) b → Accepts c
  unfolding decode_of framed_of after_of
  known_accepted b is =
      record { time = b.time; bits = (granules_at c.stream b.reader b.format).next.at.0 - b.reader.at.0; answer = rw is }

  pub accepted_leaves : Accepts c → Leaves c
  accepted_leaves ok = known_leaves (accepted_known ok)

  -- the bits that it reports are how far the reading went
  pub accepted_bits : (ok : Accepts c) → ok.bits ≡ (end_of c).at.0 - (frame_state c).reader.at.0
  unfolding framed_of after_of
  accepted_bits ok =
      let e = (accepted_leaves ok).gives in
      let same : Frame ok.time ok.bits ≡ (framed_of c.stream (before c).skipped (frame_state c)).answer = sym ok.answer ∙ ap (λ (x : Decoded). x.answer) e in
      cc

  -- a call that accepts no frame leaves frame count and ring position
  unless_known : ((before c).answer ≡ Ok tt → ⊥) → Stays c.state (outcome c).state
  unfolding decode_of
  unless_known never = go (before c).answer refl
    where
      go : (h : Heading) → (before c).answer ≡ h → Stays c.state (answering c.stream (before c).skipped h (frame_state c)).state
      go (Ok _) e = absurd (never e)
      go (Err n) e = before_keeps

  pub refused_keeps : (n : Refusal) → (outcome c).answer ≡ AnswerRefused n → Stays c.state (outcome c).state
  unfolding framed_of after_of
  refused_keeps n e =
      unless_known
      (λ k. let f = ap (λ (x : Decoded). x.answer) (known_leaves k).gives in
      let z : ◌≡◌ {A = ℕ} 0 1 = cc in omega arith)
