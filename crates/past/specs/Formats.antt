-- What a call keeps: the lengths of memory and output, and a format once known. From 01, "Numbers a call can give" (6: "old format
-- kept") and "The tag's share of the code". Assumes nothing.
use Rattle.std.specs.Prelude.{ℕ, ◌≡◌, List, length, Result, Ok, Err}
use Rattle.std.proofs.Math.Path.{refl}
use Rattle.std.proofs.Common.{ap, ◌∙◌, arith}
use Rattle.buffer.specs.declared.Reader.{Reader}
use Rattle.header.specs.Header.{header_of}
use Rattle.header.specs.Accepted.{SameFormat, GoodHeader, header_good}
use Rattle.header.specs.declared.Format.{Format}
use Rattle.synthesis.specs.Memory.{memory_after_length}
use Rattle.synthesis.specs.Output.{output_after_length}
use Rattle.frame.specs.Frame.{cut_format}
use Rattle.state.specs.declared.Audio.{Audio}
use Rattle.verdict.specs.Verdict.{seeking, attempt_of, Heading}
use Rattle.verdict.specs.VerdictLaws.{verdict_leaves}
use Rattle.audio.specs.Calls.{answering, after_of, framed_of, decode_of, decode_memory, decode_output}
use Rattle.past.specs.Calls.{Call, outcome, new_memory, new_output, before, frame_state, Accepts, verdict_of, before_keeps, known_leaves, accepted_leaves}
use Rattle.refusal.specs.declared.Refusal.{Refusal}
use Rattle.header.specs.declared.Accepted.{Accepted}

-- memory and output keep their lengths
pub decode_lengths : (c : Call) → (length (new_memory c) ≡ length c.memory) × (length (new_output c) ≡ length c.output)
unfolding decode_memory decode_output
decode_lengths c = go (before c).answer refl
  where
    go : (h : Heading) → (before c).answer ≡ h → (length (new_memory c) ≡ length c.memory) × (length (new_output c) ≡ length c.output)
    go (Ok _) e =
        let d = known_leaves c e in (
          ap length d.memory ∙ memory_after_length _ (rw (← (before_keeps c).ring) d.goes.ready.place) c.memory d.goes.memory_long 36,
          ap length d.output ∙ output_after_length _ _ c.memory c.output 0 36,
        )
    go (Err n) e = (rw e, rw e)

-- ---- one format

own : (f : Format) → SameFormat f f
own f = record { bitrate = refl; samplerate = refl; mode = refl }

-- 6 refuses a header of another bit rate, sample rate or mode, so those once known stay
pub attempt_stays : (s : List ℕ) (a : Audio) → (a.format.samplerate ≡ 3 → ⊥) → SameFormat a.format (attempt_of s a).state.format
unfolding attempt_of
attempt_stays s a known = let t = header_of s a.reader a.format in go _ t.header t.next (header_good s a.reader a.format)
  where
    go : (k : ℕ) (h : Result Accepted Refusal) (r : Reader) → GoodHeader a.format h → SameFormat a.format (seeking k a r h).state.format
    go k (Ok x) r g = g.same known
    go k (Err n) r g = own a.format

module _ (c : Call) where
  frame_stays : (k : ℕ) (h : Heading) (b : Audio) → SameFormat b.format (answering c.stream k h b).state.format
  unfolding framed_of after_of cut_format
  frame_stays k (Ok _) b = record { bitrate = refl; samplerate = refl; mode = refl }
  frame_stays k (Err n) b = own b.format

  pub after_frame : SameFormat (frame_state c).format (outcome c).state.format
  unfolding decode_of
  after_frame = frame_stays (before c).skipped (before c).answer (frame_state c)

  pub format_stays : (c.state.format.samplerate ≡ 3 → ⊥) → SameFormat c.state.format (outcome c).state.format
  format_stays known =
      let f = c.state.format in
      let b = verdict_leaves (λ _ (x : Audio). SameFormat f x.format) (own f) (attempt_stays c.stream c.state known) (verdict_of c) in
      let e = after_frame in
      record { bitrate = e.bitrate ∙ b.bitrate; samplerate = e.samplerate ∙ b.samplerate; mode = e.mode ∙ b.mode }

  pub frame_known : Accepts c → (outcome c).state.format.samplerate ≡ 3 → ⊥
  frame_known ok e = let l = (accepted_leaves c ok).goes.ready.fit.samplerate in let f = after_frame.samplerate in omega arith
