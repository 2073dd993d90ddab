-- One question about the format (02, E7), and what it changes: nothing that the next call of decode would not change itself. What it
-- told is so until the next opening. From 01, "Numbers a call can give" (what is left behind). Assumes nothing.
use Rattle.std.specs.Prelude.{ℕ, ◌+◌, ◌≤◌, true, List, Float, length, Ok, Err}
use Rattle.std.proofs.Math.Path.{◌≡◌, refl, ap}
use Rattle.std.proofs.Common.{sym, ◌∙◌, arith}
use Rattle.ground.specs.Rows.{never}
use Rattle.buffer.specs.Bits.{longest_stream}
use Rattle.header.specs.Accepted.{SameFormat}
use Rattle.header.specs.declared.Format.{Format}
use Rattle.state.specs.State.{in_range, stands_at}
use Rattle.state.specs.StateLaws.{ranged, ranged_in_range}
use Rattle.state.specs.declared.Audio.{Audio}
use Rattle.verdict.specs.Verdict.{asked, ready_of, known_of, Heading, Asked}
use Rattle.verdict.specs.VerdictLaws.{known_ranged, further, known_first}
use Rattle.audio.specs.Calls.{after_of, framed_of, answering, remembering, sounding, saying, replying, format_of, decode_of, decode_memory, decode_output, Replied, Decoded, clip_format}
use Rattle.past.specs.Calls.{Call, outcome}
use Rattle.past.specs.Formats.{format_stays}
use Rattle.past.specs.Sound.{decode_stays_in_range}
use Rattle.claims.specs.Numbers.{Lent, told, Asks, eight, ten, known, accepted, sought, question_table, Decodes, decode_table, passed, refused}
use Rattle.refusal.specs.declared.Refusal.{Refusal}

-- the answer is a format
pub record Tells (s : List ℕ) (a : Audio) : Type 0 where
  pub rate : ℕ
  pub kbps : ℕ
  pub mode : ℕ
  pub answer : (format_of s a).answer ≡ Ok (clip_format rate kbps mode)

-- a state that has a format, in range, tells it on every stream that is not too long, and stays
pub told_as_known : (s : List ℕ) (a : Audio) → length s ≤ longest_stream → in_range a ≡ true → (a.format.samplerate ≡ 3 → ⊥)
    → format_of s a ≡ record { answer = told a.format; state = a; skipped = 0 }
told_as_known s a short within knows = sym ((question_table s a).only (known short within knows)).0

module _ (s : List ℕ) (a : Audio) (tells : Tells s a) where
  is_known : (known_of s a).answer ≡ Ok tt
  unfolding format_of
  is_known = by (known_of s a).answer tells.answer
    where
      by : (h : Heading) → saying h (known_of s a).state.format ≡ Ok (clip_format tells.rate tells.kbps tells.mode) → h ≡ Ok tt
      by (Ok _) e = refl
      by (Err n) e = absurd (let z : ◌≡◌ {A = ℕ} 0 1 = cc in omega arith)

  -- what decode then gives, on the same stream and lent enough, is what it would have given without the question: an accepted header
  -- is pending, and not sought again. So what the question passed over, decode does not pass again: together it is the same
  module _ (memory output : List Float) (lent : Lent s memory output) where
    abbrev asked_first : Decoded
    asked_first = decode_of s memory output (format_of s a).state

    as_before : further (format_of s a).skipped (ready_of s (length memory) (length output) (format_of s a).state)
        ≡ ready_of s (length memory) (length output) a
    unfolding format_of
    as_before = known_first s (length memory) (length output) a lent is_known

    answered : (k : ℕ) (h : Heading) (b : Audio) → let d = answering s k h b in let e = answering s ((format_of s a).skipped + k) h b in
        record { answer = d.answer; state = d.state; skipped = (format_of s a).skipped + d.skipped } ≡ e
    unfolding framed_of after_of
    answered k (Ok _) b = refl
    answered k (Err n) b = refl

    pub asking_first_changes_nothing :
        (record { answer = asked_first.answer; state = asked_first.state; skipped = (format_of s a).skipped + asked_first.skipped }
        ≡ decode_of s memory output a)
        × (decode_memory s memory output (format_of s a).state ≡ decode_memory s memory output a)
        × (decode_output s memory output (format_of s a).state ≡ decode_output s memory output a)
    unfolding decode_of decode_memory decode_output
    asking_first_changes_nothing = (
      (let r = ready_of s (length memory) (length output) (format_of s a).state in answered r.skipped r.answer r.state)
          ∙ ap (λ (x : Asked). answering s x.skipped x.answer x.state) as_before,
      ap (λ (x : Asked). remembering s memory x.answer x.state) as_before,
      ap (λ (x : Asked). sounding s memory output x.answer x.state) as_before,
    )

  -- asked again, on any stream that is not too long, it tells the same and leaves the same, and passes nothing over
  pub told_once : (t : List ℕ) → length t ≤ longest_stream
      → format_of t (format_of s a).state ≡ record { answer = (format_of s a).answer; state = (format_of s a).state; skipped = 0 }
  unfolding format_of
  told_once t short =
      let b = (known_of s a).state in
      let has = known_ranged s a is_known in
      told_as_known t b short (ranged_in_range b has.0) has.1
      ∙ ap (λ (h : Heading). replying (asked 0 h b)) (sym is_known)

-- a refused question is a refused call of decode: the same number, the same state left, as many bytes passed over
pub refused_alike : (s : List ℕ) (memory output : List Float) (a : Audio) → Lent s memory output → in_range a ≡ true
    → (n : Refusal) → (format_of s a).answer ≡ Err n → decode_of s memory output a ≡ refused (format_of s a).skipped n (format_of s a).state
refused_alike s memory output a lent within n e = by (question_table s a).holds e
  where
    by : {k : ℕ} {x : Replied} → Asks s a k x → x.answer ≡ Err n → decode_of s memory output a ≡ refused x.skipped n x.state
    by (eight l) e = absurd (let short = lent.short in omega arith)
    by (ten l w) e = absurd (never within w)
    by (known l w k) e = absurd (let z : ◌≡◌ {A = ℕ} 0 1 = cc in omega arith)
    by (accepted l w k t) e = absurd (let z : ◌≡◌ {A = ℕ} 0 1 = cc in omega arith)
    by (sought {n = k} {sync = sync} {r = r} l w none t) e =
        sym ((decode_table s memory output a).only (Decodes.sought (record { room = lent; within = within }) ((ranged a w).known none) t)).0
        ∙ ap (λ (i : Refusal). refused (passed a sync) i (stands_at r a)) (let same : k ≡ n = cc in same)

told_alike : (f g : Format) → SameFormat f g → told g ≡ told f
told_alike f g same = rw (same.bitrate, same.samplerate, same.mode)

-- a call of decode leaves what is told: one format until the next opening
pub told_for_good : (c : Call) (s t : List ℕ) → length s ≤ longest_stream → length t ≤ longest_stream → in_range c.state ≡ true
    → (c.state.format.samplerate ≡ 3 → ⊥) → (format_of t (outcome c).state).answer ≡ (format_of s c.state).answer
told_for_good c s t short also within knows =
    let same = format_stays c knows in
    let later = decode_stays_in_range c.stream c.memory c.output c.state within in
    ap (λ (x : Replied). x.answer) (told_as_known t (outcome c).state also later (λ none. knows (sym same.samplerate ∙ none)))
    ∙ told_alike c.state.format (outcome c).state.format same
    ∙ sym (ap (λ (x : Replied). x.answer) (told_as_known s c.state short within knows))
