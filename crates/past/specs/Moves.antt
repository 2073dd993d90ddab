-- A call that gives neither 1 nor 7 moves on: it had 48 bits left, and the position moves by 16 at least. From 01, "From the bytes to a
-- header": an attempt "moves reading on at least 16 bits", and a frame uses as many. Assumes nothing.
use Rattle.std.specs.Prelude.{ℕ, ◌+◌, ◌*◌, ◌≤◌, ◌<◌, ◌≡◌, Bool, true, false, List, ltb, length, Result, Ok, Err}
use Rattle.std.proofs.Math.Path.{refl}
use Rattle.std.proofs.Common.{sym, ap, ◌∙◌, inl, inr, arith, ltb-true, ltb-false}
use Rattle.ground.specs.Rows.{never}
use Rattle.buffer.specs.Bits.{longest_stream}
use Rattle.buffer.specs.Calls.{left}
use Rattle.buffer.specs.declared.Reader.{Reader}
use Rattle.header.specs.Header.{header_of}
use Rattle.header.specs.Moves.{attempt_moves, few_bits_stay}
use Rattle.state.specs.StateLaws.{Ranged, ranged}
use Rattle.state.specs.declared.Audio.{Audio}
use Rattle.verdict.specs.Verdict.{asked, seeking, attempt_of, Heading, Asked}
use Rattle.verdict.specs.VerdictLaws.{Called, Heads, waits, accepts, Verdict, at_once, eight, nine, ten, no_header, cut_off, whole, heads_kept}
use Rattle.audio.specs.Calls.{answering, decode_of}
use Rattle.audio.specs.CallsLaws.{known_goes}
use Rattle.audio.specs.Numbers.{answer_number}
use Rattle.past.specs.Calls.{Call, outcome, verdict_of}
use Rattle.past.specs.Sound.{frame_moves}
use Rattle.refusal.specs.declared.Refusal.TheVariants.{NoHeader}
use Rattle.refusal.specs.Numbers.{number_of}
use Rattle.refusal.specs.declared.Refusal.{Refusal}
use Rattle.header.specs.declared.Accepted.{Accepted}

-- an attempt that does not give 1
module _ (s : List ℕ) (short : length s ≤ longest_stream) (a : Audio) (w : Ranged a) where
  tried_reader : (attempt_of s a).state.reader ≡ (header_of s a.reader a.format).next
  unfolding attempt_of
  tried_reader = let t = header_of s a.reader a.format in go _ t.next t.header
    where
      go : (k : ℕ) (r : Reader) (h : Result Accepted Refusal) → (seeking k a r h).state.reader ≡ r
      go k r (Ok x) = refl
      go k r (Err n) = refl

  few_give_one : left s a.reader < 48 → (attempt_of s a).answer ≡ Err NoHeader
  unfolding attempt_of
  few_give_one few = rw (few_bits_stay s a.reader a.format short w.near few)

  pub attempt_forth : {k : ℕ} {h : Heading} {b : Audio} → attempt_of s a ≡ asked k h b → (h ≡ Err NoHeader → ⊥)
      → (48 ≤ left s a.reader) × (a.reader.at.0 + 16 ≤ b.reader.at.0)
  attempt_forth {k} {h} {b} e not = go (ltb (left s a.reader) 48) refl
    where
      go : (t : Bool) → ltb (left s a.reader) 48 ≡ t → (48 ≤ left s a.reader) × (a.reader.at.0 + 16 ≤ b.reader.at.0)
      go true t = absurd (not (sym (ap (λ (x : Asked). x.answer) e) ∙ few_give_one (ltb-true _ _ t)))
      go false t =
          let enough : 48 ≤ left s a.reader = ltb-false _ _ t in
          let m = attempt_moves s a.reader a.format (record { short = short; near = w.near; enough = enough }) in
          let r = sym tried_reader ∙ ap (λ (x : Asked). x.state.reader) e in
          (enough, omega (arith, m, ap (λ (x : Reader). x.at.0) r))

-- with a header waiting 720 bits are left for its data; else there were 48 for the attempt
heads_forth : {s : List ℕ} {m o k : ℕ} {a b : Audio} → Called s m o a → Heads s a k b → 8 * b.pending ≤ left s b.reader
    → (48 ≤ left s a.reader) × (a.reader.at.0 ≤ b.reader.at.0)
heads_forth {a = a} c (waits n) l = let large = (ranged a c.within).large n in (omega arith, omega arith)
heads_forth {s} {a = a} c (accepts z e) l =
    let f = attempt_forth s c.room.short a (ranged a c.within) e (λ k. absurd (let z : ◌≡◌ {A = ℕ} 0 1 = cc in omega arith)) in
    (f.0, omega (arith, f.1))

module _ (s : List ℕ) (m o : ℕ) (a : Audio) (c : Called s m o a) where
  abbrev number : Asked → ℕ
  number x = answer_number (answering s x.skipped x.answer x.state).answer

  verdict_moves : {x : Asked} → Verdict s m o a x → (number x ≡ 1 → ⊥) → (number x ≡ 7 → ⊥)
      → (48 ≤ left s a.reader) × (a.reader.at.0 + 16 ≤ (answering s x.skipped x.answer x.state).state.reader.at.0)
  verdict_moves (at_once (eight l)) p q = absurd (let k = c.room.short in omega arith)
  verdict_moves (at_once (nine _ (inl l))) p q = absurd (let k = c.room.memory_long in omega arith)
  verdict_moves (at_once (nine _ (inr l))) p q = absurd (let k = c.room.output_long in omega arith)
  verdict_moves (at_once (ten _ r)) p q = absurd (never c.within r)
  verdict_moves (no_header {n = n} _ z e) p q =
      attempt_forth s c.room.short a (ranged a c.within) e (λ k. p (ap refused_by k))
    where
      refused_by : Heading → ℕ
      refused_by (Ok _) = 0
      refused_by (Err n) = number_of n
  verdict_moves (cut_off _ h l) p q = absurd (q refl)
  verdict_moves (whole {k = skipped} {b = b} d h l) p q =
      let k = heads_kept d h in
      let f = frame_moves s skipped b (known_goes (whole d h l) refl).ready k.ranged (k.some refl) in
      let g = heads_forth d h l in
      (g.0, omega (arith, f, g.1))

pub call_moves : (c : Call) → Called c.stream (length c.memory) (length c.output) c.state
    → (answer_number (outcome c).answer ≡ 1 → ⊥) → (answer_number (outcome c).answer ≡ 7 → ⊥)
    → (48 ≤ left c.stream c.state.reader) × (c.state.reader.at.0 + 16 ≤ (outcome c).state.reader.at.0)
unfolding decode_of
call_moves c b = verdict_moves c.stream (length c.memory) (length c.output) c.state b (verdict_of c)
