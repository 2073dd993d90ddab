-- What the calls' parts ask for, the calls put together from them, and the walk of an opening.
-- Assumes nothing.
use Rattle.std.specs.Prelude.{ℕ, ◌+◌, ◌*◌, ◌≤◌, ◌<◌, ◌≡◌, refl, true, false, List, ◌++◌, length, pos, Float, ltb, Option, Some, None, Ok, Err}
use Rattle.std.proofs.Common.{sym, ◌∙◌, subst, arith, ltb-true, ltb-false}
use Rattle.std.proofs.lemmas.Option.{none-some}
use Rattle.std.proofs.Math.Path.{ap}
use Rattle.std.proofs.Math.ListN.{drop}
use Rattle.std.specs.Float.{fin}
use Rattle.ground.specs.Tests.{by_test}
use Rattle.ground.specs.Table.{length_table}
use Rattle.buffer.specs.Bits.{longest_stream}
use Rattle.buffer.specs.declared.Reader.{Reader}
use Rattle.header.specs.Header.{least_data}
use Rattle.readings.specs.declared.Reading.{Reading}
use Rattle.window.specs.Output.{Place}
use Rattle.grammar.specs.Widths.{run_moves}
use Rattle.synthesis.specs.Slots.{position_after, memory_length, output_length}
use Rattle.frame.specs.Frame.{Fit, codes_in, granules_at}
use Rattle.state.specs.State.{fresh, in_range}
use Rattle.state.specs.StateLaws.{Ranged}
use Rattle.state.specs.declared.Audio.{Audio}
use Rattle.verdict.specs.Verdict.{Heading, Asked, asked, attempt_of, unless_at_once, ready_of, known_of}
use Rattle.verdict.specs.VerdictLaws.{Verdict, at_once, no_header, cut_off, whole, verdict_holds, heads_kept, verdict_leaves, by_asking, known_ranged, few_passed, refuses_at_once, asks_on, not_known}
use Rattle.refusal.specs.declared.Refusal.{Refusal}
use Rattle.refusal.specs.declared.Refusal.TheVariants.{LongStream, LittleRoom}
use Rattle.audio.specs.Calls.{Reply, Decoded, clearing, blank, no_room_of, open_of, open_memory, answering, saying, format_of, after_of, framed_of, framed_memory, framed_output, decode_of, decode_memory, decode_output}
use Rattle.audio.specs.declared.Answer.TheVariants.{Refused}

-- ---- a header pending, and its data there

pub record Ready (s : List ℕ) (a : Audio) : Type 0 where
  pub short : length s ≤ longest_stream
  pub there : a.reader.at.0 + 8 * a.pending ≤ 8 * length s
  pub fit : Fit a.format
  pub few : a.frames ≤ 8388608
  pub place : Place a.ring

-- a state in range with a header pending has a format that a frame can have
pended_fit : (a : Audio) → Ranged a → (a.pending ≡ 0 → ⊥) → Fit a.format
pended_fit a r some =
    record { samplerate = below a.format.samplerate r.samplerate (λ e. some (r.known e)); bitrate = omega arith; mode = omega arith; bound = r.bound }
  where
    below : (k : ℕ) → k ≤ 3 → (k ≡ 3 → ⊥) → k < 3
    below k l h = omega arith

-- a call that is not refused before the frame has what the frame needs
pub record Goes (s : List ℕ) (memory output : ℕ) (a : Audio) : Type 0 where
  pub ready : Ready s a
  pub memory_long : memory_length ≤ memory
  pub output_long : output_length ≤ output

pub known_goes : {s : List ℕ} {m o : ℕ} {a : Audio} {x : Asked} → Verdict s m o a x → x.answer ≡ Ok tt → Goes s m o x.state
known_goes (at_once h) e = absurd (not_known e)
known_goes (no_header c z e) k = absurd (not_known k)
known_goes (cut_off c h l) e = absurd (not_known e)
known_goes (whole {b} c h l) e =
    let k = heads_kept c h in
    let r : Ranged b = k.ranged in
    let large : least_data ≤ b.pending = r.large (k.some refl) in
    let short = c.room.short in
    let near = r.near in
    let few = r.few in
    record {
      ready = record { short = short; there = omega arith; fit = pended_fit b r (k.some refl); few = omega arith; place = r.place };
      memory_long = c.room.memory_long;
      output_long = c.room.output_long;
    }

pub goes : (s : List ℕ) (m o : ℕ) (a : Audio) (x : Asked) → x ≡ ready_of s m o a → x.answer ≡ Ok tt → Goes s m o x.state
goes s m o a x e k = known_goes (subst (Verdict s m o a) (sym e) (verdict_holds s m o a)) k

-- ---- the cleared memory

pub blank_length : length blank ≡ memory_length
unfolding blank
blank_length = length_table memory_length (λ _. fin false 0 (pos 0))

-- ---- the walk of an opening

-- the tests of an opening, for what holds of the number that they give
by_room : (s : List ℕ) (memory : ℕ) (P : Option Refusal → Type 0) → (longest_stream < length s → P (Some LongStream)) → (length s ≤ longest_stream → memory < memory_length → P (Some LittleRoom))
    → (length s ≤ longest_stream → memory_length ≤ memory → P None) → P (no_room_of s memory)
unfolding no_room_of
by_room s memory P eight nine none =
    by_test P (ltb longest_stream (length s)) _ _ (λ l. eight (ltb-true _ _ l))
    (λ l. by_test P (ltb memory memory_length) _ _ (λ m. nine (ltb-false _ _ l) (ltb-true _ _ m)) (λ m. none (ltb-false _ _ l) (ltb-false _ _ m)))

pub by_opening : (c : Reading) (s : List ℕ) (memory : List Float) (Q : Asked → Type 0)
    → (longest_stream < length s → Q (asked 0 (Err LongStream) (fresh c)))
    → (length s ≤ longest_stream → length memory < memory_length → Q (asked 0 (Err LittleRoom) (fresh c)))
    → (length s ≤ longest_stream → memory_length ≤ length memory → Q (attempt_of s (fresh c)))
    → Q (open_of c s memory)
unfolding open_of
by_opening c s memory Q eight nine sought =
    by_room s (length memory) (λ n. Q (unless_at_once n (fresh c) (attempt_of s (fresh c)))) eight nine sought

-- no refusal says that there is room
pub long_enough : (s : List ℕ) (memory : ℕ) → None ≡ no_room_of s memory → memory_length ≤ memory
long_enough s memory none =
    by_room s memory (λ k. None ≡ k → memory_length ≤ memory) (λ _ z. absurd (none-some _ z)) (λ _ _ z. absurd (none-some _ z)) (λ _ k _. k) none

-- ---- what holds of the state, and of the one that an attempt leaves, holds of the one that a question leaves

pub question_leaves : (s : List ℕ) (a : Audio) (P : Audio → Type 0) → P a
    → (length s ≤ longest_stream → in_range a ≡ true → a.format.samplerate ≡ 3 → P (attempt_of s a).state) → P (format_of s a).state
unfolding format_of
question_leaves s a P same sought = by_asking s a (λ (x : Asked). P x.state) (λ _. same) (λ _ _. same) (λ _ _ _. same) sought

-- ---- no more is passed over than the stream has

pub open_passes_few : (c : Reading) (s : List ℕ) (memory : List Float) → (open_of c s memory).skipped ≤ length s
open_passes_few c s memory =
    by_opening c s memory (λ (x : Asked). x.skipped ≤ length s) (λ _. omega arith) (λ _ _. omega arith) (λ _ _. few_passed s (fresh c))

-- a call hands on what the verdict passed over
pub decode_skipped : (s : List ℕ) (memory output : List Float) (a : Audio)
    → (decode_of s memory output a).skipped ≡ (ready_of s (length memory) (length output) a).skipped
unfolding decode_of framed_of after_of
decode_skipped s memory output a = by (ready_of s (length memory) (length output) a).answer
  where
    by : (h : Heading) → let r = ready_of s (length memory) (length output) a in (answering s r.skipped h r.state).skipped ≡ r.skipped
    by (Ok _) = refl
    by (Err n) = refl

pub decode_passes_few : (s : List ℕ) (memory output : List Float) (a : Audio) → (decode_of s memory output a).skipped ≤ length s
decode_passes_few s memory output a =
    rw (decode_skipped s memory output a)
    (verdict_leaves (λ k _. k ≤ length s) (omega arith) (few_passed s a) (verdict_holds s (length memory) (length output) a))

-- ---- the calls, put together from their parts: laws over plain variables

module _ (reading : Reading) (s : List ℕ) (memory : List Float) (a : Audio) (is : a ≡ fresh reading) where
  pub no_room : (n : Refusal) → Some n ≡ no_room_of s (length memory) → (asked 0 (Err n) a ≡ open_of reading s memory) × (memory ≡ open_memory s memory)
  unfolding open_of open_memory
  no_room n room = (
    ap (asked 0 (Err n)) is ∙ refuses_at_once (fresh reading) (attempt_of s (fresh reading)) room,
    ap (λ k. clearing k memory) room,
  )

  pub opens : None ≡ no_room_of s (length memory) → (v : List Float) (x : Asked) → v ≡ blank → x ≡ attempt_of s a
      → (x ≡ open_of reading s memory) × (v ++ drop memory_length memory ≡ open_memory s memory)
  unfolding open_of open_memory
  opens room v x e f = (
    asks_on (fresh reading) (attempt_of s (fresh reading)) room x (f ∙ ap (attempt_of s) is),
    ap (λ z. z ++ drop memory_length memory) e ∙ ap (λ k. clearing k memory) room,
  )

-- where a frame's reading can end
pub record Ended (s : List ℕ) (a : Audio) (end : Reader) : Type 0 where
  pub ready : Ready s a
  pub forth : a.reader.at.0 ≤ end.at.0
  pub inside : end.at.0 ≤ 8 * length s

pub ended : (s : List ℕ) (a : Audio) (end : Reader) → Ready s a → end ≡ (granules_at s a.reader a.format).next → Ended s a end
unfolding granules_at
ended s a end r e =
    let m = run_moves (codes_in a.format) s a.reader in
    record { ready = r; forth = rw e m.0; inside = rw e (omega arith) }

module _ (s : List ℕ) (skipped : ℕ) (a : Audio) (end : Reader) (ring : ℕ) (is : end ≡ (granules_at s a.reader a.format).next)
    (at : ring ≡ position_after a.ring 36) where
  pub frames : (x : Decoded) → x ≡ after_of s skipped a end ring → x ≡ framed_of s skipped a
  unfolding framed_of
  frames x e = e ∙ ap (λ z. after_of s skipped a z ring) is ∙ ap (after_of s skipped a _) at

module _ (s : List ℕ) (a : Audio) (h : Asked) (is : h ≡ known_of s a) where
  -- the tables have a row for the format that is told
  pub told_fits : h.answer ≡ Ok tt → (h.state.format.samplerate < 4) × (h.state.format.bitrate < 14)
  told_fits k =
      let r = (known_ranged s a (sym (ap (λ (x : Asked). x.answer) is) ∙ k)).0 in
      rw is (omega arith, omega arith)

  pub tells : (t : Reply) → t ≡ saying h.answer h.state.format → record { answer = t; state = h.state; skipped = h.skipped } ≡ format_of s a
  unfolding format_of
  tells t e = rw (← is, e)

module _ (s : List ℕ) (memory output : List Float) (a : Audio) (r : Asked) (is : r ≡ ready_of s (length memory) (length output) a) where
  pub decodes : r.answer ≡ Ok tt → (x : Decoded) (m o : List Float) → x ≡ framed_of s r.skipped r.state → m ≡ framed_memory s r.state memory
      → o ≡ framed_output s r.state memory output
      → (x ≡ decode_of s memory output a) × ((m ≡ decode_memory s memory output a) × (o ≡ decode_output s memory output a))
  unfolding decode_of decode_memory decode_output
  decodes k x m o e f g = (rw (← is, k) e, (rw (← is, k) f, rw (← is, k) g))

  pub refuses : (n : Refusal) → r.answer ≡ Err n
      → (record { answer = Refused n; state = r.state; skipped = r.skipped } ≡ decode_of s memory output a)
      × ((memory ≡ decode_memory s memory output a) × (output ≡ decode_output s memory output a))
  unfolding decode_of decode_memory decode_output
  refuses n k = (rw (← is, k), (rw (← is, k), rw (← is, k)))
