-- What is heard of a clip: every decoded frame, all at one rate, 2,304 finite samples each. From 02, E1. Assumes nothing.
use Prim.Native.Nat.{ℕ, zero, suc, ◌+◌, ◌-◌, ◌*◌, ◌/◌, ◌%◌, ◌≤◌, ◌<◌}
use Rattle.std.specs.Prelude.{◌≡◌, refl, false, cond, List, [], ◌∷◌, eqb, pos, Float, length, get_or}
use Rattle.std.proofs.Common.{ap, sym, ◌∙◌, arith}
use Rattle.std.specs.Float.{nan, fin}
use Rattle.std.proofs.lemmas.List.{length-replicate}
use Rattle.std.proofs.lemmas.Bool.{eqb-false}
use Rattle.ground.specs.Tests.{by_test, neither}
use Rattle.buffer.specs.Bits.{longest_stream}
use Rattle.synthesis.specs.Slots.{memory_length, output_length, quiet}
use Rattle.buffer.specs.Calls.{left}
use Rattle.tables.specs.Standard.{rate_of}
use Rattle.finite.specs.Within.{Within}
use Rattle.readings.specs.Readings.{plain}
use Rattle.readings.specs.declared.Reading.{Reading}
use Rattle.audio.specs.Calls.{open_of, open_memory}
use Rattle.audio.specs.Numbers.{ends, answer_number}
use Rattle.state.specs.declared.Audio.{Audio}
use Rattle.audio.specs.declared.Answer.{Answer}
use Rattle.audio.specs.declared.Answer.TheVariants.{Frame as FrameAnswer, Refused as RefusedAnswer}
use Rattle.clip.specs.Frames.{Heard, hearing, heard_of, clip_of, rate_in}
use Rattle.past.specs.Pasts.{Past, opened, decoded}
use Rattle.past.specs.Calls.{Call, outcome, new_memory, new_output, Accepts}
use Rattle.past.specs.Finite.{samples_finite}
use Rattle.past.specs.Ring.{memory_kept_long}
use Rattle.past.specs.Sound.{opening_is_in_range, decode_stays_in_range}
use Rattle.past.specs.Moves.{call_moves}
use Rattle.past.specs.Formats.{decode_lengths, format_stays, frame_known}
use Rattle.verdict.specs.VerdictLaws.{Called}
use Rattle.refusal.specs.Numbers.{number_of}

-- ---- one call after the other

-- the call that follows on the same stream, and the first after an opening, as in clip_of, which reads plainly
abbrev pub after : Call → Call
after c = record { stream = c.stream; memory = new_memory c; output = new_output c; state = (outcome c).state }

abbrev pub opening : Reading → List ℕ → Call
opening r s = record { stream = s; memory = open_memory s (quiet memory_length); output = quiet output_length; state = (open_of r s (quiet memory_length)).state }

abbrev heard_from : ℕ → Call → List Heard
heard_from calls c = heard_of calls c.stream c.memory c.output c.state

-- the frame that a call gives
abbrev heard_at : Call → Heard
heard_at c = record { rate = rate_of (outcome c).state.format.samplerate; samples = new_output c }

quiet_length : (n : ℕ) → length (quiet n) ≡ n
quiet_length n = length-replicate n (fin false 0 (pos 0))

pub opening_past : (r : Reading) (s : List ℕ) → length s ≤ longest_stream → Past (opening r s).state (opening r s).memory
opening_past r s short = opened r s (quiet memory_length) short (omega (arith, quiet_length memory_length))

-- ---- the calls are not cut short

-- what comes after an end is not heard
same_heard : (x : Answer) (a : Audio) (o : List Float) (more others : List Heard)
    → ((answer_number x ≡ 1 → ⊥) → (answer_number x ≡ 7 → ⊥) → more ≡ others)
    → hearing x a o more ≡ hearing x a o others
same_heard (FrameAnswer time bits) a o more others e =
    ap (hearing (FrameAnswer time bits) a o) (e (λ z. omega arith) (λ z. omega arith))
same_heard (RefusedAnswer n) a o more others e =
    by_test (λ (xs : List Heard). xs ≡ cond (ends (number_of n)) [] others) (ends (number_of n)) _ _ (λ t. rw t) (λ t.
    let h = neither (eqb (number_of n) 1) (eqb (number_of n) 7) t in rw t (e (eqb-false (number_of n) 1 h.0) (eqb-false (number_of n) 7 h.1)))

-- neither 8 nor 9 nor 10
abbrev pub Begun : Call → Type 0
Begun c = Called c.stream (length c.memory) (length c.output) c.state

pub opening_begun : (r : Reading) (s : List ℕ) → length s ≤ longest_stream → Begun (opening r s)
opening_begun r s short =
    record {
      room =
          record {
            short = short;
            memory_long = memory_kept_long (opening_past r s short);
            output_long = omega (arith, quiet_length output_length);
          };
      within = opening_is_in_range r s (quiet memory_length);
    }

module _ (c : Call) (b : Begun c) where
  pub begun_on : Begun (after c)
  begun_on =
      let e = decode_lengths c in
      let l = b.room.memory_long in
      let k = b.room.output_long in
      record {
        room = record { short = b.room.short; memory_long = omega arith; output_long = omega arith };
        within = decode_stays_in_range c.stream c.memory c.output c.state b.within;
      }

-- 16 bits at least go with each call before an end, and with fewer than 48 left it is one
comes_to_rest : (k calls : ℕ) (c : Call) → k < calls → Begun c → left c.stream c.state.reader < 48 + 16 * k → heard_from calls c ≡ heard_from (suc k) c
unfolding heard_of
comes_to_rest k zero c l b few = absurd (omega arith)
comes_to_rest zero (suc calls) c l b few =
    same_heard (outcome c).answer (outcome c).state (new_output c) _ _
    (λ p q. absurd (let h = call_moves c b p q in omega arith))
comes_to_rest (suc k) (suc calls) c l b few =
    same_heard (outcome c).answer (outcome c).state (new_output c) _ _
    (λ p q. let h = call_moves c b p q in comes_to_rest k calls (after c) (omega arith) (begun_on c b) (omega arith))

-- "every decoded frame": however many more calls one makes, no further frame is heard
pub every_frame : (s : List ℕ) (more : ℕ) → length s ≤ longest_stream
    → heard_of (length s / 2 + 2 + more) s (open_memory s (quiet memory_length)) (quiet output_length) (open_of plain s (quiet memory_length)).state ≡ clip_of s
unfolding clip_of
every_frame s more short =
    let e : suc (length s / 2 + 1) ≡ length s / 2 + 2 = omega arith in
    comes_to_rest (length s / 2 + 1) (length s / 2 + 2 + more) (opening plain s) (omega arith) (opening_begun plain s short) (omega arith)
    ∙ ap (λ (calls : ℕ). heard_from calls (opening plain s)) e

-- ---- what every frame of a clip has

abbrev pub Every : (Heard → Type 0) → List Heard → Type 0
Every P xs = (i : ℕ) (d : Heard) → i < length xs → P (get_or xs i d)

first_of : (P : Heard → Type 0) (x : Heard) (xs : List Heard) → P x → Every P xs → Every P (x ∷ xs)
first_of P x xs p ps zero d l = p
first_of P x xs p ps (suc i) d l = ps i d (omega arith)

by_answer : (P : List Heard → Type 0) (x : Answer) (a : Audio) (o : List Float) (more : List Heard) → P [] → P more
    → ((time : Float) (bits : ℕ) → x ≡ FrameAnswer time bits → P (record { rate = rate_of a.format.samplerate; samples = o } ∷ more))
    → P (hearing x a o more)
by_answer P (FrameAnswer time bits) a o more none rest frame = frame time bits refl
by_answer P (RefusedAnswer n) a o more none rest frame = by_test P (ends (number_of n)) _ _ (λ _. none) (λ _. rest)

by_call : (P : List Heard → Type 0) (calls : ℕ) (c : Call) → P [] → P (heard_from calls (after c))
    → (Accepts c → P (heard_at c ∷ heard_from calls (after c))) → P (heard_from (suc calls) c)
unfolding heard_of
by_call P calls c none rest frame =
    by_answer P (outcome c).answer (outcome c).state (new_output c) (heard_from calls (after c)) none rest
    (λ time bits e. frame (record { time = time; bits = bits; answer = e }))

-- what each call hands on, and its frame has by it
module _ (Q : Call → Type 0) (P : Heard → Type 0) (on : (c : Call) → Q c → Q (after c)) (frame : (c : Call) → Q c → Accepts c → P (heard_at c)) where
  along : (calls : ℕ) (c : Call) → Q c → Every P (heard_from calls c)
  unfolding heard_of
  along zero c q = λ i d l. absurd (omega arith)
  along (suc calls) c q =
      let rest = along calls (after c) (on c q) in
      by_call (Every P) calls c (λ i d l. absurd (omega arith)) rest (λ ok. first_of P (heard_at c) (heard_from calls (after c)) (frame c q ok) rest)

  pub in_clip : (s : List ℕ) → Q (opening plain s) → Every P (clip_of s)
  unfolding clip_of
  in_clip s q = along (length s / 2 + 2) (opening plain s) q

-- "every decoded frame": 2,304 samples each
pub frame_length : (s : List ℕ) (i : ℕ) (d : Heard) → i < length (clip_of s) → length (get_or (clip_of s) i d).samples ≡ output_length
frame_length s =
    in_clip (λ c. length c.output ≡ output_length) (λ x. length x.samples ≡ output_length) (λ c e. (decode_lengths c).1 ∙ e)
    (λ c e _. (decode_lengths c).1 ∙ e) s (quiet_length output_length)

-- ---- at one rate, and in one mode

at_one_rate : (calls : ℕ) (c : Call) → let xs = heard_from calls c in Every (λ x. x.rate ≡ rate_in xs) xs
unfolding heard_of
at_one_rate zero c = λ i d l. absurd (omega arith)
at_one_rate (suc calls) c =
    by_call (λ (xs : List Heard). Every (λ x. x.rate ≡ rate_in xs) xs) calls c (λ i d l. absurd (omega arith)) (at_one_rate calls (after c)) first
  where
    known : ℕ
    known = (outcome c).state.format.samplerate

    first : Accepts c → Every (λ x. x.rate ≡ rate_of known) (heard_at c ∷ heard_from calls (after c))
    first ok =
        first_of (λ x. x.rate ≡ rate_of known) (heard_at c) (heard_from calls (after c)) refl
        (along (λ b. b.state.format.samplerate ≡ known) (λ x. x.rate ≡ rate_of known) stays (λ b e _. ap rate_of (stays b e))
        calls (after c) refl)
      where
        stays : (b : Call) → b.state.format.samplerate ≡ known → (outcome b).state.format.samplerate ≡ known
        stays b e = (format_stays b (λ z. frame_known c ok (sym e ∙ z))).samplerate ∙ e

-- so the one rate that "the 44-byte header" can say is that of every frame
pub one_rate : (s : List ℕ) (i : ℕ) (d : Heard) → i < length (clip_of s) → (get_or (clip_of s) i d).rate ≡ rate_in (clip_of s)
unfolding clip_of
one_rate s = at_one_rate (length s / 2 + 2) (opening plain s)

-- ---- numbers, all of them

-- "A sample is multiplied by 32768": so it must be a number, and each is, and none is a NaN or an infinity
pub heard_finite : (s : List ℕ) → length s ≤ longest_stream → (i : ℕ) (d : Heard) → i < length (clip_of s)
    → (j : ℕ) → j < output_length → Within 8259553 (get_or (get_or (clip_of s) i d).samples j nan)
heard_finite s short =
    in_clip (λ c. Past c.state c.memory) (λ x. (j : ℕ) → j < output_length → Within 8259553 (get_or x.samples j nan))
    (λ c p. decoded p c.stream c.output) each s (opening_past plain s short)
  where
    each : (c : Call) → Past c.state c.memory → Accepts c → (j : ℕ) → j < output_length → Within 8259553 (get_or (new_output c) j nan)
    each c p ok j l =
        let e : 2 * (j / 2 + 1 - 1) + j % 2 ≡ j = omega arith in
        rw e at (samples_finite p ok (j % 2) (j / 2 + 1) (omega arith) (omega arith) (omega arith))
