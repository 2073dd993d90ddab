-- How much was passed over (02, E2): what lies between where a call began to seek a header and the byte that its number leads to. No sync
-- pair starts there. An FF stands at that byte; with 2 the stream ends there; with 1 nothing was passed over. An accepted header is the
-- standard's, at that byte.
-- Assumes nothing.
use Rattle.std.specs.Prelude.{ℕ, ◌+◌, ◌≤◌, ◌≡◌, true, List, Float, length, Result, Ok, Err}
use Rattle.std.proofs.Math.Path.{refl}
use Rattle.std.proofs.Common.{sym, ap, subst, inl, inr, arith}
use Rattle.ground.specs.Rows.{never}
use Rattle.synthesis.specs.Slots.{memory_length}
use Rattle.buffer.specs.Bits.{longest_stream}
use Rattle.buffer.specs.Calls.{byte_after_of}
use Rattle.buffer.specs.declared.Reader.{Reader}
use Rattle.header.specs.Header.{header_of}
use Rattle.header.specs.Attempts.{Attempts, attempt_table}
use Rattle.header.specs.Passed.{Passed, attempt_passed, sync_within}
use Rattle.header.specs.declared.Attempt.{Attempt}
use Rattle.readings.specs.declared.Reading.{Reading}
use Rattle.alike.specs.Headers.{StandardsHeader, an_accepted_header}
use Rattle.state.specs.State.{fresh, in_range}
use Rattle.state.specs.StateLaws.{ranged}
use Rattle.state.specs.declared.Audio.{Audio}
use Rattle.verdict.specs.Verdict.{asked, seeking, attempt_of, Asked}
use Rattle.verdict.specs.VerdictLaws.{seeking_skips, not_known}
use Rattle.audio.specs.Calls.{after_of, framed_of, decode_of, format_of, open_of, Replied, Decoded}
use Rattle.audio.specs.Numbers.{heading_number, reply_number, answer_number}
use Rattle.past.specs.Sound.{fresh_in_range}
use Rattle.claims.specs.Numbers.{InOrder, passed, Pending, waits, accepts, Decodes, eight, nine, ten, sought, seven, zero, decode_table, Asks, question_table, Opens, open_table}
use Rattle.refusal.specs.declared.Refusal.{Refusal}
use Rattle.header.specs.declared.Accepted.{Accepted}

-- the byte to which so many bytes lead, from the aligned start of an attempt
abbrev pub to : Audio → ℕ → ℕ
to a skipped = (byte_after_of a.reader.at).0 + skipped

-- ---- a row of an attempt, with the number of a call

module _ (s : List ℕ) (a : Audio) (short : length s ≤ longest_stream) (within : in_range a ≡ true) where
  -- the sync is no place before the start, so what was passed over leads to it
  leads : {n : ℕ} {x : Attempt} → Attempts s a.reader a.format n x → x.sync.0 ≡ to a (passed a x.sync)
  leads t =
      let w = sync_within s a.reader a.format in
      let e = ap (λ (y : Attempt). y.sync.0) ((attempt_table s a.reader short (ranged a within).near a.format).only t).0 in
      omega arith

  row_passes : {n : ℕ} {x : Attempt} → Attempts s a.reader a.format n x → Passed s a.reader n (to a (passed a x.sync))
  row_passes {n} t = subst (Passed s a.reader n) (leads t) (attempt_passed short (ranged a within).near t)

-- a header that was accepted, and whose data are cut off
cut_passes : {s : List ℕ} {r : Reader} {sync : ℕ} → Passed s r 0 sync → Passed s r 7 sync
cut_passes p =
    record {
      none_before = p.none_before;
      to_an_ff = λ _ _. p.to_an_ff (λ e. omega arith) (λ e. omega arith);
      to_the_end = λ e. absurd (omega arith);
      nowhere = λ e. absurd (omega arith);
    }

-- ---- decode

module _ (s : List ℕ) (memory output : List Float) (a : Audio) where
  -- where a header was sought
  module _ (c : InOrder s memory output a) (none : a.pending ≡ 0) where
    pending_passes : {k : ℕ} {b : Audio} → Pending s a k b → Passed s a.reader 0 (to a k)
    pending_passes (waits some) = absurd (some none)
    pending_passes (accepts z t) = row_passes s a c.room.short c.within t

    decoded_passes : {n : ℕ} {x : Decoded} → Decodes s memory output a n x → Passed s a.reader n (to a x.skipped)
    unfolding framed_of after_of
    decoded_passes (eight l) = absurd (let short = c.room.short in omega arith)
    decoded_passes (nine l (inl m)) = absurd (let long = c.room.memory_long in omega arith)
    decoded_passes (nine l (inr m)) = absurd (let long = c.room.output_long in omega arith)
    decoded_passes (ten l w) = absurd (never c.within w)
    decoded_passes (sought _ z t) = row_passes s a c.room.short c.within t
    decoded_passes (seven _ h l) = cut_passes (pending_passes h)
    decoded_passes (zero _ h l) = pending_passes h

    pub decode_passes : let d = decode_of s memory output a in Passed s a.reader (answer_number d.answer) (to a d.skipped)
    decode_passes = decoded_passes (decode_table s memory output a).holds

  -- "0 .. with no attempt": a header was pending
  pub nothing_sought : (a.pending ≡ 0 → ⊥) → (decode_of s memory output a).skipped ≡ 0
  unfolding framed_of after_of
  nothing_sought some = by (decode_table s memory output a).holds
    where
      by : {n : ℕ} {x : Decoded} → Decodes s memory output a n x → x.skipped ≡ 0
      by (eight l) = refl
      by (nine l m) = refl
      by (ten l w) = refl
      by (sought c none t) = absurd (some none)
      by (seven c (waits _) l) = refl
      by (seven c (accepts none t) l) = absurd (some none)
      by (zero c (waits _) l) = refl
      by (zero c (accepts none t) l) = absurd (some none)

-- ---- format, where no format is known: else nothing is sought (Asking, `told-as-known`)

pub question_passes : (s : List ℕ) (a : Audio) → length s ≤ longest_stream → in_range a ≡ true → a.format.samplerate ≡ 3
    → let x = format_of s a in Passed s a.reader (reply_number x.answer) (to a x.skipped)
question_passes s a short within none = by (question_table s a).holds
  where
    by : {n : ℕ} {x : Replied} → Asks s a n x → Passed s a.reader n (to a x.skipped)
    by (Asks.eight l) = absurd (omega arith)
    by (Asks.ten l w) = absurd (never within w)
    by (Asks.known l w some) = absurd (some none)
    by (Asks.accepted l w e t) = row_passes s a short within t
    by (Asks.sought l w e t) = row_passes s a short within t

-- ---- new, from the stream's first byte

pub opening_passes : (c : Reading) (s : List ℕ) (memory : List Float) → length s ≤ longest_stream → memory_length ≤ length memory
    → let x = open_of c s memory in Passed s (fresh c).reader (heading_number x.answer) (to (fresh c) x.skipped)
opening_passes c s memory short long = by (open_table c s memory).holds
  where
    by : {n : ℕ} {x : Asked} → Opens c s memory n x → Passed s (fresh c).reader n (to (fresh c) x.skipped)
    by (Opens.eight l) = absurd (omega arith)
    by (Opens.nine l m) = absurd (omega arith)
    by (Opens.sought {n = n} {x = x} l m t) =
        subst (λ k. Passed s (fresh c).reader n (to (fresh c) k)) (sym (seeking_skips _ (fresh c) x.next x.header))
        (row_passes s (fresh c) short (fresh_in_range c) t)

-- ---- an accepted header is the standard's, and stands at that byte

pub passed_up_to_the_standards_header : (s : List ℕ) (a : Audio) → length s ≤ longest_stream → in_range a ≡ true → {k : ℕ} {b : Audio}
    → attempt_of s a ≡ asked k (Ok tt) b → StandardsHeader s a.reader b.format b.pending (to a k) b.reader
unfolding attempt_of
passed_up_to_the_standards_header s a short within {k} {b} e = by t.header refl e
  where
    t : Attempt
    t = header_of s a.reader a.format

    by : (h : Result Accepted Refusal) → t.header ≡ h → seeking (passed a t.sync) a t.next h ≡ asked k (Ok tt) b
        → StandardsHeader s a.reader b.format b.pending (to a k) b.reader
    by (Err n) is e = absurd (not_known (ap (λ (x : Asked). x.answer) e))
    by (Ok y) is e =
        subst (λ (x : Asked). StandardsHeader s a.reader x.state.format x.state.pending (to a x.skipped) x.state.reader) e
        (subst (λ (n : ℕ). StandardsHeader s a.reader y.format y.size n t.next)
        (leads s a short within (attempt_table s a.reader short (ranged a within).near a.format).holds)
        (an_accepted_header s a.reader short a.format (ranged a within).near is))
