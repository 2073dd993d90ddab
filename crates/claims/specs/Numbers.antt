-- The three public calls by 01's table: each number given exactly when, what is left behind, and the order where several would hold:
-- 8, 9, 10, then 1 to 6 and 13 (02, E3) as the header is read, then 7. Each row also says how many bytes were passed over (02, E2). Each table has its
-- rows as constructors. Assumes nothing.
use Rattle.std.specs.Prelude.{ℕ, ◌-◌, ◌*◌, ◌≤◌, ◌<◌, ◌≡◌, refl, true, false, List, ◌⊎◌, T, Float, length, Result, Ok, Err}
use Rattle.std.proofs.Math.Path.{sym, ap, subst}
use Rattle.std.proofs.Common.{◌∙◌, inl, inr, arith}
use borrow.Author.Tests.{lt-ltb, le-ltb, eq-eqb, ne_eqb}
use Rattle.buffer.specs.Calls.{byte_after_of, left}
use Rattle.buffer.specs.declared.BytePos.{BytePos}
use Rattle.buffer.specs.declared.Reader.{Reader}
use Rattle.tables.specs.Standard.{rate_of, kbps_of}
use Rattle.header.specs.Header.{header_of, refusal, header_number, accepted_header}
use Rattle.header.specs.declared.Format.{Format}
use Rattle.header.specs.declared.Attempt.{Attempt}
use Rattle.state.specs.State.{fresh, in_range, stands_at, pends}
use Rattle.verdict.specs.Verdict.{asked, seeking, tried, attempt_of, at_once_of, known_of, Asked}
use Rattle.audio.specs.Calls.{answering, remembering, sounding, after_of, framed_of, framed_memory, framed_output, decode_of, decode_memory, decode_output, open_of, replying, format_of, no_room_of, Reply, Replied, Decoded, clip_format}
use Rattle.audio.specs.Numbers.{heading_number, reply_number, answer_number}
use Rattle.state.specs.StateLaws.{ranged, ranged_in_range}
use Rattle.audio.specs.CallsLaws.{by_opening}
use Rattle.verdict.specs.VerdictLaws.{Room, Called, AtOnce, Heads, Verdict, at_once, no_header, cut_off, whole, verdict_holds, verdict_only, heads_kept, by_asking, not_known}
use Rattle.readings.specs.declared.Reading.{Reading}
use Rattle.state.specs.declared.Audio.{Audio}
use Rattle.audio.specs.declared.Answer.TheVariants.{Refused as AnswerRefused}
use Rattle.ground.specs.Rows.{TableOf, exactly, never}
use Rattle.synthesis.specs.Slots.{memory_length, output_length}
use Rattle.buffer.specs.Bits.{longest_stream}
use Rattle.header.specs.Attempts.{Attempts, attempt_table, attempt_number, first_gives, first_number, attempt_gives}
use Rattle.past.specs.Pasts.{Past}
use Rattle.past.specs.Sound.{fresh_in_range, sound_state_in_range}
use Rattle.refusal.specs.declared.Refusal.TheVariants.{LongStream, LittleRoom, CutOff, BadState}
use Rattle.refusal.specs.declared.Refusal.{Refusal}
use Rattle.header.specs.declared.Accepted.{Accepted}
use Rattle.refusal.specs.Numbers.{number_of}

-- ---- decode

-- neither 8 nor 9
abbrev pub Lent : List ℕ → List Float → List Float → Type 0
Lent s memory output = Room s (length memory) (length output)

-- nor 10
abbrev pub InOrder : List ℕ → List Float → List Float → Audio → Type 0
InOrder s memory output a = Called s (length memory) (length output) a

-- from the aligned start of an attempt to a byte: "those from its aligned start, to the FF of the sync, or to the stream's end". It is
-- written out here, so that the tables do not lean on `passed_by`
abbrev pub passed : Audio → BytePos → ℕ
passed a sync = sync.0 - (byte_after_of a.reader.at).0

-- the state with a header pending, and the bytes passed over: the one that waits, or the one that an attempt accepts
pub data Pending (s : List ℕ) (a : Audio) : ℕ → Audio → Type 0 where
  waits : (a.pending ≡ 0 → ⊥) → Pending s a 0 a
  accepts : {f : Format} {size : ℕ} {sync : BytePos} {r : Reader} → a.pending ≡ 0
      → Attempts s a.reader a.format 0 (record { header = Ok (accepted_header f size); sync = sync; next = r })
      → Pending s a (passed a sync) (pends r f size a)

-- so many bytes passed over, a number, and the state
abbrev pub refused : ℕ → Refusal → Audio → Decoded
refused skipped n a = record { answer = AnswerRefused n; state = a; skipped = skipped }

pub data Decodes (s : List ℕ) (memory output : List Float) (a : Audio) : ℕ → Decoded → Type 0 where
  -- "stream above 16,777,216 bytes": "same state"
  eight : longest_stream < length s → Decodes s memory output a 8 (refused 0 LongStream a)
  -- "synthesis memory under 2,048 or output under 2,304": "same state"
  nine : length s ≤ longest_stream → (length memory < memory_length) ⊎ (length output < output_length) → Decodes s memory output a 9 (refused 0 LittleRoom a)
  -- "state out of range": "same state"
  ten : Lent s memory output → in_range a ≡ false → Decodes s memory output a 10 (refused 0 BadState a)
  -- 1 to 6, 13: no header pending, and the attempt gives it: "position moved", "old format kept"; with 1 the position is the same, and no byte
  -- is passed over
  sought : {n : Refusal} {sync : BytePos} {r : Reader} → InOrder s memory output a → a.pending ≡ 0
      → Attempts s a.reader a.format (number_of n) (refusal n sync r) → Decodes s memory output a (number_of n) (refused (passed a sync) n (stands_at r a))
  -- "header pending, fewer bits remain than 8 times its data size": "state as after that header, still pending". So a repeated 7 passes none
  seven : {k : ℕ} {b : Audio} → InOrder s memory output a → Pending s a k b → left s b.reader < 8 * b.pending
      → Decodes s memory output a 7 (refused k CutOff b)
  -- "frame decoded"
  zero : {k : ℕ} {b : Audio} → InOrder s memory output a → Pending s a k b → 8 * b.pending ≤ left s b.reader
      → Decodes s memory output a 0 (framed_of s k b)

-- an attempt by its table, in a state in range
module _ (s : List ℕ) (a : Audio) (short : length s ≤ longest_stream) (within : in_range a ≡ true) where
  rows : TableOf (λ (x : Attempt). header_number x.header) (header_of s a.reader a.format) (Attempts s a.reader a.format)
  rows = attempt_table s a.reader short (ranged a within).near a.format

  attempted : {n : ℕ} {x : Attempt} → Attempts s a.reader a.format n x → attempt_of s a ≡ tried a x
  unfolding attempt_of
  attempted t = ap (tried a) (sym (rows.only t).0)

  -- and the row that it stands in, by its answer
  module _ {b : Audio} (z : a.pending ≡ 0) where
    accepted_row : {k : ℕ} → attempt_of s a ≡ asked k (Ok tt) b → Pending s a k b
    unfolding attempt_of
    accepted_row {k} e = by t.header t.sync t.next rows.holds e
      where
        t : Attempt
        t = header_of s a.reader a.format

        by : (h : Result Accepted Refusal) (c : BytePos) (r : Reader) → Attempts s a.reader a.format (header_number h) (record { header = h; sync = c; next = r })
            → seeking (passed a c) a r h ≡ asked k (Ok tt) b → Pending s a k b
        by (Ok x) c r row e =
            subst (λ (x : Asked). Pending s a x.skipped x.state) e (accepts z row)
        by (Err n) c r row e = absurd (not_known (ap (λ (x : Asked). x.answer) e))

    refused_row : {k : ℕ} {n : Refusal} (P : Asked → Type 0)
        → ((n : Refusal) (c : BytePos) (r : Reader) → Attempts s a.reader a.format (number_of n) (refusal n c r) → P (asked (passed a c) (Err n) (stands_at r a)))
        → attempt_of s a ≡ asked k (Err n) b → P (asked k (Err n) b)
    unfolding attempt_of
    refused_row {k} {n} P row e = by t.header t.sync t.next rows.holds e
      where
        t : Attempt
        t = header_of s a.reader a.format

        by : (h : Result Accepted Refusal) (c : BytePos) (r : Reader) → Attempts s a.reader a.format (header_number h) (record { header = h; sync = c; next = r })
            → seeking (passed a c) a r h ≡ asked k (Err n) b → P (asked k (Err n) b)
        by (Ok x) c r t e = absurd (not_known (sym (ap (λ (x : Asked). x.answer) e)))
        by (Err m) c r t e = subst P e (row m c r t)

module _ (s : List ℕ) (memory output : List Float) (a : Audio) where
  abbrev Before : Asked → Type 0
  Before x = Verdict s (length memory) (length output) a x

  headed : {k : ℕ} {b : Audio} → InOrder s memory output a → Pending s a k b → Heads s a k b
  headed c (waits n) = Heads.waits n
  headed c (accepts z t) = Heads.accepts z (attempted s a c.room.short c.within t)

  pending : {k : ℕ} {b : Audio} → InOrder s memory output a → Heads s a k b → Pending s a k b
  pending c (Heads.waits n) = waits n
  pending c (Heads.accepts z e) = accepted_row s a c.room.short c.within z e

  decode_by : {x : Asked} → Before x → answering s x.skipped x.answer x.state ≡ decode_of s memory output a
  unfolding decode_of
  decode_by v = ap (λ (y : Asked). answering s y.skipped y.answer y.state) (verdict_only s (length memory) (length output) a v)

  decode_only : {n : ℕ} {x : Decoded} → Decodes s memory output a n x → (x ≡ decode_of s memory output a) × (answer_number x.answer ≡ n)
  unfolding framed_of after_of
  decode_only (eight l) = (decode_by (at_once (AtOnce.eight l)), refl)
  decode_only (nine l m) = (decode_by (at_once (AtOnce.nine l m)), refl)
  decode_only (ten l r) = (decode_by (at_once (AtOnce.ten l r)), refl)
  decode_only (sought c z t) = (decode_by (no_header c z (attempted s a c.room.short c.within t)), refl)
  decode_only (seven c h l) = (decode_by (cut_off c (headed c h) l), refl)
  decode_only (zero c h l) = (decode_by (whole c (headed c h) l), refl)

  Stands : Asked → Type 0
  Stands x = let d = answering s x.skipped x.answer x.state in Decodes s memory output a (answer_number d.answer) d

  decode_stands : {x : Asked} → Before x → Stands x
  unfolding Stands framed_of after_of
  decode_stands (at_once (AtOnce.eight l)) = eight l
  decode_stands (at_once (AtOnce.nine l m)) = nine l m
  decode_stands (at_once (AtOnce.ten l r)) = ten l r
  decode_stands (no_header c z e) = refused_row s a c.room.short c.within z Stands (λ n b r t. sought c z t) e
  decode_stands (cut_off c h l) = seven c (pending c h) l
  decode_stands (whole c h l) = zero c (pending c h) l

  pub decode_table : TableOf (λ (x : Decoded). answer_number x.answer) (decode_of s memory output a) (Decodes s memory output a)
  unfolding Stands decode_of
  decode_table = record { holds = decode_stands (verdict_holds s (length memory) (length output) a); only = decode_only }

  -- a header found leaves a state in range
  pub pending_within : {k : ℕ} {b : Audio} → InOrder s memory output a → Pending s a k b → in_range b ≡ true
  pending_within {k} {b} c h = ranged_in_range b (heads_kept c (headed c h)).ranged

  -- a decoded frame's memory and output are that frame's; every other row leaves them (Untouched)
  pub decoded_frame_writes : {k : ℕ} {b : Audio} → InOrder s memory output a → Pending s a k b → 8 * b.pending ≤ left s b.reader
      → (decode_memory s memory output a ≡ framed_memory s b memory) × (decode_output s memory output a ≡ framed_output s b memory output)
  unfolding decode_memory decode_output
  decoded_frame_writes c h l =
      let e = sym (verdict_only s (length memory) (length output) a (whole c (headed c h) l)) in
      (ap (λ (x : Asked). remembering s memory x.answer x.state) e, ap (λ (x : Asked). sounding s memory output x.answer x.state) e)

-- ---- an attempt's answer, for the calls that do no more

module _ (s : List ℕ) (a : Audio) (short : length s ≤ longest_stream) (within : in_range a ≡ true) where
  tried_number : (k : ℕ) (h : Result Accepted Refusal) (r : Reader) → heading_number (seeking k a r h).answer ≡ header_number h
  tried_number k (Ok x) r = refl
  tried_number k (Err n) r = refl

  tried_stands : (Row : ℕ → Asked → Type 0) → ((n : ℕ) (x : Attempt) → Attempts s a.reader a.format n x → Row n (tried a x))
      → Row (heading_number (attempt_of s a).answer) (attempt_of s a)
  unfolding attempt_of
  tried_stands Row f =
      let t = header_of s a.reader a.format in
      subst (λ n. Row n (tried a t)) (sym (tried_number _ t.header t.next))
      (f _ t (rows s a short within).holds)

  tried_only : {n : ℕ} {x : Attempt} → Attempts s a.reader a.format n x
      → (tried a x ≡ attempt_of s a) × (heading_number (tried a x).answer ≡ n)
  tried_only {x = x} t =
      (sym (attempted s a short within t), tried_number _ x.header x.next ∙ ((rows s a short within).only t).1)

-- ---- format: "8, 10, then 0 if a header is known, else 1 to 5 or 0" (01), or 13 (02, E3); "sample rate, kbps and mode, or .. the refusal number" (02, E7)

-- the format in the units of the lister's line
abbrev pub told : Format → Reply
told f = Ok (clip_format (rate_of f.samplerate) (kbps_of f.bitrate) f.mode)

abbrev pub unanswered : ℕ → Refusal → Audio → Replied
unanswered skipped n a = record { answer = Err n; state = a; skipped = skipped }

pub data Asks (s : List ℕ) (a : Audio) : ℕ → Replied → Type 0 where
  -- "same state"; also where a format is known
  eight : longest_stream < length s → Asks s a 8 (unanswered 0 LongStream a)
  ten : length s ≤ longest_stream → in_range a ≡ false → Asks s a 10 (unanswered 0 BadState a)
  -- known since an earlier header: nothing is sought
  known : length s ≤ longest_stream → in_range a ≡ true → (a.format.samplerate ≡ 3 → ⊥) → Asks s a 0 (record { answer = told a.format; state = a; skipped = 0 })
  -- sought and accepted: its header is pending
  accepted : {f : Format} {size : ℕ} {sync : BytePos} {r : Reader} → length s ≤ longest_stream → in_range a ≡ true → a.format.samplerate ≡ 3
      → Attempts s a.reader a.format 0 (record { header = Ok (accepted_header f size); sync = sync; next = r })
      → Asks s a 0 (record { answer = told f; state = pends r f size a; skipped = passed a sync })
  -- sought and refused, 1 to 5 or 13: "position moved"; with 1 it is the same
  sought : {n : Refusal} {sync : BytePos} {r : Reader} → length s ≤ longest_stream → in_range a ≡ true → a.format.samplerate ≡ 3
      → Attempts s a.reader a.format (number_of n) (refusal n sync r) → Asks s a (number_of n) (unanswered (passed a sync) n (stands_at r a))

module _ (s : List ℕ) (a : Audio) where
  Replies : Asked → Type 0
  Replies x = Asks s a (reply_number (replying x).answer) (replying x)

  attempt_replies : length s ≤ longest_stream → in_range a ≡ true → a.format.samplerate ≡ 3 → Replies (attempt_of s a)
  unfolding attempt_of Replies
  attempt_replies l w e = let t = header_of s a.reader a.format in by t.header t.sync t.next (rows s a l w).holds
    where
      by : (h : Result Accepted Refusal) (b : BytePos) (r : Reader) → Attempts s a.reader a.format (header_number h) (record { header = h; sync = b; next = r })
          → Replies (seeking (passed a b) a r h)
      by (Ok x) b r row = accepted l w e row
      by (Err n) b r row = sought l w e row

  question_only : {n : ℕ} {x : Replied} → Asks s a n x → (x ≡ format_of s a) × (reply_number x.answer ≡ n)
  unfolding format_of known_of at_once_of
  question_only (eight l) = (simp (lt-ltb _ _ l), refl)
  question_only (ten l w) = (simp (le-ltb _ _ l, w), refl)
  question_only (known l w e) = (simp (le-ltb _ _ l, w, ne_eqb _ _ e), refl)
  question_only (accepted l w e t) = (simp (le-ltb _ _ l, w, eq-eqb _ _ e) (ap replying (sym (attempted s a l w t))), refl)
  question_only (sought l w e t) = (simp (le-ltb _ _ l, w, eq-eqb _ _ e) (ap replying (sym (attempted s a l w t))), refl)

  pub question_table : TableOf (λ (x : Replied). reply_number x.answer) (format_of s a) (Asks s a)
  unfolding format_of Replies
  question_table = record { holds = by_asking s a Replies eight ten known attempt_replies; only = question_only }

question_row : {s : List ℕ} {a : Audio} {n : ℕ} {x : Replied} → Asks s a n x → T (first_gives n) ⊎ ((n ≡ 8) ⊎ (n ≡ 10))
question_row (eight l) = inr (inl refl)
question_row (ten l w) = inr (inr refl)
question_row (known l w e) = inl tt
question_row (accepted l w e t) = inl tt
question_row (sought l w e t) = inl (first_number e t)

pub question_gives : (s : List ℕ) (a : Audio) → let n = reply_number (format_of s a).answer in T (first_gives n) ⊎ ((n ≡ 8) ⊎ (n ≡ 10))
question_gives s a = question_row (question_table s a).holds

-- ---- new: "it can give 0 to 5, 8 or 9 (memory only)"; 02, E3: "opening can give it [13], just as 2 to 5"

pub data Opens (c : Reading) (s : List ℕ) (memory : List Float) : ℕ → Asked → Type 0 where
  eight : longest_stream < length s → Opens c s memory 8 (asked 0 (Err LongStream) (fresh c))
  nine : length s ≤ longest_stream → length memory < memory_length → Opens c s memory 9 (asked 0 (Err LittleRoom) (fresh c))
  sought : {n : ℕ} {x : Attempt} → length s ≤ longest_stream → memory_length ≤ length memory → Attempts s (fresh c).reader (fresh c).format n x
      → Opens c s memory n (seeking (passed (fresh c) x.sync) (fresh c) x.next x.header)

pub open_table : (c : Reading) (s : List ℕ) (memory : List Float) → TableOf (λ (x : Asked). heading_number x.answer) (open_of c s memory) (Opens c s memory)
unfolding open_of no_room_of
open_table c s memory = record { holds = stands; only = only }
  where
    Stands : Asked → Type 0
    Stands x = Opens c s memory (heading_number x.answer) x

    stands : Stands (open_of c s memory)
    stands =
        by_opening c s memory Stands eight nine
        (λ l m. tried_stands s (fresh c) l (fresh_in_range c) (Opens c s memory) (λ _ _ t. sought l m t))

    only : {n : ℕ} {x : Asked} → Opens c s memory n x → (x ≡ open_of c s memory) × (heading_number x.answer ≡ n)
    only (eight l) = (simp (lt-ltb _ _ l), refl)
    only (nine l m) = (simp (le-ltb _ _ l, lt-ltb _ _ m), refl)
    only (sought l m t) = let o = tried_only s (fresh c) l (fresh_in_range c) t in (simp (le-ltb _ _ l, le-ltb _ _ m) o.0, o.1)

opening_row : {c : Reading} {s : List ℕ} {memory : List Float} {n : ℕ} {x : Asked} → Opens c s memory n x → T (first_gives n) ⊎ ((n ≡ 8) ⊎ (n ≡ 9))
unfolding fresh
opening_row (eight l) = inr (inl refl)
opening_row (nine l m) = inr (inr refl)
opening_row (sought l m t) = inl (first_number refl t)

pub opening_gives : (c : Reading) (s : List ℕ) (memory : List Float) → let n = heading_number (open_of c s memory).answer in T (first_gives n) ⊎ ((n ≡ 8) ⊎ (n ≡ 9))
opening_gives c s memory = opening_row (open_table c s memory).holds

-- ---- 10 is never given by a decoder with a past, nor by an opening

decode_ten : {s : List ℕ} {memory output : List Float} {a : Audio} {k : ℕ} {x : Decoded} → Decodes s memory output a k x → k ≡ 10 → in_range a ≡ false
decode_ten (eight l) e = absurd (omega arith)
decode_ten (nine l m) e = absurd (omega arith)
decode_ten (ten l r) e = r
decode_ten (sought c z t) e = absurd (subst (λ n. T (attempt_gives n)) e (attempt_number t))
decode_ten (seven c h l) e = absurd (omega arith)
decode_ten (zero c h l) e = absurd (omega arith)

question_ten : {s : List ℕ} {a : Audio} {k : ℕ} {x : Replied} → Asks s a k x → k ≡ 10 → in_range a ≡ false
question_ten (eight l) e = absurd (omega arith)
question_ten (ten l w) e = w
question_ten (known l w k) e = absurd (omega arith)
question_ten (accepted l w k t) e = absurd (omega arith)
question_ten (sought l w k t) e = absurd (subst (λ n. T (attempt_gives n)) e (attempt_number t))

opening_ten : {c : Reading} {s : List ℕ} {m : List Float} {x : Asked} → Opens c s m 10 x → ⊥
opening_ten (sought l k t) = attempt_number t

module _ {a : Audio} {m : List Float} (past : Past a m) where
  pub ten_is_never_given : (s : List ℕ) (memory output : List Float) → answer_number (decode_of s memory output a).answer ≡ 10 → ⊥
  ten_is_never_given s memory output e =
      never (sound_state_in_range past) (decode_ten (decode_table s memory output a).holds e)

  pub question_never_gives_ten : (s : List ℕ) → reply_number (format_of s a).answer ≡ 10 → ⊥
  question_never_gives_ten s e = never (sound_state_in_range past) (question_ten (question_table s a).holds e)

pub opening_never_gives_ten : (c : Reading) (s : List ℕ) (m : List Float) → heading_number (open_of c s m).answer ≡ 10 → ⊥
opening_never_gives_ten c s m e = opening_ten ((exactly (open_table c s m) 10 _).0 (refl, e))
