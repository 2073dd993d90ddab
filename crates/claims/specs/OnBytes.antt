-- Since opening a pending header ends on a byte, so a frame's first allocation bit is a byte's first, and the byte that the lister shows
-- is that one. From 01, the lister: "byte after header and check word". Assumes nothing.
use Rattle.std.specs.Prelude.{ℕ, ◌+◌, ◌-◌, ◌*◌, ◌/◌, ◌%◌, ◌≤◌, ◌<◌, ◌≡◌, Bool, cond, ◌&&◌, ◌||◌, List, ◌⊎◌, Float, Result, Ok, Err, Some, None, Option}
use Rattle.std.proofs.Math.Path.{refl, ap}
use Rattle.std.proofs.Common.{subst, inl, inr}
use Rattle.std.proofs.Math.Bool.{true, false}
use native.Mathlib.Omega.{arith}
use Rattle.std.proofs.Math.Dec.{eqb, ltb}
use Rattle.std.proofs.Math.ListN.{length}
use borrow.Author.Tests.{lt-ltb, le-ltb, eqb-true, ltb-true, ltb-false}
use Rattle.ground.specs.Tests.{by_test}
use Rattle.ground.specs.First.{first_within}
use Rattle.buffer.specs.Bits.{longest_stream, farthest_bit, bits_value, other_at, past_of, stop_of}
use Rattle.buffer.specs.Calls.{bit_of, reader_at, left, read_of, field_of, has_of, skip_bytes_of, search_of}
use Rattle.buffer.specs.Laws.{Enough, field_whole, field_read, field_moves}
use Rattle.buffer.specs.declared.BytePos.{BytePos}
use Rattle.buffer.specs.declared.Reader.{Reader}
use Rattle.grammar.specs.Reads.{Reads, done, ask, ◌>>=◌, Taken, run}
use Rattle.header.specs.Header.{by_search, seek_of, sync_of, start_of, by_start, header_of, accepted_header, unless_refused}
use Rattle.header.specs.Header.{ident_of, rates_of, mode_of, check_of, bound_of, bound_by, size_of, after_mode_of, rest_of, by_rates, by_ident, fields_of}
use Rattle.header.specs.Moves.{few_bits_stay}
use Rattle.header.specs.declared.Rates.{Rates}
use Rattle.header.specs.declared.Format.{Format}
use Rattle.readings.specs.declared.Reading.{Reading}
use Rattle.tables.specs.Standard.{kbps_of, rate_of}
use Rattle.state.specs.State.{fresh}
use Rattle.state.specs.StateLaws.{Ranged, ranged}
use Rattle.state.specs.declared.Audio.{Audio}
use Rattle.verdict.specs.Verdict.{seeking, attempt_of, ready_of, Heading, Asked}
use Rattle.verdict.specs.VerdictLaws.{Heads, waits, accepts, Verdict, at_once, no_header, cut_off, whole, verdict_holds, verdict_kept}
use Rattle.audio.specs.Calls.{answering, after_of, framed_of, decode_of}
use Rattle.audio.specs.CallsLaws.{question_leaves, by_opening}
use Rattle.audio.specs.declared.Answer.{Answer}
use Rattle.listing.specs.declared.Line.TheVariants.{Frame}
use Rattle.listing.specs.Lines.{byte_before, byte_position, line_by, next_of}
use Rattle.past.specs.Pasts.{Past, opened, asked as has_asked, decoded, refused, relent}
use Rattle.past.specs.Calls.{Call, outcome, first_bit, Accepts, verdict_of, accepted_known}
use Rattle.past.specs.Sound.{sound_state_in_range}
use Rattle.claims.specs.Widths.{aligned_after_the_bits}
use Rattle.claims.specs.Lister.{line_at}
use Rattle.refusal.specs.declared.Refusal.{Refusal}
use Rattle.header.specs.declared.Accepted.{Accepted}
use Rattle.header.specs.declared.Unsynced.{Unsynced}
use Rattle.refusal.specs.declared.Refusal.TheVariants.{OtherLayer, NoBitRate, NoSampleRate}

-- where an accepted header ends
abbrev OnByte : Result Accepted Refusal → Reader → Type 0
OnByte (Ok x) r = r.at.0 % 8 ≡ 0
OnByte (Err n) r = Unit

-- ---- a field moves by its width where its bits remain, and else stays at 0

module _ (s : List ℕ) (short : length s ≤ longest_stream) where
  field_cut : (r : Reader) (n : ℕ) → n ≤ 32 → r.at.0 ≤ 8 * length s → 8 * length s < r.at.0 + n → field_of s r n ≡ record { value = 0; next = r }
  unfolding field_of read_of
  field_cut r n small in-stream few =
      let near : r.at.0 ≤ farthest_bit = omega arith in
      simp (le-ltb _ _ short, le-ltb _ _ near, le-ltb _ _ small, lt-ltb (left s r) n (omega arith))

  asks : {A : Type 0} (P : Taken A → Type 0) (n : ℕ) (k : ℕ → Reads A) (r : Reader) → n ≤ 32 → r.at.0 ≤ 8 * length s
      → ((v : ℕ) → r.at.0 + n ≤ 8 * length s → P (run (k v) s (reader_at (r.at.0 + n))))
      → (8 * length s < r.at.0 + n → P (run (k 0) s r)) → P (run (ask n k) s r)
  unfolding run
  asks {A} P n k r small in-stream there cut = go (ltb (8 * length s) (r.at.0 + n)) refl
    where
      near : r.at.0 ≤ farthest_bit
      near = omega arith

      go : (t : Bool) → ltb (8 * length s) (r.at.0 + n) ≡ t → P (run (k (field_of s r n).value) s (field_of s r n).next)
      go true t = let l = ltb-true (8 * length s) (r.at.0 + n) t in rw (field_cut r n small in-stream l) (cut l)
      go false t =
          let l = ltb-false (8 * length s) (r.at.0 + n) t in
          rw (field_whole s r n (record { short = short; near = near; enough = omega arith }) small) (there (bits_value s r.at.0 n) l)

  -- ---- the fields, from three bits into the second byte on

  abbrev Ends : Taken (Result Accepted Refusal) → Type 0
  Ends x = OnByte x.value x.next

  -- the check word, behind a byte's end: cut off, reading stays there
  check_ends : (check : Bool) (bound : ℕ) (h : ℕ → Result Accepted Refusal) (r : Reader) → r.at.0 % 8 ≡ 0 → r.at.0 ≤ 8 * length s
      → ((q : Reader) → q.at.0 % 8 ≡ 0 → OnByte (h bound) q) → Ends (run ((check_of check >>= λ _. done bound) >>= λ x. done (h x)) s r)
  unfolding run check_of ◌>>=◌
  check_ends true bound h r e l f =
      asks Ends 16 (λ _. done (h bound)) r (omega arith) l (λ v m. f (reader_at (r.at.0 + 16)) (omega arith)) (λ m. f r e)
  check_ends false bound h r e l f = f r e

  -- extension and flags: the rest of the fourth byte, or nothing of it
  bound_ends : (mode : ℕ) (check : Bool) (h : ℕ → Result Accepted Refusal) (r : Reader) → ((x : ℕ) (q : Reader) → q.at.0 % 8 ≡ 0 → OnByte (h x) q)
      → ((r.at.0 % 8 ≡ 2) × (r.at.0 + 6 ≤ 8 * length s)) ⊎ (r.at.0 ≡ 8 * length s)
      → Ends (run (bound_of mode check >>= λ x. done (h x)) s r)
  unfolding bound_of ◌>>=◌
  bound_ends mode check h r f (inl (e, l)) =
      asks Ends 2 _ r (omega arith) (omega arith)
      (λ v m. asks Ends 4 _ (reader_at (r.at.0 + 2)) (omega arith) (omega arith)
      (λ _ k. check_ends check (bound_by mode v) h (reader_at (r.at.0 + 2 + 4)) (omega arith) (omega arith) (f (bound_by mode v)))
      (λ k. absurd (omega arith)))
      (λ m. absurd (omega arith))
  bound_ends mode check h r f (inr e) =
      asks Ends 2 _ r (omega arith) (omega arith) (λ v m. absurd (omega arith))
      (λ m. asks Ends 4 _ r (omega arith) (omega arith) (λ v k. absurd (omega arith))
      (λ k. check_ends check (bound_by mode 0) h r (omega arith) (omega arith) (f (bound_by mode 0))))

  mode_ends : (known : Format) (check : Bool) (b f p mode : ℕ) (r : Reader)
      → ((r.at.0 % 8 ≡ 2) × (r.at.0 + 6 ≤ 8 * length s)) ⊎ (r.at.0 ≡ 8 * length s)
      → Ends (run (unless_refused (after_mode_of known b f mode)
      (bound_of mode check >>= λ bound.
      done (Ok (accepted_header (record { reading = known.reading; samplerate = f; bitrate = b; mode = mode; bound = bound }) (size_of b f p check))))) s r)
  unfolding run
  mode_ends known check b f p mode r place = go (after_mode_of known b f mode) _ (bound_ends mode check _ r (λ _ _ z. z) place)
    where
      go : (o : Option Refusal) (more : Reads (Result Accepted Refusal)) → Ends (run more s r) → Ends (run (unless_refused o more) s r)
      go (Some n) more e = tt
      go None more e = e

  -- private bit and mode: the last bit of the third byte, which is there, and the first two of the fourth
  rest_ends : (known : Format) (check : Bool) (b f p : ℕ) (r : Reader) → r.at.0 % 8 ≡ 7 → r.at.0 + 1 ≤ 8 * length s
      → Ends (run (rest_of known check b f p) s r)
  unfolding rest_of mode_of ◌>>=◌
  rest_ends known check b f p r e l =
      asks Ends 1 _ r (omega arith) (omega arith)
      (λ _ m. asks Ends 2 _ (reader_at (r.at.0 + 1)) (omega arith) (omega arith)
      (λ mode k. mode_ends known check b f p mode (reader_at (r.at.0 + 1 + 2)) (inl (omega arith, omega arith)))
      (λ k. mode_ends known check b f p 0 (reader_at (r.at.0 + 1)) (inr (omega arith))))
      (λ m. absurd (omega arith))

  refused_ends : (n : Refusal) (r : Reader) → Ends (run (done (Err n)) s r)
  unfolding run
  refused_ends n r = tt

  -- bit rate, sample rate and padding: the third byte but for its last bit, or nothing of it, which gives 4
  rates_end : (known : Format) (check : Bool) (r : Reader) → r.at.0 % 8 ≡ 0 → r.at.0 ≤ 8 * length s → Ends (run (rates_of >>= by_rates known check) s r)
  unfolding rates_of ◌>>=◌
  rates_end known check r e l =
      asks Ends 4 _ r (omega arith) l
      (λ b m. by_test (λ (x : Reads (Result Rates Refusal)). Ends (run (x >>= by_rates known check) s (reader_at (r.at.0 + 4)))) (eqb b 0 || eqb b 15) _ _
      (λ _. refused_ends NoBitRate (reader_at (r.at.0 + 4)))
      (λ _. asks Ends 2 _ (reader_at (r.at.0 + 4)) (omega arith) (omega arith)
      (λ f k. by_test (λ (x : Reads (Result Rates Refusal)). Ends (run (x >>= by_rates known check) s (reader_at (r.at.0 + 4 + 2)))) (eqb f 3) _ _
      (λ _. refused_ends NoSampleRate (reader_at (r.at.0 + 4 + 2)))
      (λ _. asks Ends 1 _ (reader_at (r.at.0 + 4 + 2)) (omega arith) (omega arith)
      (λ p j. rest_ends known check (b - 1) f p (reader_at (r.at.0 + 4 + 2 + 1)) (omega arith) (omega arith)) (λ j. absurd (omega arith))))
      (λ k. absurd (omega arith))))
      (λ m. refused_ends NoBitRate r)

  -- version, layer and protection: the rest of the second byte, which is there
  ident_ends : (known : Format) (i : Result Bool Refusal) (r : Reader) → r.at.0 % 8 ≡ 0 → r.at.0 ≤ 8 * length s → Ends (run (by_ident known i) s r)
  ident_ends known (Ok check) r e l = rates_end known check r e l
  ident_ends known (Err n) r e l = refused_ends n r

  fields_end : (known : Format) (r : Reader) → r.at.0 % 8 ≡ 3 → r.at.0 + 5 ≤ 8 * length s → Ends (run (fields_of known) s r)
  unfolding fields_of ident_of ◌>>=◌
  fields_end known r e l =
      asks Ends 2 _ r (omega arith) (omega arith)
      (λ version m. asks Ends 2 _ (reader_at (r.at.0 + 2)) (omega arith) (omega arith)
      (λ layer k. asks Ends 1 _ (reader_at (r.at.0 + 2 + 2)) (omega arith) (omega arith)
      (λ protection j. ident_ends known (cond (eqb version 3 && eqb layer 2) (Ok (eqb protection 0)) (Err OtherLayer))
      (reader_at (r.at.0 + 2 + 2 + 1)) (omega arith) (omega arith))
      (λ j. absurd (omega arith)))
      (λ k. absurd (omega arith)))
      (λ m. absurd (omega arith))

  -- ---- where the fields begin

  abbrev Begins : Result (Taken BytePos) Unsynced → Type 0
  Begins (Ok x) = (x.next.at.0 % 8 ≡ 3) × (x.next.at.0 + 5 ≤ 8 * length s)
  Begins (Err e) = Unit

  seek_begins : (r : Reader) → r.at.0 ≤ 8 * length s → Begins (seek_of s r)
  unfolding seek_of search_of
  seek_begins r l =
      let near : r.at.0 ≤ farthest_bit = omega arith in
      let stop = stop_of s (r.at.0 / 8) in
      simp (le-ltb _ _ short, le-ltb _ _ near)
      (by_test (λ y. Begins (by_search r y)) (ltb stop (length s - 1)) _ _
      (λ t. let m = ltb-true stop (length s - 1) t in (omega arith, omega arith)) (λ _. tt))

  sync_begins : (p : ℕ) → p ≤ length s → Begins (sync_of s (reader_at (p * 8)))
  unfolding sync_of
  sync_begins p l =
      let f = field_of s (reader_at (p * 8)) 11 in
      by_test Begins (eqb f.value 2047) _ _
      (λ e. let g = field_read s (reader_at (p * 8)) 11 (omega arith) (ones f.value (eqb-true _ _ e)) in (omega arith, omega arith))
      (λ _. let m = field_moves s (reader_at (p * 8)) 11 in seek_begins f.next (omega arith))
    where
      ones : (v : ℕ) → v ≡ 2047 → v ≡ 0 → ⊥
      ones v e z = omega arith

  start_begins : (r : Reader) → Enough s r 48 → Begins (start_of s r)
  unfolding start_of has_of skip_bytes_of
  start_begins r h =
      let from = (r.at.0 + 7) / 8 in
      let w = first_within (other_at s 0) (length s - from) from in
      simp (le-ltb _ _ h.short, le-ltb _ _ h.near, le-ltb _ _ h.enough) (sync_begins (past_of s 0 from) (omega arith))

  begun_ends : (known : Format) (x : Result (Taken BytePos) Unsynced) → Begins x → OnByte (by_start s known x).header (by_start s known x).next
  begun_ends known (Ok x) h = fields_end known x.next h.0 h.1
  begun_ends known (Err e) h = tt

  -- an accepted header ends on a byte
  header_on_byte : (r : Reader) (known : Format) → r.at.0 ≤ farthest_bit → OnByte (header_of s r known).header (header_of s r known).next
  unfolding header_of
  header_on_byte r known near = go (ltb (left s r) 48) refl
    where
      go : (t : Bool) → ltb (left s r) 48 ≡ t → OnByte (header_of s r known).header (header_of s r known).next
      go true t = rw (few_bits_stay s r known short near (ltb-true (left s r) 48 t)) tt
      go false t = begun_ends known (start_of s r) (start_begins r (record { short = short; near = near; enough = ltb-false (left s r) 48 t }))

-- ---- since opening

-- a pending header's data begin with a byte
abbrev pub Stands : Audio → Type 0
Stands a = (a.pending ≡ 0 → ⊥) → a.reader.at.0 % 8 ≡ 0

attempt_stands : (s : List ℕ) → length s ≤ longest_stream → (a : Audio) → a.reader.at.0 ≤ farthest_bit → a.pending ≡ 0 → Stands (attempt_of s a).state
unfolding attempt_of
attempt_stands s short a near none =
    let t = header_of s a.reader a.format in go _ t.header t.next (header_on_byte s short a.reader a.format near)
  where
    go : (k : ℕ) (h : Result Accepted Refusal) (r : Reader) → OnByte h r → Stands (seeking k a r h).state
    go k (Ok x) r e = λ _. e
    go k (Err n) r e = λ some. absurd (some none)

module _ {s : List ℕ} {a : Audio} (w : Ranged a) (h : Stands a) where
  heads_stand : {k : ℕ} {b : Audio} → length s ≤ longest_stream → Heads s a k b → Stands b
  heads_stand short (waits n) = h
  heads_stand short (accepts z e) = subst (λ (x : Asked). Stands x.state) e (attempt_stands s short a w.near z)

  verdict_stands : {memory output : ℕ} {x : Asked} → Verdict s memory output a x → Stands x.state
  verdict_stands (at_once _) = h
  verdict_stands (no_header c z e) = subst (λ (x : Asked). Stands x.state) e (attempt_stands s c.room.short a w.near z)
  verdict_stands (cut_off c d l) = heads_stand c.room.short d
  verdict_stands (whole c d l) = heads_stand c.room.short d

decode_stands : (s : List ℕ) (m o : List Float) (a : Audio) → Ranged a → Stands a → Stands (decode_of s m o a).state
unfolding decode_of framed_of after_of
decode_stands s m o a w h = go r.answer refl
  where
    r : Asked
    r = ready_of s (length m) (length o) a

    go : (y : Heading) → r.answer ≡ y → Stands (answering s r.skipped y r.state).state
    go (Ok _) e = λ some. absurd (some refl)
    go (Err n) e = verdict_stands w h (verdict_holds s (length m) (length o) a)

fresh_stands : (c : Reading) → Stands (fresh c)
unfolding fresh
fresh_stands c = λ some. absurd (some refl)

pub since_opening : {a : Audio} {m : List Float} → Past a m → Stands a
unfolding fresh
since_opening (opened c s m l k) =
    by_opening c s m (λ (x : Asked). Stands x.state) (λ _. fresh_stands c) (λ _ _. fresh_stands c)
    (λ short _. attempt_stands s short (fresh c) (omega arith) refl)
since_opening (has_asked {a} p s) =
    let h = since_opening p in
    question_leaves s a Stands h
    (λ short r z. attempt_stands s short a (ranged a r).near ((ranged a r).known z))
since_opening (decoded {a} {m} p s o) = decode_stands s m o a (ranged a (sound_state_in_range p)) (since_opening p)
since_opening (refused {a} p s other o n e) = decode_stands s other o a (ranged a (sound_state_in_range p)) (since_opening p)
since_opening (relent p more) = since_opening p

module _ {c : Call} (past : Past c.state c.memory) (ok : Accepts c) where
  -- a frame's first allocation bit is a byte's first
  pub frame_on_a_byte : first_bit c % 8 ≡ 0
  frame_on_a_byte =
      let w = ranged c.state (sound_state_in_range past) in
      verdict_stands w (since_opening past) (verdict_of c) ((verdict_kept w (verdict_of c)).some (accepted_known c ok))

  -- and the byte in the frame's line is that one: "byte after header and check word"
  pub listed_where_it_begins : (carried : ℕ) → (at : BytePos) × ((bit_of at).0 ≡ first_bit c) × (let f = (outcome c).state.format in
      line_at carried c
      ≡ Frame c.state.frames at (rate_of f.samplerate) (kbps_of f.bitrate) f.mode ok.bits ok.time (carried + (outcome c).skipped))
  unfolding next_of
  listed_where_it_begins carried = (
    byte_before (byte_position (outcome c).state) ok.bits,
    omega (arith, aligned_after_the_bits ok, frame_on_a_byte),
    ap (λ (x : Answer). line_by c.state.frames (carried + (outcome c).skipped) x (outcome c).state) ok.answer,
  )
