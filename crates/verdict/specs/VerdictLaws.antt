-- The verdict walked once: each test with what it found, and the state that it leaves. Whoever asks what comes before a frame cites
-- `verdict-holds` or `verdict-only`. From 01, "Numbers a call can give". Assumes nothing.
use Prim.Native.Nat.{ℕ, ◌+◌, ◌*◌, ◌≤◌, ◌<◌}
use Rattle.std.specs.Prelude.{◌≡◌, Bool, List, ◌⊎◌, eqb, length, Option, Some, None, Result, Ok, Err}
use Rattle.std.proofs.Math.Path.{refl, sym}
use Rattle.std.proofs.Common.{ap, subst, ◌∙◌, inl, inr, add-zero, zero-add, arith}
use Rattle.std.proofs.Math.Bool.{true, false}
use Rattle.std.proofs.Math.Dec.{ltb}
use Rattle.std.proofs.lemmas.Option.{none-some}
use borrow.Author.Tests.{lt-ltb, le-ltb, eq-eqb, ne_eqb, eqb-true, eqb-false, ltb-true, ltb-false}
use Rattle.ground.specs.Tests.{by_test}
use Rattle.synthesis.specs.Slots.{memory_length, output_length}
use Rattle.buffer.specs.Bits.{farthest_bit, longest_stream}
use Rattle.buffer.specs.Calls.{has_of, left}
use Rattle.refusal.specs.declared.Refusal.{Refusal}
use Rattle.refusal.specs.declared.Refusal.TheVariants.{NoHeader, CutOff, LongStream, LittleRoom, BadState}
use Rattle.buffer.specs.declared.Reader.{Reader}
use Rattle.readings.specs.Pairs.{barred}
use Rattle.header.specs.Header.{header_of, most_data, passed_by}
use Rattle.header.specs.Accepted.{Extended, Good, GoodHeader, header_good}
use Rattle.header.specs.Moves.{attempt_moves, few_bits_stay}
use Rattle.header.specs.Passed.{sync_within}
use Rattle.header.specs.declared.Accepted.{Accepted}
use Rattle.clock.specs.Clock.{start_time_of}
use Rattle.state.specs.State.{in_range}
use Rattle.state.specs.StateLaws.{Ranged, ranged, ranged_in_range, stands_ranged, pends_ranged, same_start}
use Rattle.state.specs.declared.Audio.{Audio}
use Rattle.verdict.specs.Verdict.{Heading, Asked, asked, seeking, tried, attempt_of, headed_of, holding, enough_of, going_on, pended, at_once_of, unless_at_once, ready_of, knowing, known_of}

-- ---- a header attempt leaves frame count and ring position

pub record Stays (a b : Audio) : Type 0 where
  pub frames : b.frames ≡ a.frames
  pub ring : b.ring ≡ a.ring

pub stays : (a : Audio) → Stays a a
stays a = record { frames = refl; ring = refl }

pub attempt_keeps : (s : List ℕ) (a : Audio) → Stays a (attempt_of s a).state
unfolding attempt_of
attempt_keeps s a = let t = header_of s a.reader a.format in go _ t.next t.header
  where
    go : (k : ℕ) (r : Reader) (h : Result Accepted Refusal) → Stays a (seeking k a r h).state
    go k r (Ok x) = record { frames = refl; ring = refl }
    go k r (Err n) = record { frames = refl; ring = refl }

-- ---- and keeps a state in range so, with a header pending if one was found

-- what a decoder's states hold beside being in range: a saved state may not
pub record Sound (a : Audio) : Type 0 where
  -- the bound of a pending header, which is not yet cut, is that of its mode and of a mode extension
  pub extension : (a.pending ≡ 0 → ⊥) → Extended a.format.mode a.format.bound
  pub time : a.time ≡ start_time_of a.frames a.format.samplerate
  -- 02, E3: the bit rate of a known format is none that its reading refuses in its mode
  pub pair : (a.format.samplerate ≡ 3 → ⊥) → barred a.format.reading a.format.bitrate a.format.mode ≡ false

pub record Kept (a : Audio) (x : Asked) : Type 0 where
  pub ranged : Ranged x.state
  pub sound : Sound a → Sound x.state
  pub frames : x.state.frames ≡ a.frames
  pub reading : x.state.format.reading ≡ a.format.reading
  pub some : x.answer ≡ Ok tt → x.state.pending ≡ 0 → ⊥

pub refused_kept : {a : Audio} (k : ℕ) (n : Refusal) (b : Audio) → Ranged b → (Sound a → Sound b) → b.frames ≡ a.frames
    → b.format.reading ≡ a.format.reading → Kept a (asked k (Err n) b)
refused_kept k n b r w f c =
    record { ranged = r; sound = w; frames = f; reading = c; some = λ e. absurd (let z : ◌≡◌ {A = ℕ} 0 1 = cc in omega arith) }

module _ (k : ℕ) (a : Audio) (r : Reader) (w : Ranged a) (near : r.at.0 ≤ farthest_bit) (few : a.frames * 16 ≤ r.at.0) where
  moved : (n : Refusal) → Kept a (seeking k a r (Err n))
  moved n = refused_kept k n _ (stands_ranged a r w near few) (λ h. record { extension = h.extension; time = h.time; pair = h.pair }) refl refl

  accepted : (x : Accepted) → Good a.format x.format x.size → Kept a (seeking k a r (Ok x))
  accepted x g =
      record {
        ranged = pends_ranged a r w near few x.format x.size g;
        sound =
            λ h. record { extension = λ _. g.extension; time = h.time ∙ same_start a w x.format x.size g; pair = λ _. rw g.reading g.pair };
        frames = refl;
        reading = g.reading;
        some = λ _ e. omega arith;
      }

  sought : (h : Result Accepted Refusal) → GoodHeader a.format h → Kept a (seeking k a r h)
  sought (Ok x) g = accepted x g
  sought (Err n) g = moved n

module _ (s : List ℕ) (short : length s ≤ longest_stream) (a : Audio) (w : Ranged a) where
  pub attempt_kept : Kept a (attempt_of s a)
  unfolding attempt_of
  attempt_kept = go (ltb (left s a.reader) 48) refl
    where
      go : (t : Bool) → ltb (left s a.reader) 48 ≡ t → Kept a (tried a (header_of s a.reader a.format))
      go true e =
          rw (few_bits_stay s a.reader a.format short w.near (ltb-true _ _ e)) (moved _ a a.reader w w.near w.few NoHeader)
      go false e =
          let few = w.few in
          let m = attempt_moves s a.reader a.format (record { short = short; near = w.near; enough = ltb-false _ _ e }) in
          let t = header_of s a.reader a.format in
          sought _ a t.next w (omega arith) (omega arith) t.header (header_good s a.reader a.format)

  pub headed_kept : Kept a (headed_of s a)
  unfolding headed_of
  headed_kept =
      by_test (Kept a) (eqb a.pending 0) _ _ (λ _. attempt_kept)
      (λ e. record { ranged = w; sound = λ h. h; frames = refl; reading = refl; some = λ _. eqb-false _ _ e })

-- ---- the walk

-- neither 8 nor 9
pub record Room (s : List ℕ) (memory output : ℕ) : Type 0 where
  pub short : length s ≤ longest_stream
  pub memory_long : memory_length ≤ memory
  pub output_long : output_length ≤ output

-- nor 10
pub record Called (s : List ℕ) (memory output : ℕ) (a : Audio) : Type 0 where
  pub room : Room s memory output
  pub within : in_range a ≡ true

-- 8, 9, 10: nothing is read
pub data AtOnce (s : List ℕ) (memory output : ℕ) (a : Audio) : Refusal → Type 0 where
  eight : longest_stream < length s → AtOnce s memory output a LongStream
  nine : length s ≤ longest_stream → (memory < memory_length) ⊎ (output < output_length) → AtOnce s memory output a LittleRoom
  ten : Room s memory output → in_range a ≡ false → AtOnce s memory output a BadState

-- the state with a header pending, and the bytes passed over: the one that waits, or the one that an attempt accepts
pub data Heads (s : List ℕ) (a : Audio) : ℕ → Audio → Type 0 where
  waits : (a.pending ≡ 0 → ⊥) → Heads s a 0 a
  accepts : {k : ℕ} {b : Audio} → a.pending ≡ 0 → attempt_of s a ≡ asked k (Ok tt) b → Heads s a k b

-- how the verdict ends: refused at once; refused with 1 to 6 or 13 as a header is sought; with 7 after the header; or with all that a frame
-- asks for
pub data Verdict (s : List ℕ) (memory output : ℕ) (a : Audio) : Asked → Type 0 where
  at_once : {n : Refusal} → AtOnce s memory output a n → Verdict s memory output a (asked 0 (Err n) a)
  no_header : {k : ℕ} {n : Refusal} {b : Audio} → Called s memory output a → a.pending ≡ 0 → attempt_of s a ≡ asked k (Err n) b
      → Verdict s memory output a (asked k (Err n) b)
  cut_off : {k : ℕ} {b : Audio} → Called s memory output a → Heads s a k b → left s b.reader < 8 * b.pending
      → Verdict s memory output a (asked k (Err CutOff) b)
  whole : {k : ℕ} {b : Audio} → Called s memory output a → Heads s a k b → 8 * b.pending ≤ left s b.reader
      → Verdict s memory output a (asked k (Ok tt) b)

module _ {s : List ℕ} {memory output : ℕ} {a : Audio} (c : Called s memory output a) where
  headed : {k : ℕ} {b : Audio} → Heads s a k b → headed_of s a ≡ asked k (Ok tt) b
  unfolding headed_of
  headed (waits n) = simp (ne_eqb _ _ n)
  headed (accepts z e) = simp (eq-eqb _ _ z) e

  pub heads_kept : {k : ℕ} {b : Audio} → Heads s a k b → Kept a (asked k (Ok tt) b)
  heads_kept h = subst (Kept a) (headed h) (headed_kept s c.room.short a (ranged a c.within))

  -- the data of a header, in a state in range
  module _ {k : ℕ} {b : Audio} (h : Heads s a k b) where
    near : b.reader.at.0 ≤ farthest_bit
    near = (heads_kept h).ranged.near

    short_of_data : left s b.reader < 8 * b.pending → enough_of s k b ≡ asked k (Err CutOff) b
    unfolding enough_of has_of
    short_of_data l = simp (le-ltb _ _ c.room.short, le-ltb _ _ near, lt-ltb _ _ l)

    has_data : 8 * b.pending ≤ left s b.reader → enough_of s k b ≡ asked k (Ok tt) b
    unfolding enough_of has_of
    has_data l = simp (le-ltb _ _ c.room.short, le-ltb _ _ near, le-ltb _ _ l)

    after_header : Verdict s memory output a (enough_of s k b)
    after_header = go (ltb (left s b.reader) (8 * b.pending)) refl
      where
        go : (t : Bool) → ltb (left s b.reader) (8 * b.pending) ≡ t → Verdict s memory output a (enough_of s k b)
        go true e = rw (short_of_data (ltb-true _ _ e)) (cut_off c h (ltb-true _ _ e))
        go false e = rw (has_data (ltb-false _ _ e)) (whole c h (ltb-false _ _ e))

  called_verdict : Verdict s memory output a (pended s (headed_of s a))
  unfolding headed_of
  called_verdict =
      by_test (λ x. Verdict s memory output a (pended s x)) (eqb a.pending 0) _ _
      (λ z. go (eqb-true _ _ z) (attempt_of s a).answer refl) (λ z. after_header (waits (eqb-false _ _ z)))
    where
      k : ℕ
      k = (attempt_of s a).skipped

      go : a.pending ≡ 0 → (h : Heading) → (attempt_of s a).answer ≡ h → Verdict s memory output a (going_on s k h (attempt_of s a).state)
      go z (Ok _) e = after_header (accepts z (ap (λ (y : Heading). asked k y (attempt_of s a).state) e))
      go z (Err n) e = no_header c z (ap (λ (y : Heading). asked k y (attempt_of s a).state) e)

  called_ready : ready_of s memory output a ≡ pended s (headed_of s a)
  unfolding ready_of at_once_of
  called_ready =
      simp (le-ltb _ _ c.room.short, le-ltb _ _ c.room.memory_long, le-ltb _ _ c.room.output_long, c.within)

  headed_verdict : {k : ℕ} {b : Audio} → Heads s a k b → enough_of s k b ≡ ready_of s memory output a
  headed_verdict h = sym (called_ready ∙ ap (pended s) (headed h))

  turned_down : {k : ℕ} {n : Refusal} {b : Audio} → a.pending ≡ 0 → attempt_of s a ≡ asked k (Err n) b → asked k (Err n) b ≡ ready_of s memory output a
  unfolding headed_of
  turned_down z e = sym (called_ready ∙ simp (eq-eqb _ _ z) (ap (pended s) e))

module _ (s : List ℕ) (memory output : ℕ) (a : Audio) where
  -- the walk itself: what each test found, for what holds of the number that it gives
  by_tests : (P : Option Refusal → Type 0) → ((n : Refusal) → AtOnce s memory output a n → P (Some n)) → (Called s memory output a → P None) → P (at_once_of s memory output a)
  unfolding at_once_of
  by_tests P refused called =
      by_test P (ltb longest_stream (length s)) _ _ (λ l. refused LongStream (eight (ltb-true _ _ l)))
      (λ l. by_test P (ltb memory memory_length) _ _ (λ m. refused LittleRoom (nine (ltb-false _ _ l) (inl (ltb-true _ _ m))))
      (λ m. by_test P (ltb output output_length) _ _ (λ o. refused LittleRoom (nine (ltb-false _ _ l) (inr (ltb-true _ _ o))))
      (λ o. let room : Room s memory output = record { short = ltb-false _ _ l; memory_long = ltb-false _ _ m; output_long = ltb-false _ _ o } in
      by_test P (in_range a) _ _ (λ r. called (record { room = room; within = r })) (λ r. refused BadState (ten room r)))))

  pub verdict_holds : Verdict s memory output a (ready_of s memory output a)
  unfolding ready_of
  verdict_holds =
      by_tests (λ n. Verdict s memory output a (unless_at_once n a (pended s (headed_of s a)))) (λ n h. refused_verdict h) (λ c. called_verdict c)
    where
      refused_verdict : {n : Refusal} → AtOnce s memory output a n → Verdict s memory output a (unless_at_once (Some n) a (pended s (headed_of s a)))
      refused_verdict (eight l) = at_once (eight l)
      refused_verdict (nine l m) = at_once (nine l m)
      refused_verdict (ten l r) = at_once (ten l r)

  -- for the code: nothing is refused where none of the three holds
  pub none_at_once : at_once_of s memory output a ≡ None → Called s memory output a
  none_at_once = by_tests (λ n. n ≡ None → Called s memory output a) (λ n h e. absurd (none-some n (sym e))) (λ c _. c)

  at_once_only : {n : Refusal} → AtOnce s memory output a n → asked 0 (Err n) a ≡ ready_of s memory output a
  unfolding ready_of at_once_of
  at_once_only (eight l) = simp (lt-ltb _ _ l)
  at_once_only (nine l (inl m)) = simp (le-ltb _ _ l, lt-ltb _ _ m)
  at_once_only (nine l (inr o)) =
      simp (le-ltb _ _ l, lt-ltb _ _ o)
      (by_test (λ n. asked 0 (Err LittleRoom) a ≡ unless_at_once n a (pended s (headed_of s a))) (ltb memory memory_length) _ _ (λ _. refl) (λ _. refl))
  at_once_only (ten l r) = simp (le-ltb _ _ l.short, le-ltb _ _ l.memory_long, le-ltb _ _ l.output_long, r)

  pub verdict_only : {x : Asked} → Verdict s memory output a x → x ≡ ready_of s memory output a
  verdict_only (at_once h) = at_once_only h
  verdict_only (no_header c z e) = turned_down c z e
  verdict_only (cut_off c h l) = sym (short_of_data c h l) ∙ headed_verdict c h
  verdict_only (whole c h l) = sym (has_data c h l) ∙ headed_verdict c h

-- ---- what comes of it

pub verdict_kept : {s : List ℕ} {memory output : ℕ} {a : Audio} {x : Asked} → Ranged a → Verdict s memory output a x → Kept a x
verdict_kept {a = a} w (at_once {n} h) = refused_kept 0 n a w (λ h. h) refl refl
verdict_kept {s} {a = a} w (no_header c z e) = subst (Kept a) e (attempt_kept s c.room.short a w)
verdict_kept w (cut_off {k} {b} c h l) = let kept = heads_kept c h in refused_kept k CutOff b kept.ranged kept.sound kept.frames kept.reading
verdict_kept w (whole c h l) = heads_kept c h

-- what holds of the state with no byte passed over, and of what an attempt leaves and passes, holds of the verdict's
pub verdict_leaves : {s : List ℕ} {memory output : ℕ} {a : Audio} {x : Asked} (Q : ℕ → Audio → Type 0) → Q 0 a
    → Q (attempt_of s a).skipped (attempt_of s a).state → Verdict s memory output a x → Q x.skipped x.state
verdict_leaves Q same attempt (at_once h) = same
verdict_leaves Q same attempt (no_header c z e) = subst (λ (x : Asked). Q x.skipped x.state) e attempt
verdict_leaves Q same attempt (cut_off c (waits n) l) = same
verdict_leaves Q same attempt (cut_off c (accepts z e) l) = subst (λ (x : Asked). Q x.skipped x.state) e attempt
verdict_leaves Q same attempt (whole c (waits n) l) = same
verdict_leaves Q same attempt (whole c (accepts z e) l) = subst (λ (x : Asked). Q x.skipped x.state) e attempt

-- ---- the walk of a question: what each test found

pub by_asking : (s : List ℕ) (a : Audio) (Q : Asked → Type 0)
    → (longest_stream < length s → Q (asked 0 (Err LongStream) a))
    → (length s ≤ longest_stream → in_range a ≡ false → Q (asked 0 (Err BadState) a))
    → (length s ≤ longest_stream → in_range a ≡ true → (a.format.samplerate ≡ 3 → ⊥) → Q (asked 0 (Ok tt) a))
    → (length s ≤ longest_stream → in_range a ≡ true → a.format.samplerate ≡ 3 → Q (attempt_of s a))
    → Q (known_of s a)
unfolding known_of
by_asking s a Q long bad known sought =
    by_tests s memory_length output_length a (λ n. Q (unless_at_once n a (knowing s a))) (λ n h. refused h)
    (λ c. by_test Q (eqb a.format.samplerate 3) _ _ (λ e. sought c.room.short c.within (eqb-true _ _ e))
    (λ e. known c.room.short c.within (eqb-false _ _ e)))
  where
    refused : {n : Refusal} → AtOnce s memory_length output_length a n → Q (unless_at_once (Some n) a (knowing s a))
    refused (eight l) = long l
    refused (nine l (inl m)) = absurd (omega arith)
    refused (nine l (inr o)) = absurd (omega arith)
    refused (ten room r) = bad room.short r

pub not_known : {n : Refusal} → ◌≡◌ {A = Heading} (Err n) (Ok tt) → ⊥
not_known e = let z : ◌≡◌ {A = ℕ} 0 1 = cc in omega arith

-- where a format is known, before or just now, and so many bytes were passed over
by_knowing : (s : List ℕ) (a : Audio) (Q : ℕ → Audio → Type 0) → (in_range a ≡ true → (a.format.samplerate ≡ 3 → ⊥) → Q 0 a)
    → ((k : ℕ) (b : Audio) → in_range a ≡ true → Heads s a k b → Kept a (asked k (Ok tt) b) → Q k b)
    → (known_of s a).answer ≡ Ok tt → Q (known_of s a).skipped (known_of s a).state
by_knowing s a Q long-since now =
    by_asking s a (λ (x : Asked). x.answer ≡ Ok tt → Q x.skipped x.state) (λ _ e. absurd (not_known e)) (λ _ _ e. absurd (not_known e))
    (λ _ r e _. long-since r e)
    (λ l r e k. let is = ap (λ (h : Heading). asked (attempt_of s a).skipped h (attempt_of s a).state) k in
    now _ _ r (accepts ((ranged a r).known e) is) (subst (Kept a) is (attempt_kept s l a (ranged a r))))

-- its state is in range, and has the format
pub known_ranged : (s : List ℕ) (a : Audio) → (known_of s a).answer ≡ Ok tt
    → Ranged (known_of s a).state × ((known_of s a).state.format.samplerate ≡ 3 → ⊥)
known_ranged s a =
    by_knowing s a (λ _ (b : Audio). Ranged b × (b.format.samplerate ≡ 3 → ⊥)) (λ r e. (ranged a r, e))
    (λ _ b _ _ k. (k.ranged, λ none. k.some refl (k.ranged.known none)))

-- what is asked after so many bytes were passed over
abbrev pub further : ℕ → Asked → Asked
further skipped x = asked (skipped + x.skipped) x.answer x.state

held_further : (k : ℕ) (a : Audio) (h : Result Bool Refusal) → further k (holding 0 a h) ≡ holding k a h
held_further k a (Ok true) = ap (λ n. asked n (Ok tt) a) (add-zero k)
held_further k a (Ok false) = ap (λ n. asked n (Err CutOff) a) (add-zero k)
held_further k a (Err n) = ap (λ m. asked m (Err n) a) (add-zero k)

enough_further : (s : List ℕ) (k : ℕ) (a : Audio) → further k (enough_of s 0 a) ≡ enough_of s k a
unfolding enough_of
enough_further s k a = held_further k a (has_of s a.reader (8 * a.pending))

-- and what is asked before a frame ends as it would have ended without the question: what the question passed over is not passed again
pub known_first : (s : List ℕ) (memory output : ℕ) (a : Audio) → Room s memory output → (known_of s a).answer ≡ Ok tt
    → further (known_of s a).skipped (ready_of s memory output (known_of s a).state) ≡ ready_of s memory output a
known_first s memory output a room =
    by_knowing s a (λ k (b : Audio). further k (ready_of s memory output b) ≡ ready_of s memory output a)
    (λ _ _. let y = ready_of s memory output a in ap (λ n. asked n y.answer y.state) (zero-add y.skipped)) now
  where
    now : (k : ℕ) (b : Audio) → in_range a ≡ true → Heads s a k b → Kept a (asked k (Ok tt) b)
        → further k (ready_of s memory output b) ≡ ready_of s memory output a
    now k b r h kept =
        let c : Called s memory output a = record { room = room; within = r } in
        let d : Called s memory output b = record { room = room; within = ranged_in_range b kept.ranged } in
        ap (further k) (sym (headed_verdict d (waits (kept.some refl)))) ∙ enough_further s k b ∙ headed_verdict c h

-- what an attempt passed over is told whatever the header, and is no more than the stream has
pub seeking_skips : (k : ℕ) (a : Audio) (r : Reader) (h : Result Accepted Refusal) → (seeking k a r h).skipped ≡ k
seeking_skips k a r (Ok x) = refl
seeking_skips k a r (Err n) = refl

pub few_passed : (s : List ℕ) (a : Audio) → (attempt_of s a).skipped ≤ length s
unfolding attempt_of
few_passed s a =
    let t = header_of s a.reader a.format in
    omega (arith, seeking_skips (passed_by a.reader t) a t.next t.header, sync_within s a.reader a.format)

-- ---- for the code: what the callees ask, and the answers put together from their parts

pub pended_small : (s : List ℕ) (a : Audio) (x : Asked) → length s ≤ longest_stream → in_range a ≡ true → x ≡ headed_of s a → x.state.pending ≤ most_data
pended_small s a x short r e = rw e (headed_kept s short a (ranged a r)).ranged.small

pub goes_on : (s : List ℕ) (h y x : Asked) → h ≡ y → h.answer ≡ Ok tt → x ≡ enough_of s h.skipped h.state → x ≡ pended s y
goes_on s h y x e k g = g ∙ ap (λ z. going_on s h.skipped z h.state) (sym k) ∙ ap (pended s) e

pub goes_back : (s : List ℕ) (h y : Asked) (n : Refusal) → h ≡ y → h.answer ≡ Err n → h ≡ pended s y
goes_back s h y n e k = ap (λ z. asked h.skipped z h.state) k ∙ ap (λ z. going_on s h.skipped z h.state) (sym k) ∙ ap (pended s) e

-- a refusal that is given at once, and what is asked where there is none
pub refuses_at_once : {found : Option Refusal} {n : Refusal} (a : Audio) (more : Asked) → Some n ≡ found → asked 0 (Err n) a ≡ unless_at_once found a more
refuses_at_once a more is = ap (λ x. unless_at_once x a more) is

pub asks_on : {found : Option Refusal} (a : Audio) (more : Asked) → None ≡ found → (x : Asked) → x ≡ more → x ≡ unless_at_once found a more
asks_on a more is x e = e ∙ ap (λ k. unless_at_once k a more) is
