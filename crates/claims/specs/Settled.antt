-- Calls on one stream come to rest. 01, "Numbers a call can give": "on the same stream 1 and 7 repeat for ever"; "From the bytes to
-- a header": "on n bytes at most n/2 + 1 decode calls come before all answer 1 or 7". Assumes nothing.
use Prim.Native.Nat.{ℕ, zero, suc, ◌+◌, ◌*◌, ◌/◌, ◌≤◌, ◌<◌}
use Rattle.std.specs.Prelude.{◌≡◌, true, false, List, ◌⊎◌, Float, length, T, eqb}
use Rattle.std.proofs.Math.Path.{refl, ap, subst}
use Rattle.std.proofs.Common.{sym, ◌∙◌, add-zero, add-suc, add-one, arith, eqb-true}
use Rattle.std.proofs.Math.Logic.{inl, inr}
use Rattle.std.proofs.Math.Decide.{ℕ_discrete}
use Rattle.buffer.specs.Calls.{byte_after_of, left}
use Rattle.state.specs.State.{in_range, stands_at}
use Rattle.state.specs.StateLaws.{ranged}
use Rattle.verdict.specs.Verdict.{tried, attempt_of}
use Rattle.audio.specs.Calls.{decode_of, format_of, Decoded}
use Rattle.audio.specs.CallsLaws.{question_leaves}
use Rattle.audio.specs.Numbers.{answer_number, ends, callers_mistake}
use Rattle.std.proofs.lemmas.Bool.{eqb-false}
use Rattle.ground.specs.Tests.{either, neither}
use Rattle.ground.specs.Rows.{never, is_false}
use Rattle.state.specs.declared.Audio.{Audio}
use Rattle.header.specs.Attempts.{Attempts, one, two, three, four, five, thirteen, six, zero as accepted, attempt_gives, attempt_number}
use Rattle.header.specs.Moves.{few_bits_stay}
use Rattle.header.specs.declared.Attempt.{Attempt}
use Rattle.claims.specs.Numbers.{Lent, InOrder, passed, waits, Decodes, eight, nine, ten, sought, seven, zero as frame, refused, decode_table, pending_within}
use Rattle.past.specs.Moves.{call_moves}
use Rattle.past.specs.Sound.{decode_stays_in_range}
use Rattle.refusal.specs.declared.Refusal.TheVariants.{NoHeader, CutOff}
use Rattle.refusal.specs.declared.Refusal.{Refusal}
use Rattle.refusal.specs.Numbers.{number_of}
use Rattle.header.specs.declared.Format.{Format}
use Rattle.header.specs.Header.{refusal}
use Rattle.buffer.specs.declared.Reader.{Reader}

-- ---- 1 and 7 repeat

-- every call on the stream, whatever it is lent, gives this refusal, passes no byte over and leaves this state
abbrev pub Settled : List ℕ → Refusal → Audio → Type 0
Settled s n a = (memory output : List Float) → Lent s memory output → decode_of s memory output a ≡ refused 0 n a

-- and with other calls between: on this stream no call leaves another state, whatever it is lent
pub record Rests (s : List ℕ) (n : Refusal) (a : Audio) : Type 0 where
  pub repeats : Settled s n a
  pub decodes : (memory output : List Float) → (decode_of s memory output a).state ≡ a
  pub asks : (format_of s a).state ≡ a

-- a refusal of this number is given, and the calls are at rest
abbrev pub RestsAt : List ℕ → ℕ → Audio → Type 0
RestsAt s number a = (n : Refusal) × (number_of n ≡ number) × Rests s n a

-- a question leaves it, where a format is known or fewer than 48 bits remain
asking_stays : (s : List ℕ) (a : Audio) → ((a.format.samplerate ≡ 3 → ⊥) ⊎ (left s a.reader < 48)) → (format_of s a).state ≡ a
unfolding attempt_of
asking_stays s a (inl knows) = question_leaves s a (λ (b : Audio). b ≡ a) refl (λ _ _ none. absurd (knows none))
asking_stays s a (inr few) =
    question_leaves s a (λ (b : Audio). b ≡ a) refl
    (λ short w _. ap (λ (t : Attempt). (tried a t).state) (few_bits_stay s a.reader a.format short (ranged a w).near few))

module _ {s : List ℕ} {a : Audio} where
  decode_stays : {n : Refusal} {k : ℕ} → Settled s n a → (memory output : List Float) {x : Decoded} → Decodes s memory output a k x
      → x ≡ decode_of s memory output a → x.state ≡ a
  decode_stays h memory output (eight l) e = refl
  decode_stays h memory output (nine l m) e = refl
  decode_stays h memory output (ten l r) e = refl
  decode_stays h memory output (sought c z t) e = ap (λ x. x.state) (e ∙ h memory output c.room)
  decode_stays h memory output (seven c b l) e = ap (λ x. x.state) (e ∙ h memory output c.room)
  decode_stays h memory output (frame c b l) e = ap (λ x. x.state) (e ∙ h memory output c.room)

  rests : {n : Refusal} → Settled s n a → ((a.format.samplerate ≡ 3 → ⊥) ⊎ (left s a.reader < 48)) → Rests s n a
  rests h why =
      record {
        repeats = h;
        decodes = λ memory output. decode_stays h memory output (decode_table s memory output a).holds refl;
        asks = asking_stays s a why;
      }

-- a 1 says that fewer than 48 bits remain, and the reader stands where it stood
one_is_few : {s : List ℕ} {r : Reader} {known : Format} {k : ℕ} {x : Attempt} → Attempts s r known k x → k ≡ 1
    → (left s r < 48) × (x ≡ refusal NoHeader (byte_after_of r.at) r)
one_is_few (one l) e = (l, refl)
one_is_few (two room o f) e = absurd (omega arith)
one_is_few (three room y n) e = absurd (omega arith)
one_is_few (four room y l b) e = absurd (omega arith)
one_is_few (five room y u f) e = absurd (omega arith)
one_is_few (thirteen room y u f k) e = absurd (omega arith)
one_is_few (six room y u f k h d) e = absurd (omega arith)
one_is_few (accepted room y u f k d) e = absurd (omega arith)

module _ {s : List ℕ} {a : Audio} where
  -- fewer than 48 bits remain, and no header is pending
  few_rest : in_range a ≡ true → a.pending ≡ 0 → left s a.reader < 48 → Rests s NoHeader a
  few_rest within e l =
      let none : passed a (byte_after_of a.reader.at) ≡ 0 = omega arith in
      rests
      (λ m o lent. sym ((decode_table s m o a).only (sought (record { room = lent; within = within }) e (one l))).0 ∙ ap (λ k. refused k NoHeader a) none)
      (inr l)

module _ {s : List ℕ} {memory output : List Float} {a : Audio} where
  one_settles : {k : ℕ} {x : Decoded} → Decodes s memory output a k x → k ≡ 1 → Rests s NoHeader x.state
  one_settles (eight l) e = absurd (omega arith)
  one_settles (nine l m) e = absurd (omega arith)
  one_settles (ten l r) e = absurd (omega arith)
  one_settles (sought c z t) e =
      let few = one_is_few t e in
      subst (λ (r : Reader). Rests s NoHeader (stands_at r a)) (sym (ap (λ (x : Attempt). x.next) few.1)) (few_rest c.within z few.0)
  one_settles (seven c h l) e = absurd (omega arith)
  one_settles (frame c h l) e = absurd (omega arith)

  seven_settles : {k : ℕ} {x : Decoded} → Decodes s memory output a k x → k ≡ 7 → Rests s CutOff x.state
  seven_settles (eight l) e = absurd (omega arith)
  seven_settles (nine l m) e = absurd (omega arith)
  seven_settles (ten l r) e = absurd (omega arith)
  seven_settles (sought c z t) e = absurd (subst (λ n. T (attempt_gives n)) e (attempt_number t))
  seven_settles (frame c h l) e = absurd (omega arith)
  seven_settles (seven {b = b} c h l) e =
      let within = pending_within s memory output a c h in
      rests
      (λ m o lent. sym ((decode_table s m o b).only (seven (record { room = lent; within = within }) (waits (λ e. omega arith)) l)).0)
      (inl (λ none. let z = (ranged b within).known none in omega arith))

module _ (s : List ℕ) (memory output : List Float) (a : Audio) where
  one_rests : answer_number (decode_of s memory output a).answer ≡ 1 → Rests s NoHeader (decode_of s memory output a).state
  one_rests e = one_settles (decode_table s memory output a).holds e

  seven_rests : answer_number (decode_of s memory output a).answer ≡ 7 → Rests s CutOff (decode_of s memory output a).state
  seven_rests e = seven_settles (decode_table s memory output a).holds e

-- ---- which numbers end a stream, and which are the caller's (audio, Numbers)

attempt_is_no_mistake : (n : ℕ) → T (attempt_gives n) → callers_mistake n ≡ false
attempt_is_no_mistake n t =
    is_false _ (λ e. either {a = eqb n 8} ⊥ e (λ h. at 8 h) (λ f. either {a = eqb n 9} ⊥ f (λ h. at 9 h) (λ h. at 10 h)))
  where
    at : (k : ℕ) → eqb n k ≡ true → T (attempt_gives k)
    at k h = subst (λ i. T (attempt_gives i)) (eqb-true n k h) t

module _ (s : List ℕ) (memory output : List Float) (a : Audio) where
  abbrev number : ℕ
  number = answer_number (decode_of s memory output a).answer

  -- what `ends` says of 1 and 7: the same answer for ever
  pub an_end_lasts : ends number ≡ true → RestsAt s number (decode_of s memory output a).state
  an_end_lasts e =
      either {a = eqb number 1} _ e
      (λ h. let n = eqb-true _ _ h in (NoHeader, sym n, one_rests s memory output a n))
      (λ h. let n = eqb-true _ _ h in (CutOff, sym n, seven_rests s memory output a n))

  -- what `callersMistake` says of 8, 9 and 10: something was lent or saved wrong, and nothing happened
  mistaken : {n : ℕ} {x : Decoded} → Decodes s memory output a n x → (callers_mistake n ≡ false) ⊎ ((InOrder s memory output a → ⊥) × (x.state ≡ a))
  mistaken (eight l) = inr ((λ c. let k = c.room.short in omega arith), refl)
  mistaken (nine l (inl h)) = inr ((λ c. let k = c.room.memory_long in omega arith), refl)
  mistaken (nine l (inr h)) = inr ((λ c. let k = c.room.output_long in omega arith), refl)
  mistaken (ten l r) = inr ((λ c. never c.within r), refl)
  mistaken (sought {n = n} c e t) = inl (attempt_is_no_mistake (number_of n) (attempt_number t))
  mistaken (seven c h l) = inl refl
  mistaken (frame c h l) = inl refl

  pub a_mistake_is_the_callers : callers_mistake number ≡ true
      → (InOrder s memory output a → ⊥) × ((decode_of s memory output a).state ≡ a)
  a_mistake_is_the_callers e = go (mistaken (decode_table s memory output a).holds)
    where
      go : (callers_mistake number ≡ false) ⊎ ((InOrder s memory output a → ⊥) × ((decode_of s memory output a).state ≡ a))
          → (InOrder s memory output a → ⊥) × ((decode_of s memory output a).state ≡ a)
      go (inl none) = absurd (never e none)
      go (inr p) = p

  -- and every other number is no end: reading moves on
  pub else_it_moves_on : InOrder s memory output a → ends number ≡ false
      → a.reader.at.0 + 16 ≤ (decode_of s memory output a).state.reader.at.0
  else_it_moves_on c e =
      let n = neither (eqb number 1) (eqb number 7) e in
      (call_moves (record { stream = s; memory = memory; output = output; state = a }) c (eqb-false _ _ n.0) (eqb-false _ _ n.1)).1

-- ---- a run of calls on one stream, with any memories and outputs, from any state

module _ (s : List ℕ) (memory output : ℕ → List Float) (a : Audio) where
  unfoldable pub state_after : ℕ → Audio
  state_after zero = a
  state_after (suc k) = (decode_of s (memory k) (output k) (state_after k)).state

  abbrev pub answer_at : ℕ → Decoded
  answer_at k = decode_of s (memory k) (output k) (state_after k)

  abbrev pub number_at : ℕ → ℕ
  number_at k = answer_number (answer_at k).answer

  rests_at_one : (k : ℕ) → number_at k ≡ 1 → Settled s NoHeader (state_after (suc k))
  unfolding state_after
  rests_at_one k e = (one_rests s (memory k) (output k) (state_after k) e).repeats

  rests_at_seven : (k : ℕ) → number_at k ≡ 7 → Settled s CutOff (state_after (suc k))
  unfolding state_after
  rests_at_seven k e = (seven_rests s (memory k) (output k) (state_after k) e).repeats

  module _ (lent : (k : ℕ) → Lent s (memory k) (output k)) where
    settled_state : (n : Refusal) (k : ℕ) → Settled s n (state_after k) → (j : ℕ) → state_after (k + j) ≡ state_after k
    unfolding state_after
    settled_state n k h zero = ap state_after (add-zero k)
    settled_state n k h (suc j) =
        ap state_after (add-suc k j)
        ∙ ap (λ b. (decode_of s (memory (k + j)) (output (k + j)) b).state) (settled_state n k h j)
        ∙ ap (λ x. x.state) (h (memory (k + j)) (output (k + j)) (lent (k + j)))

    settled_answer : (n : Refusal) (k : ℕ) → Settled s n (state_after k) → (j : ℕ) → answer_at (k + j) ≡ refused 0 n (state_after k)
    settled_answer n k h j =
        ap (decode_of s (memory (k + j)) (output (k + j))) (settled_state n k h j) ∙ h (memory (k + j)) (output (k + j)) (lent (k + j))

    -- after a 1 every call gives 1 and leaves the state, and so with 7
    pub one_for_ever : (k : ℕ) → number_at k ≡ 1 → (j : ℕ) → answer_at (suc k + j) ≡ refused 0 NoHeader (state_after (suc k))
    one_for_ever k e = settled_answer NoHeader (suc k) (rests_at_one k e)

    pub seven_for_ever : (k : ℕ) → number_at k ≡ 7 → (j : ℕ) → answer_at (suc k + j) ≡ refused 0 CutOff (state_after (suc k))
    seven_for_ever k e = settled_answer CutOff (suc k) (rests_at_seven k e)

    module _ (within : in_range a ≡ true) where
      stays_within : (k : ℕ) → in_range (state_after k) ≡ true
      unfolding state_after
      stays_within zero = within
      stays_within (suc k) = decode_stays_in_range s (memory k) (output k) (state_after k) (stays_within k)

      -- the measure: a call that gives neither 1 nor 7 had 48 bits left and moves the position on by 16 at least
      pub moves_on : (k : ℕ) → (number_at k ≡ 1 → ⊥) → (number_at k ≡ 7 → ⊥)
          → (48 ≤ left s (state_after k).reader) × ((state_after k).reader.at.0 + 16 ≤ (state_after (suc k)).reader.at.0)
      unfolding state_after
      moves_on k =
          call_moves (record { stream = s; memory = memory k; output = output k; state = state_after k }) (record { room = lent k; within = stays_within k })

      -- so after k calls either 1 or 7 was given, or the position is 16 k or more
      Course : ℕ → Type 0
      Course k = ((n : Refusal) × ((number_of n ≡ 1) ⊎ (number_of n ≡ 7)) × Settled s n (state_after k)) ⊎ (16 * k ≤ (state_after k).reader.at.0)

      course : (k : ℕ) → Course k
      unfolding Course
      course zero = inr (omega arith)
      course (suc k) = go (course k) (ℕ_discrete (number_at k) 1) (ℕ_discrete (number_at k) 7)
        where
          go : Course k → Dec (number_at k ≡ 1) → Dec (number_at k ≡ 7) → Course (suc k)
          go (inl (n, p, h)) d e = inl (n, p, subst (Settled s n) (sym (ap state_after (sym (add-one k)) ∙ settled_state n k h 1)) h)
          go (inr l) (yes d) e = inl (NoHeader, inl refl, rests_at_one k d)
          go (inr l) (no d) (yes e) = inl (CutOff, inr refl, rests_at_seven k e)
          go (inr l) (no d) (no e) = inr (omega (arith, (moves_on k d e).1))

      -- calls 0 to n/2 may give another number; every later one gives 1 or 7
      pub settles : (k : ℕ) → length s / 2 + 1 ≤ k → (number_at k ≡ 1) ⊎ (number_at k ≡ 7)
      unfolding Course
      settles k l = go (course k) (ℕ_discrete (number_at k) 1) (ℕ_discrete (number_at k) 7)
        where
          go : Course k → Dec (number_at k ≡ 1) → Dec (number_at k ≡ 7) → (number_at k ≡ 1) ⊎ (number_at k ≡ 7)
          go c (yes d) e = inl d
          go c (no d) (yes e) = inr e
          go (inl (n, p, h)) (no d) (no e) =
              subst (λ (m : ℕ). (m ≡ 1) ⊎ (m ≡ 7)) (sym (ap (λ (x : Decoded). answer_number x.answer) (h (memory k) (output k) (lent k)))) p
          go (inr far) (no d) (no e) = absurd (let room = (moves_on k d e).0 in omega arith)
