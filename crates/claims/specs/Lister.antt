-- The lister's lines, in any reading: they come to an end, which is the last line and no other. From 01, the lister: "calls until 1 or 7".
-- Assumes nothing.
use Rattle.std.specs.Prelude.{ℕ, zero, suc, ◌+◌, ◌*◌, ◌/◌, ◌≤◌, ◌<◌, ◌≡◌, refl, Bool, true, false, cond, eqb, length, get_or, Ok, Err}
use Rattle.std.proofs.Common.{ap, ◌∙◌, add-zero, arith, lt-ltb, ltb-false}
use mathlib.Core.List.{List, [], ◌∷◌, ◌++◌, flat_map}
use Rattle.std.proofs.lemmas.Bool.{eqb-false}
use Rattle.ground.specs.Tests.{by_test, neither}
use Rattle.ground.specs.Rows.{never}
use Rattle.buffer.specs.Bits.{longest_stream}
use Rattle.buffer.specs.Calls.{left}
use Rattle.synthesis.specs.Slots.{memory_length, quiet}
use Rattle.readings.specs.declared.Reading.{Reading}
use Rattle.state.specs.State.{fresh}
use Rattle.state.specs.StateLaws.{fresh_ranged}
use Rattle.state.specs.declared.Audio.{Audio}
use Rattle.verdict.specs.VerdictLaws.{attempt_kept, not_known}
use Rattle.audio.specs.Calls.{open_of}
use Rattle.audio.specs.CallsLaws.{by_opening}
use Rattle.audio.specs.Numbers.{ends, answer_number}
use Rattle.audio.specs.declared.Answer.{Answer}
use Rattle.audio.specs.declared.Answer.TheVariants.{Frame, Refused}
use Rattle.listing.specs.declared.Behind.TheVariants.{Nothing, Words}
use Rattle.listing.specs.declared.Line.{Line}
use Rattle.listing.specs.declared.Line.TheVariants.{Refused as RefusedLine, End, Long}
use Rattle.listing.specs.LinesLaws.{line_skips}
use Rattle.listing.specs.Tally.{skipped_in}
use Rattle.listing.specs.Lines.{Shown, byte_position, line_by, is_last, next_of, opening_told, opening_shown, carried_by, shown_from, called_of, too_long, shown_of, lines_in, lines_of}
use Rattle.listing.specs.Text.{text_by, texts_of, listing_of}
use Rattle.past.specs.Calls.{Call, outcome}
use Rattle.past.specs.Moves.{call_moves}
use Rattle.heard.specs.Heard.{after, opening, Begun, opening_begun, begun_on}
use Rattle.claims.specs.Passed.{nothing_sought}
use Rattle.verdict.specs.Verdict.{Heading, Asked}
use Rattle.refusal.specs.Numbers.{number_of}

-- ---- the last line is an end, and no other is

pub record EndsOnce (xs : List Line) : Type 0 where
  pub before : List Line
  pub last : Line
  pub is : xs ≡ before ++ (last ∷ [])
  pub ends : is_last last ≡ true
  pub others : (i : ℕ) (d : Line) → i < length before → is_last (get_or before i d) ≡ false

at_once : (x : Line) → is_last x ≡ true → EndsOnce (x ∷ [])
at_once x e = record { before = []; last = x; is = refl; ends = e; others = λ i d l. absurd (omega arith) }

one_more : (x : Line) (xs : List Line) → is_last x ≡ false → EndsOnce xs → EndsOnce (x ∷ xs)
one_more x xs e r =
    record {
      before = x ∷ r.before;
      last = r.last;
      is = ap (λ (ys : List Line). x ∷ ys) r.is;
      ends = r.ends;
      others = others;
    }
  where
    others : (i : ℕ) (d : Line) → i < length (x ∷ r.before) → is_last (get_or (x ∷ r.before) i d) ≡ false
    others zero d l = e
    others (suc i) d l = r.others i d (omega arith)

-- a line that is no end is a call that gave neither 1 nor 7
no_end : (number skipped : ℕ) (x : Answer) (a : Audio) → is_last (line_by number skipped x a) ≡ false → (answer_number x ≡ 1 → ⊥) × (answer_number x ≡ 7 → ⊥)
no_end number skipped (Frame time bits) a e = (λ z. omega arith, λ z. omega arith)
no_end number skipped (Refused why) a e = go (ends n) refl e
  where
    n : ℕ
    n = number_of why

    go : (t : Bool) → ends n ≡ t → is_last (cond t (End n (byte_position a) skipped) (RefusedLine n (byte_position a) skipped)) ≡ false
        → (n ≡ 1 → ⊥) × (n ≡ 7 → ⊥)
    go true t f = absurd (never refl f)
    go false t f = let h = neither (eqb n 1) (eqb n 7) t in (eqb-false n 1 h.0, eqb-false n 7 h.1)

-- a call's line, and those from it on, with so many bytes carried to it
abbrev pub line_at : ℕ → Call → Line
line_at carried c = (next_of c.stream c.memory c.output carried c.state).line

abbrev pub lines_from : ℕ → ℕ → Call → List Line
lines_from calls carried c = lines_in (shown_from calls c.stream c.memory c.output carried c.state)

-- what is carried to a call's line is told there, beside what the call passed over
pub carried_to_a_line : (carried : ℕ) (c : Call) → skipped_in (line_at carried c) ≡ carried + (outcome c).skipped
unfolding next_of
carried_to_a_line carried c = line_skips c.state.frames (carried + (outcome c).skipped) (outcome c).answer (outcome c).state

-- 02, E2: "A header accepted at opening has no line; its number goes to the line after it": it is that line's number
module _ (r : Reading) (s : List ℕ) (short : length s ≤ longest_stream) where
  abbrev opened : Asked
  opened = open_of r s (quiet memory_length)

  pends : opened.answer ≡ Ok tt → (opening r s).state.pending ≡ 0 → ⊥
  pends =
      by_opening r s (quiet memory_length) (λ (x : Asked). x.answer ≡ Ok tt → x.state.pending ≡ 0 → ⊥) (λ _ e. absurd (not_known e))
      (λ _ _ e. absurd (not_known e)) (λ l _. (attempt_kept s l (fresh r) (fresh_ranged r)).some)

  pub goes_to_the_line_after_it : opened.answer ≡ Ok tt → skipped_in (line_at (carried_by opened.skipped opened.answer) (opening r s)) ≡ opened.skipped
  goes_to_the_line_after_it known =
      carried_to_a_line (carried_by opened.skipped opened.answer) (opening r s)
      ∙ ap (λ h. carried_by opened.skipped h + (outcome (opening r s)).skipped) known
      ∙ ap (λ k. opened.skipped + k) (nothing_sought s (opening r s).memory (opening r s).output (opening r s).state (pends known))
      ∙ add-zero opened.skipped

-- and no later line has it
pub one_line : (calls carried : ℕ) (c : Call) (x : Line) → line_at carried c ≡ x → is_last x ≡ false
    → lines_from (suc calls) carried c ≡ x ∷ lines_from calls 0 (after c)
unfolding shown_from next_of
one_line calls carried c x e f = rw (e, f)

pub last_line : (calls carried : ℕ) (c : Call) (x : Line) → line_at carried c ≡ x → is_last x ≡ true → lines_from (suc calls) carried c ≡ x ∷ []
unfolding shown_from next_of
last_line calls carried c x e f = rw (e, f)

-- 16 bits at least go with each call before an end, and with fewer than 48 left it is one
comes_to_an_end : (k calls carried : ℕ) (c : Call) → k < calls → Begun c → left c.stream c.state.reader < 48 + 16 * k
    → EndsOnce (lines_from calls carried c)
unfolding shown_from next_of
comes_to_an_end k zero carried c l b few = absurd (omega arith)
comes_to_an_end zero (suc calls) carried c l b few =
    by_test (λ (xs : List Shown). EndsOnce (line_at carried c ∷ lines_in xs)) (is_last (line_at carried c)) _ _ (at_once (line_at carried c))
    (λ e. let n = no_end c.state.frames (carried + (outcome c).skipped) (outcome c).answer (outcome c).state e in
    absurd (let h = call_moves c b n.0 n.1 in omega arith))
comes_to_an_end (suc k) (suc calls) carried c l b few =
    by_test (λ (xs : List Shown). EndsOnce (line_at carried c ∷ lines_in xs)) (is_last (line_at carried c)) _ _ (at_once (line_at carried c))
    (λ e. let n = no_end c.state.frames (carried + (outcome c).skipped) (outcome c).answer (outcome c).state e in
    let h = call_moves c b n.0 n.1 in
    one_more (line_at carried c) _ e (comes_to_an_end k calls 0 (after c) (omega arith) (begun_on c b) (omega arith)))

opening_first : (skipped : ℕ) (h : Heading) (a : Audio) (xs : List Shown) → EndsOnce (lines_in xs) → EndsOnce (lines_in (opening_shown skipped h a ++ xs))
opening_first skipped (Ok _) a xs e = e
opening_first skipped (Err n) a xs e =
    by_test (λ (ys : List Shown). EndsOnce (lines_in (ys ++ xs))) (opening_told (number_of n)) _ _ (λ _. one_more (RefusedLine (number_of n) (byte_position a) skipped) _ refl e)
    (λ _. e)

-- so the listing of every stream ends, and says so
pub listing_ends : (r : Reading) (s : List ℕ) → EndsOnce (lines_of r s)
unfolding shown_of called_of
listing_ends r s =
    by_test (λ (xs : List Shown). EndsOnce (lines_in xs)) (too_long s) _ _ (λ _. at_once Long refl)
    (λ t. let short = ltb-false 65536 (length s) t in
    let opened = open_of r s (quiet memory_length) in
    opening_first opened.skipped opened.answer opened.state _
    (comes_to_an_end (length s / 2 + 1) (length s / 2 + 2) (carried_by opened.skipped opened.answer) (opening r s) (omega arith) (opening_begun r s (omega arith)) (omega arith)))

-- "the one line `long`"
pub long_is_one_line : (r : Reading) (s : List ℕ) → 65536 < length s → lines_of r s ≡ Long ∷ []
unfolding shown_of
long_is_one_line r s long = rw (lt-ltb 65536 (length s) long)

-- ---- the text

-- a line's text: the lister puts nothing behind it
abbrev pub text_of : Line → List ℕ
text_of line = text_by Nothing line []

texts_of_lines : (xs : List Shown) → texts_of Nothing xs ≡ flat_map text_of (lines_in xs)
unfolding texts_of flat_map
texts_of_lines [] = refl
texts_of_lines (x ∷ xs) = ap (λ (more : List ℕ). text_of x.line ++ more) (texts_of_lines xs)

-- all that the lister writes is the text of its lines, one after the other
pub listing_is_its_lines : (r : Reading) (s : List ℕ) → listing_of r Nothing s ≡ flat_map text_of (lines_of r s)
unfolding listing_of
listing_is_its_lines r s = texts_of_lines (shown_of r s)

-- with words likewise, and the lines are the same
abbrev pub worded_of : Line → List ℕ
worded_of line = text_by Words line []

worded_text : (xs : List Shown) → texts_of Words xs ≡ flat_map worded_of (lines_in xs)
unfolding texts_of flat_map
worded_text [] = refl
worded_text (x ∷ xs) = ap (λ (more : List ℕ). worded_of x.line ++ more) (worded_text xs)

pub worded_is_its_lines : (r : Reading) (s : List ℕ) → listing_of r Words s ≡ flat_map worded_of (lines_of r s)
unfolding listing_of
worded_is_its_lines r s = worded_text (shown_of r s)
