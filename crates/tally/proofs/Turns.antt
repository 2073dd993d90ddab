-- The listing as the pass goes through it: the opening's line, then call by call. Assumes nothing.
use Prim.Native.Nat.{ℕ, suc, ◌+◌, ◌*◌, ◌/◌, ◌^◌, ◌≤◌, ◌<◌}
use mathlib.Core.Path.{◌≡◌, refl, sym, ap, ◌∙◌}
use mathlib.Core.Bool.{Bool, true, false, cond}
use mathlib.Core.List.{List, [], ◌∷◌, ◌++◌, append_assoc, append-nil}
use native.Mathlib.Omega.{arith}
use lib.Ieee.{Float}
use lib.ListN.{length, length-append}
use borrow.Author.Tests.{le-ltb}
use Rattle.ground.specs.Tests.{by_test}
use Rattle.synthesis.specs.Slots.{memory_length, output_length, quiet}
use Rattle.readings.specs.declared.Reading.{Reading}
use Rattle.state.specs.declared.Audio.{Audio}
use Rattle.audio.specs.Calls.{open_of, open_memory, decode_memory, decode_output}
use Rattle.audio.specs.CallsLaws.{open_passes_few}
use Rattle.listing.specs.declared.Line.{Line}
use Rattle.listing.specs.declared.Listed.{Listed}
use Rattle.listing.specs.Lines.{Shown, is_last, next_of, shown_from, opening_told, opening_shown, carried_by, called_of, shown_of, lines_in, lines_of}
use Rattle.listing.specs.LinesLaws.{line_skips_few}
use Rattle.listing.specs.Tally.{skipped_in, junk_in}
use Rattle.tally.specs.Tally.{add_of, tally_of, Few}
use Rattle.tally.specs.declared.Tally.{Tally}
use Rattle.tally.proofs.Adds.{added, junk_few, few}
use Rattle.verdict.specs.Verdict.{Heading, Asked}
use Rattle.refusal.specs.Numbers.{number_of}
use Rattle.std.specs.Prelude.{Ok, Err}

lines_append : (xs ys : List Shown) → lines_in (xs ++ ys) ≡ lines_in xs ++ lines_in ys
lines_append [] ys = refl
lines_append (x ∷ xs) ys = ap (λ (more : List Line). x.line ∷ more) (lines_append xs ys)

called_lines : (c : Reading) (s : List ℕ) → let opened = open_of c s (quiet memory_length) in
    let carried = carried_by opened.skipped opened.answer in
    lines_in (called_of c s)
    ≡ lines_in (opening_shown opened.skipped opened.answer opened.state)
    ++ lines_in (shown_from (length s / 2 + 2) s (open_memory s (quiet memory_length)) (quiet output_length) carried opened.state)
unfolding called_of
called_lines c s =
    let opened = open_of c s (quiet memory_length) in lines_append (opening_shown opened.skipped opened.answer opened.state) _

-- an opening has one line at most, and so little junk
one_opening : (k : ℕ) (answer : Heading) (a : Audio) → let xs = lines_in (opening_shown k answer a) in (length xs ≤ 1) × (junk_in xs ≤ k)
unfolding junk_in
one_opening k (Ok _) a = (omega arith, omega arith)
one_opening k (Err n) a =
    by_test (λ (xs : List Shown). (length (lines_in xs) ≤ 1) × (junk_in (lines_in xs) ≤ k)) (opening_told (number_of n)) _ _ (λ _. (omega arith, omega arith))
    (λ _. (omega arith, omega arith))

-- the lines that were added, and those that are left
pub record Counted (c : Reading) (s : List ℕ) (tally : Tally) (calls : ℕ) (rest : List Line) : Type 0 where
  pub done : List Line
  pub all : lines_of c s ≡ done ++ rest
  pub is : tally ≡ tally_of done
  pub room : length done + calls ≤ length s / 2 + 3
  -- a line says that at most twice the stream was passed over
  pub little : junk_in done + 131072 * calls ≤ 131072 * (length s / 2 + 3)

module _ (c : Reading) (s : List ℕ) (opened : Asked) (m : List Float) (tally : Tally) (short : length s ≤ 65536)
    (e : opened ≡ open_of c s (quiet memory_length)) (f : m ≡ open_memory s (quiet memory_length))
    (t : tally ≡ tally_of (lines_in (opening_shown opened.skipped opened.answer opened.state))) (carried : ℕ)
    (g : carried ≡ carried_by opened.skipped opened.answer) where
  pub begins : Counted c s tally (length s / 2 + 2) (lines_in (shown_from (length s / 2 + 2) s m (quiet output_length) carried opened.state))
  unfolding shown_of
  begins =
      let one = one_opening opened.skipped opened.answer opened.state in
      let passed : opened.skipped ≤ length s = rw e (open_passes_few c s (quiet memory_length)) in
      record {
        done = lines_in (opening_shown opened.skipped opened.answer opened.state);
        all = rw (g, e, f, le-ltb 65536 (length s) short) (called_lines c s);
        is = t;
        room = omega arith;
        little = omega arith;
      }

module _ (c : Reading) (s : List ℕ) (calls : ℕ) (memory output : List Float) (carried : ℕ) (a : Audio) (tally : Tally) (short : length s ≤ 65536)
    (left : Counted c s tally calls (lines_in (shown_from calls s memory output carried a))) where
  pub none_left : calls ≡ 0 → tally ≡ tally_of (lines_of c s)
  unfolding shown_from
  none_left z =
      let all : lines_of c s ≡ left.done = rw z at left.all ∙ append-nil left.done in
      left.is ∙ ap tally_of (sym all)

  module _ (within : carried ≤ length s) (more : ℕ) (x : Listed) (m o : List Float) (z : calls ≡ suc more) (e : x ≡ next_of s memory output carried a)
      (f : m ≡ decode_memory s memory output a) (g : o ≡ decode_output s memory output a) where
    skips_few : skipped_in x.line ≤ 2 * length s
    skips_few = rw e (line_skips_few s memory output carried a within)

    pub room_left : ((tally.frames.count < 100000) × Few tally.refused) × (tally.junk + skipped_in x.line < 2 ^ 64)
    unfolding tally_of
    room_left = (
      rw left.is (few left.done (omega (arith, left.room))),
      omega (arith, ap (λ (t : Tally). t.junk) left.is, left.little, skips_few),
    )

    abbrev rest : List Shown
    rest = shown_from more s m o 0 x.state

    turn : lines_in (shown_from calls s memory output carried a) ≡ x.line ∷ lines_in (cond (is_last x.line) [] rest)
    unfolding shown_from
    turn = rw (z, e, f, g)

    module _ (next : Tally) (last : Bool) (n : next ≡ add_of tally x.line) (t : last ≡ is_last x.line) where
      abbrev line : List Line
      line = x.line ∷ []

      so_far : next ≡ tally_of (left.done ++ line)
      so_far = n ∙ ap (λ (before : Tally). add_of before x.line) left.is ∙ sym (added left.done x.line)

      all_lines : lines_of c s ≡ (left.done ++ line) ++ lines_in (cond (is_last x.line) [] rest)
      all_lines = left.all ∙ ap (λ (xs : List Line). left.done ++ xs) turn ∙ sym (append_assoc left.done line _)

      pub after_last : last ≡ true → next ≡ tally_of (lines_of c s)
      after_last h = so_far ∙ ap tally_of (sym (rw (sym t ∙ h) at all_lines ∙ append-nil _))

      pub after_other : last ≡ false → Counted c s next more (lines_in rest)
      after_other h =
          record {
            done = left.done ++ line;
            all = rw (sym t ∙ h) at all_lines;
            is = so_far;
            room = omega (arith, left.room, length-append left.done line);
            little = omega (arith, left.little, junk_few left.done x.line, skips_few);
          }
