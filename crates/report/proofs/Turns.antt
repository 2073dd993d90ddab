-- The listing as the program goes through it: the opening's line, then call by call.
-- Assumes nothing.
use Prim.Native.Nat.{ℕ, suc, ◌+◌, ◌/◌, ◌≤◌, ◌<◌}
use mathlib.Core.Path.{◌≡◌, refl, sym, ap, subst, ◌∙◌}
use mathlib.Core.Bool.{Bool, true, false, cond}
use mathlib.Core.List.{List, [], ◌∷◌, ◌++◌, append_assoc}
use lib.Ieee.{Float}
use lib.ListN.{length}
use borrow.Author.Tests.{lt-ltb, le-ltb}
use Rattle.synthesis.specs.Slots.{memory_length, output_length, quiet}
use Rattle.readings.specs.declared.Reading.{Reading}
use Rattle.state.specs.declared.Audio.{Audio}
use Rattle.audio.specs.Calls.{open_of, open_memory, decode_memory, decode_output}
use Rattle.listing.specs.declared.Behind.{Behind}
use Rattle.listing.specs.declared.Listed.{Listed}
use Rattle.listing.specs.declared.Line.TheVariants.{Long}
use Rattle.listing.specs.Lines.{Shown, is_last, next_of, shown_from, opening_shown, carried_by, called_of, shown_of}
use Rattle.listing.specs.Text.{text_by, texts_of, listing_of}
use Rattle.verdict.specs.Verdict.{Asked}
use Rattle.scribe.specs.Page.{IsNext, IsWritten, Puts, Leaves}
use Rattle.scribe.specs.PageLaws.{left_next, left_behind, none_left}
use Rattle.scribe.specs.declared.Page.{Page}
use Rattle.scribe.specs.declared.Whole.{Whole}

texts_append : (behind : Behind) (xs ys : List Shown) → texts_of behind (xs ++ ys) ≡ texts_of behind xs ++ texts_of behind ys
unfolding texts_of
texts_append behind [] ys = refl
texts_append behind (x ∷ xs) ys =
    let text = text_by behind x.line x.samples in
    ap (λ (more : List ℕ). text ++ more) (texts_append behind xs ys) ∙ sym (append_assoc text (texts_of behind xs) (texts_of behind ys))

-- the opening's line comes first, and behind it what the calls add
module _ (c : Reading) (behind : Behind) (s : List ℕ) (opened : Asked) (m : List Float) (short : length s ≤ 65536)
    (e : opened ≡ open_of c s (quiet memory_length)) (f : m ≡ open_memory s (quiet memory_length)) (carried : ℕ)
    (g : carried ≡ carried_by opened.skipped opened.answer) where
  abbrev opening_text : List ℕ
  opening_text = texts_of behind (opening_shown opened.skipped opened.answer opened.state)

  abbrev calls_text : List ℕ
  calls_text = texts_of behind (shown_from (length s / 2 + 2) s m (quiet output_length) carried opened.state)

  pub begins : listing_of c behind s ≡ opening_text ++ calls_text
  unfolding listing_of shown_of called_of
  begins = rw (g, e, f, le-ltb 65536 (length s) short) (texts_append behind _ _)

-- then call by call: its line, and the rest, unless it was the last
module _ {w : Whole} {page : Page} (behind : Behind) (calls : ℕ) (s : List ℕ) (memory output : List Float) (carried : ℕ) (a : Audio)
    (left : Leaves w s page (texts_of behind (shown_from calls s memory output carried a))) where
  pub no_calls : calls ≡ 0 → IsWritten w s page
  unfolding texts_of shown_from
  no_calls z = none_left (rw z at left)

  module _ (more : ℕ) (x : Listed) (m o : List Float) (z : calls ≡ suc more) (e : x ≡ next_of s memory output carried a)
      (f : m ≡ decode_memory s memory output a) (g : o ≡ decode_output s memory output a) where
    turn : texts_of behind (shown_from calls s memory output carried a)
        ≡ text_by behind x.line o ++ texts_of behind (cond (is_last x.line) [] (shown_from more s m o 0 x.state))
    unfolding texts_of shown_from
    turn = rw (z, e, f, g)

    pub line_next : IsNext page (text_by behind x.line o)
    line_next = left_next _ (subst (Leaves w s page) turn left)

    module _ {new : Page} (put : Puts page (text_by behind x.line o) new) (last : Bool) (t : last ≡ is_last x.line) where
      pub after_last : last ≡ true → IsWritten w s new
      unfolding texts_of
      after_last h = none_left (rw (sym t ∙ h) at (left_behind put (subst (Leaves w s page) turn left)))

      pub after_other : last ≡ false → Leaves w s new (texts_of behind (shown_from more s m o 0 x.state))
      after_other h = rw (sym t ∙ h) at (left_behind put (subst (Leaves w s page) turn left))

-- of too long a stream there is one line
module _ (c : Reading) (behind : Behind) (s : List ℕ) (long : 65536 < length s) where
  pub one_line : listing_of c behind s ≡ text_by behind Long [] ++ []
  unfolding listing_of shown_of texts_of
  one_line = rw (lt-ltb 65536 (length s) long)
