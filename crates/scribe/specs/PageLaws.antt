-- Laws of a page: a piece after the other, and a whole text, from its beginning to its end. Assumes nothing.
use Rattle.std.specs.Prelude.{ℕ, ◌≡◌, List, [], ◌++◌, refl}
use Rattle.std.proofs.Common.{◌∙◌, arith, length-append}
use Rattle.scribe.specs.Next.{first_next, second_next, rest_next, rest_behind, nothing_written, all_written}
use Rattle.scribe.specs.Page.{IsNext, Puts, Leaves, IsNew, IsWritten}
use Rattle.scribe.specs.Whole.{whole_of}
use Rattle.scribe.specs.declared.Page.{Page}
use Rattle.scribe.specs.declared.Whole.{Whole}

-- ---- of two pieces the first comes next, and behind it the second

pub next_first : {page : Page} {p : List ℕ} (q : List ℕ) → IsNext page (p ++ q) → IsNext page p
next_first {p = p} q n = record { next = first_next p q n.next }

pub next_behind : {old new : Page} {p q : List ℕ} → Puts old p new → IsNext old (p ++ q) → IsNext new q
next_behind {p = p} {q = q} put n = record { next = rw (put.what, put.stream) (second_next p q put.bytes n.next) }

pub puts_nothing : {page : Page} → Puts page [] page
puts_nothing = record { what = refl; stream = refl; bytes = omega arith; kept = λ why e. e }

pub puts_both : {old between new : Page} {p q : List ℕ} → Puts old p between → Puts between q new → Puts old (p ++ q) new
puts_both {p = p} {q = q} first second =
    record {
      what = second.what ∙ first.what;
      stream = second.stream ∙ first.stream;
      bytes = omega (arith, second.bytes, first.bytes, length-append p q);
      kept = λ why e. second.kept why (first.kept why e);
    }

-- the four, for a search
pub ruleset pieces = (next_first, next_behind, puts_nothing, puts_both)

-- ---- a whole text, from its beginning to its end

module _ {w : Whole} {s : List ℕ} {page : Page} where
  pub all_left : (rest : List ℕ) → IsNew w s page → whole_of w s ≡ rest → Leaves w s page rest
  all_left rest new e = record { what = new.what; stream = new.stream; left = nothing_written new.bytes e }

  pub left_next : {p : List ℕ} (q : List ℕ) → Leaves w s page (p ++ q) → IsNext page p
  left_next {p = p} q l = record { next = rw (l.what, l.stream) (rest_next p q l.left) }

  pub left_behind : {new : Page} {p q : List ℕ} → Puts page p new → Leaves w s page (p ++ q) → Leaves w s new q
  left_behind {p = p} {q = q} put l =
      record { what = put.what ∙ l.what; stream = put.stream ∙ l.stream; left = rest_behind p q put.bytes l.left }

  pub none_left : Leaves w s page [] → IsWritten w s page
  none_left l = record { what = l.what; stream = l.stream; bytes = all_written l.left }
