-- A text of a stream, piece by piece: what is written of it, what comes next, and what is left. Assumes nothing.
use Rattle.std.specs.Prelude.{ℕ, ◌+◌, ◌≡◌, List, length, Some, None}
use Rattle.std.specs.declared.io.Error.{Error}
use Rattle.scribe.specs.Next.{Next, Rest}
use Rattle.scribe.specs.Whole.{whole_of}
use Rattle.scribe.specs.declared.Page.{Page}
use Rattle.scribe.specs.declared.Whole.{Whole}

-- all that is written of its stream
abbrev pub text_of : Page → List ℕ
text_of page = whole_of page.what page.stream.now

-- this comes next
pub record IsNext (page : Page) (piece : List ℕ) : Type 0 where
  pub next : Next (text_of page) page.bytes piece

-- this is written, of the same text; and a write that failed before is not forgotten
pub record Puts (old : Page) (piece : List ℕ) (new : Page) : Type 0 where
  pub what : new.what ≡ old.what
  pub stream : new.stream.now ≡ old.stream.now
  pub bytes : new.bytes ≡ old.bytes + length piece
  pub kept : (why : Error) → old.failure ≡ Some why → new.failure ≡ Some why

-- nothing is written yet of that text, and no write has failed
pub record IsNew (w : Whole) (s : List ℕ) (page : Page) : Type 0 where
  pub what : page.what ≡ w
  pub stream : page.stream.now ≡ s
  pub bytes : page.bytes ≡ 0
  pub failure : page.failure ≡ None

-- this is all that is left to write of it
pub record Leaves (w : Whole) (s : List ℕ) (page : Page) (rest : List ℕ) : Type 0 where
  pub what : page.what ≡ w
  pub stream : page.stream.now ≡ s
  pub left : Rest (whole_of w s) page.bytes rest

-- all of it is written
pub record IsWritten (w : Whole) (s : List ℕ) (page : Page) : Type 0 where
  pub what : page.what ≡ w
  pub stream : page.stream.now ≡ s
  pub bytes : page.bytes ≡ length (whole_of w s)
