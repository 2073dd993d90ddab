-- What a function that is handed on does with the fields of a place: `pre` says that it may be called, `post` what a call gave.
-- Assumes nothing.
use Rattle.std.specs.Prelude.{ℕ, ◌<◌, ◌≡◌, List}
use Rattle.std.specs.Borrow.{MutBor}
use Rattle.buffer.specs.declared.Reader.{Reader}
use Rattle.grammar.specs.Reads.{Reads, run, taken}

-- it may be called at each of the 64 places
abbrev pub TakesPlaces : {T : Type 0} → (Reader → ℕ → MutBor T → Type 0) → Type 0
TakesPlaces {T} pre = (r : Reader) (place : ℕ) (x : MutBor T) → place < 64 → pre r place x

-- it reads each place as the program `one` says
abbrev pub ReadsAs : {T : Type 0} → (Reader → ℕ → MutBor T → Reader → MutBor T → Type 0) → (ℕ → T → Reads T) → List ℕ → Type 0
ReadsAs {T} post one s =
    (r : Reader) (place : ℕ) (x : MutBor T) (r' : Reader) (x' : MutBor T) → place < 64 → post r place x r' x' → taken x'.now r' ≡ run (one place x.now) s r
