-- A format as a program of reads: either all is read, or a field of n bits comes next and the rest goes by its value.
-- The syntax tables of ISO/IEC 11172-3, 2.4.1, are written in this form, field after field.
use Rattle.std.specs.Prelude.{ℕ, ◌+◌, List}
use Rattle.buffer.specs.Calls.{field_of}
pub use Rattle.buffer.specs.Calls.{taken}
use Rattle.buffer.specs.declared.Reader.{Reader}
pub use Rattle.buffer.specs.declared.Taken.{Taken}

pub data Reads (A : Type 0) : Type 0 where
  done : A → Reads A
  ask : ℕ → (ℕ → Reads A) → Reads A

-- one program after the other
unfoldable pub ◌>>=◌ : {A B : Type 0} → Reads A → (A → Reads B) → Reads B
◌>>=◌ (done a) f = f a
◌>>=◌ (ask n k) f = ask n (λ v. k v >>= f)

infixl 10 ◌>>=◌
-- the reading of a stream from a place; 01: a field cut off reads as 0 and stays, "a narrower one after it may succeed"
unfoldable pub run : {A : Type 0} → Reads A → List ℕ → Reader → Taken A
run (done a) s r = taken a r
run (ask n k) s r = run (k (field_of s r n).value) s (field_of s r n).next

-- how many bits it calls for: the sum of the widths it asks for on its way
unfoldable pub called : {A : Type 0} → Reads A → List ℕ → Reader → ℕ
called (done a) s r = 0
called (ask n k) s r = n + called (k (field_of s r n).value) s (field_of s r n).next
