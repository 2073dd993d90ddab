-- Bounds on what is read, whatever the stream holds.
-- Assumes nothing.
use Rattle.std.specs.Prelude.{ℕ, ◌^◌, ◌<◌, ◌≡◌, List}
use Rattle.std.proofs.Common.{sym, subst}
use Rattle.buffer.specs.Laws.{field_small}
use Rattle.buffer.specs.Calls.{field_of}
use Rattle.buffer.specs.declared.Reader.{Reader}
use Rattle.grammar.specs.Reads.{Reads, done, ask, ◌>>=◌, taken, run}

-- whatever the fields hold, the value that is read has the property P
unfoldable pub Always : {A : Type 0} → (A → Type 0) → Reads A → Type 0
Always P (done a) = P a
Always P (ask n k) = (v : ℕ) → v < 2 ^ n → Always P (k v)

pub always_bind : {A B : Type 0} (Q : A → Type 0) (P : B → Type 0) (m : Reads A) (f : A → Reads B) →
    Always Q m → ((a : A) → Q a → Always P (f a)) → Always P (m >>= f)
unfolding Always ◌>>=◌
always_bind Q P (done a) f h g = g a h
always_bind Q P (ask n k) f h g = λ v l. always_bind Q P (k v) f (h v l) g

pub always_run : {A : Type 0} (P : A → Type 0) (m : Reads A) (s : List ℕ) (r : Reader) → Always P m → P (run m s r).value
unfolding Always run
always_run P (done a) s r h = h
always_run P (ask n k) s r h =
    always_run P (k (field_of s r n).value) s (field_of s r n).next (h (field_of s r n).value (field_small s r n))

-- what a caller learns of a value from the program that read it
pub learnt : {A : Type 0} (P : A → Type 0) (m : Reads A) (s : List ℕ) (r : Reader) {r' : Reader} {a : A} →
    taken a r' ≡ run m s r → Always P m → P a
learnt P m s r e h = subst (λ y. P y.value) (sym e) (always_run P m s r h)

-- nothing is asked of a value
unfoldable pub anything : {A : Type 0} → A → Type 0
anything x = Unit

pub always_anything : {A : Type 0} (m : Reads A) → Always anything m
unfolding Always anything
always_anything (done a) = tt
always_anything (ask n k) = λ v _. always_anything (k v)
