-- How `run` goes through a program, step by step: what the proofs of code cite.
-- Assumes nothing.
use Rattle.std.specs.Prelude.{ℕ, ◌+◌, ◌≡◌, refl, List}
use Rattle.std.proofs.Common.{sym, ◌∙◌, subst, arith}
use Rattle.buffer.specs.Calls.{field_of}
use Rattle.buffer.specs.declared.Reader.{Reader}
use Rattle.grammar.specs.Reads.{Reads, done, ask, ◌>>=◌, Taken, taken, run, called}

pub run_done : {A : Type 0} (a : A) (s : List ℕ) (r : Reader) → run (done a) s r ≡ taken a r
unfolding run
run_done a s r = refl

pub run_ask : {A : Type 0} (n : ℕ) (k : ℕ → Reads A) (s : List ℕ) (r : Reader) →
    run (ask n k) s r ≡ run (k (field_of s r n).value) s (field_of s r n).next
unfolding run
run_ask n k s r = refl

pub run_bind : {A B : Type 0} (m : Reads A) (f : A → Reads B) (s : List ℕ) (r : Reader) →
    run (m >>= f) s r ≡ run (f (run m s r).value) s (run m s r).next
unfolding run ◌>>=◌
run_bind (done a) f s r = refl
run_bind (ask n k) f s r = run_bind (k (field_of s r n).value) f s (field_of s r n).next

pub called_bind : {A B : Type 0} (m : Reads A) (f : A → Reads B) (s : List ℕ) (r : Reader) →
    called (m >>= f) s r ≡ called m s r + called (f (run m s r).value) s (run m s r).next
unfolding run called ◌>>=◌
called_bind (done a) f s r = omega arith
called_bind (ask n k) f s r = omega (arith, called_bind (k (field_of s r n).value) f s (field_of s r n).next)

-- a field that was read, and what comes after it
pub field_then : {A : Type 0} (n : ℕ) (k : ℕ → Reads A) (s : List ℕ) (r : Reader) {f : Taken ℕ} {x : Taken A} →
    f ≡ field_of s r n → x ≡ run (k f.value) s f.next → x ≡ run (ask n k) s r
field_then n k s r {x = x} e g = subst (λ y. x ≡ run (k y.value) s y.next) e g ∙ sym (run_ask n k s r)

-- a program that was run, and what comes after it
pub and_then : {A B : Type 0} (m : Reads A) (f : A → Reads B) (s : List ℕ) (r : Reader) {r' : Reader} {a : A} {x : Taken B} →
    taken a r' ≡ run m s r → x ≡ run (f a) s r' → x ≡ run (m >>= f) s r
and_then m f s r {x = x} e g = subst (λ y. x ≡ run (f y.value) s y.next) e g ∙ sym (run_bind m f s r)
