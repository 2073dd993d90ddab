-- What a test on numbers says, and choice by a test. Definitions choose by `cond` of the library.
-- Assumes nothing.
use Rattle.std.specs.Prelude.{◌≡◌, refl, Bool, true, false, cond, not, ◌&&◌, ◌||◌, T}
use Rattle.std.proofs.Common.{sym, subst, lt-ltb, le-ltb, le-leb, eq-eqb, ne_eqb}
use Rattle.std.proofs.lemmas.Bool.{lt-leb}

-- each test's outcome, from the fact that holds: for `search (needs, tests)`
pub ruleset tests = (lt-ltb, le-ltb, le-leb, lt-leb, eq-eqb, ne_eqb)

-- what holds of both outcomes of a test holds of the one that is chosen
pub by_test : {A : Type 0} (P : A → Type 0) (t : Bool) (a b : A) → (t ≡ true → P a) → (t ≡ false → P b) → P (cond t a b)
by_test P true a b f g = f refl
by_test P false a b f g = g refl

-- neither of two tests holds where one or the other does not
pub neither : (a b : Bool) → (a || b) ≡ false → (a ≡ false) × (b ≡ false)
neither false false e = (refl, refl)
neither false true e = (refl, e)
neither true b e = (e, absurd (subst (λ (t : Bool). T t) e tt))

-- both of two tests hold where one and the other do
pub record Both (a b : Bool) : Type 0 where
  pub first : a ≡ true
  pub second : b ≡ true

pub both : {a b : Bool} → (a && b) ≡ true → Both a b
both {a = true} {b = b} e = record { first = refl; second = e }
both {a = false} {b = b} e = absurd (subst (λ (t : Bool). T t) (sym e) tt)

-- the second holds where the first does not hinder it
pub unless : {a b : Bool} → (not a || b) ≡ true → a ≡ true → b ≡ true
unless {a = true} {b = b} e h = e
unless {a = false} {b = b} e h = absurd (subst (λ (t : Bool). T t) (sym h) tt)

-- by cases on which of two tests holds
pub either : {a b : Bool} (P : Type 0) → (a || b) ≡ true → (a ≡ true → P) → (b ≡ true → P) → P
either {a = true} {b = b} P e f g = f refl
either {a = false} {b = b} P e f g = g e
