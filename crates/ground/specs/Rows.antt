-- What it means that a table of numbers is a call's: 01's "given exactly when", both ways, with all that is left behind.
-- Assumes nothing.
use Rattle.std.specs.Prelude.{ℕ, ◌≡◌, refl, Bool, true, false, cond, ◌↔◌, T}
use Rattle.std.proofs.Common.{sym, subst, ◌∙◌}

-- Row n x: a row of the table whose condition holds, with its number and its outcome. The call's outcome stands in such a row,
-- and no other outcome or number does: so at most one row holds, in whatever order they are read.
pub record TableOf {A : Type 0} (number : A → ℕ) (outcome : A) (Row : ℕ → A → Type 0) : Type 0 where
  pub holds : Row (number outcome) outcome
  pub only : {n : ℕ} {x : A} → Row n x → (x ≡ outcome) × (number x ≡ n)

-- the number n is given exactly when a row of that number holds, and what is left behind is in it
pub exactly : {A : Type 0} {number : A → ℕ} {outcome : A} {Row : ℕ → A → Type 0} → TableOf number outcome Row
    → (n : ℕ) (x : A) → ((x ≡ outcome) × (number outcome ≡ n)) ↔ Row n x
exactly {number = number} {outcome} {Row} t n x = (
  λ e. subst (λ y. Row n y) (sym e.0) (subst (λ k. Row k outcome) e.1 t.holds),
  λ r. let o = t.only r in (o.0, subst (λ y. number y ≡ n) o.0 o.1),
)

-- a test does not come out both ways
pub never : {t : Bool} → t ≡ true → t ≡ false → ⊥
never e f = subst T (sym e ∙ f) tt

-- nor neither way
pub is_true : (t : Bool) → (t ≡ false → ⊥) → t ≡ true
is_true true f = refl
is_true false f = absurd (f refl)

pub is_false : (t : Bool) → (t ≡ true → ⊥) → t ≡ false
is_false true f = absurd (f refl)
is_false false f = refl

-- a function of what is chosen is the choice of its values
pub push : {A B : Type 0} (f : A → B) (t : Bool) (a b : A) → f (cond t a b) ≡ cond t (f a) (f b)
push f true a b = refl
push f false a b = refl
