-- A test that antt computes at each number below a bound, and what it says of each: a table's rule, proved once.
-- Assumes nothing.
use Rattle.std.specs.Prelude.{◌≡◌, Bool, true, false, ◌&&◌, ◌||◌, ℕ, zero, suc, ◌≤◌, ◌<◌, T}
use Rattle.std.proofs.Common.{subst, sym, not-suc-le-zero, le_of_suc-le-suc}
use Rattle.std.proofs.Math.Decide.{ℕ_discrete}
use Rattle.std.proofs.Math.Arith.{lt_of_le-ne}

pub and_left : (a b : Bool) → T (a && b) → T a
and_left true b t = tt
and_left false b t = t

pub and_right : (a b : Bool) → T (a && b) → T b
and_right true b t = t
and_right false b t = absurd t

pub or_left : (a b : Bool) → T (a || b) → (T b → ⊥) → T a
or_left true b t f = tt
or_left false b t f = absurd (f t)

-- f holds at each number below n
abbrev pub upto : (ℕ → Bool) → ℕ → Bool
upto f zero = true
upto f (suc n) = f n && upto f n

last_or_before : (f : ℕ → Bool) (n k : ℕ) → T (f n) → ((k < n) → T (f k)) → k ≤ n → Dec (k ≡ n) → T (f k)
last_or_before f n k t r h (yes p) = subst (λ (m : ℕ). T (f m)) (sym p) t
last_or_before f n k t r h (no q) = r (lt_of_le-ne h q)

pub below : (f : ℕ → Bool) (n : ℕ) → T (upto f n) → (k : ℕ) → k < n → T (f k)
below f zero t k h = absurd (not-suc-le-zero h)
below f (suc n) t k h =
    last_or_before f n k (and_left (f n) (upto f n) t) (below f n (and_right (f n) (upto f n) t) k) (le_of_suc-le-suc h)
    (ℕ_discrete k n)

-- the same at two and at three numbers
pub below2 : (f : ℕ → ℕ → Bool) (m n : ℕ) → T (upto (λ (i : ℕ). upto (f i) n) m) → (i j : ℕ) → i < m → j < n → T (f i j)
below2 f m n t i j p q = below (f i) n (below (λ (i : ℕ). upto (f i) n) m t i p) j q

pub below3 : (f : ℕ → ℕ → ℕ → Bool) (l m n : ℕ) → T (upto (λ (h : ℕ). upto (λ (i : ℕ). upto (f h i) n) m) l) → (h i j : ℕ) → h < l → i < m → j < n → T (f h i j)
below3 f l m n t h i j o p q = below2 (f h) m n (below (λ (h : ℕ). upto (λ (i : ℕ). upto (f h i) n) m) l t h o) i j p q
