-- A test that antt computes at each entry of a list, and what it says wherever one looks, past the end too; what holds of each
-- entry after a store, and in a list of copies.
-- Assumes nothing.
use Rattle.std.specs.Prelude.{ℕ, zero, suc, ◌≡◌, refl, Bool, true, ◌&&◌, List, [], ◌∷◌, T, get_or, set, replicate}
use Rattle.ground.specs.Upto.{and_left, and_right}

-- p holds at each entry
abbrev pub every : {A : Type 0} → (A → Bool) → List A → Bool
every p [] = true
every p (x ∷ xs) = p x && every p xs

pub entry : {A : Type 0} (p : A → Bool) (d : A) (xs : List A) → T (p d) → T (every p xs) → (i : ℕ) → T (p (get_or xs i d))
entry p d [] t u i = t
entry p d (x ∷ xs) t u zero = and_left (p x) (every p xs) u
entry p d (x ∷ xs) t u (suc i) = entry p d xs t (and_right (p x) (every p xs) u) i

-- what holds of each entry, and of a value, holds of each entry once the value is stored
pub each_after_set : {A : Type 0} (P : A → Type 0) (d : A) (xs : List A) (k : ℕ) (v : A) → ((i : ℕ) → P (get_or xs i d)) → P v →
    (i : ℕ) → P (get_or (set xs k v) i d)
each_after_set P d [] k v p q i = p i
each_after_set P d (x ∷ xs) zero v p q zero = q
each_after_set P d (x ∷ xs) zero v p q (suc i) = p (suc i)
each_after_set P d (x ∷ xs) (suc k) v p q zero = p 0
each_after_set P d (x ∷ xs) (suc k) v p q (suc i) = each_after_set P d xs k v (λ j. p (suc j)) q i

pub copies_at : {A : Type 0} (d : A) (n i : ℕ) → get_or (replicate n d) i d ≡ d
copies_at d zero i = refl
copies_at d (suc n) zero = refl
copies_at d (suc n) (suc i) = copies_at d n i
