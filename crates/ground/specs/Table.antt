-- Lists that are given by a rule at each index, and the loops that fill them.
-- Assumes nothing.
use Prim.Native.Nat.{ℕ, zero, suc, ◌+◌, ◌<◌}
use Rattle.std.specs.Prelude.{◌≡◌, List, [], ◌∷◌, length, get_or, set}
use Rattle.std.proofs.Math.Path.{refl}
use Rattle.std.proofs.Common.{ap, sym, ◌∙◌, below_more, arith, ext_get_or, get_or-set_same, get_or-set_other}

-- f 0, .., f (n - 1)
unfoldable pub table : {A : Type 0} → ℕ → (ℕ → A) → List A
table zero f = []
table (suc n) f = f 0 ∷ table n (λ i. f (suc i))

pub length_table : {A : Type 0} (n : ℕ) (f : ℕ → A) → length (table n f) ≡ n
unfolding table
length_table zero f = refl
length_table (suc n) f = ap suc (length_table n (λ i. f (suc i)))

-- d is what stands past a list's end
module _ {A : Type 0} (d : A) where
  pub at_table : (n : ℕ) (f : ℕ → A) (i : ℕ) → i < n → get_or (table n f) i d ≡ f i
  unfolding table
  at_table zero f i h = elim h [ ]
  at_table (suc n) f zero h = refl
  at_table (suc n) f (suc i) h = at_table n (λ j. f (suc j)) i (omega arith)

  -- a list of n values with the rule's value at each index is the table
  pub is_table : (n : ℕ) (f : ℕ → A) (xs : List A) → length xs ≡ n → ((i : ℕ) → i < n → get_or xs i d ≡ f i) → xs ≡ table n f
  is_table n f xs l h =
      ext_get_or d xs (table n f) (l ∙ sym (length_table n f))
      (λ i b. h i (omega arith) ∙ sym (at_table n f i (omega arith)))

  -- a turn of a loop that stores the rule's value at each index in turn
  pub table_more : (f : ℕ → A) (xs : List A) (i : ℕ) → i < length xs → ((k : ℕ) → k < i → get_or xs k d ≡ f k)
      → (k : ℕ) → k < i + 1 → get_or (set xs i (f i)) k d ≡ f k
  table_more f xs i l r =
      below_more (λ k. get_or (set xs i (f i)) k d ≡ f k) i
      (λ k h. get_or-set_other xs i k (f i) d (λ e. omega arith) ∙ r k h) (get_or-set_same xs i (f i) d l)
