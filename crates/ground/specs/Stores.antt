-- Values stored in a list: one, and three that lie 64 apart. Assumes nothing.
use Rattle.std.specs.Prelude.{ℕ, ◌+◌, ◌<◌, ◌≡◌, List, length, get_or, set}
use Rattle.std.proofs.Common.{◌∙◌, arith, length-set, get_or-set_same, get_or-set_other}
use Rattle.std.proofs.Math.Decide.{ℕ_discrete}

-- three values of a place, one for each part of a frame or each slot of a granule: 64 apart, so that a slot's lie side by side
abbrev pub three : {A : Type 0} → ℕ → A → A → A → List A → List A
three place x y z xs = set (set (set xs place x) (place + 64) y) (place + 128) z

module _ {A : Type 0} (d : A) where
  -- an entry after a store: the value, or as it was
  pub set_either : (xs : List A) (place i : ℕ) (v w : A) → place < length xs → (i ≡ place → v ≡ w) → ((i ≡ place → ⊥) → get_or xs i d ≡ w)
      → get_or (set xs place v) i d ≡ w
  set_either xs place i v w l new old = go (ℕ_discrete i place)
    where
      go : Dec (i ≡ place) → get_or (set xs place v) i d ≡ w
      go (yes e) = rw e (get_or-set_same xs place v d l) ∙ new e
      go (no e) = get_or-set_other xs place i v d e ∙ old e

  module _ (place : ℕ) (x y z : A) (xs : List A) where
    abbrev one : List A
    one = set xs place x

    abbrev two : List A
    two = set one (place + 64) y

    pub length_three : length (three place x y z xs) ≡ length xs
    length_three = length-set two (place + 128) z ∙ length-set one (place + 64) y ∙ length-set xs place x

    pub three_either : place + 128 < length xs → (i : ℕ) (w : A) → (i ≡ place → x ≡ w) → (i ≡ place + 64 → y ≡ w) → (i ≡ place + 128 → z ≡ w)
        → ((i ≡ place → ⊥) → (i ≡ place + 64 → ⊥) → (i ≡ place + 128 → ⊥) → get_or xs i d ≡ w) → get_or (three place x y z xs) i d ≡ w
    three_either room i w a b c old =
        set_either two (place + 128) i z w (omega (arith, length-set one (place + 64) y, length-set xs place x)) c
        (λ k. set_either one (place + 64) i y w (omega (arith, length-set xs place x)) b
        (λ j. set_either xs place i x w (omega arith) a (λ h. old h j k)))
