-- The scale factors of a place by its selector, from the fields that were read. A selector that is none of the first three reads as 3.
-- Assumes nothing.
use Prim.Native.Nat.{ℕ, zero, suc}
use mathlib.Core.Path.{◌≡◌, refl, sym}
use mathlib.Core.List.{List}
use Rattle.buffer.specs.Calls.{field_of}
use Rattle.buffer.specs.declared.Reader.{Reader}
use Rattle.buffer.specs.declared.Taken.{Taken}
use Rattle.grammar.specs.Reads.{taken, run}
use Rattle.grammar.specs.Run.{field_then, run_done}
use Rattle.samples.specs.Sample.{factor_of}
use Rattle.ground.specs.Stores.{three}
use Rattle.side.specs.Side.{factors_of}

module _ (s : List ℕ) (r : Reader) (place : ℕ) (xs ys : List ℕ) (x : Taken ℕ) (a : ℕ) (read_x : x ≡ field_of s r 6) (is_a : a ≡ factor_of x.value) where
  pub one_factor : ys ≡ three place a a a xs → taken ys x.next ≡ run (factors_of 2 place xs) s r
  unfolding factors_of
  one_factor e = field_then _ _ _ _ read_x (rw (e, is_a) (sym (run_done _ _ _)))

  module _ (y : Taken ℕ) (b : ℕ) (read_y : y ≡ field_of s x.next 6) (is_b : b ≡ factor_of y.value) where
    pub first_twice : ys ≡ three place a a b xs → taken ys y.next ≡ run (factors_of 1 place xs) s r
    unfolding factors_of
    first_twice e = field_then _ _ _ _ read_x (field_then _ _ _ _ read_y (rw (e, is_a, is_b) (sym (run_done _ _ _))))

    pub second_twice : (selector : ℕ) → (selector ≡ 0 → ⊥) → (selector ≡ 1 → ⊥) → (selector ≡ 2 → ⊥) → ys ≡ three place a b b xs →
        taken ys y.next ≡ run (factors_of selector place xs) s r
    unfolding factors_of
    second_twice zero u v w e = absurd (u refl)
    second_twice (suc zero) u v w e = absurd (v refl)
    second_twice (suc (suc zero)) u v w e = absurd (w refl)
    second_twice (suc (suc (suc n))) u v w e =
        field_then _ _ _ _ read_x (field_then _ _ _ _ read_y (rw (e, is_a, is_b) (sym (run_done _ _ _))))

    pub three_factors : (z : Taken ℕ) (c : ℕ) → z ≡ field_of s y.next 6 → c ≡ factor_of z.value → ys ≡ three place a b c xs →
        taken ys z.next ≡ run (factors_of 0 place xs) s r
    unfolding factors_of
    three_factors z c read-z is_c e =
        field_then _ _ _ _ read_x
        (field_then _ _ _ _ read_y (field_then _ _ _ _ read-z (rw (e, is_a, is_b, is_c) (sym (run_done _ _ _)))))
