-- A search: the first place at which a test holds.
-- Assumes nothing.
use Prim.Native.Nat.{ℕ, zero, suc, ◌+◌, ◌-◌, ◌≤◌, ◌<◌}
use Rattle.std.specs.Prelude.{◌≡◌, Bool, true, false, cond, T}
use Rattle.std.proofs.Common.{sym, ap, subst, ◌∙◌}
use Rattle.std.proofs.Math.Decide.{ℕ_discrete}
use native.Mathlib.Omega.{arith}
use Rattle.ground.specs.Rows.{is_false}
use Rattle.ground.specs.Tests.{by_test}

-- the first of the k places from i at which a test holds, or else i + k
unfoldable pub first_from : (ℕ → Bool) → ℕ → ℕ → ℕ
first_from p zero i = i
first_from p (suc k) i = cond (p i) i (first_from p k (i + 1))

-- a search up to `last` that ends at x: what that says at i, and what it leaves for i + 1
module _ (p : ℕ → Bool) (last i x : ℕ) where
  pub first_none : last ≤ i → first_from p (last - i) i ≡ x → i ≡ x
  unfolding first_from
  first_none h e =
      let z : last - i ≡ 0 = omega arith in
      rw z at e

  pub first_here : i < last → p i ≡ true → first_from p (last - i) i ≡ x → i ≡ x
  unfolding first_from
  first_here h t e =
      let z : last - i ≡ suc (last - (i + 1)) = omega arith in
      rw (z, t) at e

  pub first_later : i < last → p i ≡ false → first_from p (last - i) i ≡ x → first_from p (last - (i + 1)) (i + 1) ≡ x
  unfolding first_from
  first_later h t e =
      let z : last - i ≡ suc (last - (i + 1)) = omega arith in
      rw (z, t) at e

-- a search stands at its start or after it, and at most at its end
pub first_within : (p : ℕ → Bool) (k i : ℕ) → (i ≤ first_from p k i) × (first_from p k i ≤ i + k)
unfolding first_from
first_within p zero i = (omega arith, omega arith)
first_within p (suc k) i =
    let later = first_within p k (i + 1) in
    by_test (λ x. (i ≤ x) × (x ≤ i + suc k)) (p i) _ _ (λ _. (omega arith, omega arith)) (λ _. (omega arith, omega arith))

-- where it stops before its end the test holds
pub first_holds : (p : ℕ → Bool) (k i : ℕ) → first_from p k i < i + k → p (first_from p k i) ≡ true
unfolding first_from
first_holds p zero i h = absurd (omega arith)
first_holds p (suc k) i h =
    by_test (λ x. x < i + suc k → p x ≡ true) (p i) _ _ (λ e _. e) (λ _ l. first_holds p k (i + 1) (omega arith)) h

-- it stops at a place where the test holds, or before it ..
pub first_before : (p : ℕ → Bool) (k i j : ℕ) → i ≤ j → j < i + k → p j ≡ true → first_from p k i ≤ j
unfolding first_from
first_before p zero i j l m t = absurd (omega arith)
first_before p (suc k) i j l m t =
    by_test (λ x. x ≤ j) (p i) _ _ (λ _. l) (λ e. first_before p k (i + 1) j (above e (ℕ_discrete i j)) (omega arith) t)
  where
    above : p i ≡ false → Dec (i ≡ j) → i + 1 ≤ j
    above e (yes q) = absurd (subst T (sym t ∙ ap p (sym q) ∙ e) tt)
    above e (no q) = omega arith

-- .. so the test fails at each place that was passed ..
pub first_passes : (p : ℕ → Bool) (k i j : ℕ) → i ≤ j → j < first_from p k i → p j ≡ false
first_passes p k i j l m =
    let within = first_within p k i in
    is_false (p j) (λ t. absurd (let before = first_before p k i j l (omega arith) t in omega arith))

-- .. and it stops there, where it holds at none before
pub first_is : (p : ℕ → Bool) (k i j : ℕ) → i ≤ j → j < i + k → p j ≡ true → ((m : ℕ) → i ≤ m → m < j → p m ≡ false) → first_from p k i ≡ j
first_is p k i j l m t none = go (ℕ_discrete (first_from p k i) j)
  where
    go : Dec (first_from p k i ≡ j) → first_from p k i ≡ j
    go (yes e) = e
    go (no e) =
        let before = first_before p k i j l m t in
        let within = first_within p k i in
        let holds = first_holds p k i (omega arith) in
        absurd (subst T (sym holds ∙ none (first_from p k i) within.0 (omega arith)) tt)
