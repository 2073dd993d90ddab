-- What a call knows behind the two refusals that each begins with.
-- Assumes nothing.
use Rattle.std.specs.Prelude.{ℕ, ◌≤◌, ◌≡◌, List, length, ltb, Result, Ok, Err}
use Rattle.std.specs.Result.{IsErr, IsErrAnd}
use Rattle.std.proofs.Common.{sym, subst, ◌∙◌, ltb-false}
use Rattle.ground.specs.Tests.{by_test}
use Rattle.buffer.specs.Bits.{longest_stream, farthest_bit}
use Rattle.buffer.specs.Calls.{gate}
use Rattle.buffer.specs.declared.Reader.{Reader}
use Rattle.refusal.specs.Handed.{handed_on}
use Rattle.refusal.specs.declared.Refusal.{Refusal}

module _ {A : Type 0} (s : List ℕ) (r : Reader) (go : Result A Refusal) where
  -- either the call goes on, or its answer is the refusal
  abbrev Goes : Result (Unit {0}) Refusal → Type 0
  Goes (Ok u) = (length s ≤ longest_stream) × (r.at.0 ≤ farthest_bit) × (go ≡ gate s r go)
  Goes (Err e) = Err e ≡ gate s r go

  goes : Goes (gate s r (Ok tt))
  goes =
      by_test Goes (ltb longest_stream (length s)) _ _ (λ h. simp h)
      (λ h. by_test Goes (ltb farthest_bit r.at.0) _ _ (λ k. simp (h, k)) (λ k. (ltb-false _ _ h, ltb-false _ _ k, simp (h, k))))

  pub goes_on : {x : Result (Unit {0}) Refusal} {u : Unit {0}} → x ≡ gate s r (Ok tt) → x ≡ Ok u
      → (length s ≤ longest_stream) × (r.at.0 ≤ farthest_bit) × (go ≡ gate s r go)
  goes_on is e = subst Goes e (subst Goes (sym is) goes)

  -- what `?` answers then
  pub refuses : {x : Result (Unit {0}) Refusal} {e : Refusal} {y : Result A Refusal} → IsErr y × IsErrAnd y (λ f. f ≡ e)
      → x ≡ gate s r (Ok tt) → x ≡ Err e → y ≡ gate s r go
  refuses up is e = handed_on _ _ up ∙ subst Goes e (subst Goes (sym is) goes)

-- behind them the stream is short enough, and the position near enough
pub admits : (s : List ℕ) (r : Reader) {x : Result (Unit {0}) Refusal} {u : Unit {0}} → x ≡ gate s r (Ok tt) → x ≡ Ok u
    → (length s ≤ longest_stream) × (r.at.0 ≤ farthest_bit)
admits s r is e = let on = goes_on {A = Unit {0}} s r (Ok tt) is e in (on.0, on.1)
