-- What `?` hands on, and what an `if let` that found nothing tells. Assumes nothing.
use Rattle.std.specs.Prelude.{◌≡◌, refl, Option, Some, None, Result, Ok, Err}
use Rattle.std.specs.Result.{IsErr, IsErrAnd}
use Rattle.std.proofs.Common.{ap}

-- the error that it was given
pub handed_on : {A E : Type 0} (y : Result A E) (e : E) → IsErr y × IsErrAnd y (λ f. f ≡ e) → y ≡ Err e
handed_on (Ok x) e up = absurd up.1
handed_on (Err f) e up = ap Err up.1

-- what is not there is None
pub not_there : {A : Type 0} (o : Option A) → ((x : A) → o ≡ Some x → ⊥) → o ≡ None
not_there (Some x) n = absurd (n x refl)
not_there None n = refl
