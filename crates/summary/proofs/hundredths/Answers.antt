use Rattle.std.specs.Prelude.{ℕ, ◌<◌, ◌/◌, ◌≡◌, Some, None, unwrap_or}
use Rattle.std.specs.Option.{SomeIff}
use Rattle.std.specs.declared.option.Option.{Option}
use Rattle.std.proofs.Common.{◌∙◌, sym, arith}
use Rattle.std.proofs.Math.Nat.{div-zero}
use Rattle.listing.specs.Summary.{hundredths_of}
use Rattle.summary.proofs.hundredths.Goals as goal

-- nothing by nothing is nothing
quotient : (o : Option ℕ) (n d : ℕ) → SomeIff o (0 < d) (n / d) → unwrap_or o 0 ≡ n / d
quotient None n d none = let e : d ≡ 0 = omega (arith, none) in rw e (sym (div-zero n))
quotient (Some x) n d some = some.1

pub returns : goal.returns
unfolding hundredths_of
returns c = c.unwrap_or.ensures ∙ quotient _ _ _ c.checked_div.ensures
