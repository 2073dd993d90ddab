use Prim.Native.Nat.{ℕ}
use mathlib.Core.Path.{◌≡◌, sym, ap, ◌∙◌}
use mathlib.Core.Bool.{Bool, true, false}
use mathlib.Core.List.{[]}
use native.Mathlib.Omega.{arith}
use lib.Dec.{lit<}
use Rattle.buffer.specs.declared.BytePos.{BytePos}
use Rattle.state.specs.declared.Audio.{Audio}
use Rattle.listing.specs.Lines.{byte_position, opening_told, opening_shown, lines_in}
use Rattle.listing.specs.Tally.{junk_in}
use Rattle.listing.specs.declared.Line.TheVariants.{Refused as RefusedLine}
use Rattle.tally.specs.Tally.{add_of, tally_of}
use Rattle.tally.specs.declared.Tally.{Tally}
use Rattle.tally.proofs.Adds.{added, few}
use Rattle.tally.proofs.opening.Goals as goal
use Rattle.verdict.specs.Verdict.{Heading}
use Rattle.refusal.specs.Numbers.{number_of}
use Rattle.refusal.specs.declared.Refusal.{Refusal}
use Rattle.std.specs.Prelude.{Ok, Err}

module _ (k : ℕ) (answer : Heading) (a : Audio) (t : Tally) (nothing : t ≡ tally_of []) where
  known : answer ≡ Ok tt → t ≡ tally_of (lines_in (opening_shown k answer a))
  known e = rw (nothing, e)

  module _ (n : Refusal) (number : ℕ) (named : number ≡ number_of n) (told : Bool) (e : answer ≡ Err n) (is : told ≡ opening_told number) where
    untold : told ≡ false → t ≡ tally_of (lines_in (opening_shown k answer a))
    untold h = rw (nothing, e, ← named, sym is ∙ h)

    refusal : (at : BytePos) → at ≡ byte_position a → told ≡ true → add_of t (RefusedLine number at k) ≡ tally_of (lines_in (opening_shown k answer a))
    refusal at p h = rw (nothing, e, ← named, sym is ∙ h, p) (sym (added [] (RefusedLine number (byte_position a) k)))

pub add-requires : goal.add-requires
unfolding tally_of junk_in
add-requires c = record { count_bound = rw c.nothing-then-is_told.ensures (few [] (lit< tt)); line_bound = omega (arith, ap (λ (t : Tally). t.junk) c.nothing-then-is_told.ensures) }

pub returns-then-is_told : goal.returns-then-is_told
returns-then-is_told c =
    c.add.ensures
    ∙ refusal _ _ _ _ c.nothing-then-is_told.ensures _ _ c.number-number.ensures _ c.in-Err.is c.is_told.ensures _ c.byte_of-at.ensures
    c.if-is_told.true
