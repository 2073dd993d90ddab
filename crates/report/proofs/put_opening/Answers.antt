use Prim.Native.Nat.{ℕ}
use mathlib.Core.Path.{◌≡◌, sym, subst, ◌∙◌}
use mathlib.Core.Bool.{Bool, true, false}
use mathlib.Core.List.{[], append-nil}
use Rattle.state.specs.declared.Audio.{Audio}
use Rattle.buffer.specs.declared.BytePos.{BytePos}
use Rattle.listing.specs.declared.Behind.{Behind}
use Rattle.listing.specs.declared.Line.TheVariants.{Refused as RefusedLine}
use Rattle.listing.specs.Lines.{byte_position, opening_told, opening_shown}
use Rattle.listing.specs.Text.{text_by, texts_of}
use Rattle.scribe.specs.Page.{IsNext, Puts}
use Rattle.scribe.specs.PageLaws.{puts_nothing}
use Rattle.report.proofs.put_opening.Goals as goal
use Rattle.verdict.specs.Verdict.{Heading}
use Rattle.refusal.specs.Numbers.{number_of}
use Rattle.refusal.specs.declared.Refusal.{Refusal}
use Rattle.std.specs.Prelude.{Ok, Err}

module _ (behind : Behind) (k : ℕ) (answer : Heading) (a : Audio) where
  known : answer ≡ Ok tt → texts_of behind (opening_shown k answer a) ≡ []
  unfolding texts_of
  known e = rw e

  module _ (n : Refusal) (number : ℕ) (named : number ≡ number_of n) (told : Bool) (e : answer ≡ Err n) (is : told ≡ opening_told number) where
    untold : told ≡ false → texts_of behind (opening_shown k answer a) ≡ []
    unfolding texts_of
    untold h = rw (e, ← named, sym is ∙ h)

    refusal : (at : BytePos) → at ≡ byte_position a → told ≡ true → texts_of behind (opening_shown k answer a) ≡ text_by behind (RefusedLine number at k) []
    unfolding texts_of
    refusal at p h = rw (e, ← named, sym is ∙ h, p) (append-nil _)

pub put_line-requires : goal.put_line-requires
put_line-requires c =
    let text = refusal _ _ _ _ _ _ c.number-number.ensures _ c.in-Err.is c.is_told.ensures _ c.byte_of-at.ensures c.if-is_told.true in
    subst (IsNext _) text c.requires

pub returns-then-is_told : goal.returns-then-is_told
returns-then-is_told c =
    let text = refusal _ _ _ _ _ _ c.number-number.ensures _ c.in-Err.is c.is_told.ensures _ c.byte_of-at.ensures c.if-is_told.true in
    subst (λ t. Puts c.args.page.now t c.put_line.new.page) (sym text) c.put_line.ensures

pub returns-in-Ok : goal.returns-in-Ok
returns-in-Ok c =
    let a = c.args in
    rw (known a.behind a.opened.skipped a.opened.answer a.opened.state c.in-Ok.is) puts_nothing

pub returns-else-is_told : goal.returns-else-is_told
returns-else-is_told c =
    let a = c.args in
    rw (untold a.behind a.opened.skipped a.opened.answer a.opened.state _ _ c.number-number.ensures _ c.in-Err.is c.is_told.ensures c.if-is_told.false) puts_nothing
