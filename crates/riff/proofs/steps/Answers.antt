-- `riff::steps` meets its contract, by the three ways of Rounding. Assumes nothing.
use mathlib.Core.Path.{◌≡◌, sym, ◌∙◌}
use Prim.Native.Nat.{ℕ, ◌-◌, ◌*◌, ◌%◌, ◌^◌, ◌≤◌}
use native.Mathlib.Nat.{one-mul}
use native.Mathlib.Omega.{arith}
use lib.Dec.{lit<}
use lib.Pow.{pow_pos, pow_mono, shl_exact}
use Rattle.riff.proofs.Rounding.{far_below, one_or_more, between}
use Rattle.riff.proofs.steps.Goals as goal

half : (field : ℕ) → 111 ≤ field → (1 * 2 ^ (134 - field)) % 2 ^ 32 ≡ 2 ^ (134 - field)
half field l = shl_exact 1 (134 - field) 32 (lit< tt) (omega arith) ∙ one-mul (2 ^ (134 - field))

pub returns-then-field-lt111 : goal.returns-then-field-lt111
returns-then-field-lt111 c = let a = c.args in sym (far_below a.field a.digits c.if-field-lt111.true c.requires.2)

pub nearest-requires : goal.nearest-requires
nearest-requires c =
    let field = c.args.field in
    rw (half field c.if-field-lt111.false) (c.requires.2, pow_pos (134 - field), pow_mono {j = 23} (omega arith))

pub returns-then-field-lt127 : goal.returns-then-field-lt127
returns-then-field-lt127 c =
    let field = c.args.field in
    c.nearest.ensures
    ∙ rw (half field c.if-field-lt111.false) (between field (134 - field) c.args.digits (omega arith) (omega arith) c.requires.2)

pub returns : goal.returns
returns c =
    sym (one_or_more c.args.field c.args.digits c.if-field-lt127.false c.requires.1)
