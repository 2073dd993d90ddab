-- `codes::copy_band` meets its contract.
use mathlib.Core.Path.{◌≡◌}
use Prim.Native.Nat.{◌<◌, ◌^◌, ◌+◌}
use borrow.Author.Rules.{rules, sfits_of}
use lib.IntN.{ℤ, pos}
use lib.ListN.{get_or}
use lib.Signed.{mag}
use mir.Syntax.{w32}
use mir.Val.{to_z, of_z}
use mir.ValLaws.{to_z-of_z}
use Rattle.codes.specs.Frame.{copied}
use Rattle.codes.proofs.copy_band.Goals as goal

-- an element of the array is read back from its bits
kept : (v : ℤ) → mag v < 2 ^ 31 → to_z w32 (of_z w32 v) ≡ v
kept v h = to_z-of_z w32 v (sfits_of h)

pub returns : goal.returns
unfolding copied
returns c =
    let a = c.args in
    let at = a.sample.now in
    simp (
      kept (get_or at a.sb (pos 0)) (search rules),
      kept (get_or at (a.sb + 64) (pos 0)) (search rules),
      kept (get_or at (a.sb + 128) (pos 0)) (search rules),
    )
    at c.store_three.ensures
