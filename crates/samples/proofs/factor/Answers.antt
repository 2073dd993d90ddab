-- `samples::factor` meets its contract: no bit of a power up to 2 ^ 20 is lost. Assumes nothing.
use Prim.Native.Nat.{◌*◌, ◌/◌, ◌%◌, ◌^◌}
use mathlib.Core.Path.{◌≡◌}
use Rattle.std.proofs.Common.{arith}
use lib.Dec.{lit<}
use lib.Pow.{shl_exact}
use Rattle.samples.specs.Sample.{factor_of}
use Rattle.samples.proofs.factor.Goals as goal

pub returns-then-index-eq63 : goal.returns-then-index-eq63
unfolding factor_of
returns-then-index-eq63 c = rw c.if-index-eq63.true

pub returns : goal.returns
unfolding factor_of
returns c =
    let k = c.args.index / 3 in
    let whole : 1 * 2 ^ k % 2 ^ 32 ≡ 1 * 2 ^ k = shl_exact 1 k 32 (lit< tt) (omega arith) in
    grind (arith, whole)
