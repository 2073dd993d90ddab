use native.Mathlib.Omega.{arith}
use Rattle.buffer.proofs.Words.{four_bytes}
use Rattle.buffer.proofs.half.Goals as goal

pub returns : goal.returns
returns c =
    let a = c.args in (
      omega (
        arith,
        four_bytes a.s.now a.i,
        c.wide-4.ensures,
        c.wide-3.ensures,
        c.wide-2.ensures,
        c.wide.ensures,
      ),
      omega arith,
    )
