use native.Mathlib.Omega.{arith}
use Rattle.buffer.proofs.Words.{eight_bytes}
use Rattle.buffer.proofs.word.Goals as goal

pub returns : goal.returns
returns c =
    omega (
      arith,
      eight_bytes c.args.s.now c.args.i,
      c.half-2.ensures,
      c.half.ensures,
    )
