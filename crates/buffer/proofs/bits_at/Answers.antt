use native.Mathlib.Omega.{arith}
use Rattle.buffer.proofs.Words.{cut, cut_fits}
use Rattle.buffer.proofs.bits_at.Goals as goal

pub overflow_cast-result : goal.overflow_cast-result
overflow_cast-result c =
    record { fits = rw c.word.ensures (cut_fits _ c.args.at c.args.count (omega arith)) }

pub returns-then-i-s : goal.returns-then-i-s
returns-then-i-s c = rw c.word.ensures (cut _ c.args.at c.args.count (omega arith))
