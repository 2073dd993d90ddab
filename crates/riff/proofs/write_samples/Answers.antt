-- `riff::write_samples` meets its contract: each sample's two bytes stand. Assumes nothing.
use Rattle.std.proofs.Common.{ℕ, arith}
use Rattle.std.proofs.lemmas.Grind.{common_steps}
use lib.Seq.{ext_get_or}
use Rattle.riff.specs.Level.{sixteen, length_pcm, low_byte, high_byte}
use Rattle.riff.proofs.write_samples.Goals as goal

pub overflow_cast-word : goal.overflow_cast-word
overflow_cast-word c = grind (arith, sixteen)

pub loop-i-preserved : goal.loop-i-preserved
loop-i-preserved c = grind (arith, common_steps, low_byte, high_byte, sixteen, c.loop-i.invariant)

pub returns : goal.returns
returns c = search (arith, ext_get_or {A = ℕ} 0, length_pcm, c.loop-i.invariant)
