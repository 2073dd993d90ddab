-- `riff::write_words` meets its contract: each word stands, and is 16 bits. Assumes nothing.
use Rattle.std.proofs.Common.{ℕ, arith}
use Rattle.std.proofs.lemmas.Grind.{common_steps}
use lib.Seq.{ext_get_or}
use Rattle.riff.specs.Level.{sixteen, length_words, word_at}
use Rattle.riff.proofs.write_words.Goals as goal

pub overflow_cast-words : goal.overflow_cast-words
overflow_cast-words c = grind (arith, sixteen)

pub loop-i-preserved : goal.loop-i-preserved
loop-i-preserved c = grind (arith, common_steps, word_at, c.loop-i.invariant)

pub returns : goal.returns
returns c = search (arith, ext_get_or {A = ℕ} 0, length_words, c.loop-i.invariant)
