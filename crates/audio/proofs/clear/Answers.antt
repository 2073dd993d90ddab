use Rattle.std.proofs.Common.{arith, ◌∙◌}
use Rattle.std.proofs.lemmas.List.{get_or-replicate, length-replicate}
use lib.Ieee.{nan, of_bits}
use Rattle.ground.specs.Table.{is_table}
use Rattle.audio.specs.Calls.{blank}
use Rattle.audio.proofs.clear.Goals as goal

pub returns : goal.returns
unfolding blank of_bits
returns c =
    c.fill.ensures.after (λ y q. q)
    ∙ is_table nan _ _ _ (length-replicate _ _ ∙ c.requires) (λ i h. get_or-replicate _ i _ nan (omega arith))
