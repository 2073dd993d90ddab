use Rattle.scribe.specs.PageLaws.{next_first, next_behind}
use Rattle.text.proofs.put_line.Goals as goal

pub put_behind-requires : goal.put_behind-requires
put_behind-requires c = next_first _ (next_behind c.put_bare.ensures c.requires)

pub put-requires : goal.put-requires
put-requires c = next_behind c.put_behind.ensures (next_behind c.put_bare.ensures c.requires)
