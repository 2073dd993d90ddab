use mathlib.Core.List.{[]}
use native.Mathlib.Omega.{arith}
use Rattle.listing.specs.Words.{letters}
use Rattle.scribe.specs.PageLaws.{all_left, left_next, left_behind, none_left}
use Rattle.summary.proofs.Parts.{long_summary}
use Rattle.summary.proofs.tell.Goals as goal

pub put-requires : goal.put-requires
put-requires c = left_next {p = letters "too long: 65,536 bytes at most\n"} [] (all_left _ c.new-page.ensures (long_summary _ _ (omega arith)))

pub returns : goal.returns
returns c =
    let all = all_left _ c.new-page.ensures (long_summary _ _ (omega arith)) in
    none_left (left_behind {p = letters "too long: 65,536 bytes at most\n"} c.put.ensures all)
