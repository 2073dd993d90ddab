use mathlib.Core.List.{[]}
use native.Mathlib.Omega.{arith}
use Rattle.listing.specs.Text.{text_by}
use Rattle.listing.specs.declared.Line.TheVariants.{Long}
use Rattle.scribe.specs.PageLaws.{all_left, left_next, left_behind, none_left}
use Rattle.report.proofs.Turns.{one_line}
use Rattle.report.proofs.whole.Goals as goal

pub put_line-requires : goal.put_line-requires
put_line-requires c =
    let line = text_by c.args.behind Long [] in
    left_next {p = line} [] (all_left _ c.new-page.ensures (one_line _ _ _ (omega arith)))

pub returns : goal.returns
returns c =
    let line = text_by c.args.behind Long [] in
    none_left (left_behind {p = line} c.put_line.ensures (all_left _ c.new-page.ensures (one_line _ _ _ (omega arith))))
