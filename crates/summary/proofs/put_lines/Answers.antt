use mathlib.Core.List.{[]}
use Rattle.scribe.specs.PageLaws.{all_left, left_next, left_behind, none_left}
use Rattle.summary.proofs.Parts.{summary_is}
use Rattle.summary.proofs.put_lines.Goals as goal

pub put_frames-requires : goal.put_frames-requires
put_frames-requires c = left_next _ (all_left _ c.new-page.ensures (summary_is _ _ _ c.requires c.count-tally.ensures))

pub put_junk-requires : goal.put_junk-requires
put_junk-requires c =
    let all = all_left _ c.new-page.ensures (summary_is _ _ _ c.requires c.count-tally.ensures) in
    left_next _ (left_behind c.put_frames.ensures all)

pub put_refusals-requires : goal.put_refusals-requires
put_refusals-requires c =
    let all = all_left _ c.new-page.ensures (summary_is _ _ _ c.requires c.count-tally.ensures) in
    left_next _ (left_behind c.put_junk.ensures (left_behind c.put_frames.ensures all))

pub put_reason-requires : goal.put_reason-requires
put_reason-requires c =
    let all = all_left _ c.new-page.ensures (summary_is _ _ _ c.requires c.count-tally.ensures) in
    left_next _ (left_behind c.put_refusals.ensures (left_behind c.put_junk.ensures (left_behind c.put_frames.ensures all)))

pub put-requires : goal.put-requires
put-requires c =
    let all = all_left _ c.new-page.ensures (summary_is _ _ _ c.requires c.count-tally.ensures) in
    let junk = left_behind c.put_junk.ensures (left_behind c.put_frames.ensures all) in
    left_next [] (left_behind c.put_reason.ensures (left_behind c.put_refusals.ensures junk))

pub returns : goal.returns
returns c =
    let all = all_left _ c.new-page.ensures (summary_is _ _ _ c.requires c.count-tally.ensures) in
    let junk = left_behind c.put_junk.ensures (left_behind c.put_frames.ensures all) in
    none_left (left_behind c.put.ensures (left_behind c.put_reason.ensures (left_behind c.put_refusals.ensures junk)))
