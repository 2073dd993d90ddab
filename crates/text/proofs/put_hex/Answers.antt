use Rattle.std.proofs.Common.{arith}
use Rattle.listing.specs.Text.{hexed}
use Rattle.scribe.specs.PageLaws.{next_first, next_behind, puts_both}
use Rattle.text.proofs.Digits.{hex_spelled}
use Rattle.text.proofs.put_hex.Goals as goal

pub put-requires : goal.put-requires
unfolding hexed
put-requires c = next_first _ c.requires

-- what was made of the number is its digits
pub put-requires-2 : goal.put-requires-2
unfolding hexed
put-requires-2 c =
    let made = c.hex-k in
    let is = hex_spelled c.args.n made.result _ (omega (arith, c.well_formed)) made.ensures.len made.ensures.digits in
    rw is (next_behind c.put.ensures c.requires)

pub returns : goal.returns
unfolding hexed
returns c =
    let made = c.hex-k in
    let is = hex_spelled c.args.n made.result _ (omega (arith, c.well_formed)) made.ensures.len made.ensures.digits in
    rw (← is) (puts_both c.put.ensures c.put-2.ensures)
