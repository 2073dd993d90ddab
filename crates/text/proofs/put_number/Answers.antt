use Rattle.std.proofs.Common.{arith}
use Rattle.listing.specs.Text.{numbered}
use Rattle.scribe.specs.PageLaws.{next_first, next_behind, puts_both}
use Rattle.text.proofs.Digits.{decimal_spelled}
use Rattle.text.proofs.put_number.Goals as goal

pub put-requires : goal.put-requires
unfolding numbered
put-requires c = next_first _ c.requires

-- what was made of the number is its digits
pub put-requires-2 : goal.put-requires-2
unfolding numbered
put-requires-2 c =
    let made = c.decimal-k in
    let is = decimal_spelled c.args.n made.result _ (omega (arith, c.well_formed)) made.ensures.len made.ensures.digits in
    rw is (next_behind c.put.ensures c.requires)

pub returns : goal.returns
unfolding numbered
returns c =
    let made = c.decimal-k in
    let is = decimal_spelled c.args.n made.result _ (omega (arith, c.well_formed)) made.ensures.len made.ensures.digits in
    rw (← is) (puts_both c.put.ensures c.put-2.ensures)
