use Prim.Native.Nat.{◌-◌}
use Rattle.scribe.specs.Page.{Puts}
use Rattle.summary.specs.Refusals.{refusals_by}
use Rattle.summary.proofs.put_refusals.Given as goal

-- what is written are the numbers below this one
abbrev pub invariant-loop-number : goal.invariant-loop-number
invariant-loop-number l = Puts l.initial.page (refusals_by l.refused 2 (l.number - 2)) l.page
