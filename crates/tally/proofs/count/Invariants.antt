use Prim.Native.Nat.{◌-◌, ◌≤◌}
use lib.ListN.{length}
use Rattle.listing.specs.Lines.{shown_from, lines_in}
use Rattle.tally.proofs.Turns.{Counted}
use Rattle.tally.proofs.count.Given as goal

-- what is left to add is what the calls that are left will give
abbrev pub invariant-loop : goal.invariant-loop
invariant-loop l =
    record {
      few : l.carried ≤ length l.stream;
      left : Counted l.fn.reading l.stream l.tally (l.end - l.counter)
          (lines_in (shown_from (l.end - l.counter) l.stream l.memory l.output l.carried l.state));
    }
