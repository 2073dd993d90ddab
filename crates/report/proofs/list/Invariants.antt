use Prim.Native.Nat.{◌-◌, ◌≤◌}
use lib.ListN.{length}
use Rattle.listing.specs.Lines.{shown_from}
use Rattle.listing.specs.Text.{texts_of}
use Rattle.scribe.specs.Page.{Leaves}
use Rattle.scribe.specs.declared.Whole.TheVariants.{Lines}
use Rattle.report.proofs.list.Given as goal

-- what is left to write is what the calls that are left will give
abbrev pub invariant-loop : goal.invariant-loop
invariant-loop l =
    record {
      few : l.carried ≤ length l.stream;
      left : Leaves (Lines l.fn.reading l.behind) l.stream l.page
          (texts_of l.behind (shown_from (l.end - l.counter) l.stream l.memory l.output l.carried l.state));
    }
