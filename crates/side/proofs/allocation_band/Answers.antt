-- `side::allocation_band` meets its contract.
use borrow.Author.Tests.{lt-ltb, le-ltb}
use Rattle.grammar.specs.Run.{run_done, and_then}
use Rattle.side.specs.Bands.{pair_of}
use Rattle.side.specs.Side.{allocation_band_of}
use Rattle.side.proofs.allocation_band.Goals as goal

pub returns-then-sb-layout : goal.returns-then-sb-layout
unfolding allocation_band_of pair_of
returns-then-sb-layout c =
    and_then _ _ _ _ c.read_allocation-left.ensures
    (simp (lt-ltb _ _ c.if-sb-layout.true) c.read_allocation.ensures)

pub returns : goal.returns
unfolding allocation_band_of pair_of
returns c = and_then _ _ _ _ c.read_allocation-left.ensures (simp (le-ltb _ _ c.if-sb-layout.false, run_done))
