use Rattle.std.proofs.Common.{◌≡◌}
use Rattle.listing.specs.Fnv.{sum_of}
use Rattle.text.proofs.checksum.sum.Given as goal

abbrev pub invariant-loop-x : goal.invariant-loop-x
invariant-loop-x l = l.h ≡ sum_of l.samples l.x-index
