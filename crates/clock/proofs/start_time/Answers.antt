use Rattle.std.proofs.Common.{arith}
use Rattle.std.proofs.lemmas.Bool.Decides.{nat_tests}
use lib.Ieee.{of_bits}
use Rattle.clock.specs.Clock.{start_time_of}
use Rattle.clock.proofs.start_time.Goals as goal

pub returns-then-samplerate-ge3 : goal.returns-then-samplerate-ge3
unfolding start_time_of of_bits
returns-then-samplerate-ge3 c = grind (arith, nat_tests)

pub returns : goal.returns
unfolding start_time_of
returns c = grind (arith, nat_tests)
