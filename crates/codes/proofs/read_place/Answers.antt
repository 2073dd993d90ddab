-- `codes::read_place` meets its contract.
use borrow.Author.Tests.{eq-eqb, ne_eqb}
use Rattle.grammar.specs.Run.{run_done}
use Rattle.codes.specs.Frame.{place_of}
use Rattle.codes.proofs.read_place.Goals as goal

pub returns-then-q-eq0 : goal.returns-then-q-eq0
unfolding place_of
returns-then-q-eq0 c = simp (eq-eqb _ _ c.if-q-eq0.true, run_done)

pub returns : goal.returns
unfolding place_of
returns c = simp (ne_eqb _ _ c.if-q-eq0.false) c.read_samples.ensures
