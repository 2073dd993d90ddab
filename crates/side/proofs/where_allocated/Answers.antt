-- `side::where_allocated` meets its contract.
use borrow.Author.Tests.{eq-eqb}
use Rattle.grammar.specs.Run.{run_done}
use Rattle.side.proofs.where_allocated.Goals as goal

pub returns-then-quant-place-eq0 : goal.returns-then-quant-place-eq0
returns-then-quant-place-eq0 g c s one reads = simp (eq-eqb _ _ c.if-quant-place-eq0.true, run_done)
