use mathlib.Core.Path.{◌∙◌, sym}
use native.Mathlib.Omega.{arith}
use Rattle.ground.specs.First.{first_none, first_here, first_later}
use Rattle.buffer.proofs.first_pair.Goals as goal

pub loop-i-preserved : goal.loop-i-preserved
loop-i-preserved c = (
  first_later _ _ _ _ (omega arith) (sym c.is_sync.ensures
      ∙ c.if-is_sync.false) c.loop-i.invariant.0,
  omega arith,
  omega arith,
)

pub returns-then-last-i : goal.returns-then-last-i
returns-then-last-i c = record { is = first_none _ _ _ _ (omega arith) c.loop-i.invariant.0; within = omega arith }

pub returns-then-is_sync : goal.returns-then-is_sync
returns-then-is_sync c = record {
  is = first_here _ _ _ _ (omega arith) (sym c.is_sync.ensures
      ∙ c.if-is_sync.true) c.loop-i.invariant.0;
  within = omega arith;
}
