-- `side::read_factors` meets its contract: which selector it is decides how many fields there are.
use Rattle.side.proofs.Choices.{one_factor, first_twice, second_twice, three_factors}
use Rattle.side.proofs.read_factors.Goals as goal

pub returns-then-selector-eq2 : goal.returns-then-selector-eq2
returns-then-selector-eq2 c =
    rw c.if-selector-eq2.true
    (one_factor _ _ _ _ _ _ _ c.field-x.ensures.is c.factor-a.ensures c.store_three.ensures)

pub returns-then-selector-eq0 : goal.returns-then-selector-eq0
returns-then-selector-eq0 c =
    rw c.if-selector-eq0.true
    (three_factors _ _ _ _ _ _ _ c.field-x.ensures.is c.factor-a.ensures
    _ _ c.field-y.ensures.is c.factor-b.ensures
    _ _ c.field-z.ensures.is c.factor.ensures c.store_three-then-selector-eq0.ensures)

pub returns-then-selector-eq1 : goal.returns-then-selector-eq1
returns-then-selector-eq1 c =
    rw c.if-selector-eq1.true
    (first_twice _ _ _ _ _ _ _ c.field-x.ensures.is c.factor-a.ensures
    _ _ c.field-y.ensures.is c.factor-b.ensures c.store_three-then-selector-eq1.ensures)

pub returns : goal.returns
returns c =
    second_twice _ _ _ _ _ _ _ c.field-x.ensures.is c.factor-a.ensures
    _ _ c.field-y.ensures.is c.factor-b.ensures
    _ c.if-selector-eq0.false c.if-selector-eq1.false c.if-selector-eq2.false c.store_three-2.ensures
