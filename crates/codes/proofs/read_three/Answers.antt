-- `codes::read_three` meets its contract: a field that moves has all its bits.
use mathlib.Core.Path.{ap, ◌∙◌}
use Rattle.grammar.specs.Reads.{taken}
use Rattle.codes.specs.Three.{at_once}
use Rattle.codes.proofs.read_three.Goals as goal

pub returns-then-next-reader : goal.returns-then-next-reader
returns-then-next-reader c =
    let a = c.args in
    let f = c.field-f in
    ap (λ k. taken k f.result.next) c.cut_in_three-value.ensures
    ∙ at_once a.s.now a.reader a.bits f.result f.ensures.is c.if-bits-le10.true c.if-next-reader.true
