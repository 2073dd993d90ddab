-- `window::window_slot` meets its contract. Assumes nothing.
use mathlib.Core.Path.{ap, ◌∙◌}
use mathlib.Core.List.{List}
use lib.ListN.{get_or}
use lib.Ieee.{Float, nan}
use Rattle.ground.specs.Table.{at_table}
use Rattle.window.specs.Output.{output_of}
use Rattle.window.proofs.Stores.{stores_alike}
use Rattle.window.proofs.window_slot.Goals as goal

pub returns : goal.returns
returns c =
    let a = c.args in
    let f = output_of a.ring.now a.p in
    c.store.ensures
    ∙ stores_alike a.output.now a.at _ f 32
    (λ j l. ap (λ (z : List Float). get_or z j nan) c.outputs.ensures ∙ at_table nan 32 f j l)
