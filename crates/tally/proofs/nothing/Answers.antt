use mathlib.Core.Path.{refl}
use mathlib.Core.List.{flat_map}
use Rattle.ground.specs.Table.{table}
use Rattle.listing.specs.Tally.{end_from, junk_in}
use Rattle.tally.specs.Tally.{tally_of}
use Rattle.tally.proofs.nothing.Goals as goal

pub returns : goal.returns
unfolding tally_of table flat_map end_from junk_in
returns c = refl
