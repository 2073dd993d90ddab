use Rattle.std.proofs.Common.{arith}
use Rattle.scribe.proofs.Fits.{whole_fits}
use Rattle.scribe.proofs.Page.put.Goals as goal

-- the piece is of the text, and the text can be counted
pub overflow_add-self : goal.overflow_add-self
overflow_add-self c =
    let page = c.args.self.now in
    record { fits = omega (arith, c.requires.next.inside, whole_fits page.what page.stream.now) }
