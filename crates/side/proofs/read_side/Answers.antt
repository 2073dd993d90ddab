-- `side::read_side` meets its contract: what it read is the side information, so it is in range.
use borrow.Author.Rules.{rules}
use mathlib.Core.Path.{◌≡◌, sym}
use Rattle.std.specs.Prelude.{ℕ, Bool, List, get_or, replicate}
use Rattle.buffer.specs.declared.Reader.{Reader}
use Rattle.grammar.specs.Reads.{taken, run}
use Rattle.grammar.specs.Run.{run_done, and_then}
use Rattle.grammar.specs.Values.{learnt}
use Rattle.side.specs.Side.{allocations_of, selectors_of, scale_factors_of, side_of, selector_of, factors_of}
use Rattle.side.specs.Below.{SideInRange, side_with}
use Rattle.side.specs.Values.{side_ranged}
use Rattle.side.proofs.read_side.Goals as goal

-- the three lists, one after the other, are the side information
one_by_one : (mono : Bool) (table bound limit : ℕ) (s : List ℕ) (r : Reader) {a b d : Reader} {quant selector factor : List ℕ} →
    taken quant a ≡ run (allocations_of table bound limit (replicate 64 0)) s r →
    taken selector b ≡ run (selectors_of mono quant limit (replicate 64 0)) s a →
    taken factor d ≡ run (scale_factors_of mono quant selector limit (replicate 192 0)) s b →
    taken (side_with quant factor) d ≡ run (side_of mono table bound limit) s r
unfolding side_of
one_by_one mono table bound limit s r e f g = and_then _ _ _ _ e (and_then _ _ _ _ f (and_then _ _ _ _ g (sym (run_done _ _ _))))

-- a closure that hands its arguments on reads as the function that it calls
pub invariant_of-result : goal.invariant_of-result
invariant_of-result c =
    let s = c.args.s.now in
    let selector = c.each_allocated-selected.new.fields in
    let all =
    one_by_one _ _ _ _ _ _ c.allocations-allocated.ensures
    (c.each_allocated-selected.ensures s selector_of (λ r place x r' x' h e. search rules))
    (c.each_allocated-scaled.ensures s (λ place. factors_of (get_or selector place 0) place) (λ r place x r' x' h e. search rules)) in
    record { ranged = learnt SideInRange _ _ _ all (side_ranged _ _ _ _) }

pub returns-clause-side : goal.returns-clause-side
returns-clause-side c =
    let s = c.args.s.now in
    let selector = c.each_allocated-selected.new.fields in
    one_by_one _ _ _ _ _ _ c.allocations-allocated.ensures
    (c.each_allocated-selected.ensures s selector_of (λ r place x r' x' h e. search rules))
    (c.each_allocated-scaled.ensures s (λ place. factors_of (get_or selector place 0) place) (λ r place x r' x' h e. search rules))
