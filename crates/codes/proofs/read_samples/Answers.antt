-- `codes::read_samples` meets its contract: a code is one that its quantiser can have, so no step leaves the `i32`.
use Rattle.std.proofs.Common.{ℕ, ◌<◌, ◌≡◌, List}
use Rattle.grammar.specs.Reads.{taken, run}
use Rattle.buffer.specs.declared.Reader.{Reader}
use Rattle.samples.specs.declared.Three.{Three}
use Rattle.ground.specs.Magnitude.{read_back}
use Rattle.grammar.specs.Values.{learnt}
use Rattle.grammar.specs.Run.{run_done, and_then}
use Rattle.samples.specs.Bounds.{most_of, quantiser_range}
use Rattle.codes.specs.Values.{CodesUpTo, codes_small}
use Rattle.codes.specs.Frame.{codes_of, three_samples_of}
use Rattle.codes.proofs.Stored.{asks, stored}
use Rattle.codes.proofs.read_samples.Goals as goal

-- what the codes just read are at most
small : (s : List ℕ) (q : ℕ) (r next : Reader) (codes : Three) → (0 < q) × (q < 18) → taken codes next ≡ run (codes_of q) s r → CodesUpTo (most_of q) codes
small s q r next codes h e = learnt (CodesUpTo (most_of q)) (codes_of q) s r e (codes_small q h.0 h.1)

pub sample-x-requires : goal.sample-x-requires
sample-x-requires c = asks _ _ _ c.adj-adj.ensures c.scale-scale.ensures (quantiser_range c.args.q c.requires.0 c.requires.1) (small _ _ _ _ _ (c.requires.0, c.requires.1) c.read_codes-c.ensures).first c.requires.2

pub sample-y-requires : goal.sample-y-requires
sample-y-requires c =
    asks _ _ _ c.adj-adj.ensures c.scale-scale.ensures (quantiser_range c.args.q c.requires.0 c.requires.1) (small _ _ _ _ _ (c.requires.0, c.requires.1) c.read_codes-c.ensures).second c.requires.2

pub sample-z-requires : goal.sample-z-requires
sample-z-requires c =
    asks _ _ _ c.adj-adj.ensures c.scale-scale.ensures (quantiser_range c.args.q c.requires.0 c.requires.1) (small _ _ _ _ _ (c.requires.0, c.requires.1) c.read_codes-c.ensures).third c.requires.2

pub returns : goal.returns
unfolding three_samples_of
returns c =
    let a = c.args in
    and_then _ _ _ _ c.read_codes-c.ensures
    (simp run_done
    (stored a.q a.factor a.place a.sample.now _ c.read_codes-c.result.value c.adj-adj.ensures c.scale-scale.ensures
    c.sample-x.ensures.value c.sample-y.ensures.value c.sample-z.ensures.value
    (simp (
      read_back c.sample-x.result c.sample-x.ensures.small tt,
      read_back c.sample-y.result c.sample-y.ensures.small tt,
      read_back c.sample-z.result c.sample-z.ensures.small tt,
    ) at c.store_three.ensures)))
