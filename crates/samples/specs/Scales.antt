-- The scale and the middle of each class of Table B.4, from outside: L + 1 times the scale is 65536, and L - 1 is twice adj, L being the
-- steps. Only for 5 and 9 steps the scale is rounded. From 01, "From a header to codes"; docs/DIFFERENCES.md, S2. Assumes nothing.
use Rattle.std.specs.Prelude.{ℕ, ◌+◌, ◌-◌, ◌*◌, ◌<◌, ◌≡◌, cond, eqb}
use Rattle.std.proofs.Common.{eqb→eq}
use Rattle.ground.specs.Upto.{below}
use Rattle.tables.specs.Standard.{classes, quantisation_of, levels_of}
use Rattle.samples.specs.Sample.{scale_of, adj_of}

-- what the scale makes of 65536: all of it, but for 5 steps and 9, which are quantisers 2 and 4
abbrev pub whole_of : ℕ → ℕ
whole_of q = cond (eqb q 2) 65532 (cond (eqb q 4) 65530 65536)

pub scale_is : (q : ℕ) → q < 18 → scale_of (levels_of q) * (levels_of q + 1) ≡ whole_of q
unfolding scale_of levels_of quantisation_of classes
scale_is q h = eqb→eq _ _ (below (λ q. eqb (scale_of (levels_of q) * (levels_of q + 1)) (whole_of q)) 18 tt q h)

pub adj_is : (q : ℕ) → q < 18 → 2 * adj_of (levels_of q) ≡ levels_of q - 1
unfolding adj_of levels_of quantisation_of classes
adj_is q h = eqb→eq _ _ (below (λ q. eqb (2 * adj_of (levels_of q)) (levels_of q - 1)) 18 tt q h)
