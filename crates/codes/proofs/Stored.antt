-- The samples of a place, put together from the steps of the code: what each step asks for, and what they give.
-- Assumes nothing.
use Prim.Native.Nat.{ℕ, ◌/◌, ◌%◌, ◌≤◌}
use mathlib.Core.Path.{◌≡◌}
use mathlib.Core.List.{List}
use native.Mathlib.Nat.{le_trans}
use lib.IntN.{ℤ, nat_abs}
use Rattle.buffer.specs.declared.Reader.{Reader}
use Rattle.grammar.specs.Reads.{taken}
use Rattle.tables.specs.Standard.{levels_of}
use Rattle.samples.specs.Sample.{scale_of, adj_of, centred_by, scaled_by, sample_of}
use Rattle.samples.specs.Bounds.{most_of, Range, centred_small}
use Rattle.samples.specs.declared.Three.{Three}
use Rattle.ground.specs.Stores.{three}

-- what a code asks for, to be made a sample: `samples::sample` requires it
pub asks : {a s : ℕ} (q code factor : ℕ) → a ≡ adj_of (levels_of q) → s ≡ scale_of (levels_of q) → Range q → code ≤ most_of q → factor ≤ 33554432 →
    (a ≤ 65535) × (s ≤ 65535) × (code ≤ 65535) × (nat_abs (centred_by a s code) ≤ 52424) × (factor ≤ 33554432)
asks q code factor e f r h g = rw (e, f) (r.adj, r.scale, le_trans h r.most, centred_small q code r h, g)

module _ (q factor place : ℕ) (xs : List ℤ) (r : Reader) (k : Three) where
  abbrev sample : ℕ → ℤ
  sample code = sample_of (levels_of q) code factor

  pub stored : {a s : ℕ} {x y z : ℤ} {ys : List ℤ} → a ≡ adj_of (levels_of q) → s ≡ scale_of (levels_of q) →
      x ≡ scaled_by (centred_by a s k.first) (factor / 4096) (factor % 4096) →
      y ≡ scaled_by (centred_by a s k.second) (factor / 4096) (factor % 4096) →
      z ≡ scaled_by (centred_by a s k.third) (factor / 4096) (factor % 4096) →
      ys ≡ three place x y z xs →
      taken ys r ≡ taken (three place (sample k.first) (sample k.second) (sample k.third) xs) r
  unfolding sample_of
  stored e1 e2 e3 e4 e5 e6 = cc
