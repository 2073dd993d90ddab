-- No field of a frame is wider than 32 bits, so the bits a frame uses are the sum of its widths whenever that many remain;
-- and frames whose bits are there and agree read alike. 01, "The bits used by a frame"; demand 3, the reading.
-- Assumes nothing.
use Rattle.std.specs.Prelude.{ℕ, zero, suc, ◌+◌, ◌/◌, ◌≤◌, ◌≡◌, Bool, List, ℤ, get_or}
use Rattle.std.proofs.Common.{arith}
use Rattle.ground.specs.Tests.{by_test}
use Rattle.buffer.specs.Laws.{Enough}
use Rattle.buffer.specs.declared.Reader.{Reader}
use Rattle.grammar.specs.Reads.{run, called}
use Rattle.grammar.specs.Widths.{Narrow, narrow_bind, exact, Agree, Alike, alike}
use Rattle.tables.specs.Standard.{code_bits_of, grouped_of}
use Rattle.tables.specs.Laws.{bits≤16}
use Rattle.side.specs.Side.{Side, side_of}
use Rattle.side.specs.Widths.{bands_narrow, pair_narrow, allocated_narrow, side_narrow}
use Rattle.codes.specs.Frame.{codes_of, singles_of, three_samples_of, place_of, sample_band_of, granule_of, granules_of, frame_of}

codes_narrow : (q : ℕ) → Narrow (codes_of q)
unfolding codes_of singles_of Narrow
codes_narrow q =
    let b : code_bits_of q ≤ 32 = omega (arith, bits≤16 q) in
    by_test Narrow (grouped_of q) _ _ (λ _. (b, λ _. tt)) (λ _. (b, λ _. (b, λ _. (b, λ _. tt))))

place_narrow : (side : Side) (part place : ℕ) (xs : List ℤ) → Narrow (place_of side part place xs)
unfolding place_of three_samples_of Narrow
place_narrow side part =
    allocated_narrow side.quant _ (λ place xs. narrow_bind (codes_of (get_or side.quant place 0)) _ (codes_narrow _) (λ _. tt))

band_narrow : (side : Side) (part bound sb : ℕ) (xs : List ℤ) → Narrow (sample_band_of side part bound sb xs)
unfolding sample_band_of
band_narrow side part bound sb = pair_narrow _ _ _ _ (place_narrow side part sb) (place_narrow side part (sb + 32))

granules_narrow : (side : Side) (bound limit n : ℕ) → Narrow (granules_of side bound limit n)
unfolding granules_of granule_of Narrow
granules_narrow side bound limit zero = tt
granules_narrow side bound limit (suc g) =
    narrow_bind (granules_of side bound limit g) _ (granules_narrow side bound limit g)
    (λ xs. narrow_bind _ _ (bands_narrow (sample_band_of side (g / 4) bound) (band_narrow side (g / 4) bound) limit _) (λ _. tt))

pub frame_narrow : (mono : Bool) (table bound limit : ℕ) → Narrow (frame_of mono table bound limit)
unfolding frame_of
frame_narrow mono table bound limit =
    narrow_bind (side_of mono table bound limit) _ (side_narrow mono table bound limit) (λ side. granules_narrow side bound limit 12)

-- the bits that a frame uses are the sum of its widths, where that many remain
pub frame_exact : (mono : Bool) (table bound limit : ℕ) (s : List ℕ) (r : Reader) →
    let m = frame_of mono table bound limit in
    Enough s r (called m s r) → (run m s r).next.at.0 ≡ r.at.0 + called m s r
frame_exact mono table bound limit s r = exact (frame_of mono table bound limit) s r (frame_narrow mono table bound limit)

-- frames of one format whose bits are there and agree give the same samples and use as many bits
pub frames_alike : (mono : Bool) (table bound limit : ℕ) (s t : List ℕ) (r q : Reader) →
    let m = frame_of mono table bound limit in
    Enough s r (called m s r) → Enough t q (called m s r) → Agree s r.at.0 t q.at.0 (called m s r) → Alike m s r t q
frames_alike mono table bound limit = alike (frame_of mono table bound limit)
