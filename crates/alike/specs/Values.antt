-- The port's values beside the standard's: requantisation (docs/DIFFERENCES.md, S2) and scale factors (S6, S7). The port's `val` is the
-- standard's requantised value times -32768 L / (L + 1), where L + 1 divides 65536, and for 5 and 9 steps with a scale that is rounded.
-- Assumes nothing.
use Rattle.std.specs.Prelude.{ℕ, suc, ◌+◌, ◌-◌, ◌*◌, ◌^◌, ◌<◌, ◌≡◌, ℤ, pos, negsuc, neg_ℤ, ◌-ℤ◌, ◌*ℤ◌}
use Rattle.std.proofs.Common.{sym, ap, mul-pos, arith, ltb→lt}
use Rattle.std.proofs.Math.IntN.{sub_ℕ, *ℤ_comm}
use Rattle.tables.specs.Standard.{levels_of}
use Rattle.samples.specs.Sample.{scale_of, adj_of, centred_by, factor_of}
use Rattle.samples.specs.Scales.{whole_of, scale_is, adj_is}
use Rattle.samples.specs.Nearest.{factors_are_nearest, factor_17}
use Rattle.standard.specs.Fractions.{Same, ◌over◌, times, above, under, sub_is, sub_same, sub_neg, sub_mul, sub_injective}
use Rattle.standard.specs.Values.{requantised, requantisation_of, not_above_factor, above_factor}
use Rattle.standard.proofs.Values.{requantised_is}

-- the sample before its scale factor, of quantiser q
abbrev pub val_of : ℕ → ℕ → ℤ
val_of q c = centred_by (adj_of (levels_of q)) (scale_of (levels_of q)) c

-- ---- val

-- 2 (L + 1) val = ((L - 1) - 2 c) 65536, with 65532 for 5 steps and 65530 for 9
pub val_is : (q c : ℕ) → q < 18 → val_of q c *ℤ pos (2 * (levels_of q + 1)) ≡ (pos (levels_of q - 1) -ℤ pos (2 * c)) *ℤ pos (whole_of q)
val_is q c h = by_numbers (levels_of q) (adj_of (levels_of q)) (scale_of (levels_of q)) (whole_of q) (adj_is q h) (scale_is q h)
  where
    by_numbers : (steps adj scale whole : ℕ) → 2 * adj ≡ steps - 1 → scale * (steps + 1) ≡ whole
        → centred_by adj scale c *ℤ pos (2 * (steps + 1)) ≡ (pos (steps - 1) -ℤ pos (2 * c)) *ℤ pos whole
    by_numbers steps adj scale whole e g =
        let double : steps - 1 ≡ 2 * adj = sym e in
        let each : c * (scale * (steps + 1)) ≡ c * whole = ap (λ x. c * x) g in
        let all : adj * (scale * (steps + 1)) ≡ adj * whole = ap (λ x. adj * x) g in
        rw (
          sub_is adj c,
          sub_is (steps - 1) (2 * c),
          sub_mul adj c scale,
          sub_mul (adj * scale) (c * scale) (2 * (steps + 1)),
          sub_mul (steps - 1) (2 * c) whole,
          double,
        )
        (sub_same (adj * scale * (2 * (steps + 1))) (c * scale * (2 * (steps + 1))) (2 * adj * whole) (2 * c * whole) (omega arith))

-- the port's samples are whole numbers of 1 / 32768, and of the other sign: val is scale L / 65536 of the requantised value ..
pub val_beside_requantised : (q c : ℕ) → 0 < q → q < 18 → c < 2 ^ (requantisation_of q).bits
    → Same (neg_ℤ (val_of q c) over 32768) (times (pos (levels_of q * scale_of (levels_of q)) over 65536) (requantised q c))
val_beside_requantised q c some h small =
    let e = requantised_is q c some h small in
    record {
      left_some = omega arith;
      right_some = mul-pos {m = 65536} (omega arith) e.left_some;
      crosswise =
          by_numbers (requantised q c).numerator (requantised q c).denominator (levels_of q) (adj_of (levels_of q)) (scale_of (levels_of q))
          (adj_is q h) e.crosswise;
    }
  where
    with_numerator : (z : ℤ) (n m : ℕ) → z ≡ sub_ℕ n m → (s steps adj scale : ℕ) → 2 * adj ≡ steps - 1
        → z *ℤ pos steps ≡ (pos (2 * c) -ℤ pos (steps - 1)) *ℤ pos s
        → neg_ℤ (centred_by adj scale c) *ℤ pos (65536 * s) ≡ pos (steps * scale) *ℤ z *ℤ pos 32768
    with_numerator z n m f s steps adj scale e g =
        let double : steps - 1 ≡ 2 * adj = sym e in
        let g' : sub_ℕ (n * steps) (m * steps) ≡ sub_ℕ (2 * c * s) (2 * adj * s) =
        rw (f, sub_is (2 * c) (steps - 1), double, sub_mul n m steps, sub_mul (2 * c) (2 * adj) s) at g in
        let balance : scale * (n * steps + 2 * adj * s) ≡ scale * (2 * c * s + m * steps) =
        ap (λ x. scale * x) (sub_injective (n * steps) (m * steps) (2 * c * s) (2 * adj * s) g') in
        rw (
          sub_is adj c,
          sub_mul adj c scale,
          sub_neg (adj * scale) (c * scale),
          sub_mul (c * scale) (adj * scale) (65536 * s),
          f,
          *ℤ_comm (pos (steps * scale)) (sub_ℕ n m),
          sub_mul n m (steps * scale),
          sub_mul (n * (steps * scale)) (m * (steps * scale)) 32768,
        )
        (sub_same (c * scale * (65536 * s)) (adj * scale * (65536 * s)) (n * (steps * scale) * 32768) (m * (steps * scale) * 32768) (omega arith))

    by_numbers : (z : ℤ) (s steps adj scale : ℕ) → 2 * adj ≡ steps - 1 → z *ℤ pos steps ≡ (pos (2 * c) -ℤ pos (steps - 1)) *ℤ pos s
        → neg_ℤ (centred_by adj scale c) *ℤ pos (65536 * s) ≡ pos (steps * scale) *ℤ z *ℤ pos 32768
    by_numbers (pos n) = with_numerator (pos n) n 0 (sym (above n 0 n (omega arith)))
    by_numbers (negsuc n) = with_numerator (negsuc n) 0 (suc n) (sym (under 0 (suc n) (suc n) (omega arith)))

-- .. that is L / (L + 1) of it, and where the scale is rounded that share of this
pub share_is : (q : ℕ) → q < 18
    → Same (pos (levels_of q * scale_of (levels_of q)) over 65536) (times (pos (levels_of q) over levels_of q + 1) (pos (whole_of q) over 65536))
share_is q h =
    let e : levels_of q * (scale_of (levels_of q) * (levels_of q + 1)) ≡ levels_of q * whole_of q = ap (λ x. levels_of q * x) (scale_is q h) in
    record { left_some = omega arith; right_some = omega arith; crosswise = ap pos (omega arith) }

-- ---- scale factors

-- S6: in units of 2 ^ -24 the port's factor f is the nearest whole number to Table B.1's, which lies from (2 f - 1) / 2 ^ 25 to
-- (2 f + 1) / 2 ^ 25 ..
pub factor_beside_table : (i : ℕ) → i < 63 → (i ≡ 17 → ⊥)
    → not_above_factor i (2 * factor_of i - 1) (2 ^ 25) × above_factor i (2 * factor_of i + 1) (2 ^ 25)
factor_beside_table i h other = let n = factors_are_nearest i h other in (n.not_less, n.not_more)

-- .. but for index 17, where one less is nearer
pub factor_17_too_large : above_factor 17 (2 * factor_of 17 - 1) (2 ^ 25) × not_above_factor 17 (2 * (factor_of 17 - 1) - 1) (2 ^ 25)
unfolding factor_of
factor_17_too_large = (ltb→lt _ _ tt, factor_17.1.not_less)
