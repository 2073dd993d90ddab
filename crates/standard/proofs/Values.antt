-- What the requantised value of specs/Values comes to.
-- Assumes nothing.
use Rattle.std.specs.Prelude.{ℕ, ◌-◌, ◌*◌, ◌^◌, ◌<◌, ◌≡◌, pos, ◌-ℤ◌}
use Rattle.std.proofs.Common.{ap, ◌∙◌, arith, pow_pos}
use Rattle.std.proofs.Math.Nat.{pow-succ'}
use Rattle.tables.specs.Standard.{levels_of}
use Rattle.standard.specs.Fractions.{◌over◌, Same}
use Rattle.standard.specs.Values.{requantisation_of, requantised, bits_of, parts_of, rows_hold, by_row}

-- (2 c - (L - 1)) / L, for each class and each code that its bits can hold
pub requantised_is : (q c : ℕ) → 0 < q → q < 18 → c < 2 ^ (requantisation_of q).bits
    → Same (requantised q c) (pos (2 * c) -ℤ pos (levels_of q - 1) over levels_of q)
requantised_is q c some h small =
    let r = rows_hold q some h in
    let all : 2 ^ bits_of q ≡ 2 * 2 ^ (bits_of q - 1) = ap (λ k. 2 ^ k) r.some_bits ∙ pow-succ' 2 (bits_of q - 1) in
    rw (r.numerator, r.denominator)
    (by_row (2 ^ (bits_of q - 1)) (2 ^ bits_of q) (levels_of q) (levels_of q - 1) (parts_of q) c (pow_pos (bits_of q - 1)) all r.some_steps
    (omega (arith, r.some_parts)) r.middle small)
