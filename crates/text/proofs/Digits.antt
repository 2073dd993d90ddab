-- What io's digits are in the listing: as many as a number has, and 16 of a pattern.
-- Assumes nothing.
use Rattle.std.proofs.Common.{◌≡◌, ℕ, zero, suc, ◌-◌, ◌*◌, ◌/◌, ◌^◌, ◌<◌, ◌≤◌, Bool, true, false, ltb, List, refl, ap, ◌∙◌, pow-suc, arith, ltb-false, ltb-true, le-ltb, lt-ltb}
use native.Mathlib.Nat.{one-le-pow, pow-le-pow_right}
use Rattle.io.specs.Digits.{last_digits, IsDigitCount}
use Rattle.listing.specs.Text.{digits_in, decimal_of}

-- the fewest places that hold a number are those that are counted
pub places_counted : (most k n : ℕ) → k ≤ most → IsDigitCount 10 1 n k → k ≡ digits_in most n
unfolding digits_in
places_counted zero k n l f = absurd (let least = f.0 in omega arith)
places_counted (suc most) zero n l f = absurd (let least = f.0 in omega arith)
places_counted (suc most) (suc zero) n l f = let few : n < 10 = f.1 in simp (lt-ltb _ _ few)
places_counted (suc most) (suc (suc k)) n l f =
    let fewer : (j : ℕ) → 10 ^ (suc j - 1) ≡ 10 ^ j = λ j. ap (λ (i : ℕ). 10 ^ i) (omega arith) in
    let large : 10 * 10 ^ k ≤ n = omega (arith, pow-suc 10 k, fewer (suc k), f.2 (omega arith)) in
    let small : n < 10 * 10 ^ suc k = omega (arith, pow-suc 10 (suc k), f.1) in
    let some : 1 ≤ 10 ^ k = one-le-pow k 10 (omega arith) in
    let many : 10 ≤ n = omega arith in
    let tenth : IsDigitCount 10 1 (n / 10) (suc k) = (omega arith, omega arith, λ _. omega (arith, fewer k)) in
    simp (le-ltb _ _ many) (ap suc (places_counted most (suc k) (n / 10) (omega arith) tenth))

-- a number below a power has no more places than that, or than are asked for
most_places : (base most least k n : ℕ) → 0 < base → n < base ^ most → least ≤ most → IsDigitCount base least n k → k ≤ most
most_places base most least k n some small l f = go (ltb most k) refl
  where
    go : (t : Bool) → ltb most k ≡ t → k ≤ most
    go true e =
        let more = ltb-true most k e in
        let far : base ^ most ≤ base ^ (k - 1) = pow-le-pow_right some (omega arith) in
        absurd (omega (arith, far, f.2 (omega arith)))
    go false e = ltb-false most k e

-- 20 decimal places hold a number of 64 bits, and 16 hexadecimal ones
pub decimal_spelled : (n k : ℕ) (text : List ℕ) → n < 2 ^ 64 → IsDigitCount 10 1 n k → text ≡ last_digits 10 k n → text ≡ decimal_of n
unfolding decimal_of
decimal_spelled n k text small f e =
    let few : k ≤ 20 = most_places 10 20 1 k n (omega arith) (omega arith) (omega arith) f in
    e ∙ ap (λ (places : ℕ). last_digits 10 places n) (places_counted 20 k n few f)

pub hex_spelled : (n k : ℕ) (text : List ℕ) → n < 2 ^ 64 → IsDigitCount 16 16 n k → text ≡ last_digits 16 k n → text ≡ last_digits 16 16 n
hex_spelled n k text small f e =
    let few : k ≤ 16 = most_places 16 16 16 k n (omega arith) (omega arith) (omega arith) f in
    let all : k ≡ 16 = omega (arith, f.0) in
    e ∙ ap (λ (places : ℕ). last_digits 16 places n) all
