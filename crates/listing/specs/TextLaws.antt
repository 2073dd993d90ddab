-- How long a number and a reason are as text. Assumes nothing.
use Rattle.std.specs.Prelude.{ℕ, zero, suc, ◌+◌, ◌/◌, ◌%◌, ◌≤◌, refl, ◌≡◌, List, [], ◌∷◌, eqb, ltb, length}
use Rattle.std.proofs.Common.{arith, lit≤, length-append}
use Rattle.ground.specs.Tests.{by_test}
use Rattle.io.specs.Digits.{hex_digit_ascii, last_digits}
use Rattle.listing.specs.Text.{digits_in, decimal_of, numbered, hexed}
use Rattle.listing.specs.Words.{reason_of}

digits_length : (base k n : ℕ) → length (last_digits base k n) ≡ k
digits_length base zero n = refl
digits_length base (suc k) n = omega (arith, length-append (last_digits base k (n / base)) (hex_digit_ascii (n % base) ∷ []), digits_length base k (n / base))

few_places : (most n : ℕ) → digits_in most n ≤ most
unfolding digits_in
few_places zero n = omega arith
few_places (suc most) n = by_test (λ (k : ℕ). k ≤ suc most) (ltb n 10) _ _ (λ _. omega arith) (λ _. omega (arith, few_places most (n / 10)))

pub short_number : (word : List ℕ) (n : ℕ) → length (numbered word n) ≤ length word + 20
unfolding numbered decimal_of
short_number word n = omega (arith, length-append word (last_digits 10 (digits_in 20 n) n), digits_length 10 (digits_in 20 n) n, few_places 20 n)

pub short_hex : (word : List ℕ) (n : ℕ) → length (hexed word n) ≤ length word + 16
unfolding hexed
short_hex word n = omega (arith, length-append word (last_digits 16 16 n), digits_length 16 16 n)

abbrev Short : List ℕ → Type 0
Short text = length text ≤ 60

pub short_reason : (n : ℕ) → length (reason_of n) ≤ 60
unfolding reason_of
short_reason n =
    by_test Short (eqb n 1) _ _ (λ _. lit≤ tt)
    (λ _. by_test Short (eqb n 2) _ _ (λ _. lit≤ tt)
    (λ _. by_test Short (eqb n 3) _ _ (λ _. lit≤ tt)
    (λ _. by_test Short (eqb n 4) _ _ (λ _. lit≤ tt)
    (λ _. by_test Short (eqb n 5) _ _ (λ _. lit≤ tt)
    (λ _. by_test Short (eqb n 6) _ _ (λ _. lit≤ tt)
    (λ _. by_test Short (eqb n 7) _ _ (λ _. lit≤ tt)
    (λ _. by_test Short (eqb n 13) _ _ (λ _. lit≤ tt) (λ _. lit≤ tt))))))))
