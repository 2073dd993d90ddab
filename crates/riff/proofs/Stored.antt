-- Four bytes stored one after the other are four bytes put in. Assumes nothing.
use Rattle.std.specs.Prelude.{ℕ, zero, suc, ◌+◌, ◌/◌, ◌%◌, ◌≤◌, ◌≡◌, refl, List, [], ◌∷◌, ◌++◌, length, take, drop, set}
use Rattle.std.proofs.Common.{ap, arith}
use Rattle.riff.specs.Header.{le32, put_at}

by_step : (bytes : List ℕ) (at n : ℕ) → at + 4 ≤ length bytes → take at bytes ++ (le32 n ++ drop 4 (drop at bytes))
    ≡ set (set (set (set bytes at (n % 256)) (suc at) (n / 256 % 256)) (suc (suc at)) (n / 65536 % 256)) (suc (suc (suc at))) (n / 16777216 % 256)
by_step [] at n h = absurd (omega arith)
by_step (a ∷ []) zero n h = absurd (omega arith)
by_step (a ∷ b ∷ []) zero n h = absurd (omega arith)
by_step (a ∷ b ∷ c ∷ []) zero n h = absurd (omega arith)
by_step (a ∷ b ∷ c ∷ d ∷ more) zero n h = refl
by_step (x ∷ more) (suc at) n h = ap (λ (rest : List ℕ). x ∷ rest) (by_step more at n (omega arith))

pub stored : (bytes : List ℕ) (at n : ℕ) → at + 4 ≤ length bytes → take at bytes ++ (le32 n ++ drop 4 (drop at bytes)) ≡ put_at bytes at n
stored bytes at n h =
    let one : at + 1 ≡ suc at = omega arith in
    let two : at + 2 ≡ suc (suc at) = omega arith in
    let three : at + 3 ≡ suc (suc (suc at)) = omega arith in
    rw (one, two, three) (by_step bytes at n h)
