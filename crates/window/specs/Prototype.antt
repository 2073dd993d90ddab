-- The window from outside: what the standard's table 3-B.3 is like, whoever copied it, computed over all 512 entries. No entry can be
-- another, nor an entry together with its mirror image, without breaking `sums`. Assumes nothing.
use Rattle.std.specs.Prelude.{ℕ, zero, suc, ◌-◌, ◌*◌, ◌^◌, ◌≡◌, refl, cond, List, [], ◌∷◌, ◌++◌, map, reverse, T, ltb, leb, eqb, ℤ, pos, neg_ℤ, nat_abs, ◌+ℤ◌, ◌-ℤ◌, ◌*ℤ◌, take, drop, replicate}
use Rattle.ground.specs.Entries.{every}
use Rattle.ground.specs.Upto.{upto}
use Rattle.window.specs.Window.{standard_d}

-- entry by entry, as far as both lists go
abbrev pairwise : (ℤ → ℤ → ℤ) → List ℤ → List ℤ → List ℤ
pairwise f [] ys = []
pairwise f (x ∷ xs) [] = []
pairwise f (x ∷ xs) (y ∷ ys) = f x y ∷ pairwise f xs ys

-- ---- the prototype of the filter bank: the window, negated where i / 64 is odd

abbrev negated : ℕ → List ℤ → List ℤ
negated zero xs = []
negated (suc n) xs = take 64 xs ++ (map neg_ℤ (take 64 (drop 64 xs)) ++ negated n (drop 128 xs))

abbrev prototype : List ℤ
prototype = negated 4 standard_d

-- it is symmetric about entry 256; entry 0 stands alone
pub symmetric : reverse (drop 1 prototype) ≡ drop 1 prototype
unfolding standard_d
symmetric = refl

-- and smooth, but for the rounding to 1 / 65536: no fourth difference is above 6
abbrev differences : List ℤ → List ℤ
differences xs = pairwise ◌-ℤ◌ xs (drop 1 xs)

pub smooth : T (every (λ x. leb (nat_abs x) 6) (differences (differences (differences (differences prototype)))))
unfolding standard_d
smooth = tt

-- ---- near-perfect reconstruction: with c = 2 (65536 times itself, twice), the sum over m of D[i + 32 m] D[i + 32 m + 64 n] is c for n = 0
-- and 0 for the others, within c / 2 ^ 14: what is cut into 32 bands and put together again is as it was

-- the 32 sums of n rows of 32 entries
abbrev sum_of_rows : ℕ → List ℤ → List ℤ
sum_of_rows zero xs = replicate 32 (pos 0)
sum_of_rows (suc n) xs = pairwise ◌+ℤ◌ (take 32 xs) (sum_of_rows n (drop 32 xs))

abbrev correlation : ℕ → List ℤ
correlation n = sum_of_rows (16 - 2 * n) (pairwise ◌*ℤ◌ standard_d (drop (64 * n) standard_d))

pub reconstructs : T (upto (λ n. every (λ x. ltb (nat_abs (x -ℤ pos (cond (eqb n 0) (2 ^ 33) 0))) (2 ^ 19)) (correlation n)) 8)
unfolding standard_d
reconstructs = tt

-- ---- twice what the source's own table adds up to, as it stands and with each entry times its place

abbrev total : List ℤ → ℤ
total [] = pos 0
total (x ∷ xs) = x +ℤ total xs

abbrev weighted : ℕ → List ℤ → List ℤ
weighted i [] = []
weighted i (x ∷ xs) = (pos i *ℤ x) ∷ weighted (suc i) xs

pub sums : (total standard_d ≡ pos 92686) × (total (weighted 0 standard_d) ≡ pos 168271450)
unfolding standard_d
sums = (refl, refl)
