-- Magnitudes of sums and products of integers, and small integers at 32 bits.
-- Assumes nothing.
use Rattle.std.specs.Prelude.{◌≡◌, refl, Bool, true, false, cond, ℕ, zero, suc, ◌+◌, ◌-◌, ◌*◌, ◌≤◌, ◌<◌, ◌^◌, T, ltb, ℤ, pos, negsuc, neg_ℤ, nat_abs, ◌+ℤ◌, ◌-ℤ◌, ◌*ℤ◌}
use Rattle.std.proofs.Common.{mul-le-mul, lt_of_le_of_lt, arith, ltb-true, ltb-false, ltb→lt, SFits, to_z, of_z}
use Rattle.std.specs.Int.{w32}
use Rattle.std.proofs.lemmas.Int.{to_z-of_z, to_z_pos}

abs_neg : (z : ℤ) → nat_abs (neg_ℤ z) ≡ nat_abs z
abs_neg (pos zero) = refl
abs_neg (pos (suc n)) = refl
abs_neg (negsuc n) = refl

pub abs_mul : (a b : ℤ) → nat_abs (a *ℤ b) ≡ nat_abs a * nat_abs b
abs_mul (pos a) (pos b) = refl
abs_mul (pos a) (negsuc b) = abs_neg (pos (a * suc b))
abs_mul (negsuc a) (pos b) = abs_neg (pos (suc a * b))
abs_mul (negsuc a) (negsuc b) = refl

-- a difference by cases
abs_cond : (t : Bool) (x y n : ℕ) → x < n → y ≤ n → nat_abs (cond t (negsuc x) (pos y)) ≤ n
abs_cond true x y n p q = p
abs_cond false x y n p q = q

pub abs_add : (a b : ℤ) → nat_abs (a +ℤ b) ≤ nat_abs a + nat_abs b
abs_add (pos a) (pos b) = omega arith
abs_add (pos a) (negsuc b) = abs_cond (ltb a (suc b)) (suc b - suc a) (a - suc b) (a + suc b) (omega arith) (omega arith)
abs_add (negsuc a) (pos b) = abs_cond (ltb b (suc a)) (suc a - suc b) (b - suc a) (suc a + b) (omega arith) (omega arith)
abs_add (negsuc a) (negsuc b) = omega arith

pub bound_mul : (a b : ℤ) (m n : ℕ) → nat_abs a ≤ m → nat_abs b ≤ n → nat_abs (a *ℤ b) ≤ m * n
bound_mul a b m n p q = rw abs_mul (mul-le-mul p q)

pub bound_add : (a b : ℤ) (m n : ℕ) → nat_abs a ≤ m → nat_abs b ≤ n → nat_abs (a +ℤ b) ≤ m + n
bound_add a b m n p q = omega (arith, abs_add a b)

-- a difference of two numbers, from how far each is above the other
pub abs_sub : (a b n : ℕ) → a - b ≤ n → b - a ≤ n → nat_abs (pos a -ℤ pos b) ≤ n
abs_sub a zero n p q = omega arith
abs_sub a (suc b) n p q = go (ltb a (suc b)) refl
  where
    go : (t : Bool) → ltb a (suc b) ≡ t → nat_abs (cond t (negsuc (suc b - suc a)) (pos (a - suc b))) ≤ n
    go true e = omega (arith, ltb-true a (suc b) e)
    go false e = omega (arith, ltb-false a (suc b) e)

pub fits32 : (z : ℤ) {n : ℕ} → nat_abs z ≤ n → n < 2 ^ 31 → SFits w32 z
fits32 (pos n) h k = record { sfits = omega arith }
fits32 (negsuc n) h k = record { sfits = omega arith }

-- an integer of small magnitude is read back from its 32 bits
pub read_back : (z : ℤ) {n : ℕ} → nat_abs z ≤ n → T (ltb n (2 ^ 31)) → to_z w32 (of_z w32 z) ≡ z
read_back z {n} h t = to_z-of_z w32 z (fits32 z h (ltb→lt n (2 ^ 31) t))

-- and a number below 2 ^ 31 is read as itself
pub read_as_itself : (n : ℕ) {k : ℕ} → n ≤ k → T (ltb k (2 ^ 31)) → to_z w32 n ≡ pos n
read_as_itself n {k} h t = to_z_pos w32 n (lt_of_le_of_lt h (ltb→lt k (2 ^ 31) t))
