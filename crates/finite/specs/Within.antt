-- A float that is finite and of a magnitude at most n, and what the operations make of such a bound. A bound that is itself a value of
-- the format survives the rounding, since rounding keeps the order. Assumes nothing.
use Rattle.std.specs.Prelude.{◌≡◌, refl, Bool, true, false, cond, ◌&&◌, ◌||◌, ℕ, zero, suc, ◌+◌, ◌-◌, ◌*◌, ◌^◌, ◌≤◌, ◌<◌, T, ltb, leb, eqb, ℤ, Float}
use Rattle.std.proofs.Common.{sym, ap, ◌∙◌, subst, true≢false, zero-le, le_trans, le_of_eq, le_of_lt, mul-one, one-mul, mul_assoc, mul_comm, mul_left_comm, mul_right_comm, add-mul, mul-pos, mul-le-mul_right, mul-le-mul, le_of_mul-le-mul_right, arith, lit<, ltb→lt, leb→le, eqb→eq, pow-add}
use Rattle.std.specs.Bool.{beq}
use Rattle.std.proofs.Math.Pow.{pow-lt}
use Rattle.std.specs.Float.{nan, inf, fin, binary32}
use Rattle.std.specs.Float.Ieee.{up, down, odd, units, round, le, lt, eq, sum, add, sub, mul, neg, unlike, minus}
use Rattle.std.specs.Int.Count.{count_trailing_zeros}
use Rattle.std.specs.Float.Ieee.Fits.{round_is, down_pos}
use Rattle.std.specs.Float.Ieee.Exact.{HasValue, round_exact}
use Rattle.std.specs.Float.Ieee.Order.{round_mono, kept, drop}
use Rattle.ground.specs.Upto.{and_left}

-- |x| ≤ n, x being no NaN and no infinity
abbrev pub Within : ℕ → Float → Type 0
Within n nan = ⊥
Within n (inf s) = ⊥
Within n (fin s m e) = m * up e ≤ n * down e

-- |x| ≤ b / g, and its test
abbrev pub Factor : ℕ → ℕ → Float → Type 0
Factor b g nan = ⊥
Factor b g (inf s) = ⊥
Factor b g (fin s m e) = m * up e * g ≤ b * down e

unfoldable pub factorb : ℕ → ℕ → Float → Bool
factorb b g nan = false
factorb b g (inf s) = false
factorb b g (fin s m e) = leb (m * up e * g) (b * down e)

pub factor_by : (b g : ℕ) (x : Float) → T (factorb b g x) → Factor b g x
unfolding factorb
factor_by b g nan t = t
factor_by b g (inf s) t = t
factor_by b g (fin s m e) t = leb→le _ _ t

-- n is a value of the format: q * 2 ^ j, where q has at most 24 digits
pub record Rep (n : ℕ) : Type 0 where
  pub q : ℕ
  pub j : ℕ
  pub small : q < 2 ^ 24
  pub fine : q * 2 ^ j < 2 ^ (149 + 128)
  pub is : n * 2 ^ 149 ≡ q * 2 ^ j * 1

-- as each power of 2 to 2 ^ 127 is
pub rep_power : (k : ℕ) → k ≤ 127 → Rep (2 ^ k)
rep_power k l =
    record {
      q = 1;
      j = k + 149;
      small = lit< tt;
      fine = subst (λ (x : ℕ). x < 2 ^ 277) (sym (one-mul (2 ^ (k + 149)))) (pow-lt {i = k + 149} {j = 277} (omega arith));
      is = sym (mul-one (1 * 2 ^ (k + 149)) ∙ one-mul (2 ^ (k + 149)) ∙ pow-add 2 k 149);
    }

-- ---- rounding

le_of_test : (a b : ℕ) (x y : Bool) → (T x → a ≤ b) → (T y → a ≤ b) → T (x || y) → a ≤ b
le_of_test a b true y f g t = f tt
le_of_test a b false y f g t = g t

le_fin : (m : ℕ) (e : ℤ) (y : Float) (n : ℕ) → HasValue y false n 1 → T (le (fin false m e) y) → m * up e ≤ n * down e
unfolding le lt eq
le_fin m e nan n v t = absurd v
le_fin m e (inf s) n v t = absurd v
le_fin m e (fin true p d) n v t = absurd (true≢false v.0)
le_fin m e (fin false p d) n v t =
    let a = m * up e * down d in
    let b = p * up d * down e in
    let h : a ≤ b = le_of_test a b (ltb a b) (eqb a b && true) (λ u. le_of_lt (ltb→lt a b u)) (λ u. le_of_eq (eqb→eq a b (and_left (eqb a b) true u))) t in
    let i : p * up d ≡ n * down d = sym (mul-one (p * up d)) ∙ v.1 in
    le_of_mul-le-mul_right (le_trans h (le_of_eq (ap (λ (z : ℕ). z * down e) i ∙ mul_right_comm n (down d) (down e)))) (down_pos d)

-- the sign does not matter to the magnitude
signed : (b s : Bool) (d q k l n : ℕ) (y : Float) → HasValue y false n 1 → T (le (cond b (odd d false q k l) (inf false)) y)
    → Within n (cond b (odd d s q k l) (inf s))
unfolding odd le lt eq
signed true s d zero k l n y v t = zero-le
signed true s d (suc q) k l n y v t = le_fin _ (minus (k + count_trailing_zeros d (suc q)) l) y n v t
signed false s d q k l n nan v t = absurd v
signed false s d q k l n (inf r) v t = absurd v
signed false s d q k l n (fin r m e) v t = absurd t

units_within : (s : Bool) (q k n : ℕ) (y : Float) → HasValue y false n 1 → T (le (units binary32 false q k) y) → Within n (units binary32 s q k)
unfolding units
units_within s q k n y v t = signed (ltb (q * 2 ^ k) (2 ^ 277)) s 25 q k 149 n y v t

-- a / c rounded
pub round_within : (s : Bool) (a c n : ℕ) → 0 < c → a ≤ n * c → Rep n → Within n (round binary32 s a c)
round_within s a c n p h r =
    let y = round binary32 false n 1 in
    let k = drop 24 (a * 2 ^ 149) c in
    let q = kept 24 (a * 2 ^ 149) c in
    let v : HasValue y false n 1 = round_exact binary32 false n 1 r.q r.j (omega arith) r.small r.fine r.is in
    let t : T (le (round binary32 false a c) y) = round_mono binary32 a c n 1 p (omega arith) (omega (arith, mul-one a)) in
    subst (Within n) (sym (round_is binary32 s a c)) (units_within s q k n y v (subst (λ (z : Float). T (le z y)) (round_is binary32 false a c) t))

-- ---- the operations

pub within_up : (a b : ℕ) (x : Float) → a ≤ b → Within a x → Within b x
within_up a b nan l h = h
within_up a b (inf s) l h = h
within_up a b (fin s m e) l h = le_trans h (mul-le-mul_right (down e) l)

pub within_either : (t : Bool) (n : ℕ) (x y : Float) → Within n x → Within n y → Within n (cond t x y)
within_either true n x y h k = h
within_either false n x y h k = k

-- the sum is within any value of the format that is at least a + b
pub add_within : (a b n : ℕ) (x y : Float) → Within a x → Within b y → a + b ≤ n → Rep n → Within n (add binary32 x y)
unfolding add sum
add_within a b n (fin s m e) (fin t p d) hx hy l r =
    let c = down e * down d in
    let u = m * up e * down d in
    let v = p * up d * down e in
    let C : 0 < c = mul-pos (down_pos e) (down_pos d) in
    let hu : u ≤ a * c = le_trans (mul-le-mul_right (down d) hx) (le_of_eq (mul_assoc a (down e) (down d))) in
    let same : b * down d * down e ≡ b * c = mul_assoc b (down d) (down e) ∙ ap (λ (z : ℕ). b * z) (mul_comm (down d) (down e)) in
    let hv : v ≤ b * c = le_trans (mul-le-mul_right (down e) hy) (le_of_eq same) in
    let k : a * c + b * c ≤ n * c = le_trans (le_of_eq (sym (add-mul a b c))) (mul-le-mul_right c l) in
    within_either (beq s t) n (round binary32 s (u + v) c) (cond (ltb u v) (round binary32 t (v - u) c) (round binary32 (s && ltb v u) (u - v) c))
    (round_within s (u + v) c n C (omega arith) r)
    (within_either (ltb u v) n (round binary32 t (v - u) c) (round binary32 (s && ltb v u) (u - v) c)
    (round_within t (v - u) c n C (omega arith) r) (round_within (s && ltb v u) (u - v) c n C (omega arith) r))
add_within a b n nan y hx hy l r = absurd hx
add_within a b n (inf s) y hx hy l r = absurd hx
add_within a b n (fin s m e) nan hx hy l r = absurd hy
add_within a b n (fin s m e) (inf t) hx hy l r = absurd hy

pub neg_within : (n : ℕ) (x : Float) → Within n x → Within n (neg x)
unfolding neg
neg_within n nan h = h
neg_within n (inf s) h = h
neg_within n (fin s m e) h = h

pub sub_within : (a b n : ℕ) (x y : Float) → Within a x → Within b y → a + b ≤ n → Rep n → Within n (sub binary32 x y)
unfolding sub
sub_within a b n x y hx hy l r = add_within a b n x (neg y) hx (neg_within b y hy) l r

-- a product with a factor, which may stand on either side
pub mul_within : (a b g n : ℕ) (x y : Float) → 0 < g → Within a x → Factor b g y → a * b ≤ n * g → Rep n → Within n (mul binary32 x y)
unfolding mul
mul_within a b g n (fin s m e) (fin t p d) G hx hy l r =
    round_within (unlike s t) (m * up e * (p * up d)) (down e * down d) n (mul-pos (down_pos e) (down_pos d))
    (le_of_mul-le-mul_right
    (le_trans (le_of_eq (mul_assoc (m * up e) (p * up d) g))
    (le_trans (mul-le-mul hx hy)
    (le_trans (le_of_eq (simp (mul_assoc, mul_comm, mul_left_comm)))
    (le_trans (mul-le-mul_right (down e * down d) l) (le_of_eq (simp (mul_assoc, mul_comm, mul_left_comm)))))))
    G)
    r
mul_within a b g n nan y G hx hy l r = absurd hx
mul_within a b g n (inf s) y G hx hy l r = absurd hx
mul_within a b g n (fin s m e) nan G hx hy l r = absurd hy
mul_within a b g n (fin s m e) (inf t) G hx hy l r = absurd hy

unlike_comm : (s t : Bool) → unlike s t ≡ unlike t s
unlike_comm true true = refl
unlike_comm true false = refl
unlike_comm false true = refl
unlike_comm false false = refl

pub factor_within : (a b g n : ℕ) (x y : Float) → 0 < g → Factor b g x → Within a y → a * b ≤ n * g → Rep n → Within n (mul binary32 x y)
unfolding mul
factor_within a b g n (fin s m e) (fin t p d) G hx hy l r =
    rw (unlike_comm s t, mul_comm (m * up e) (p * up d), mul_comm (down e) (down d)) (mul_within a b g n (fin t p d) (fin s m e) G hy hx l r)
factor_within a b g n nan y G hx hy l r = absurd hx
factor_within a b g n (inf s) y G hx hy l r = absurd hx
factor_within a b g n (fin s m e) nan G hx hy l r = absurd hy
factor_within a b g n (fin s m e) (inf t) G hx hy l r = absurd hy
