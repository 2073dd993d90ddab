-- The transform's values: samples of at most 2 ^ 17 give slot values of at most 2 ^ 36. The bound goes through the definition by halving.
-- From 01, "From samples to sound". Assumes nothing.
use Rattle.std.specs.Prelude.{◌≡◌, Bool, true, false, List, ℕ, zero, suc, ◌+◌, ◌-◌, ◌*◌, ◌/◌, ◌%◌, ◌^◌, ◌≤◌, ◌<◌, T, ltb, eqb, ℤ, pos, negsuc, nat_abs, get_or, length, Float}
use Rattle.std.proofs.Common.{sym, ◌∙◌, subst, le_of_eq, mul-one, pow-suc, arith, ltb-true, ltb-false, lit<, lit≤, pow-add, pow_mono}
use Rattle.std.proofs.lemmas.Bool.{eqb-false}
use Rattle.std.specs.Float.{nan, binary32}
use Rattle.std.specs.Float.Ieee.{add, sub, mul, of_bits, of_int}
use Rattle.ground.specs.Table.{table, at_table}
use Rattle.ground.specs.Tests.{by_test}
use Rattle.ground.specs.Upto.{upto, below}
use Rattle.transform.specs.Transform.{at, halving_factors, usual_factor, other_factor, sum_at, difference_at, sums_of, differences_of, joined_at, woven_at, woven_of, transform, float_at, floats, slot_at, slot_of, idct}
use Rattle.finite.specs.Within.{Within, Factor, factorb, factor_by, rep_power, round_within, within_up, within_either, add_within, sub_within, mul_within, neg_within}

-- ---- bounds that are powers of 2

double : (k : ℕ) → 2 ^ suc k ≡ 2 ^ k + 2 ^ k
double k = pow-suc 2 k ∙ two (2 ^ k)
  where
    two : (p : ℕ) → p * 2 ≡ p + p
    two p = omega arith

widen : (j k : ℕ) (x : Float) → j ≤ k → Within (2 ^ j) x → Within (2 ^ k) x
widen j k x l h = within_up (2 ^ j) (2 ^ k) x (pow_mono l) h

add_power : (k : ℕ) (x y : Float) → suc k ≤ 127 → Within (2 ^ k) x → Within (2 ^ k) y → Within (2 ^ suc k) (add binary32 x y)
add_power k x y l h g = add_within (2 ^ k) (2 ^ k) (2 ^ suc k) x y h g (le_of_eq (sym (double k))) (rep_power (suc k) l)

sub_power : (k : ℕ) (x y : Float) → suc k ≤ 127 → Within (2 ^ k) x → Within (2 ^ k) y → Within (2 ^ suc k) (sub binary32 x y)
sub_power k x y l h g = sub_within (2 ^ k) (2 ^ k) (2 ^ suc k) x y h g (le_of_eq (sym (double k))) (rep_power (suc k) l)

mul_power : (j k : ℕ) (x y : Float) → j + k ≤ 127 → Within (2 ^ j) x → Factor (2 ^ k) 1 y → Within (2 ^ (j + k)) (mul binary32 x y)
mul_power j k x y l h g =
    mul_within (2 ^ j) (2 ^ k) 1 (2 ^ (j + k)) x y (lit< tt) h g (le_of_eq (sym (mul-one (2 ^ (j + k)) ∙ pow-add 2 j k))) (rep_power (j + k) l)

-- ---- one halving

-- the first n values are at most 2 ^ b
pub AllWithin : ℕ → ℕ → List Float → Type 0
AllWithin b n values = (i : ℕ) → i < n → Within (2 ^ b) (at values i)

all_table : (b n : ℕ) (f : ℕ → Float) → ((i : ℕ) → i < n → Within (2 ^ b) (f i)) → AllWithin b n (table n f)
unfolding AllWithin
all_table b n f h i l = subst (Within (2 ^ b)) (sym (at_table nan n f i l)) (h i l)

all_widen : (b c n : ℕ) (values : List Float) → b ≤ c → AllWithin b n values → AllWithin c n values
unfolding AllWithin
all_widen b c n values l a i p = widen b c (at values i) l (a i p)

-- the factors of width 2 ^ (k + 1) are at most 2 ^ k
pub Tame : Float → Type 0
Tame f = (k i : ℕ) → k < 5 → i < 2 ^ k → Factor (2 ^ k) 1 (at (halving_factors f k) i)

all_sums : (b h : ℕ) (values : List Float) → suc b ≤ 127 → AllWithin b (h + h) values → AllWithin (suc b) h (sums_of h values)
unfolding sums_of AllWithin
all_sums b h values l a =
    all_table (suc b) h (sum_at h values)
    (λ i p. add_power b (at values i) (at values (h + h - 1 - i)) l (a i (omega arith)) (a (h + h - 1 - i) (omega arith)))

all_differences : (b k : ℕ) (f : Float) (values : List Float) → k < 5 → suc b + k ≤ 127 → Tame f → AllWithin b (2 ^ k + 2 ^ k) values
    → AllWithin (suc b + k) (2 ^ k) (differences_of (2 ^ k) (halving_factors f k) values)
unfolding differences_of AllWithin Tame
all_differences b k f values lk l t a =
    all_table (suc b + k) (2 ^ k) (difference_at (2 ^ k) (halving_factors f k) values)
    (λ i p.
    let far = 2 ^ k + 2 ^ k - 1 - i in
    mul_power (suc b) k (sub binary32 (at values i) (at values far)) (at (halving_factors f k) i) l
    (sub_power b (at values i) (at values far) (omega arith) (a i (omega arith)) (a far (omega arith))) (t k i lk p))

joined_within : (b h : ℕ) (second : List Float) → suc b ≤ 127 → AllWithin b h second → (j : ℕ) → j < h → Within (2 ^ suc b) (joined_at h second j)
unfolding AllWithin
joined_within b h second l a j p =
    by_test (Within (2 ^ suc b)) (ltb (j + 1) h) _ _
    (λ e. add_power b (at second j) (at second (j + 1)) l (a j p) (a (j + 1) (ltb-true _ _ e)))
    (λ e. widen b (suc b) (at second j) (omega arith) (a j p))

all_woven : (b h : ℕ) (first second : List Float) → suc b ≤ 127 → AllWithin (suc b) h first → AllWithin b h second
    → AllWithin (suc b) (h + h) (woven_of h first second)
unfolding woven_of AllWithin
all_woven b h first second l a₁ a₂ =
    all_table (suc b) (h + h) (woven_at h first second)
    (λ i p.
    within_either (eqb (i % 2) 0) (2 ^ suc b) (at first (i / 2)) (joined_at h second (i / 2)) (a₁ (i / 2) (omega arith))
    (joined_within b h second l a₂ (i / 2) (omega arith)))

-- at width 2 nothing is joined
all_pair : (b : ℕ) (first second : List Float) → AllWithin b 1 first → AllWithin b 1 second → AllWithin b 2 (woven_of 1 first second)
unfolding woven_of AllWithin
all_pair b first second a₁ a₂ = all_table b 2 (woven_at 1 first second) (λ i p. go i p)
  where
    go : (i : ℕ) → i < 2 → Within (2 ^ b) (woven_at 1 first second i)
    go zero p = a₁ 0 (omega arith)
    go (suc zero) p = a₂ 0 (omega arith)
    go (suc (suc i)) p = absurd (omega arith)

-- ---- the transform

-- what a transform of 2 ^ k values makes of a bound
unfoldable pub grown : ℕ → ℕ → ℕ
grown zero b = b
grown (suc zero) b = suc b
grown (suc (suc k)) b = suc (grown (suc k) (suc b + suc k))

grown_up : (k b : ℕ) → b ≤ grown k b
unfolding grown
grown_up zero b = omega arith
grown_up (suc zero) b = omega arith
grown_up (suc (suc k)) b = omega (arith, grown_up (suc k) (suc b + suc k))

pub transform_within : (k b : ℕ) (f d : Float) (values : List Float) → k ≤ 5 → grown k b ≤ 127 → Tame f → Tame d → AllWithin b (2 ^ k) values
    → AllWithin (grown k b) (2 ^ k) (transform k f d values)
unfolding transform grown
transform_within zero b f d values lk l tf td a = a
transform_within (suc zero) b f d values lk l tf td a =
    all_pair (suc b) (sums_of 1 values) (differences_of 1 (halving_factors f 0) values) (all_sums b 1 values l a)
    (all_widen (suc b + 0) (suc b) 1 _ (omega arith) (all_differences b 0 f values (omega arith) (omega arith) tf a))
transform_within (suc (suc k)) b f d values lk l tf td a =
    let h = 2 ^ suc k in
    let c = suc b + suc k in
    let up = grown_up (suc k) c in
    let s = sums_of h values in
    let t = differences_of h (halving_factors f (suc k)) values in
    let a' : AllWithin b (h + h) values = subst (λ (n : ℕ). AllWithin b n values) (double (suc k)) a in
    subst (λ (n : ℕ). AllWithin (suc (grown (suc k) c)) n (woven_of h (transform (suc k) f f s) (transform (suc k) d d t))) (sym (double (suc k)))
    (all_woven (grown (suc k) c) h (transform (suc k) f f s) (transform (suc k) d d t) l
    (all_widen (grown (suc k) c) (suc (grown (suc k) c)) h _ (omega arith)
    (transform_within (suc k) c f f s (omega arith) (omega arith) tf tf (all_widen (suc b) c h s (omega arith) (all_sums b h values (omega arith) a'))))
    (transform_within (suc k) c d d t (omega arith) (omega arith) td td (all_differences b (suc k) f values (omega arith) (omega arith) tf a')))

-- the factors, by a test at each width
level : Float → ℕ → Bool
level f k = upto (λ (i : ℕ). factorb (2 ^ k) 1 (at (halving_factors f k) i)) (2 ^ k)

tame_by : (f : Float) → T (upto (level f) 5) → Tame f
unfolding Tame level
tame_by f t k i lk li = factor_by (2 ^ k) 1 _ (below (λ (i : ℕ). factorb (2 ^ k) 1 (at (halving_factors f k) i)) (2 ^ k) (below (level f) 5 t k lk) i li)

usual_tame : Tame usual_factor
unfolding level factorb halving_factors of_bits
usual_tame = tame_by usual_factor tt

other_tame : Tame other_factor
unfolding level factorb halving_factors of_bits
other_tame = tame_by other_factor tt

-- ---- from samples to a slot

-- 32 samples as the codes make them: of a magnitude at most 104,848
pub record Quiet (samples : List ℤ) : Type 0 where
  pub many : length samples ≡ 32
  pub small : (i : ℕ) → i < 32 → nat_abs (get_or samples i (pos 0)) ≤ 104848

int_within : (n : ℤ) → nat_abs n ≤ 104848 → Within (2 ^ 17) (of_int binary32 n)
unfolding of_int
int_within (pos n) h = round_within false n 1 (2 ^ 17) (lit< tt) (omega arith) (rep_power 17 (lit≤ tt))
int_within (negsuc n) h = round_within true (suc n) 1 (2 ^ 17) (lit< tt) (omega arith) (rep_power 17 (lit≤ tt))

floats_within : (samples : List ℤ) → Quiet samples → AllWithin 17 32 (floats samples)
unfolding floats
floats_within samples q = rw q.many (all_table 17 32 (float_at samples) (λ i p. int_within (get_or samples i (pos 0)) (q.small i p)))

zero_within : (n : ℕ) → Within n (of_bits binary32 0)
unfolding of_bits
zero_within n = omega arith

slot_within : (b : ℕ) (results : List Float) → AllWithin b 32 results → AllWithin b 64 (slot_of results)
unfolding slot_of AllWithin
slot_within b results a =
    all_table b 64 (slot_at results)
    (λ i p.
    by_test (Within (2 ^ b)) (ltb i 16) _ _ (λ e. a (16 + i) (omega (arith, ltb-true i 16 e)))
    (λ e.
    by_test (Within (2 ^ b)) (eqb i 16) _ _ (λ _. zero_within (2 ^ b))
    (λ z.
    by_test (Within (2 ^ b)) (ltb i 48) _ _ (λ _. neg_within (2 ^ b) _ (a (48 - i) (omega (arith, ltb-false i 16 e, eqb-false i 16 z))))
    (λ g. neg_within (2 ^ b) _ (a (i - 48) (omega (arith, ltb-false i 48 g)))))))

pub idct_within : (samples : List ℤ) → Quiet samples → (i : ℕ) → i < 64 → Within (2 ^ 36) (get_or (idct samples) i nan)
unfolding idct grown AllWithin
idct_within samples q =
    slot_within 36 _ (transform_within 5 17 usual_factor other_factor (floats samples) (lit≤ tt) (lit≤ tt) usual_tame other_tame (floats_within samples q))
