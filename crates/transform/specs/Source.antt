-- The source's `idct36` (native32emu, mpeg/audio.rs), line by line and in its order, to be held beside the Rust: `source-is-idct`
-- (proofs/Source) says that it writes `idct`, for all samples. So nobody need believe the halving. Read it so:
--   s[i][ss] as f32             g i
--   x + y, x - y, x * y, -x     x ⊕ y, x ⊖ y, x ⊗ y (each rounded to f32), neg x; `t03 += t15` is written out
--   0.53104259109               53104259109 e- 11: the literal with its point moved, and of that number the nearest f32, as Rust has it
--   let mut t01 = x; t01 = x;   a `let`, which hides the value that t01 had
--   d[dp + 48] = x;             48 ≔ x
-- Assumes nothing.
use Rattle.std.specs.Prelude.{ℕ, ◌+◌, ◌^◌, ◌≤◌, ◌<◌, ◌≡◌, refl, Bool, true, false, cond, List, [], ◌∷◌, T, eqb, ltb, ℤ, pos, length, get_or, take, drop, set, Float}
use Rattle.std.proofs.Common.{ap, ◌∙◌, arith, eqb-true, ltb→lt, length-set, get_or-set_same, get_or-set_other, drop-set-lt}
use Rattle.std.proofs.lemmas.Bool.{eqb-false}
use Rattle.std.proofs.lemmas.List.{take-set-le}
use Rattle.std.specs.Float.{nan, binary32}
use Rattle.std.specs.Float.Ieee.{add, sub, mul, neg, round, of_bits, of_int}
use Rattle.ground.specs.Entries.{every}
use Rattle.ground.specs.Table.{table}
use Rattle.ground.specs.Upto.{and_left, and_right}
use Rattle.transform.specs.Transform.{floats, idct, transform, slot_of, sums_of, differences_of, halving_factors, woven_of}

infixl 60 ◌⊕◌ ◌⊖◌
infixl 70 ◌⊗◌
infixl 80 ◌e-◌
infix 50 ◌≔◌
abbrev ◌⊕◌ : Float → Float → Float
x ⊕ y = add binary32 x y

abbrev ◌⊖◌ : Float → Float → Float
x ⊖ y = sub binary32 x y

abbrev ◌⊗◌ : Float → Float → Float
x ⊗ y = mul binary32 x y

-- m / 10 ^ k
abbrev ◌e-◌ : ℕ → ℕ → Float
m e- k = round binary32 false m (10 ^ k)

pub data Store : Type 0 where
  ◌≔◌ : ℕ → Float → Store

pub lines : (ℕ → Float) → List Store
lines g =
    let t01 = g 0 ⊕ g 31 in
    let t02 = (g 0 ⊖ g 31) ⊗ 500602998235 e- 12 in
    let t03 = g 1 ⊕ g 30 in
    let t04 = (g 1 ⊖ g 30) ⊗ 505470959898 e- 12 in
    let t05 = g 2 ⊕ g 29 in
    let t06 = (g 2 ⊖ g 29) ⊗ 515447309923 e- 12 in
    let t07 = g 3 ⊕ g 28 in
    let t08 = (g 3 ⊖ g 28) ⊗ 53104259109 e- 11 in
    let t09 = g 4 ⊕ g 27 in
    let t10 = (g 4 ⊖ g 27) ⊗ 553103896034 e- 12 in
    let t11 = g 5 ⊕ g 26 in
    let t12 = (g 5 ⊖ g 26) ⊗ 582934968206 e- 12 in
    let t13 = g 6 ⊕ g 25 in
    let t14 = (g 6 ⊖ g 25) ⊗ 622504123036 e- 12 in
    let t15 = g 7 ⊕ g 24 in
    let t16 = (g 7 ⊖ g 24) ⊗ 674808341455 e- 12 in
    let t17 = g 8 ⊕ g 23 in
    let t18 = (g 8 ⊖ g 23) ⊗ 744536271002 e- 12 in
    let t19 = g 9 ⊕ g 22 in
    let t20 = (g 9 ⊖ g 22) ⊗ 839349645416 e- 12 in
    let t21 = g 10 ⊕ g 21 in
    let t22 = (g 10 ⊖ g 21) ⊗ 972568237862 e- 12 in
    let t23 = g 11 ⊕ g 20 in
    let t24 = (g 11 ⊖ g 20) ⊗ 116943993343 e- 11 in
    let t25 = g 12 ⊕ g 19 in
    let t26 = (g 12 ⊖ g 19) ⊗ 148416461631 e- 11 in
    let t27 = g 13 ⊕ g 18 in
    let t28 = (g 13 ⊖ g 18) ⊗ 205778100995 e- 11 in
    let t29 = g 14 ⊕ g 17 in
    let t30 = (g 14 ⊖ g 17) ⊗ 340760841847 e- 11 in
    let t31 = g 15 ⊕ g 16 in
    let t32 = (g 15 ⊖ g 16) ⊗ 101900081235 e- 10 in
    let t33 = t01 ⊕ t31 in
    let t31 = (t01 ⊖ t31) ⊗ 502419286188 e- 12 in
    let t01 = t03 ⊕ t29 in
    let t29 = (t03 ⊖ t29) ⊗ 52249861494 e- 11 in
    let t03 = t05 ⊕ t27 in
    let t27 = (t05 ⊖ t27) ⊗ 566944034816 e- 12 in
    let t05 = t07 ⊕ t25 in
    let t25 = (t07 ⊖ t25) ⊗ 64682178336 e- 11 in
    let t07 = t09 ⊕ t23 in
    let t23 = (t09 ⊖ t23) ⊗ 788154623451 e- 12 in
    let t09 = t11 ⊕ t21 in
    let t21 = (t11 ⊖ t21) ⊗ 106067768599 e- 11 in
    let t11 = t13 ⊕ t19 in
    let t19 = (t13 ⊖ t19) ⊗ 172244709824 e- 11 in
    let t13 = t15 ⊕ t17 in
    let t17 = (t15 ⊖ t17) ⊗ 510114861869 e- 11 in
    let t15 = t33 ⊕ t13 in
    let t13 = (t33 ⊖ t13) ⊗ 509795579104 e- 12 in
    let t33 = t01 ⊕ t11 in
    let t01 = (t01 ⊖ t11) ⊗ 601344886935 e- 12 in
    let t11 = t03 ⊕ t09 in
    let t09 = (t03 ⊖ t09) ⊗ 899976223136 e- 12 in
    let t03 = t05 ⊕ t07 in
    let t07 = (t05 ⊖ t07) ⊗ 256291544774 e- 11 in
    let t05 = t15 ⊕ t03 in
    let t15 = (t15 ⊖ t03) ⊗ 541196100146 e- 12 in
    let t03 = t33 ⊕ t11 in
    let t11 = (t33 ⊖ t11) ⊗ 130656296488 e- 11 in
    let t33 = t05 ⊕ t03 in
    let t05 = (t05 ⊖ t03) ⊗ 707106781187 e- 12 in
    let t03 = t15 ⊕ t11 in
    let t15 = (t15 ⊖ t11) ⊗ 707106781187 e- 12 in
    let t03 = t03 ⊕ t15 in
    let t11 = t13 ⊕ t07 in
    let t13 = (t13 ⊖ t07) ⊗ 541196100146 e- 12 in
    let t07 = t01 ⊕ t09 in
    let t09 = (t01 ⊖ t09) ⊗ 130656296488 e- 11 in
    let t01 = t11 ⊕ t07 in
    let t07 = (t11 ⊖ t07) ⊗ 707106781187 e- 12 in
    let t11 = t13 ⊕ t09 in
    let t13 = (t13 ⊖ t09) ⊗ 707106781187 e- 12 in
    let t11 = t11 ⊕ t13 in
    let t01 = t01 ⊕ t11 in
    let t11 = t11 ⊕ t07 in
    let t07 = t07 ⊕ t13 in
    let t09 = t31 ⊕ t17 in
    let t31 = (t31 ⊖ t17) ⊗ 509795579104 e- 12 in
    let t17 = t29 ⊕ t19 in
    let t29 = (t29 ⊖ t19) ⊗ 601344886935 e- 12 in
    let t19 = t27 ⊕ t21 in
    let t21 = (t27 ⊖ t21) ⊗ 899976223136 e- 12 in
    let t27 = t25 ⊕ t23 in
    let t23 = (t25 ⊖ t23) ⊗ 256291544774 e- 11 in
    let t25 = t09 ⊕ t27 in
    let t09 = (t09 ⊖ t27) ⊗ 541196100146 e- 12 in
    let t27 = t17 ⊕ t19 in
    let t19 = (t17 ⊖ t19) ⊗ 130656296488 e- 11 in
    let t17 = t25 ⊕ t27 in
    let t27 = (t25 ⊖ t27) ⊗ 707106781187 e- 12 in
    let t25 = t09 ⊕ t19 in
    let t19 = (t09 ⊖ t19) ⊗ 707106781187 e- 12 in
    let t25 = t25 ⊕ t19 in
    let t09 = t31 ⊕ t23 in
    let t31 = (t31 ⊖ t23) ⊗ 541196100146 e- 12 in
    let t23 = t29 ⊕ t21 in
    let t21 = (t29 ⊖ t21) ⊗ 130656296488 e- 11 in
    let t29 = t09 ⊕ t23 in
    let t23 = (t09 ⊖ t23) ⊗ 707106781187 e- 12 in
    let t09 = t31 ⊕ t21 in
    let t31 = (t31 ⊖ t21) ⊗ 707106781187 e- 12 in
    let t09 = t09 ⊕ t31 in
    let t29 = t29 ⊕ t09 in
    let t09 = t09 ⊕ t23 in
    let t23 = t23 ⊕ t31 in
    let t17 = t17 ⊕ t29 in
    let t29 = t29 ⊕ t25 in
    let t25 = t25 ⊕ t09 in
    let t09 = t09 ⊕ t27 in
    let t27 = t27 ⊕ t23 in
    let t23 = t23 ⊕ t19 in
    let t19 = t19 ⊕ t31 in
    let t21 = t02 ⊕ t32 in
    let t02 = (t02 ⊖ t32) ⊗ 500602998235 e- 12 in
    let t32 = t04 ⊕ t30 in
    let t04 = (t04 ⊖ t30) ⊗ 52249861494 e- 11 in
    let t30 = t06 ⊕ t28 in
    let t28 = (t06 ⊖ t28) ⊗ 566944034816 e- 12 in
    let t06 = t08 ⊕ t26 in
    let t08 = (t08 ⊖ t26) ⊗ 64682178336 e- 11 in
    let t26 = t10 ⊕ t24 in
    let t10 = (t10 ⊖ t24) ⊗ 788154623451 e- 12 in
    let t24 = t12 ⊕ t22 in
    let t22 = (t12 ⊖ t22) ⊗ 106067768599 e- 11 in
    let t12 = t14 ⊕ t20 in
    let t20 = (t14 ⊖ t20) ⊗ 172244709824 e- 11 in
    let t14 = t16 ⊕ t18 in
    let t16 = (t16 ⊖ t18) ⊗ 510114861869 e- 11 in
    let t18 = t21 ⊕ t14 in
    let t14 = (t21 ⊖ t14) ⊗ 509795579104 e- 12 in
    let t21 = t32 ⊕ t12 in
    let t32 = (t32 ⊖ t12) ⊗ 601344886935 e- 12 in
    let t12 = t30 ⊕ t24 in
    let t24 = (t30 ⊖ t24) ⊗ 899976223136 e- 12 in
    let t30 = t06 ⊕ t26 in
    let t26 = (t06 ⊖ t26) ⊗ 256291544774 e- 11 in
    let t06 = t18 ⊕ t30 in
    let t18 = (t18 ⊖ t30) ⊗ 541196100146 e- 12 in
    let t30 = t21 ⊕ t12 in
    let t12 = (t21 ⊖ t12) ⊗ 130656296488 e- 11 in
    let t21 = t06 ⊕ t30 in
    let t30 = (t06 ⊖ t30) ⊗ 707106781187 e- 12 in
    let t06 = t18 ⊕ t12 in
    let t12 = (t18 ⊖ t12) ⊗ 707106781187 e- 12 in
    let t06 = t06 ⊕ t12 in
    let t18 = t14 ⊕ t26 in
    let t26 = (t14 ⊖ t26) ⊗ 541196100146 e- 12 in
    let t14 = t32 ⊕ t24 in
    let t24 = (t32 ⊖ t24) ⊗ 130656296488 e- 11 in
    let t32 = t18 ⊕ t14 in
    let t14 = (t18 ⊖ t14) ⊗ 707106781187 e- 12 in
    let t18 = t26 ⊕ t24 in
    let t24 = (t26 ⊖ t24) ⊗ 707106781187 e- 12 in
    let t18 = t18 ⊕ t24 in
    let t32 = t32 ⊕ t18 in
    let t18 = t18 ⊕ t14 in
    let t26 = t14 ⊕ t24 in
    let t14 = t02 ⊕ t16 in
    let t02 = (t02 ⊖ t16) ⊗ 509795579104 e- 12 in
    let t16 = t04 ⊕ t20 in
    let t04 = (t04 ⊖ t20) ⊗ 601344886935 e- 12 in
    let t20 = t28 ⊕ t22 in
    let t22 = (t28 ⊖ t22) ⊗ 899976223136 e- 12 in
    let t28 = t08 ⊕ t10 in
    let t10 = (t08 ⊖ t10) ⊗ 256291544774 e- 11 in
    let t08 = t14 ⊕ t28 in
    let t14 = (t14 ⊖ t28) ⊗ 541196100146 e- 12 in
    let t28 = t16 ⊕ t20 in
    let t20 = (t16 ⊖ t20) ⊗ 130656296488 e- 11 in
    let t16 = t08 ⊕ t28 in
    let t28 = (t08 ⊖ t28) ⊗ 707106781187 e- 12 in
    let t08 = t14 ⊕ t20 in
    let t20 = (t14 ⊖ t20) ⊗ 707106781187 e- 12 in
    let t08 = t08 ⊕ t20 in
    let t14 = t02 ⊕ t10 in
    let t02 = (t02 ⊖ t10) ⊗ 541196100146 e- 12 in
    let t10 = t04 ⊕ t22 in
    let t22 = (t04 ⊖ t22) ⊗ 130656296488 e- 11 in
    let t04 = t14 ⊕ t10 in
    let t10 = (t14 ⊖ t10) ⊗ 707106781187 e- 12 in
    let t14 = t02 ⊕ t22 in
    let t02 = (t02 ⊖ t22) ⊗ 707106781187 e- 12 in
    let t14 = t14 ⊕ t02 in
    let t04 = t04 ⊕ t14 in
    let t14 = t14 ⊕ t10 in
    let t10 = t10 ⊕ t02 in
    let t16 = t16 ⊕ t04 in
    let t04 = t04 ⊕ t08 in
    let t08 = t08 ⊕ t14 in
    let t14 = t14 ⊕ t28 in
    let t28 = t28 ⊕ t10 in
    let t10 = t10 ⊕ t20 in
    let t20 = t20 ⊕ t02 in
    let t21 = t21 ⊕ t16 in
    let t16 = t16 ⊕ t32 in
    let t32 = t32 ⊕ t04 in
    let t04 = t04 ⊕ t06 in
    let t06 = t06 ⊕ t08 in
    let t08 = t08 ⊕ t18 in
    let t18 = t18 ⊕ t14 in
    let t14 = t14 ⊕ t30 in
    let t30 = t30 ⊕ t28 in
    let t28 = t28 ⊕ t26 in
    let t26 = t26 ⊕ t10 in
    let t10 = t10 ⊕ t12 in
    let t12 = t12 ⊕ t20 in
    let t20 = t20 ⊕ t24 in
    let t24 = t24 ⊕ t02 in
    (48 ≔ neg t33)
    ∷ (49 ≔ neg t21)
    ∷ (47 ≔ neg t21)
    ∷ (50 ≔ neg t17)
    ∷ (46 ≔ neg t17)
    ∷ (51 ≔ neg t16)
    ∷ (45 ≔ neg t16)
    ∷ (52 ≔ neg t01)
    ∷ (44 ≔ neg t01)
    ∷ (53 ≔ neg t32)
    ∷ (43 ≔ neg t32)
    ∷ (54 ≔ neg t29)
    ∷ (42 ≔ neg t29)
    ∷ (55 ≔ neg t04)
    ∷ (41 ≔ neg t04)
    ∷ (56 ≔ neg t03)
    ∷ (40 ≔ neg t03)
    ∷ (57 ≔ neg t06)
    ∷ (39 ≔ neg t06)
    ∷ (58 ≔ neg t25)
    ∷ (38 ≔ neg t25)
    ∷ (59 ≔ neg t08)
    ∷ (37 ≔ neg t08)
    ∷ (60 ≔ neg t11)
    ∷ (36 ≔ neg t11)
    ∷ (61 ≔ neg t18)
    ∷ (35 ≔ neg t18)
    ∷ (62 ≔ neg t09)
    ∷ (34 ≔ neg t09)
    ∷ (63 ≔ neg t14)
    ∷ (33 ≔ neg t14)
    ∷ (32 ≔ neg t05)
    ∷ (0 ≔ t05)
    ∷ (31 ≔ neg t30)
    ∷ (1 ≔ t30)
    ∷ (30 ≔ neg t27)
    ∷ (2 ≔ t27)
    ∷ (29 ≔ neg t28)
    ∷ (3 ≔ t28)
    ∷ (28 ≔ neg t07)
    ∷ (4 ≔ t07)
    ∷ (27 ≔ neg t26)
    ∷ (5 ≔ t26)
    ∷ (26 ≔ neg t23)
    ∷ (6 ≔ t23)
    ∷ (25 ≔ neg t10)
    ∷ (7 ≔ t10)
    ∷ (24 ≔ neg t15)
    ∷ (8 ≔ t15)
    ∷ (23 ≔ neg t12)
    ∷ (9 ≔ t12)
    ∷ (22 ≔ neg t19)
    ∷ (10 ≔ t19)
    ∷ (21 ≔ neg t20)
    ∷ (11 ≔ t20)
    ∷ (20 ≔ neg t13)
    ∷ (12 ≔ t13)
    ∷ (19 ≔ neg t24)
    ∷ (13 ≔ t24)
    ∷ (18 ≔ neg t31)
    ∷ (14 ≔ t31)
    ∷ (17 ≔ neg t02)
    ∷ (15 ≔ t02)
    ∷ (16 ≔ 0 e- 1)
    ∷ []

-- the stores made one after the other
abbrev pub written : List Float → ℕ → List Store → List Float
written d dp [] = d
written d dp ((k ≔ x) ∷ more) = written (set d (dp + k) x) dp more

-- let g = |i: usize| s[i][ss] as f32;
abbrev pub g : List ℤ → ℕ → Float
g samples i = of_int binary32 (get_or samples i (pos 0))

-- `idct36(s, ss, d, dp)`: what d is after it, the samples being s[0][ss], s[1][ss], ..
unfoldable pub idct36 : List ℤ → List Float → ℕ → List Float
idct36 samples d dp = written d dp (lines (g samples))

-- ---- what stands where after stores below dp + 64

abbrev near : Store → Bool
near (k ≔ x) = ltb k 64

-- at dp + i: the last value stored there, or as it was
abbrev pub last : List Store → ℕ → Float → Float
last [] i x = x
last ((k ≔ v) ∷ more) i x = last more i (cond (eqb k i) v x)

module _ (dp : ℕ) where
  pub written_length : (stores : List Store) (d : List Float) → length (written d dp stores) ≡ length d
  written_length [] d = refl
  written_length ((k ≔ x) ∷ more) d = written_length more (set d (dp + k) x) ∙ length-set d (dp + k) x

  pub before : (stores : List Store) (d : List Float) → take dp (written d dp stores) ≡ take dp d
  before [] d = refl
  before ((k ≔ x) ∷ more) d = before more (set d (dp + k) x) ∙ take-set-le dp d (dp + k) x (omega arith)

  pub behind : (stores : List Store) → T (every near stores) → (d : List Float) → drop (dp + 64) (written d dp stores) ≡ drop (dp + 64) d
  behind [] t d = refl
  behind ((k ≔ x) ∷ more) t d =
      let low : k < 64 = ltb→lt k 64 (and_left (ltb k 64) (every near more) t) in
      behind more (and_right (ltb k 64) (every near more) t) (set d (dp + k) x) ∙ drop-set-lt (dp + 64) d (dp + k) x (omega arith)

  stored : (k i : ℕ) (x : Float) (d : List Float) → dp + k < length d → (t : Bool) → eqb k i ≡ t
      → get_or (set d (dp + k) x) (dp + i) nan ≡ cond t x (get_or d (dp + i) nan)
  stored k i x d room true e = rw (← eqb-true k i e) (get_or-set_same d (dp + k) x nan room)
  stored k i x d room false e = get_or-set_other d (dp + k) (dp + i) x nan (λ same. eqb-false k i e (omega arith))

  pub within : (stores : List Store) → T (every near stores) → (d : List Float) → dp + 64 ≤ length d → (i : ℕ)
      → get_or (written d dp stores) (dp + i) nan ≡ last stores i (get_or d (dp + i) nan)
  within [] t d room i = refl
  within ((k ≔ x) ∷ more) t d room i =
      let low : k < 64 = ltb→lt k 64 (and_left (ltb k 64) (every near more) t) in
      within more (and_right (ltb k 64) (every near more) t) (set d (dp + k) x) (omega (arith, length-set d (dp + k) x)) i
      ∙ ap (last more i) (stored k i x d (omega arith) (eqb k i) refl)

-- ---- they are `idct`

-- whatever stood there before
pub same_values : (samples : List ℤ) → length samples ≡ 32 → (was : ℕ → Float) → table 64 (λ i. last (lines (g samples)) i (was i)) ≡ idct samples
unfolding lines table idct slot_of transform woven_of sums_of differences_of halving_factors floats round of_bits
same_values samples e was = rw e refl

pub all_near : (f : ℕ → Float) → T (every near (lines f))
unfolding lines
all_near f = tt
