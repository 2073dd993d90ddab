-- How large a sample can be, whatever the code and the scale factor: at most 104,848, so that no step leaves an `i32`
-- and every sample is an `f32` exactly (proofs/Bounds). The largest comes from the third digit 12 of nine levels at scale factor 0.
-- Assumes nothing.
use Rattle.std.specs.Prelude.{ℕ, ◌+◌, ◌-◌, ◌*◌, ◌/◌, ◌^◌, ◌≤◌, ◌<◌, max, ◌≡◌, Bool, cond, ◌&&◌, ◌||◌, T, eqb, leb, pos, nat_abs, ◌-ℤ◌}
use Rattle.std.proofs.Common.{mul-le-mul_right, le_trans, arith, eqb→eq, leb→le}
use Rattle.ground.specs.Upto.{below, and_left, and_right, or_left}
use Rattle.ground.specs.Magnitude.{abs_mul, abs_sub}
use Rattle.tables.specs.Standard.{classes, quantisation_of, levels_of, code_bits_of, grouped_of}
use Rattle.samples.specs.Sample.{scale_of, adj_of, centred_by, factor_of}

-- the largest code or digit that a quantiser's fields can hold
unfoldable pub most_of : ℕ → ℕ
most_of q = cond (grouped_of q) ((2 ^ code_bits_of q - 1) / levels_of q / levels_of q) (levels_of q)

-- what is known of a quantiser: its digits and codes, and how far they stand from the middle
pub record Range (q : ℕ) : Type 0 where
  pub digit : levels_of q ≤ most_of q + 1
  pub most : most_of q ≤ 65535
  pub adj : adj_of (levels_of q) ≤ 65535
  pub scale : scale_of (levels_of q) ≤ 65535
  pub span : max (adj_of (levels_of q)) (most_of q - adj_of (levels_of q)) * scale_of (levels_of q) ≤ 52424

abbrev span_of : ℕ → ℕ
span_of q = max (adj_of (levels_of q)) (most_of q - adj_of (levels_of q)) * scale_of (levels_of q)

abbrev limits : ℕ → Bool
limits q =
    leb (levels_of q) (most_of q + 1)
    && (leb (most_of q) 65535
    && (leb (adj_of (levels_of q)) 65535
    && (leb (scale_of (levels_of q)) 65535
    && leb (span_of q) 52424)))

limit_test : ℕ → Bool
limit_test q = limits q || eqb q 0

-- the first part of a conjunction, and the others
first : (m n : ℕ) (b : Bool) → T (leb m n && b) → m ≤ n
first m n b t = leb→le m n (and_left (leb m n) b t)

others : (m n : ℕ) (b : Bool) → T (leb m n && b) → T b
others m n b t = and_right (leb m n) b t

pub quantiser_range : (q : ℕ) → 0 < q → q < 18 → Range q
unfolding limit_test most_of scale_of adj_of levels_of code_bits_of grouped_of quantisation_of classes
quantiser_range q p h =
    let a = or_left (limits q) (eqb q 0) (below limit_test 18 tt q h) (λ k. let e : q ≡ 0 = eqb→eq q 0 k in omega arith) in
    let b = others (levels_of q) (most_of q + 1) _ a in
    let c = others (most_of q) 65535 _ b in
    let d = others (adj_of (levels_of q)) 65535 _ c in
    record {
      digit = first (levels_of q) (most_of q + 1) _ a;
      most = first (most_of q) 65535 _ b;
      adj = first (adj_of (levels_of q)) 65535 _ c;
      scale = first (scale_of (levels_of q)) 65535 _ d;
      span = leb→le _ _ (others (scale_of (levels_of q)) 65535 _ d);
    }

-- (adj - code) · scale
pub centred_small : (q code : ℕ) → Range q → code ≤ most_of q → nat_abs (centred_by (adj_of (levels_of q)) (scale_of (levels_of q)) code) ≤ 52424
centred_small q code r h =
    let a = adj_of (levels_of q) in
    let m = max a (most_of q - a) in
    let d : nat_abs (pos a -ℤ pos code) ≤ m = abs_sub a code m (omega arith) (omega arith) in
    rw abs_mul (le_trans (mul-le-mul_right (scale_of (levels_of q)) d) r.span)

pub factor_small : (index : ℕ) → index < 64 → factor_of index ≤ 33554432
unfolding factor_of
factor_small index h = leb→le _ _ (below (λ i. leb (factor_of i) 33554432) 64 tt index h)
