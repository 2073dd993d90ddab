-- The source's window loops (native32emu, mpeg/audio.rs, `decode_frame`), line by line and in its order, to be held beside the Rust:
-- `source-is-output` (proofs/Source) says that they store `outputOf`, for every ring, ring position and channel. Read it so: `v` is the
-- channel's ring, an assignment to `u`, `d_index` or `v_index` is a field of the next `Sums`, a store is `set`, a shift left or right by 1
-- is * 2 or / 2. At a ring position no difference here is below 0, where ℕ's `-` would not be the Rust's. Assumes nothing.
use Prim.Native.Nat.{ℕ, zero, suc, ◌+◌, ◌-◌, ◌*◌, ◌/◌, ◌%◌, ◌≤◌, ◌<◌}
use Rattle.std.specs.Prelude.{◌≡◌, false, cond, List, ◌++◌, ltb, pos, length, set, replicate, Float}
use Rattle.std.proofs.Math.Path.{refl, ap, ap₂}
use Rattle.std.proofs.Common.{sym, ◌∙◌, lt-ltb, le-ltb, length-set, get_or-append-add}
use native.Mathlib.Omega.{arith}
use Rattle.std.proofs.Math.Decide.{dec_lt}
use Rattle.std.proofs.Math.ListN.{get_or, get_or-append}
use Rattle.std.proofs.lemmas.List.{get_or-replicate}
use Rattle.std.specs.Float.{nan, fin}
use Rattle.std.specs.Float.Ieee.{binary32, add, mul, div, neg, round, to_bits}
use Rattle.ground.specs.Stores.{set_either}
use Rattle.window.specs.Window.{window_list, window_at, standard_d}
use Rattle.window.specs.Output.{Place, nought, divisor, taps}

-- self.d: let mut d = vec![0.0f32; 1024]; d[..512].copy_from_slice(&SYNTHESIS_WINDOW); d[512..].copy_from_slice(&SYNTHESIS_WINDOW);
abbrev d : List Float
d = window_list ++ window_list

pub record Sums : Type 0 where
  pub u : List Float
  d_index : ℕ
  v_index : ℕ

-- self.u = [0.0; 32]; let mut d_index = 512 - (self.v_pos >> 1); let mut v_index = (self.v_pos % 128) >> 1;
abbrev begun : ℕ → Sums
begun v_pos = record { u = replicate 32 (fin false 0 (pos 0)); d_index = 512 - v_pos / 2; v_index = v_pos % 128 / 2 }

-- d_index -= 512 - 32; v_index = (128 - 32 + 1024) - v_index;
abbrev between : Sums → Sums
between s = record { u = s.u; d_index = s.d_index - (512 - 32); v_index = 128 - 32 + 1024 - s.v_index }

module _ (v : List Float) where
  -- for i in 0..n { self.u[i] += self.d[d_index] * self.v[ch][v_index]; d_index += 1; v_index += 1; }
  abbrev products : ℕ → Sums → Sums
  products zero s = s
  products (suc i) s =
      let t = products i s in
      record {
        u = set t.u i (add binary32 (get_or t.u i nan) (mul binary32 (get_or d t.d_index nan) (get_or v t.v_index nan)));
        d_index = t.d_index + 1;
        v_index = t.v_index + 1;
      }

  -- for i in 0..32 { .. } v_index += 128 - 32; d_index += 64 - 32;
  turn : Sums → Sums
  turn s = let t = products 32 s in record { u = t.u; d_index = t.d_index + (64 - 32); v_index = t.v_index + (128 - 32) }

  -- while v_index < 1024 { .. }, n turns at most
  loop : ℕ → Sums → Sums
  loop zero s = s
  loop (suc n) s = cond (ltb s.v_index 1024) (loop n (turn s)) s

  -- the two loops, each of which ends by its test, after eight turns (`eight-turns`)
  pub summed : ℕ → Sums
  summed v_pos = loop 1024 (between (loop 1024 (begun v_pos)))

-- for j in 0..n { self.interleaved[((out_pos + j) << 1) + ch] = self.u[j] / -1_090_519_040.0f32; }
abbrev pub divided : List Float → List Float → ℕ → ℕ → ℕ → List Float
divided u interleaved out_pos ch zero = interleaved
divided u interleaved out_pos ch (suc j) =
    set (divided u interleaved out_pos ch j) ((out_pos + j) * 2 + ch) (div binary32 (get_or u j nan) (neg (round binary32 false 1090519040 1)))

-- all of these lines, for one channel: what `interleaved` is after them
unfoldable pub sounded : List Float → ℕ → List Float → ℕ → ℕ → List Float
sounded v v_pos interleaved out_pos ch = divided (summed v v_pos).u interleaved out_pos ch 32

-- ---- the loops, turn by turn

-- u is f, and the indices are row and start
pub record Stands (f : ℕ → Float) (row start : ℕ) (s : Sums) : Type 0 where
  full : length s.u ≡ 32
  at_d : s.d_index ≡ row
  at_v : s.v_index ≡ start
  pub holds : (j : ℕ) → j < 32 → get_or s.u j nan ≡ f j

module _ (v : List Float) where
  abbrev product : ℕ → ℕ → ℕ → Float
  product row start j = mul binary32 (get_or d (row + j) nan) (get_or v (start + j) nan)

  -- f with one product more
  abbrev more : (ℕ → Float) → ℕ → ℕ → ℕ → Float
  more f row start j = add binary32 (f j) (product row start j)

  -- of which the first n are added
  abbrev mixed : (ℕ → Float) → ℕ → ℕ → ℕ → ℕ → Float
  mixed f row start n j = cond (ltb j n) (more f row start j) (f j)

  same_test : (j n : ℕ) → (j ≡ n → ⊥) → ltb j n ≡ ltb j (suc n)
  same_test j n e = go (dec_lt j n)
    where
      go : Dec (j < n) → ltb j n ≡ ltb j (suc n)
      go (yes l) = lt-ltb j n l ∙ sym (lt-ltb j (suc n) (omega arith))
      go (no l) = le-ltb j n (omega arith) ∙ sym (le-ltb j (suc n) (omega arith))

  module _ {f : ℕ → Float} {row start : ℕ} {s : Sums} (h : Stands f row start s) where
    partly : (n : ℕ) → n ≤ 32 → Stands (mixed f row start n) (row + n) (start + n) (products v n s)
    partly zero l =
        record { full = h.full; at_d = omega (arith, h.at_d); at_v = omega (arith, h.at_v); holds = λ j b. rw (le-ltb j 0 (omega arith)) (h.holds j b) }
    partly (suc n) l =
        let t = partly n (omega arith) in
        record {
          full = length-set (products v n s).u n _ ∙ t.full;
          at_d = omega (arith, t.at_d);
          at_v = omega (arith, t.at_v);
          holds = λ j b.
              set_either nan (products v n s).u n j _ _ (omega (arith, t.full))
              (λ e. rw (e, lt-ltb n (suc n) (omega arith), t.at_d, t.at_v)
              (ap (λ (x : Float). add binary32 x (product row start n)) (t.holds n l ∙ rw (le-ltb n n (omega arith)))))
              (λ e. t.holds j b ∙ ap (λ z. cond z (more f row start j) (f j)) (same_test j n e));
        }

    turned : Stands (more f row start) (row + 64) (start + 128) (turn v s)
    unfolding turn
    turned =
        let t = partly 32 (omega arith) in
        record {
          full = t.full;
          at_d = omega (arith, t.at_d);
          at_v = omega (arith, t.at_v);
          holds = λ j b. t.holds j b ∙ rw (lt-ltb j 32 b);
        }

  module _ (f : ℕ → Float) (row start : ℕ) (low : start < 128) where
    -- after k turns
    abbrev added : ℕ → ℕ → Float
    added zero = f
    added (suc k) = more (added k) (row + 64 * k) (start + 128 * k)

    abbrev After : ℕ → Sums → Type 0
    After k s = Stands (added k) (row + 64 * k) (start + 128 * k) s

    one_more : (k : ℕ) (s : Sums) → After k s → After (suc k) (turn v s)
    one_more k s h =
        let t = turned h in
        let e : row + 64 * k + 64 ≡ row + 64 * suc k = omega arith in
        let g : start + 128 * k + 128 ≡ start + 128 * suc k = omega arith in
        rw (e, g) at t

    -- a loop turns eight times, if it may turn so often
    eight_turns : (n k : ℕ) (s : Sums) → k ≤ 8 → 8 ≤ n + k → After k s → After 8 (loop v n s)
    unfolding loop
    eight_turns zero k s l m h = let e : k ≡ 8 = omega arith in rw e at h
    eight_turns (suc n) k s l m h = go (λ b. eight_turns n (suc k) (turn v s) b (omega arith) (one_more k s h)) (dec_lt k 8)
      where
        go : (k < 8 → After 8 (loop v n (turn v s))) → Dec (k < 8) → After 8 (cond (ltb s.v_index 1024) (loop v n (turn v s)) s)
        go again (yes b) = rw (lt-ltb s.v_index 1024 (omega (arith, h.at_v))) (again b)
        go again (no b) =
            let e : k ≡ 8 = omega arith in
            rw (le-ltb s.v_index 1024 (omega (arith, h.at_v))) (rw e at h)

-- ---- their sums are `taps`

entries : length window_list ≡ 512
unfolding window_list standard_d
entries = refl

twice_at : (i : ℕ) → i < 1024 → get_or d i nan ≡ window_at (i % 512)
unfolding window_at
twice_at i h = go (dec_lt i 512)
  where
    go : Dec (i < 512) → get_or d i nan ≡ get_or window_list (i % 512) nan
    go (yes l) =
        let e : i % 512 ≡ i = omega arith in
        rw e (get_or-append window_list window_list nan i (omega (arith, entries)))
    go (no l) =
        let e : i ≡ length window_list + i % 512 = omega (arith, entries) in
        ap (λ (k : ℕ). get_or d k nan) e ∙ get_or-append-add window_list window_list (i % 512) nan

module _ (v : List Float) (f : ℕ → Float) (row start : ℕ) (low : start < 128) (j : ℕ) (inside : row + j < 576) (x : Float) (first : f j ≡ x) where
  pub added_is_taps : (k : ℕ) → k ≤ 8 → added v f row start low k j ≡ taps v (row + j) (start + j) k x
  unfolding taps
  added_is_taps zero l = first
  added_is_taps (suc k) l =
      let w : row + 64 * k + j ≡ row + j + 64 * k = omega arith in
      let r : start + 128 * k + j ≡ start + j + 128 * k = omega arith in
      ap₂ (add binary32) (added_is_taps k (omega arith))
      (ap₂ (mul binary32) (ap (λ (i : ℕ). get_or d i nan) w ∙ twice_at (row + j + 64 * k) (omega arith)) (ap (λ (i : ℕ). get_or v i nan) r))

-- ---- what the loops leave

module _ (v : List Float) {v_pos : ℕ} (place : Place v_pos) where
  pub low : v_pos % 128 / 2 < 128
  low = omega arith

  pub low' : 96 - v_pos % 128 / 2 < 128
  low' = omega arith

  abbrev pub first : ℕ → Float
  first = added v (λ _. nought) (512 - v_pos / 2) (v_pos % 128 / 2) low 8

  abbrev pub second : ℕ → Float
  second = added v first (544 - v_pos / 2) (96 - v_pos % 128 / 2) low' 8

  first_loop : Stands first (512 - v_pos / 2 + 64 * 8) (v_pos % 128 / 2 + 128 * 8) (loop v 1024 (begun v_pos))
  first_loop =
      eight_turns v (λ _. nought) (512 - v_pos / 2) (v_pos % 128 / 2) low 1024 0 (begun v_pos) (omega arith) (omega arith)
      (record { full = refl; at_d = omega arith; at_v = omega arith; holds = λ j b. get_or-replicate 32 j nought nan b })

  pub second_loop : Stands second (544 - v_pos / 2 + 64 * 8) (96 - v_pos % 128 / 2 + 128 * 8) (summed v v_pos)
  unfolding summed
  second_loop =
      let h = first_loop in
      eight_turns v first (544 - v_pos / 2) (96 - v_pos % 128 / 2) low' 1024 0 (between (loop v 1024 (begun v_pos))) (omega arith) (omega arith)
      (record { full = h.full; at_d = omega (arith, h.at_d); at_v = omega (arith, h.at_v); holds = h.holds })

-- the divisor's bits, as the Rust prints them
pub divisor_bits : to_bits binary32 divisor ≡ 0xce820000
unfolding to_bits
divisor_bits = refl
