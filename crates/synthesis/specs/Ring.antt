-- Laws of the ring position and of one channel's ring. From 01, "From samples to sound". Assumes nothing.
use Rattle.std.specs.Prelude.{◌≡◌, ℤ, length, take, Float}
use Rattle.std.proofs.Math.Path.{refl, ap, ap₂}
use Rattle.std.proofs.Common.{sym, ◌∙◌, add-zero, add-suc, arith, length-append, length-take-le}
use mathlib.Core.List.{List, ◌++◌}
use Prim.Native.Nat.{ℕ, zero, suc, ◌+◌, ◌-◌, ◌*◌, ◌%◌, ◌≤◌, ◌<◌}
use Rattle.std.proofs.Math.ListN.{get_or, drop, length-drop, get_or-append}
use Rattle.std.proofs.Math.Seq.{get_or-take, get_or-drop, get_or-append-add}
use Rattle.std.specs.Float.Ieee.{nan}
use Rattle.transform.specs.Transform.{idct, idct_length}
use Rattle.window.specs.Output.{Place, output_of}
use Rattle.synthesis.specs.Slots.{place_before, position_after, put, slot_ring, ring_after, outputs_at}

-- ---- the position

pub placed_before : {p : ℕ} → Place p → Place (place_before p)
placed_before h = omega arith

pub place_after : {p : ℕ} → Place p → (n : ℕ) → Place (position_after p n)
unfolding position_after
place_after h zero = h
place_after h (suc n) = placed_before (place_after h n)

-- n + k slots are n slots and k more
pub position_add : (p n k : ℕ) → position_after p (n + k) ≡ position_after (position_after p n) k
unfolding position_after
position_add p n zero = ap (position_after p) (add-zero n)
position_add p n (suc k) = ap (position_after p) (add-suc n k) ∙ ap place_before (position_add p n k)

-- n slots of a frame take the position back by 64 n
back_by : {p : ℕ} → Place p → (n : ℕ) → n ≤ 36 → position_after p n ≡ (p + 4096 - 64 * n) % 1024
unfolding position_after
back_by h zero l = omega arith
back_by {p} h (suc n) l =
    let e : position_after p n ≡ (p + 4096 - 64 * n) % 1024 = back_by h n (omega arith) in
    rw e (omega arith)

-- a frame's 36 slots take it back by 2,304, which is 256 on the ring
pub position_frame : {p : ℕ} → Place p → position_after p 36 ≡ (p + 768) % 1024
position_frame h = back_by h 36 (omega arith) ∙ omega arith

-- and four frames take it round
position_two : {p : ℕ} → Place p → position_after (position_after p 36) 36 ≡ (p + 512) % 1024
position_two {p} h =
    let two : ((p + 768) % 1024 + 768) % 1024 ≡ (p + 512) % 1024 = omega arith in
    position_frame (place_after h 36) ∙ ap (λ (q : ℕ). (q + 768) % 1024) (position_frame h) ∙ two

pub position_four : {p : ℕ} → Place p → position_after (position_after (position_after (position_after p 36) 36) 36) 36 ≡ p
position_four {p} h =
    let round : ((p + 512) % 1024 + 512) % 1024 ≡ p = omega arith in
    position_two (place_after (place_after h 36) 36) ∙ ap (λ (q : ℕ). (q + 512) % 1024) (position_two h) ∙ round

-- ---- a ring with 64 values put in

module _ (ring : List Float) (p : ℕ) (values : List Float) (room : p + 64 ≤ length ring) (full : length values ≡ 64) where
  front : length (take p ring) ≡ p
  front = length-take-le p ring (omega arith)

  pub put_length : length (put ring p values) ≡ length ring
  unfolding put
  put_length = simp (length-append, length-drop, front, full) (omega arith)

  pub put_low : (i : ℕ) → i < p → get_or (put ring p values) i nan ≡ get_or ring i nan
  unfolding put
  put_low i h = get_or-append (take p ring) (values ++ drop 64 (drop p ring)) nan i (omega (arith, front)) ∙ get_or-take p ring i nan h

  pub put_in : (i : ℕ) → i < 64 → get_or (put ring p values) (p + i) nan ≡ get_or values i nan
  unfolding put
  put_in i h =
      ap (λ (k : ℕ). get_or (put ring p values) (k + i) nan) (sym front)
      ∙ get_or-append-add (take p ring) (values ++ drop 64 (drop p ring)) i nan
      ∙ get_or-append values (drop 64 (drop p ring)) nan i (omega (arith, full))

  pub put_high : (i : ℕ) → get_or (put ring p values) (p + (64 + i)) nan ≡ get_or ring (p + (64 + i)) nan
  unfolding put
  put_high i =
      ap (λ (k : ℕ). get_or (put ring p values) (k + (64 + i)) nan) (sym front)
      ∙ get_or-append-add (take p ring) (values ++ drop 64 (drop p ring)) (64 + i) nan
      ∙ ap (λ (k : ℕ). get_or (values ++ drop 64 (drop p ring)) (k + i) nan) (sym full)
      ∙ get_or-append-add values (drop 64 (drop p ring)) i nan
      ∙ get_or-drop 64 (drop p ring) i nan
      ∙ get_or-drop p ring (64 + i) nan

-- ---- runs of slots

pub ring_length : (f : ℕ → List ℤ) {p : ℕ} → Place p → (ring : List Float) → length ring ≡ 1024 → (n : ℕ) → length (ring_after f p ring n) ≡ 1024
unfolding ring_after slot_ring
ring_length f h ring l zero = l
ring_length f {p} h ring l (suc n) =
    let e : length (ring_after f p ring n) ≡ 1024 = ring_length f h ring l n in
    let q : Place (position_after p (suc n)) = place_after h (suc n) in
    put_length (ring_after f p ring n) (position_after p (suc n)) (idct (f n)) (omega arith) (idct_length (f n)) ∙ e

-- two runs have the same samples in their first n slots
abbrev pub SameSlots : ℕ → (ℕ → List ℤ) → (ℕ → List ℤ) → Type 0
SameSlots n f g = (k : ℕ) → k < n → f k ≡ g k

module _ (f g : ℕ → List ℤ) (p : ℕ) (ring : List Float) where
  pub ring_alike : (n : ℕ) → SameSlots n f g → ring_after f p ring n ≡ ring_after g p ring n
  unfolding ring_after
  ring_alike zero e = refl
  ring_alike (suc n) e = rw (e n (omega arith), ring_alike n (λ k l. e k (omega arith)))

  pub outputs_alike : (n : ℕ) → SameSlots (suc n) f g → outputs_at f p ring n ≡ outputs_at g p ring n
  unfolding outputs_at
  outputs_alike n e = ap (λ (m : List Float). output_of m (position_after p (suc n))) (ring_alike (suc n) e)

-- the samples from slot n on
abbrev pub slots_from : ℕ → (ℕ → List ℤ) → ℕ → List ℤ
slots_from n f i = f (n + i)

module _ (f : ℕ → List ℤ) (p : ℕ) (ring : List Float) (n : ℕ) where
  pub ring_add : (k : ℕ) → ring_after f p ring (n + k) ≡ ring_after (slots_from n f) (position_after p n) (ring_after f p ring n) k
  unfolding ring_after position_after
  ring_add zero = ap (ring_after f p ring) (add-zero n)
  ring_add (suc k) =
      ap (ring_after f p ring) (add-suc n k)
      ∙ ap₂ (λ (m : List Float) (q : ℕ). slot_ring m (place_before q) (f (n + k))) (ring_add k) (position_add p n k)

  pub outputs_add : (k : ℕ) → outputs_at f p ring (n + k) ≡ outputs_at (slots_from n f) (position_after p n) (ring_after f p ring n) k
  unfolding outputs_at
  outputs_add k =
      ap₂ output_of (ap (ring_after f p ring) (sym (add-suc n k)) ∙ ring_add (suc k))
      (ap (position_after p) (sym (add-suc n k)) ∙ position_add p n (suc k))
