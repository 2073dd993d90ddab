-- What a ring held before sixteen slots has no part in what it holds after them, nor in the outputs from the sixteenth slot on.
-- From 01's third demand, as far as the synthesis goes. Assumes nothing.
use Rattle.std.specs.Prelude.{◌≡◌, ℤ, length, get_or, Float}
use Rattle.std.proofs.Common.{sym, ◌∙◌, subst, ext_get_or}
use Rattle.std.proofs.Math.Path.{ap}
use mathlib.Core.List.{List}
use Prim.Native.Nat.{ℕ, zero, suc, ◌+◌, ◌-◌, ◌*◌, ◌/◌, ◌%◌, ◌≤◌, ◌<◌}
use native.Mathlib.Omega.{arith}
use Rattle.std.proofs.Math.Decide.{dec_lt}
use Rattle.std.specs.Float.{nan}
use Rattle.transform.specs.Transform.{idct, idct_length}
use Rattle.window.specs.Output.{Place, output_of}
use Rattle.synthesis.specs.Slots.{memory_length, place_before, position_after, put, slot_ring, ring_after, outputs_at, ring_of, memory_after, output_after}
use Rattle.synthesis.specs.Ring.{placed_before, place_after, put_low, put_in, put_high, ring_length, SameSlots}
use Rattle.synthesis.specs.Memory.{ring_of_length, memory_ring}
use Rattle.synthesis.specs.Output.{output_at}

-- ---- how far a place lies after p, around the ring: the last slot's own places are below 64

abbrev pub age : ℕ → ℕ → ℕ
age p i = (i + 1024 - p) % 1024

age_next : (q i : ℕ) → q < 961 → i < 1024 → 64 ≤ age q i → age q i ≡ age (q + 64) i + 64
age_next q i hq hi far = go (dec_lt i q) (dec_lt i (q + 64))
  where
    go : Dec (i < q) → Dec (i < q + 64) → age q i ≡ age (q + 64) i + 64
    go (yes x) _ = omega arith
    go (no x) (yes y) = omega arith
    go (no x) (no y) = omega arith

age_zero : (i : ℕ) → i < 1024 → 64 ≤ age 960 i → age 960 i ≡ age 0 i + 64
age_zero i hi far = omega arith

-- what lies outside the new slot was 64 nearer before it
age_back : {p i : ℕ} → Place p → i < 1024 → 64 ≤ age (place_before p) i → age (place_before p) i ≡ age p i + 64
age_back {p} {i} h hi far = go (dec_lt 0 p)
  where
    up : 0 < p → p ≡ place_before p + 64
    up k = omega arith

    go : Dec (0 < p) → age (place_before p) i ≡ age p i + 64
    go (no z) =
        let e : p ≡ 0 = omega arith in
        subst (λ (k : ℕ). age (place_before k) i ≡ age k i + 64) (sym e)
        (age_zero i hi (subst (λ (k : ℕ). 64 ≤ age (place_before k) i) e far))
    go (yes z) = age_next (place_before p) i (omega arith) hi far ∙ ap (λ (k : ℕ). age k i + 64) (sym (up z))

age_in : {q i : ℕ} → q < 961 → i < 1024 → age q i < 64 → i ≡ q + age q i
age_in {q} {i} hq hi near = go (dec_lt i q)
  where
    go : Dec (i < q) → i ≡ q + age q i
    go (yes x) = omega arith
    go (no x) = omega arith

-- ---- one place of a ring after a slot, by its age

module _ {q : ℕ} (h : Place q) (ring values : List Float) (l : length ring ≡ 1024) (full : length values ≡ 64) where
  room : q + 64 ≤ length ring
  room = omega arith

  put_new : (i : ℕ) → i < 1024 → age q i < 64 → get_or (put ring q values) i nan ≡ get_or values (age q i) nan
  put_new i hi near =
      ap (λ (k : ℕ). get_or (put ring q values) k nan) (age_in (omega arith) hi near)
      ∙ put_in ring q values room full (age q i) near

  put_old : (i : ℕ) → i < 1024 → 64 ≤ age q i → get_or (put ring q values) i nan ≡ get_or ring i nan
  put_old i hi far = go (dec_lt i q)
    where
      up : ¬ (i < q) → i ≡ q + (64 + (i - (q + 64)))
      up x = omega arith

      go : Dec (i < q) → get_or (put ring q values) i nan ≡ get_or ring i nan
      go (yes x) = put_low ring q values room full i x
      go (no x) =
          subst (λ (k : ℕ). get_or (put ring q values) k nan ≡ get_or ring k nan) (sym (up x))
          (put_high ring q values room full (i - (q + 64)))

-- ---- two rings that agree on what the last n slots wrote, p being the last one's place

unfoldable pub AgreeOnLast : ℕ → ℕ → List Float → List Float → Type 0
AgreeOnLast n p a b = (i : ℕ) → i < 1024 → age p i < 64 * n → get_or a i nan ≡ get_or b i nan

agree_step :
    {p : ℕ} → Place p → (n : ℕ) (a b values : List Float) → length a ≡ 1024 → length b ≡ 1024 → length values ≡ 64
    → AgreeOnLast n p a b → AgreeOnLast (suc n) (place_before p) (put a (place_before p) values) (put b (place_before p) values)
unfolding AgreeOnLast
agree_step {p} h n a b values la lb full s i hi near = go (dec_lt (age (place_before p) i) 64)
  where
    q : Place (place_before p)
    q = placed_before h

    older : ¬ (age (place_before p) i < 64) → age p i < 64 * n
    older x =
        let e : age (place_before p) i ≡ age p i + 64 = age_back h hi (omega arith) in
        omega arith

    go : Dec (age (place_before p) i < 64) → get_or (put a (place_before p) values) i nan ≡ get_or (put b (place_before p) values) i nan
    go (yes x) = put_new q a values la full i hi x ∙ sym (put_new q b values lb full i hi x)
    go (no x) =
        let far : 64 ≤ age (place_before p) i = omega arith in
        put_old q a values la full i hi far ∙ s i hi (older x) ∙ sym (put_old q b values lb full i hi far)

agree_all : (n p : ℕ) (a b : List Float) → 16 ≤ n → length a ≡ 1024 → length b ≡ 1024 → AgreeOnLast n p a b → a ≡ b
unfolding AgreeOnLast
agree_all n p a b big la lb s = ext_get_or nan a b (la ∙ sym lb) (λ i h. s i (omega arith) (omega arith))

-- ---- two runs from one position

module _ (f g : ℕ → List ℤ) {p : ℕ} (h : Place p) (a b : List Float) (la : length a ≡ 1024) (lb : length b ≡ 1024) where
  rings_agree : (n : ℕ) → SameSlots n f g → AgreeOnLast n (position_after p n) (ring_after f p a n) (ring_after g p b n)
  unfolding ring_after position_after slot_ring AgreeOnLast
  rings_agree zero e = λ i hi near. absurd (nothing i near)
    where
      nothing : (i : ℕ) → age p i < 64 * 0 → ⊥
      nothing i l = omega arith
  rings_agree (suc n) e =
      rw (← e n (omega arith))
      (agree_step (place_after h n) n (ring_after f p a n) (ring_after g p b n) (idct (f n)) (ring_length f h a la n) (ring_length g h b lb n)
      (idct_length (f n)) (rings_agree n (λ k l. e k (omega arith))))

  -- after sixteen slots of equal samples the rings are equal, whatever the two held before
  pub washed : (n : ℕ) → 16 ≤ n → SameSlots n f g → ring_after f p a n ≡ ring_after g p b n
  washed n big e =
      agree_all n (position_after p n) (ring_after f p a n) (ring_after g p b n) big (ring_length f h a la n) (ring_length g h b lb n) (rings_agree n e)

  -- so from slot 15 on, counted from 0, the outputs are equal
  pub outputs_washed : (n : ℕ) → 15 ≤ n → SameSlots (suc n) f g → outputs_at f p a n ≡ outputs_at g p b n
  unfolding outputs_at
  outputs_washed n big e = ap (λ (m : List Float). output_of m (position_after p (suc n))) (washed (suc n) (omega arith) e)

-- ---- both channels

module _ (f g : ℕ → ℕ → List ℤ) {p : ℕ} (h : Place p) (a b : List Float) (la : memory_length ≤ length a) (lb : memory_length ≤ length b) (n : ℕ)
    (e : (channel : ℕ) → channel < 2 → SameSlots n (f channel) (g channel)) where
  pub ring_washed : (channel : ℕ) → channel < 2 → 16 ≤ n → ring_of channel (memory_after f p a n) ≡ ring_of channel (memory_after g p b n)
  ring_washed channel two big =
      memory_ring f h a la channel two n
      ∙ washed (f channel) (g channel) h (ring_of channel a) (ring_of channel b) (ring_of_length channel two a la) (ring_of_length channel two b lb)
      n big (e channel two)
      ∙ sym (memory_ring g h b lb channel two n)

  -- the outputs of n slots are equal from place 960 on, which is the 481st of each channel
  pub output_washed : (o u : List Float) (at to : ℕ) → at + 64 * n ≤ length o → to + 64 * n ≤ length u → (i : ℕ) → 960 ≤ i → i < 64 * n
      → get_or (output_after f p a o at n) (at + i) nan ≡ get_or (output_after g p b u to n) (to + i) nan
  output_washed o u at to ro ru i late hi =
      let channel = i % 2 in
      let two : channel < 2 = omega arith in
      output_at f p a o at n ro i hi
      ∙ ap (λ (out : ℕ → Float). out (i % 64 / 2))
      (outputs_washed (f channel) (g channel) h (ring_of channel a) (ring_of channel b) (ring_of_length channel two a la) (ring_of_length channel two b lb)
      (i / 64) (omega arith) (λ k l. e channel two k (omega arith)))
      ∙ sym (output_at g p b u to n ru i hi)

-- and where two memories have the same rings already, all of them are
module _ (f : ℕ → ℕ → List ℤ) (p : ℕ) (a b : List Float) (rings : (channel : ℕ) → channel < 2 → ring_of channel a ≡ ring_of channel b) (n : ℕ) where
  pub output_by_rings : (o u : List Float) (at to : ℕ) → at + 64 * n ≤ length o → to + 64 * n ≤ length u → (i : ℕ) → i < 64 * n
      → get_or (output_after f p a o at n) (at + i) nan ≡ get_or (output_after f p b u to n) (to + i) nan
  output_by_rings o u at to ro ru i hi =
      output_at f p a o at n ro i hi
      ∙ ap (λ (ring : List Float). outputs_at (f (i % 2)) p ring (i / 64) (i % 64 / 2)) (rings (i % 2) (omega arith))
      ∙ sym (output_at f p b u to n ru i hi)
