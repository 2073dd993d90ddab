-- From opening no ring value and no sample of an accepted frame is a NaN or an infinity, so that equal samples are equal bit for bit:
-- a NaN, which many bit patterns stand for, cannot arise. For demand 3's "equal bit for bit", and demand 2's. Assumes nothing.
use Rattle.std.specs.Prelude.{ℕ, zero, suc, ◌+◌, ◌-◌, ◌*◌, ◌/◌, ◌%◌, ◌^◌, ◌≤◌, ◌<◌, ◌≡◌, refl, not, ◌⊎◌, List, ◌∷◌, ◌++◌, T, ℤ, pos, Float, length, get_or, drop, replicate}
use Rattle.std.proofs.Common.{sym, ap, ◌∙◌, subst, inl, inr, zero-add, arith, lit≤, length-drop, length-take-le, get_or-take, get_or-drop}
use Rattle.std.specs.Float.{nan, inf, fin, binary32}
use Rattle.std.specs.Float.Ieee.{fits, is_nan, of_bits, to_bits}
use Rattle.std.specs.Float.Ieee.Bits.{of_bits-to_bits, to_bits-of_bits, to_bits-lt}
use Rattle.std.specs.Float.Ieee.Fits.{div-fits}
use Rattle.ground.specs.Table.{table}
use Rattle.buffer.specs.declared.Reader.{Reader}
use Rattle.header.specs.declared.Format.{Format}
use Rattle.codes.specs.Values.{Bounded, frame_bounded}
use Rattle.window.specs.Output.{nought, output_of}
use Rattle.synthesis.specs.Slots.{ring_of, slot_samples, outputs_at, memory_length}
use Rattle.synthesis.specs.Output.{output_at}
use Rattle.finite.specs.Within.{Within}
use Rattle.finite.specs.Halving.{Quiet}
use Rattle.finite.specs.Each.{Each, InBothRings, each_cleared}
use Rattle.finite.specs.Run.{Calm, calm_after}
use Rattle.finite.proofs.Run.{output_within}
use Rattle.frame.specs.Frame.{codes_in, granules_at, slots_of, frame_memory}
use Rattle.frame.specs.FrameLaws.{granule_always}
use Rattle.audio.specs.Calls.{framed_memory, blank}
use Rattle.audio.specs.CallsLaws.{Ready}
use Rattle.state.specs.declared.Audio.{Audio}
use Rattle.past.specs.Pasts.{Past}
use Rattle.past.specs.Calls.{Call, new_output, sample, frame_state, Accepts, granules_in, accepted_leaves}
use Rattle.past.specs.Ring.{since_opening, relent_rings, ring_in_place, memory_kept_long}

-- ---- a frame's samples are small, whatever the stream

slot_quiet : (xs : List ℤ) (ch n : ℕ) → ch < 2 → n < 3 → Bounded xs → Quiet (slot_samples xs ch n)
unfolding slot_samples
slot_quiet xs ch n c l b =
    let from = 64 * n + 32 * ch in
    record {
      many = length-take-le 32 (drop from xs) (omega (arith, length-drop from xs, b.many));
      small = λ i h. rw (get_or-take 32 (drop from xs) i (pos 0) h, get_or-drop from xs i (pos 0)) (b.each (from + i));
    }

frame_quiet : (s : List ℕ) (r : Reader) (f : Format) (ch : ℕ) → ch < 2 → (n : ℕ) → n < 36 → Quiet (slots_of (granules_at s r f).value ch n)
unfolding codes_in
frame_quiet s r f ch c n l =
    slot_quiet _ ch (n % 3) c (omega arith) (granule_always Bounded s r f (frame_bounded _ _ _ _) n l)

-- ---- the memory, through any calls since opening

-- n values of +0.0, over a variable, so that 2,048 of them are never written out
zeros : (n : ℕ) → table n (λ _. nought) ≡ replicate n nought
unfolding table
zeros zero = refl
zeros (suc n) = ap (λ (l : List Float). nought ∷ l) (zeros n)

-- what holds of +0.0 holds of each value of a memory just opened
pub opened_each : (P : Float → Type 0) → P nought → (more : List Float) → InBothRings P (blank ++ more)
unfolding blank
opened_each P z more = subst (λ (l : List Float). InBothRings P (l ++ more)) (sym (zeros memory_length)) (each_cleared P z memory_length more (omega arith))

framed_calm : (s : List ℕ) (b : Audio) (m : List Float) → Ready s b → memory_length ≤ length m → Calm m → Calm (framed_memory s b m)
unfolding framed_memory frame_memory
framed_calm s b m ready long calm =
    calm_after (slots_of (granules_at s b.reader b.format).value) ready.place m long calm 36 (frame_quiet s b.reader b.format)

calm_since : {a : Audio} {m : List Float} → Past a m → Calm m
calm_since =
    since_opening (λ _ _ m. Calm m) (λ m _. opened_each (Within (2 ^ 36)) (lit≤ tt) (drop memory_length m)) framed_calm
    (λ _ _ m more long calm channel two. subst (Each (Within (2 ^ 36))) (sym (relent_rings m long channel two more)) (calm channel two))

-- every ring value is finite, and at most 2 ^ 36
pub memory_finite : {a : Audio} {m : List Float} → Past a m → (i : ℕ) → i < memory_length → Within (2 ^ 36) (get_or m i nan)
unfolding Each ring_of
memory_finite {a} {m} p i l =
    let channel = i / 1024 in
    let at = i % 1024 in
    let is : 1024 * channel + at ≡ i = omega arith in
    rw (get_or-take 1024 (drop (1024 * channel) m) at nan (omega arith), get_or-drop (1024 * channel) m at nan, is)
    at (calm_since p channel (omega arith) at (omega arith))

-- every sample of an accepted frame is finite, and at most 8,259,553
pub samples_finite : {c : Call} → Past c.state c.memory → Accepts c
    → (channel k : ℕ) → channel < 2 → 1 ≤ k → k ≤ 1152 → Within 8259553 (sample (new_output c) channel k)
samples_finite {c} p ok channel k two first last =
    let d = accepted_leaves c ok in
    rw (d.output, ← zero-add (2 * (k - 1) + channel))
    (output_within (slots_of (granules_in c)) (ring_in_place p) c.memory (memory_kept_long p) (calm_since p) 36
    (frame_quiet c.stream (frame_state c).reader (frame_state c).format) c.output 0 d.goes.output_long (2 * (k - 1) + channel) (omega arith))

-- ---- bit for bit

-- and it is a value of the format, whatever the memory held: a quotient
pub samples_fit : {c : Call} → Accepts c → (channel k : ℕ) → channel < 2 → 1 ≤ k → k ≤ 1152 → T (fits binary32 (sample (new_output c) channel k))
unfolding outputs_at output_of
samples_fit {c} ok channel k two first last =
    let d = accepted_leaves c ok in
    let i = 2 * (k - 1) + channel in
    rw (d.output, ← zero-add i, output_at (slots_of (granules_in c)) c.state.ring c.memory c.output 0 36 d.goes.output_long i (omega arith))
    (div-fits binary32 _ _)

-- of two values: one bit pattern stands for both, and no other stands for either
pub record BitForBit (x y : Float) : Type 0 where
  pub pattern : ℕ
  pub small : pattern < 2 ^ 32
  pub one : of_bits binary32 pattern ≡ x
  pub other : of_bits binary32 pattern ≡ y
  pub only : (b : ℕ) → b < 2 ^ 32 → (of_bits binary32 b ≡ x) ⊎ (of_bits binary32 b ≡ y) → b ≡ pattern

no_nan : (n : ℕ) (x : Float) → Within n x → T (not (is_nan x))
unfolding is_nan
no_nan n nan h = absurd h
no_nan n (inf s) h = absurd h
no_nan n (fin s m e) h = tt

pub equal_values_equal_bits : {x y : Float} (n : ℕ) → Within n x → T (fits binary32 x) → x ≡ y → BitForBit x y
equal_values_equal_bits {x} {y} n h fit same =
    let back = of_bits-to_bits binary32 x fit in
    record { pattern = to_bits binary32 x; small = to_bits-lt binary32 x fit; one = back; other = back ∙ same; only = only }
  where
    the_pattern : (b : ℕ) → b < 2 ^ 32 → of_bits binary32 b ≡ x → b ≡ to_bits binary32 x
    the_pattern b l e =
        sym (to_bits-of_bits binary32 b l (subst (λ (z : Float). T (not (is_nan z))) (sym e) (no_nan n x h))) ∙ ap (to_bits binary32) e

    only : (b : ℕ) → b < 2 ^ 32 → (of_bits binary32 b ≡ x) ⊎ (of_bits binary32 b ≡ y) → b ≡ to_bits binary32 x
    only b l (inl e) = the_pattern b l e
    only b l (inr e) = the_pattern b l (e ∙ sym same)
