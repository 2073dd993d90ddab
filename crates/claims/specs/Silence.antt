-- 01, "Table of proved examples", of its frame of zeros: "All 2,304 samples of that frame, from a fresh opening, are −0.0 (bits
-- 80000000)." Nothing is allocated, so every ring value is a zero of either sign; +0.0 and sixteen products with such a zero are +0.0,
-- and the division by a negative number makes it −0.0. Assumes nothing.
use Prim.Native.Nat.{ℕ, zero, suc, ◌+◌, ◌-◌, ◌*◌, ◌/◌, ◌%◌, ◌≤◌, ◌<◌}
use Rattle.std.specs.Prelude.{◌≡◌, Bool, true, false, ◌||◌, List, [], ◌∷◌, T, eqb, ℤ, pos, Float, length, get_or, take, drop, replicate}
use Rattle.std.proofs.Math.Path.{refl, ap}
use Rattle.std.proofs.Common.{◌∙◌, mul-zero, mul-pos, arith, le-ltb, lit<, lit≤, eqb→eq}
use Rattle.std.specs.Bool.{beq}
use Rattle.std.specs.Float.{nan, inf, fin, binary32}
use Rattle.std.specs.Float.Ieee.{up, down, round, unlike, add, sub, mul, div, neg, eq, of_int, of_bits}
use Rattle.std.specs.Float.Ieee.Fits.{down_pos}
use Rattle.std.specs.Float.Ieee.Scale.{round_same}
use Rattle.std.proofs.lemmas.List.{get_or-replicate}
use Rattle.ground.specs.Table.{table}
use Rattle.ground.specs.Upto.{and_left, below}
use Rattle.buffer.specs.Bits.{bit_at, bits_value}
use Rattle.buffer.specs.Calls.{read_of, reader_at, field_of}
use Rattle.grammar.specs.Reads.{◌>>=◌, run}
use Rattle.tables.specs.Standard.{limit_of, chosen, serves, sblimit, rows_of}
use Rattle.tables.specs.Source.{source_row_of, width_of, quantiser_of}
use Rattle.tables.specs.Differences.{table_of}
use Rattle.side.specs.Bands.{bands, pair_of, channels_of}
use Rattle.side.specs.Side.{allocation_of, allocation_band_of, selector_of, factors_of, side_of}
use Rattle.codes.specs.Frame.{place_of, copied, sample_band_of, granule_of, granules_of, frame_of}
use Rattle.codes.specs.Rows.{zeros}
use Rattle.transform.specs.Transform.{idct, floats, transform, sums_of, differences_of, woven_of, slot_of, halving_factors}
use Rattle.window.specs.Window.{window_at}
use Rattle.window.specs.Output.{nought, taps, output_of}
use Rattle.synthesis.specs.Slots.{slot_samples, memory_length, output_length}
use Rattle.finite.specs.Within.{Factor}
use Rattle.finite.specs.Sums.{weight_at, entry_factor}
use Rattle.finite.specs.Each.{Each, InBothRings, Written, Summed}
use Rattle.frame.specs.Frame.{codes_in, granules_at, slots_of}
use Rattle.audio.specs.Calls.{open_memory, no_room_of}
use Rattle.state.specs.declared.Audio.{Audio}
use Rattle.past.specs.Calls.{granules_in}
use Rattle.past.specs.Finite.{opened_each}
use Rattle.claims.specs.Example.{headed, opening, frame_state_headed}

-- ---- the frame's samples are all 0

abbrev silence : List (List ℤ)
silence = replicate 12 (replicate 192 (pos 0))

read_silence : (granules_at zeros (reader_at 32) headed.format).value ≡ silence
unfolding granules_at codes_in run ◌>>=◌ frame_of side_of bands pair_of allocation_of allocation_band_of channels_of selector_of factors_of place_of copied
    sample_band_of granule_of granules_of field_of read_of bits_value bit_at table_of limit_of chosen serves sblimit rows_of source_row_of width_of quantiser_of
read_silence = refl

-- a part of a list of one value
part : {A : Type 0} (x : A) (front n all : ℕ) → front + n ≤ all → take n (drop front (replicate all x)) ≡ replicate n x
part x zero zero all h = refl
part x zero (suc n) zero h = absurd (omega arith)
part x zero (suc n) (suc all) h = ap (λ l. x ∷ l) (part x zero n all (omega arith))
part x (suc front) n zero h = absurd (omega arith)
part x (suc front) n (suc all) h = part x front n all (omega arith)

slots_silent : (channel n : ℕ) → channel < 2 → n < 36 → slots_of silence channel n ≡ replicate 32 (pos 0)
unfolding slot_samples
slots_silent channel n two l =
    rw (get_or-replicate 12 (n / 3) (replicate 192 (pos 0)) [] (omega arith)) (part (pos 0) (64 * (n % 3) + 32 * channel) 32 192 (omega arith))

-- ---- which become zeros of either sign: +0.0 and −0.0 are those that compare equal to +0.0

abbrev pub Zero : Float → Type 0
Zero x = T (eq x nought)

silent_slot : Written Zero (replicate 32 (pos 0))
unfolding Written idct floats transform sums_of differences_of woven_of slot_of halving_factors table eq of_int of_bits add sub mul neg
silent_slot = below (λ (i : ℕ). eq (get_or (idct (replicate 32 (pos 0))) i nan) nought) 64 tt

-- ---- and their sums +0.0

nothing : (s : Bool) (a c : ℕ) → 0 < c → a ≡ 0 → round binary32 s a c ≡ fin s 0 (pos 0)
unfolding round
nothing s a c h e = round_same binary32 s a c 0 1 h (lit< tt) (omega arith)

plus_nothing : (s : Bool) → add binary32 nought (fin s 0 (pos 0)) ≡ nought
unfolding add
plus_nothing true = refl
plus_nothing false = refl

-- a finite number's product with a zero adds nothing
plus_product : (b g : ℕ) (x y : Float) → Factor b g x → Zero y → add binary32 nought (mul binary32 x y) ≡ nought
unfolding mul eq
plus_product b g (fin s m e) (fin t n d) h z =
    let u = n * up d * 1 in
    let v = 0 * 1 * down d in
    let none : n * up d ≡ 0 = omega (arith, eqb→eq u v (and_left (eqb u v) (beq t false || eqb u 0) z)) in
    ap (add binary32 nought) (nothing (unlike s t) (m * up e * (n * up d)) (down e * down d)
    (mul-pos (down_pos e) (down_pos d)) (rw none (mul-zero (m * up e))))
    ∙ plus_nothing (unlike s t)
plus_product b g nan y h z = absurd h
plus_product b g (inf s) y h z = absurd h
plus_product b g (fin s m e) nan h z = absurd z
plus_product b g (fin s m e) (inf t) h z = absurd z

module _ (ring : List Float) (silent : Each Zero ring) where
  taps_silent : (w r : ℕ) → r < 128 → (k : ℕ) → k ≤ 8 → taps ring w r k nought ≡ nought
  unfolding taps Each
  taps_silent w r hr zero hk = refl
  taps_silent w r hr (suc k) hk =
      let j = (w + 64 * k) % 512 in
      rw (taps_silent w r hr k (omega arith))
      (plus_product (weight_at j) 2 (window_at j) (get_or ring (r + 128 * k) nan) (entry_factor j (omega arith)) (silent (r + 128 * k) (omega arith)))

  -- which the division makes −0.0
  pub silent_sums : Summed (λ x. x ≡ fin true 0 (pos 0)) ring
  unfolding Summed output_of div
  silent_sums p j hp hj =
      rw (
        taps_silent (512 - p / 2 + j) (p % 128 / 2 + j) (omega arith) 8 (lit≤ tt),
        taps_silent (544 - p / 2 + j) (96 - p % 128 / 2 + j) (omega arith) 8 (lit≤ tt),
      ) refl

-- ---- the frame

module _ (m o : List Float) (long : memory_length ≤ length m) (room : output_length ≤ length o) where
  granules_silent : granules_in (opening m o) ≡ silence
  granules_silent = ap (λ (a : Audio). (granules_at zeros a.reader a.format).value) (frame_state_headed m o long room) ∙ read_silence

  pub memory_zero : InBothRings Zero (opening m o).memory
  unfolding open_memory no_room_of eq
  memory_zero = simp (le-ltb _ _ long) (opened_each Zero tt (drop memory_length m))

  pub slots_zero : (channel : ℕ) → channel < 2 → (n : ℕ) → n < 36 → Written Zero (slots_of (granules_in (opening m o)) channel n)
  slots_zero channel two n l = rw (granules_silent, slots_silent channel n two l) silent_slot
