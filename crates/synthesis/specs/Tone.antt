-- A slot that is not silent, computed through to the bits of its outputs, and how long it rings. The bits are those of the unchanged Rust:
-- its decoder was given frames (stereo, 192 kbit/s, 44,100 Hz) with one subband, 3 of the left channel, of 65,535 levels and scale factor 3,
-- so that the code 31767 is the sample 1000 and 32767 is 0, and these are `interleaved`'s. Assumes nothing.
use Rattle.std.specs.Prelude.{◌≡◌, refl, false, List, [], ◌∷◌, ◌++◌, ℕ, ◌≤◌, ℤ, pos, length, get_or, take, replicate, Float}
use Rattle.std.proofs.Common.{sym, ap, ◌∙◌, arith, take_at}
use Rattle.std.specs.Float.{nan, fin, binary32}
use Rattle.std.specs.Float.Ieee.{to_bits, of_bits, of_int, round, add, sub, mul, div, neg}
use Rattle.ground.specs.Table.{table}
use Rattle.transform.specs.Transform.{idct, floats, slot_of, transform, sums_of, differences_of, halving_factors, woven_of}
use Rattle.window.specs.Window.{window_at, window_list, half, standard_d}
use Rattle.window.specs.Output.{taps, output_of}
use Rattle.synthesis.specs.Slots.{position_after, put, slot_ring, ring_after, outputs_at, ring_of, output_after, output_length}
use Rattle.synthesis.specs.Ring.{ring_length}
use Rattle.synthesis.specs.Output.{output_at}

-- the 32 samples of a slot: 1000 in subband 3; none
abbrev pub tone : List ℤ
tone = pos 0 ∷ pos 0 ∷ pos 0 ∷ pos 1000 ∷ replicate 28 (pos 0)

abbrev pub silence : List ℤ
silence = replicate 32 (pos 0)

-- the ring at opening
abbrev pub fresh : List Float
fresh = replicate 1024 (fin false 0 (pos 0))

-- the bits of the 32 outputs of slot n
unfoldable pub output_bits : (ℕ → List ℤ) → ℕ → List Float → ℕ → List ℕ
unfolding table to_bits outputs_at ring_after slot_ring put position_after output_of taps window_at window_list half standard_d
    idct floats slot_of transform sums_of differences_of halving_factors woven_of of_bits of_int round add sub mul div neg
output_bits f p ring n = table 32 (λ j. to_bits binary32 (outputs_at f p ring n j))

-- the tone in every slot: in the first one, where the ring was fresh; and in the sixteenth, where all of the ring sounds, by all 512
-- entries of the window
pub first_slot : take 4 (output_bits (λ _. tone) 0 fresh 0) ≡ 0x80000000 ∷ 0x34de853b ∷ 0x34f4f7f2 ∷ 0x34eec6e5 ∷ []
unfolding output_bits
first_slot = refl

pub sixteenth_slot : output_bits (λ _. tone) 0 fresh 15
    ≡ 0xbcf62a2a ∷ 0xbd20d009 ∷ 0xbd2e1033 ∷ 0xbd20d093 ∷ 0xbcf62963 ∷ 0xbc853790 ∷ 0xb588e3b9 ∷ 0x3c853836
    ∷ 0x3cf6284e ∷ 0x3d20d06d ∷ 0x3d2e104a ∷ 0x3d20cfd9 ∷ 0x3cf629e8 ∷ 0x3c8537f3 ∷ 0x340aa5b9 ∷ 0xbc853735
    ∷ 0xbcf6294f ∷ 0xbd20d05c ∷ 0xbd2e0fb1 ∷ 0xbd20cfb0 ∷ 0xbcf62894 ∷ 0xbc853853 ∷ 0xb45dece4 ∷ 0x3c853954
    ∷ 0x3cf6292c ∷ 0x3d20d02c ∷ 0x3d2e1046 ∷ 0x3d20d06d ∷ 0x3cf6297e ∷ 0x3c853a4d ∷ 0xb4b3b72d ∷ 0xbc853888 ∷ []
unfolding output_bits
sixteenth_slot = refl

-- ---- one slot of it from opening, and then silence: it is heard for 15 blocks more, to the last output of the fifteenth

abbrev pub after : List ℤ → List Float
after samples = ring_after (λ _. samples) 0 fresh 1

fifteenth : to_bits binary32 (outputs_at (λ _. silence) 960 (after tone) 14 31) ≡ 0x34527d18
unfolding output_bits
fifteenth = refl

fifteenth_silent : to_bits binary32 (outputs_at (λ _. silence) 960 (after silence) 14 31) ≡ 0x80000000
unfolding output_bits
fifteenth_silent = refl

-- so the 15 of `outputs-washed` is sharp: the same samples, and another sound after another past
pub fifteenth_block_still_sounds : outputs_at (λ _. silence) 960 (after tone) 14 31 ≡ outputs_at (λ _. silence) 960 (after silence) 14 31 → ⊥
fifteenth_block_still_sounds e =
    let same : ◌≡◌ {A = ℕ} 0x34527d18 0x80000000 = sym fifteenth ∙ ap (to_bits binary32) e ∙ fifteenth_silent in
    omega arith

-- and so is the 960 of `output-washed`: place 958 of a frame's output, which is the 480th of the left channel
abbrev pub frame_after : List ℤ → List Float → List Float
frame_after samples output = output_after (λ _ _. silence) 960 (after samples ++ fresh) output 0 36

left_480th : (samples : List ℤ) (output : List Float) → output_length ≤ length output
    → get_or (frame_after samples output) 958 nan ≡ outputs_at (λ _. silence) 960 (after samples) 14 31
unfolding ring_of
left_480th samples output room =
    output_at (λ _ _. silence) 960 (after samples ++ fresh) output 0 36 room 958 (omega arith)
    ∙ ap (λ (ring : List Float). outputs_at (λ _. silence) 960 ring 14 31)
    (take_at (after samples) fresh 1024 (ring_length (λ _. samples) (record { whole = refl; on_ring = omega arith }) fresh refl 1))

pub sample_480_still_differs : (output : List Float) → output_length ≤ length output
    → get_or (frame_after tone output) 958 nan ≡ get_or (frame_after silence output) 958 nan → ⊥
sample_480_still_differs output room e =
    fifteenth_block_still_sounds (sym (left_480th tone output room) ∙ e ∙ left_480th silence output room)
