-- Demand 3 is sharp, by the sample of specs/Sharp: of the two decoders there, sample 480 differs. Assumes nothing.
use Prim.Native.Nat.{◌≤◌}
use Rattle.std.specs.Prelude.{◌≡◌, Float, length, get_or, replicate}
use Rattle.std.proofs.Common.{sym, ◌∙◌, arith}
use Rattle.std.proofs.Math.Path.{ap, ap₂}
use mathlib.Core.List.{List, [], ◌∷◌}
use Rattle.std.specs.Float.{binary32}
use Rattle.std.specs.Float.Ieee.{to_bits}
use Rattle.std.proofs.lemmas.List.{length-replicate}
use Rattle.window.specs.Output.{nought}
use Rattle.synthesis.specs.Slots.{memory_length, output_length}
use Rattle.past.specs.Calls.{Call, new_output, sample}
use Rattle.claims.specs.Clips.{knocking, silent, behind, second, past_two}
use Rattle.claims.specs.Sharp.{later_bits, sample_480, knocked, unknocked, second_frames_agree, remainder, TellsApart}

module _ (m n o u : List Float) (long : memory_length ≤ length m) (long' : memory_length ≤ length n) (room : output_length ≤ length o)
    (room' : output_length ≤ length u) where
  -- the fifteenth block still tells them apart
  pub sample_480_differs : to_bits binary32 (sample (new_output (second (behind knocking) m o)) 0 480)
      ∷ to_bits binary32 (sample (new_output (second (behind silent) n u)) 0 480) ∷ [] ≡ 0xB73A69A5 ∷ 0x80000000 ∷ []
  sample_480_differs =
      ap₂ (λ x y. to_bits binary32 x ∷ to_bits binary32 y ∷ []) (sample_480 knocked m o long room) (sample_480 unknocked n u long' room') ∙ later_bits

pub rings_on_for_15_blocks : (c : Call) × (d : Call) × TellsApart c d
rings_on_for_15_blocks = (
  second (behind knocking) memory output,
  second (behind silent) memory output,
  record {
    past = past_two knocked memory output long room;
    past' = past_two unknocked memory output long room;
    remainder = remainder memory memory output output long long room room;
    agree = second_frames_agree memory memory output output long long room room;
    differs = λ same.
        let e = sample_480_differs memory memory output output long long room room in
        let f = ap (to_bits binary32) (sym same.one ∙ same.other) in
        absurd (omega (arith, sym (ap (λ xs. get_or xs 0 0) e) ∙ f ∙ ap (λ xs. get_or xs 1 0) e));
  },
)
  where
    memory : List Float
    memory = replicate memory_length nought

    output : List Float
    output = replicate output_length nought

    long : memory_length ≤ length memory
    long = omega (arith, length-replicate memory_length nought)

    room : output_length ≤ length output
    room = omega (arith, length-replicate output_length nought)
