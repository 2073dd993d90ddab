-- The premises of demand 2's sentence on the standard can be met, on one stream over three calls: FF FD 10 C0 and 100 zero bytes, three
-- times, has headers of the standard at bytes 0, 104 and 208, each where the standard says that the frame before it ends; a decoder opened
-- on it, with any memory and output, accepts the three frames, one a call. Assumes nothing.
use Rattle.std.specs.Prelude.{◌≤◌, ◌≡◌, List, Float, length}
use Rattle.std.proofs.Math.Path.{refl}
use Rattle.buffer.specs.Bits.{bit_at, bits_value}
use Rattle.synthesis.specs.Slots.{memory_length, output_length}
use Rattle.standard.specs.Header.{HeaderFields, frame_size}
use Rattle.alike.specs.Fields.{header_fields}
use Rattle.past.specs.Calls.{known_accepted}
use Rattle.claims.specs.Clips.{silent, behind, silence, Course, courses, headed, headed_two, headed_three, first, second, third, past_one, past_two, past_three, before_first, before_second, before_third}
use Rattle.claims.specs.Standard.{On, StandardsFrame, accepted_frames_are_the_standards}

pub legal : HeaderFields (behind silent) 0 × HeaderFields (behind silent) 104 × HeaderFields (behind silent) 208
    × (frame_size (behind silent) 0 ≡ 104) × (frame_size (behind silent) 104 ≡ 104)
unfolding bits_value bit_at
legal = (header_fields (behind silent) 0 tt, header_fields (behind silent) 104 tt, header_fields (behind silent) 208 tt, refl, refl)

module _ (m o : List Float) (long : memory_length ≤ length m) (room : output_length ≤ length o) where
  abbrev unknocked : Course (behind silent) silence 58 64
  unknocked = courses.1

  pub first_of_the_standards : StandardsFrame (first (behind silent) m o)
  unfolding On
  first_of_the_standards =
      accepted_frames_are_the_standards {c = first (behind silent) m o} (past_one unknocked m o long room) refl
      (known_accepted _ headed (before_first unknocked m o long room))

  pub second_of_the_standards : StandardsFrame (second (behind silent) m o)
  unfolding On
  second_of_the_standards =
      accepted_frames_are_the_standards {c = second (behind silent) m o} (past_two unknocked m o long room) (refl, refl)
      (known_accepted _ headed_two (before_second unknocked m o long room))

  pub third_of_the_standards : StandardsFrame (third (behind silent) m o)
  unfolding On
  third_of_the_standards =
      accepted_frames_are_the_standards {c = third (behind silent) m o} (past_three unknocked m o long room) (refl, (refl, refl))
      (known_accepted _ headed_three (before_third unknocked m o long room))
