-- Start times by their bits, as the unchanged Rust gives them: of the first frames of a stream, and of those after 1,000 and 3,000,000
-- frames, its state having been set to one less. Assumes nothing.
use Rattle.std.specs.Prelude.{ℕ, ◌≡◌, refl, List, [], ◌∷◌, map}
use Rattle.std.specs.Float.{binary64}
use Rattle.std.specs.Float.Ieee.{of_int, div, round, to_bits}
use Rattle.clock.specs.Clock.{start_time_of}

abbrev start_bits : ℕ → List ℕ
start_bits samplerate = map (λ frames. to_bits binary64 (start_time_of frames samplerate)) (0 ∷ 1 ∷ 3 ∷ 7 ∷ 1000 ∷ 3000000 ∷ [])

-- at 44,100, 48,000 and 32,000 Hz
pub start_times :
    (start_bits 0 ≡ 0 ∷ 0x3f9abfd7e03c2fa6 ∷ 0x3fb40fe1e82d23bc ∷ 0x3fc767dce434a9b1 ∷ 0x403a1f58d0fac688 ∷ 0x40f321f58d0fac68 ∷ [])
    × (start_bits 1 ≡ 0 ∷ 0x3f989374bc6a7efa ∷ 0x3fb26e978d4fdf3b ∷ 0x3fc5810624dd2f1b ∷ 0x4038000000000000 ∷ 0x40f1940000000000 ∷ [])
    × (start_bits 2 ≡ 0 ∷ 0x3fa26e978d4fdf3b ∷ 0x3fbba5e353f7ced9 ∷ 0x3fd020c49ba5e354 ∷ 0x4042000000000000 ∷ 0x40fa5e0000000000 ∷ [])
unfolding start_time_of of_int round div to_bits
start_times = (refl, refl, refl)
