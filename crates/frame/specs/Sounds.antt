-- What the functions over a frame's granules are lent, and what they leave: the reader after the codes, the ring position, the memory and
-- the output. From 01, "From samples to sound". Assumes nothing.
use Rattle.std.specs.Prelude.{ℕ, ◌*◌, ◌/◌, ◌≤◌, ◌≡◌, List, ℤ, Float, length}
use Rattle.buffer.specs.declared.Reader.{Reader}
use Rattle.grammar.specs.Reads.{Taken, run}
use Rattle.side.specs.Info.{side_in}
use Rattle.side.specs.declared.info.SideInfo.{SideInfo}
use Rattle.codes.specs.Frame.{granule_of, granules_of}
use Rattle.window.specs.Output.{Place}
use Rattle.synthesis.specs.Slots.{memory_length, output_length, slot_samples, position_after, memory_after, output_after}
use Rattle.frame.specs.Frame.{frame_memory, frame_output}
use Rattle.frame.specs.declared.Sounded.{Sounded}

-- a ring position, and slices that are long enough
pub record GranulesLent (ring : ℕ) (memory output : List Float) : Type 0 where
  pub place : Place ring
  pub memory_long : memory_length ≤ length memory
  pub output_long : output_length ≤ length output

-- the codes of granule g, "four to each scale-factor part", and of all twelve
module _ (s : List ℕ) (r : Reader) (side : SideInfo) where
  abbrev pub one_granule : ℕ → Taken (List ℤ)
  one_granule g = run (granule_of (side_in side) (g / 4) side.layout.bound side.layout.limit) s r

  abbrev pub twelve_granules : Taken (List (List ℤ))
  twelve_granules = run (granules_of (side_in side) side.layout.bound side.layout.limit 12) s r

-- the three slots of granule g, from ring position p
pub record GranuleSounds (x : Taken (List ℤ)) (g p : ℕ) (memory output : List Float) (r : Sounded) (memory' output' : List Float) : Type 0 where
  pub end_is : r.end ≡ x.next
  pub ring_is : r.ring ≡ position_after p 3
  pub memory_is : memory' ≡ memory_after (slot_samples x.value) p memory 3
  pub output_is : output' ≡ output_after (slot_samples x.value) p memory output (192 * g) 3

-- and the 36 slots of a frame
pub record FrameSounds (x : Taken (List (List ℤ))) (p : ℕ) (memory output : List Float) (r : Sounded) (memory' output' : List Float) : Type 0 where
  pub end_is : r.end ≡ x.next
  pub ring_is : r.ring ≡ position_after p 36
  pub memory_is : memory' ≡ frame_memory x.value p memory
  pub output_is : output' ≡ frame_output x.value p memory output
