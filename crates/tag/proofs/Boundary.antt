-- Call after call across the boundary (specs/Boundary): tag_open, then tag_decode. Assumes nothing.
use Rattle.std.specs.Prelude.{ℕ, List, Float}
use Rattle.std.proofs.Common.{subst}
use Rattle.state.specs.declared.Audio.{Audio}
use Rattle.audio.specs.Calls.{open_of, open_memory}
use Rattle.readings.specs.declared.Reading.{Reading}
use Rattle.tag.specs.Boundary.{state_of, TagOpen, TagDecode, read_back}

-- so tag_open and then tag_decode leave what `new` and then `decode` leave; and so on, from any state that a call has left
pub open_then_decode : (r : Reading) (s : List ℕ) (memory output : List Float) {number : ℕ} {places counts : List ℕ} {time : List Float}
    → TagOpen (open_of r s memory) number places counts time
    → {number' : ℕ} {memory' output' : List Float} {places' counts' : List ℕ} {time' start : List Float} {bits : List ℕ}
    → TagDecode s (open_memory s memory) output (state_of places counts time) number' memory' output' places' counts' time' start bits
    → TagDecode s (open_memory s memory) output (open_of r s memory).state number' memory' output' places' counts' time' start bits
open_then_decode r s memory output told {number'} {memory'} {output'} {places'} {counts'} {time'} {start} {bits} decodes =
    subst (λ (a : Audio). TagDecode s (open_memory s memory) output a number' memory' output' places' counts' time' start bits)
    (read_back told.state_is) decodes
