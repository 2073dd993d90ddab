-- The whole frame's program: the side information, and then the granules. Assumes nothing.
use Prim.Native.Nat.{ℕ, ◌<◌, min}
use mathlib.Core.Path.{◌≡◌, refl}
use mathlib.Core.List.{List}
use native.Mathlib.Omega.{arith}
use lib.Dec.{eqb}
use Rattle.buffer.specs.declared.Reader.{Reader}
use Rattle.buffer.specs.declared.Taken.{Taken}
use Rattle.grammar.specs.Reads.{taken, run}
use Rattle.grammar.specs.Run.{and_then}
use Rattle.tables.specs.Standard.{Table, B2a, B2b, B2c, B2d, chosen}
use Rattle.tables.specs.Differences.{number_of, table_of}
use Rattle.header.specs.declared.Format.{Format}
use Rattle.side.specs.Side.{Side, cut_of, side_of}
use Rattle.side.specs.Info.{side_in}
use Rattle.side.specs.declared.info.Layout.{Layout}
use Rattle.side.specs.declared.info.SideInfo.{SideInfo}
use Rattle.codes.specs.Frame.{granules_of, frame_of}
use Rattle.frame.specs.Frame.{limit_in, codes_in, granules_at}
use Rattle.frame.specs.Sounds.{twelve_granules}

number<2 : (t : Table) → number_of t < 2
number<2 B2a = omega arith
number<2 B2b = omega arith
number<2 B2c = omega arith
number<2 B2d = omega arith

pub table<2 : (mode bitrate samplerate : ℕ) → table_of mode bitrate samplerate < 2
unfolding table_of
table<2 mode bitrate samplerate = number<2 (chosen (eqb mode 3) bitrate samplerate)

-- whoever read the side information
pub whole : (s : List ℕ) (r next : Reader) (f : Format) (side : Side) (limit table bound : ℕ) → limit ≡ limit_in f
    → table ≡ table_of f.mode f.bitrate f.samplerate → bound ≡ min f.bound limit
    → taken side next ≡ run (side_of (eqb f.mode 3) table bound limit) s r → run (granules_of side bound limit 12) s next ≡ granules_at s r f
unfolding granules_at codes_in frame_of
whole s r next f side limit table bound l t b e = rw (← l, ← b, ← t) (and_then _ _ s r e refl)

-- and read by a layout
pub whole_by : (s : List ℕ) (r : Reader) (f : Format) (x : Taken SideInfo) (l : Layout) → l.mono ≡ eqb f.mode 3
    → l.table ≡ table_of f.mode f.bitrate f.samplerate → l.bound ≡ cut_of f.bound (limit_in f) → l.limit ≡ limit_in f
    → x.value.layout ≡ l → taken (side_in x.value) x.next ≡ run (side_of l.mono l.table l.bound l.limit) s r → twelve_granules s x.next x.value ≡ granules_at s r f
whole_by s r f x l m t b n k e = rw k (whole s r x.next f (side_in x.value) l.limit l.table l.bound n t (rw n b) (rw m at e))
