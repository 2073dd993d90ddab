-- Demand 2: "allocation, scale factors and sample codes are proved against a definition written from ISO/IEC 11172-3 Layer II; where Rust
-- and standard part, the list says so." For every mode, mode_extension, bitrate_index and sampling_frequency, every stream and every
-- place, the port's frame is the standard's audio data over the tables with the one listed entry replaced; where no allocation is that
-- entry, over the standard's own. Assumes nothing.
use Prim.Native.Nat.{ℕ, ◌<◌}
use Rattle.std.proofs.Math.Path.{◌≡◌}
use Rattle.std.specs.Prelude.{eqb}
use mathlib.Core.List.{List}
use Rattle.buffer.specs.declared.Reader.{Reader}
use Rattle.grammar.specs.Reads.{taken, run}
use Rattle.tables.specs.Standard.{sblimit}
use Rattle.tables.specs.Differences.{number_of}
use Rattle.header.specs.Header.{bound_by}
use Rattle.side.specs.Side.{cut_of}
use Rattle.codes.specs.Frame.{frame_of}
use Rattle.standard.specs.Header.{allocation_table}
use Rattle.standard.specs.AudioData.{audio_data_over}
use Rattle.alike.specs.Made.{samples_by01}
use Rattle.alike.specs.Replaced.{replaced}
use Rattle.alike.specs.Bound.{the_standards_bound}
use Rattle.alike.proofs.Alike.{frame_by_bounds}

-- ---- the frame

pub the_standards_frame : (mode extension index frequency : ℕ) → extension < 4 → (s : List ℕ) (r : Reader)
    → let t = allocation_table mode index frequency in
    let x = run (audio_data_over replaced mode extension index frequency) s r in
    run (frame_of (eqb mode 3) (number_of t) (cut_of (bound_by mode extension) (sblimit t)) (sblimit t)) s r
    ≡ taken (samples_by01 replaced mode extension index frequency x.value) x.next
the_standards_frame mode extension index frequency l =
    let t = allocation_table mode index frequency in frame_by_bounds t (the_standards_bound mode extension t l)
