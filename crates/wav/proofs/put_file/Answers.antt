use Prim.Native.Nat.{ℕ, ◌≤◌}
use mathlib.Core.Path.{ap, ◌≡◌}
use mathlib.Core.List.{List, ◌++◌}
use native.Mathlib.Omega.{arith}
use lib.ListN.{length}
use Rattle.riff.specs.Header.{wave_header_of}
use Rattle.clip.specs.declared.Counted.{Counted}
use Rattle.clip.specs.Frames.{clip_of, count_of}
use Rattle.clip.specs.Turns.{few_in_clip}
use Rattle.clip.specs.Rates.{clip_rate_small}
use Rattle.clip.specs.File.{frame_parts, joined, wave_of, header_first}
use Rattle.scribe.specs.Page.{Leaves}
use Rattle.scribe.specs.PageLaws.{left_next, left_behind}
use Rattle.scribe.specs.declared.Page.{Page}
use Rattle.scribe.specs.declared.Whole.TheVariants.{Wave}
use Rattle.wav.proofs.put_file.Goals as goal

pub overflow_cast-counted : goal.overflow_cast-counted
overflow_cast-counted c =
    let s = c.args.stream.now in record { fits = omega (arith, ap (λ (x : Counted). x.frames) c.count-counted.ensures, few_in_clip s) }

pub header-header-requires : goal.header-header-requires
header-header-requires c =
    let s = c.args.stream.now in
    let e = c.count-counted.ensures in
    (omega (arith, ap (λ (x : Counted). x.frames) e, few_in_clip s), omega (arith, ap (λ (x : Counted). x.rate) e, clip_rate_small s))

-- the header comes first, and then the frames
begun : (s header : List ℕ) (x : Counted) {page : Page} → length s ≤ 65536 → header ≡ wave_header_of x.frames x.rate → x ≡ count_of s
    → Leaves Wave s page (wave_of s) → Leaves Wave s page (header ++ joined (frame_parts (clip_of s)))
begun s header x short is counted left = rw (is, counted) (rw (header_first s short) at left)

pub put-requires : goal.put-requires
put-requires c = left_next _ (begun _ _ _ c.requires.short c.header-header.ensures.bytes c.count-counted.ensures c.requires.left)

pub put_frames-requires : goal.put_frames-requires
put_frames-requires c =
    record {
      short = c.requires.short;
      counted = ap (λ (x : Counted). x.frames) c.count-counted.ensures;
      left = left_behind c.put.ensures (begun _ _ _ c.requires.short c.header-header.ensures.bytes c.count-counted.ensures c.requires.left);
    }
