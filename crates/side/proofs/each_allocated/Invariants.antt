use mathlib.Core.Path.{◌≡◌}
use Rattle.std.specs.Prelude.{ℕ, List}
use Rattle.grammar.specs.Reads.{Reads, run, taken}
use Rattle.side.specs.Bands.{bands, channels_of, allocated_of}
use Rattle.side.specs.Callers.{ReadsAs}
use Rattle.side.proofs.each_allocated.Given as goal

abbrev pub invariant-loop-sb : goal.invariant-loop-sb
invariant-loop-sb g l =
    (s : List ℕ) (one : ℕ → _ → Reads _) → ReadsAs (goal.F-post g l.read) one s →
    taken l.fields l.next ≡ run (bands (channels_of l.layout.mono (allocated_of l.quant one)) l.sb l.initial.fields) s l.initial.next
