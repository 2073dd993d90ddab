use borrow.Author.Tests.{lt-ltb, le-ltb}
use mathlib.Core.Path.{sym, ◌∙◌}
use Rattle.verdict.specs.Verdict.{at_once_of}
use Rattle.verdict.proofs.refused_at_once.Goals as goal

pub returns-then-stream-gt-LONGEST_STREAM : goal.returns-then-stream-gt-LONGEST_STREAM
unfolding at_once_of
returns-then-stream-gt-LONGEST_STREAM c = simp (lt-ltb _ _ c.if-stream-gt-LONGEST_STREAM.true)

pub returns-then-memory-lt-MEMORY : goal.returns-then-memory-lt-MEMORY
unfolding at_once_of
returns-then-memory-lt-MEMORY c = simp (le-ltb _ _ c.if-stream-gt-LONGEST_STREAM.false, lt-ltb _ _ c.if-memory-lt-MEMORY.true)

pub returns-then-output-lt-OUTPUT : goal.returns-then-output-lt-OUTPUT
unfolding at_once_of
returns-then-output-lt-OUTPUT c = simp (le-ltb _ _ c.if-stream-gt-LONGEST_STREAM.false, le-ltb _ _ c.if-memory-lt-MEMORY.false, lt-ltb _ _ c.if-output-lt-OUTPUT.true)

pub returns-then-in_range : goal.returns-then-in_range
unfolding at_once_of
returns-then-in_range c =
    simp (
      le-ltb _ _ c.if-stream-gt-LONGEST_STREAM.false,
      le-ltb _ _ c.if-memory-lt-MEMORY.false,
      le-ltb _ _ c.if-output-lt-OUTPUT.false,
      sym c.in_range.ensures ∙ c.if-in_range.true,
    )

pub returns : goal.returns
unfolding at_once_of
returns c =
    simp (
      le-ltb _ _ c.if-stream-gt-LONGEST_STREAM.false,
      le-ltb _ _ c.if-memory-lt-MEMORY.false,
      le-ltb _ _ c.if-output-lt-OUTPUT.false,
      sym c.in_range.ensures ∙ c.if-in_range.false,
    )
