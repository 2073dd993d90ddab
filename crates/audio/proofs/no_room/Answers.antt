use borrow.Author.Tests.{lt-ltb, le-ltb}
use Rattle.audio.specs.Calls.{no_room_of}
use Rattle.audio.proofs.no_room.Goals as goal

pub returns-then-stream-gt-LONGEST_STREAM : goal.returns-then-stream-gt-LONGEST_STREAM
unfolding no_room_of
returns-then-stream-gt-LONGEST_STREAM c = simp (lt-ltb _ _ c.if-stream-gt-LONGEST_STREAM.true)

pub returns-then-memory-lt-MEMORY : goal.returns-then-memory-lt-MEMORY
unfolding no_room_of
returns-then-memory-lt-MEMORY c = simp (le-ltb _ _ c.if-stream-gt-LONGEST_STREAM.false, lt-ltb _ _ c.if-memory-lt-MEMORY.true)

pub returns : goal.returns
unfolding no_room_of
returns c = simp (le-ltb _ _ c.if-stream-gt-LONGEST_STREAM.false, le-ltb _ _ c.if-memory-lt-MEMORY.false)
