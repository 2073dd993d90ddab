use Prim.Native.Nat.{ℕ, ◌-◌}
use mathlib.Core.Path.{◌≡◌, ap, sym, ◌∙◌}
use mathlib.Core.List.{List}
use native.Mathlib.Omega.{arith}
use Rattle.buffer.specs.Calls.{byte_after_of}
use Rattle.buffer.specs.declared.BytePos.{BytePos}
use Rattle.header.specs.Header.{header_of}
use Rattle.header.specs.Passed.{sync_within}
use Rattle.header.specs.declared.Attempt.{Attempt}
use Rattle.header.specs.declared.Accepted.{Accepted}
use Rattle.refusal.specs.declared.Refusal.{Refusal}
use Rattle.std.specs.Prelude.{Result}
use Rattle.state.specs.declared.Audio.{Audio}
use Rattle.verdict.specs.Verdict.{attempt_of, seeking, tried}
use Rattle.verdict.proofs.attempt.Goals as goal

-- what was passed over is counted from the byte where the attempt began
attempted : (s : List ℕ) (a : Audio) (begin : BytePos) (t : Attempt) (h : Result Accepted Refusal) → begin ≡ byte_after_of a.reader.at
    → t ≡ header_of s a.reader a.format → t.header ≡ h → seeking (t.sync.0 - begin.0) a t.next h ≡ attempt_of s a
unfolding attempt_of
attempted s a begin t h at is e =
    ap (λ p. seeking (t.sync.0 - p.0) a t.next h) at ∙ ap (seeking _ a t.next) (sym e) ∙ ap (tried a) is

pub overflow_sub-skipped : goal.overflow_sub-skipped
overflow_sub-skipped c =
    let start = c.args in
    omega (
      arith,
      sync_within start.stream.now start.a.reader start.a.format,
      ap (λ t. t.sync.0) c.decode_header-t.ensures,
      ap (λ p. p.0) c.byte_after-begin.ensures,
    )

pub returns-in-Ok : goal.returns-in-Ok
returns-in-Ok c =
    attempted _ _ _ _ _ c.byte_after-begin.ensures c.decode_header-t.ensures c.in-Ok.is

pub returns-in-Err : goal.returns-in-Err
returns-in-Err c =
    attempted _ _ _ _ _ c.byte_after-begin.ensures c.decode_header-t.ensures c.in-Err.is
