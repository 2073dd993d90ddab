-- `buffer::Reader::find_frame_sync` meets its contract.
use Prim.Native.Nat.{ℕ, ◌+◌, ◌-◌, ◌*◌, ◌/◌, ◌≤◌, ◌<◌}
use mathlib.Core.Path.{◌≡◌, ap, ◌∙◌}
use mathlib.Core.List.{List}
use borrow.Author.Tests.{lt-ltb, le-ltb}
use lib.ListN.{length}
use Rattle.std.specs.Prelude.{Ok}
use Rattle.buffer.specs.Bits.{longest_stream, farthest_bit, stop_of}
use Rattle.buffer.specs.Calls.{byte_pos_of, reader_at, byte_at, search_of}
use Rattle.buffer.specs.declared.BytePos.{BytePos}
use Rattle.buffer.specs.declared.Reader.{Reader}
use Rattle.buffer.specs.declared.Sync.TheVariants.{Found, Missing}
use Rattle.buffer.proofs.Gate.{admits, refuses}
use Rattle.buffer.proofs.Reader.find_frame_sync.Goals as goal

-- where the search stopped, from the byte that holds the bit
stopped : (s : List ℕ) (r : Reader) (from stop : BytePos) → stop.0 ≡ stop_of s from.0 → from ≡ byte_pos_of r.at → stop.0 ≡ stop_of s (r.at.0 / 8)
stopped s r from stop e f = e ∙ ap (λ p. stop_of s p.0) f

-- the answer by where the search stopped
module _ (s : List ℕ) (r : Reader) (stop : ℕ) (short : length s ≤ longest_stream) (near : r.at.0 ≤ farthest_bit)
    (is : stop ≡ stop_of s (r.at.0 / 8)) where
  found : stop < length s - 1 → Ok (Found (byte_at stop) (stop - r.at.0 / 8) (reader_at ((stop + 1) * 8 + 3))) ≡ search_of s r
  unfolding search_of
  found l = rw is (simp (le-ltb _ _ short, le-ltb _ _ near, lt-ltb _ _ (rw is at l)))

  missing : length s - 1 ≤ stop → Ok (Missing (byte_at (length s)) (length s - r.at.0 / 8) (reader_at ((stop + 1) * 8))) ≡ search_of s r
  unfolding search_of
  missing l = rw is (simp (le-ltb _ _ short, le-ltb _ _ near, le-ltb _ _ (rw is at l)))

pub returns-in_err-admitted : goal.returns-in_err-admitted
unfolding search_of
returns-in_err-admitted c = refuses c.args.s.now c.args.self _ c.from_residual.ensures c.admitted.ensures c.in_err-admitted.was

pub returns-then-found-last_of : goal.returns-then-found-last_of
returns-then-found-last_of c =
    let stop = c.first_pair-found.result in
    let on = admits c.args.s.now c.args.self c.admitted.ensures c.in_ok-admitted.was in
    ap (λ b. Ok (Found stop (stop.0 - c.byte-from.result.0) (reader_at (b.0 + 3)))) c.bit-next.ensures
    ∙ ap (λ p. Ok (Found stop (stop.0 - p.0) (reader_at ((stop.0 + 1) * 8 + 3)))) c.byte-from.ensures
    ∙ found _ _ _ on.0 on.1 (stopped c.args.s.now c.args.self _ _ c.first_pair-found.ensures.is c.byte-from.ensures)
    (rw c.last_of.ensures at c.if-found-last_of.true)

pub returns : goal.returns
returns c =
    let s = c.args.s.now in
    let on = admits c.args.s.now c.args.self c.admitted.ensures c.in_ok-admitted.was in
    ap (λ b. Ok (Missing (byte_at (length s)) c.bytes_from.result (record { at = b }))) c.bit-next.ensures
    ∙ ap (λ k. Ok (Missing (byte_at (length s)) k (reader_at ((c.first_pair-found.result.0 + 1) * 8))))
    (c.bytes_from.ensures ∙ ap (λ p. length s - p.0) c.byte-from.ensures)
    ∙ missing _ _ _ on.0 on.1 (stopped c.args.s.now c.args.self _ _ c.first_pair-found.ensures.is c.byte-from.ensures)
    (rw c.last_of.ensures at c.if-found-last_of.false)
