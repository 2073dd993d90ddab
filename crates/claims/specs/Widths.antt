-- The bits that a decoded frame reports: how far the position moves from the first allocation bit until the final alignment, and the
-- sum of allocation, selector, scale-factor and code widths whenever that many remain. So no bit count can be made up.
-- 01, "The bits used by a frame are ..", and "What a contract here has to say". Assumes nothing.
use Rattle.std.specs.Prelude.{ℕ, ◌+◌, ◌*◌, ◌/◌, ◌≤◌, ◌≡◌, refl, Bool, List, eqb, ℤ, length, replicate}
use Rattle.std.proofs.Math.Path.{ap}
use Rattle.std.proofs.Common.{◌∙◌}
use native.Mathlib.Omega.{arith}
use borrow.Author.Tests.{le-ltb}
use Rattle.buffer.specs.Bits.{farthest_bit}
use Rattle.buffer.specs.Calls.{align_of}
use Rattle.buffer.specs.declared.Reader.{Reader}
use Rattle.grammar.specs.Reads.{Reads, done, Taken, run, called}
use Rattle.grammar.specs.Run.{run_bind, run_done, called_bind}
use Rattle.grammar.specs.Widths.{Narrow, exact, run_moves}
use Rattle.tables.specs.Differences.{table_of}
use Rattle.header.specs.declared.Format.{Format}
use Rattle.side.specs.Side.{cut_of, allocations_of, selectors_of, scale_factors_of, side_of}
use Rattle.codes.specs.Frame.{granules_of, frame_of}
use Rattle.codes.specs.Widths.{frame_narrow}
use Rattle.frame.specs.Frame.{limit_in, codes_in, granules_at}
use Rattle.audio.specs.Calls.{aligned_of, after_of, framed_of, Decoded}
use Rattle.past.specs.Calls.{Call, outcome, frame_state, Accepts, end_of, first_bit, bits_called, accepted_leaves, accepted_bits}

codes_narrow : (f : Format) → Narrow (codes_in f)
unfolding codes_in
codes_narrow f = frame_narrow _ _ _ _

module _ {c : Call} (ok : Accepts c) where
  -- the reading of a frame ends within the stream, not before its start
  moves : (first_bit c ≤ (end_of c).at.0) × ((end_of c).at.0 ≤ first_bit c + bits_called c) × ((end_of c).at.0 ≤ 8 * length c.stream)
  unfolding granules_at
  moves =
      let m = run_moves (codes_in (frame_state c).format) c.stream (frame_state c).reader in
      let r = (accepted_leaves c ok).goes.ready in
      (m.0, m.1, omega arith)

  -- the reading ends so many bits after the first allocation bit
  pub bits_are_the_movement : (end_of c).at.0 ≡ first_bit c + ok.bits
  bits_are_the_movement = omega (arith, moves, accepted_bits c ok)

  -- and there the position is aligned
  pub aligned_after_the_bits : (outcome c).state.reader.at.0 ≡ (first_bit c + ok.bits + 7) / 8 * 8
  unfolding framed_of after_of aligned_of align_of
  aligned_after_the_bits =
      let d = accepted_leaves c ok in
      let near : (end_of c).at.0 ≤ farthest_bit = omega (arith, moves, d.goes.ready.short) in
      ap (λ (x : Decoded). x.state.reader.at.0) d.gives
      ∙ simp (le-ltb _ _ d.goes.ready.short, le-ltb _ _ near) (ap (λ (n : ℕ). (n + 7) / 8 * 8) bits_are_the_movement)

  -- "the sum of allocation, selector, scale-factor and code widths, whenever that many remain"
  pub bits_are_the_widths : first_bit c + bits_called c ≤ 8 * length c.stream → ok.bits ≡ bits_called c
  unfolding granules_at
  bits_are_the_widths there =
      let short = (accepted_leaves c ok).goes.ready.short in
      let far = exact (codes_in (frame_state c).format) c.stream (frame_state c).reader (codes_narrow (frame_state c).format)
      (record { short = short; near = omega arith; enough = omega arith }) in
      omega (arith, accepted_bits c ok)

  -- and never more
  pub no_more_than_the_widths : ok.bits ≤ bits_called c
  no_more_than_the_widths = omega (arith, moves, accepted_bits c ok)

-- ---- the sum in its four parts, each read where the one before it ended

called_done : {A : Type 0} (a : A) (s : List ℕ) (r : Reader) → called (done a) s r ≡ 0
unfolding called
called_done a s r = refl

module _ (f : Format) (s : List ℕ) (r : Reader) where
  abbrev mono : Bool
  mono = eqb f.mode 3

  abbrev limit : ℕ
  limit = limit_in f

  abbrev bound : ℕ
  bound = cut_of f.bound limit

  abbrev allocations : Reads (List ℕ)
  allocations = allocations_of (table_of f.mode f.bitrate f.samplerate) bound limit (replicate 64 0)

  abbrev allocated : Taken (List ℕ)
  allocated = run allocations s r

  abbrev selectors : Reads (List ℕ)
  selectors = selectors_of mono allocated.value limit (replicate 64 0)

  abbrev selected : Taken (List ℕ)
  selected = run selectors s allocated.next

  abbrev scale_factors : Reads (List ℕ)
  scale_factors = scale_factors_of mono allocated.value selected.value limit (replicate 192 0)

  abbrev scaled : Taken (List ℕ)
  scaled = run scale_factors s selected.next

  abbrev codes : Reads (List (List ℤ))
  codes = granules_of (record { quant = allocated.value; factor = scaled.value }) bound limit 12

  pub four_parts : called (codes_in f) s r
      ≡ called allocations s r + called selectors s allocated.next + called scale_factors s selected.next + called codes s scaled.next
  unfolding codes_in frame_of side_of
  four_parts = simp (called_bind, run_bind, run_done, called_done) (omega arith)
