-- A frame has twelve granules; and one whose data are there uses 16 bits at least: its table has 8 subbands or more, with an
-- allocation of 2 bits or more each. So 01's "accepted frames times 16 at most the bit position" stays true as frames are decoded.
-- Assumes nothing.
use Prim.Native.Nat.{ℕ, zero, suc, ◌+◌, ◌*◌, ◌/◌, ◌≤◌, ◌<◌, min}
use Rattle.std.specs.Prelude.{◌≡◌, refl, Bool, true, false, T, eqb, ltb, leb, ℤ, get_or}
use Rattle.std.proofs.Common.{◌∙◌, leb→le, lit≤, length-append, ltb-true, ltb-false}
use mathlib.Core.List.{List, [], ◌∷◌}
use native.Mathlib.Omega.{arith}
use Rattle.std.proofs.Math.ListN.{length}
use Rattle.ground.specs.Upto.{upto, below}
use Rattle.buffer.specs.Laws.{Enough, field_whole}
use Rattle.buffer.specs.declared.Reader.{Reader}
use Rattle.grammar.specs.Reads.{Reads, ◌>>=◌, Taken, run}
use Rattle.grammar.specs.Run.{run_bind}
use Rattle.grammar.specs.Widths.{run_moves}
use Rattle.grammar.specs.Values.{Always, always_bind, always_run, anything, always_anything}
use Rattle.tables.specs.Standard.{Table, B2a, B2b, B2c, B2d, rows_of, sblimit, chosen, limit_of}
use Rattle.tables.specs.Source.{source_row_of, width_of}
use Rattle.tables.specs.Differences.{number_of, table_of}
use Rattle.tables.specs.Laws.{width≤4}
use Rattle.header.specs.declared.Format.{Format}
use Rattle.side.specs.Bands.{bands, pair_of}
use Rattle.side.specs.Side.{Side, cut_of, allocation_of, allocation_band_of, allocations_of, side_of}
use Rattle.codes.specs.Frame.{granule_of, granules_of, frame_of}
use Rattle.codes.specs.Values.{All}
use Rattle.frame.specs.Frame.{codes_in, granules_at}

-- ---- twelve granules

pub granules_many : (side : Side) (bound limit n : ℕ) → Always (λ gs. length gs ≡ n) (granules_of side bound limit n)
unfolding granules_of Always
granules_many side bound limit zero = refl
granules_many side bound limit (suc n) =
    always_bind (λ gs. length gs ≡ n) (λ gs. length gs ≡ suc n) (granules_of side bound limit n) _ (granules_many side bound limit n)
    (λ gs h. always_bind anything (λ gs. length gs ≡ suc n) (granule_of side (n / 4) bound limit) _ (always_anything (granule_of side (n / 4) bound limit))
    (λ x _. length-append gs (x ∷ []) ∙ omega arith))

pub frame_many : (mono : Bool) (table bound limit : ℕ) → Always (λ gs. length gs ≡ 12) (frame_of mono table bound limit)
unfolding frame_of
frame_many mono table bound limit =
    always_bind anything (λ gs. length gs ≡ 12) (side_of mono table bound limit) _ (always_anything (side_of mono table bound limit))
    (λ side _. granules_many side bound limit 12)

module _ (P : List ℤ → Type 0) where
  all_at : (gs : List (List ℤ)) → All P gs → (i : ℕ) → i < length gs → P (get_or gs i [])
  unfolding All
  all_at [] p i l = absurd (omega arith)
  all_at (g ∷ gs) p zero l = p.0
  all_at (g ∷ gs) p (suc i) l = all_at gs p.1 i (omega arith)

  -- what holds of each granule holds of that of slot n
  pub granule_always : (s : List ℕ) (r : Reader) (f : Format) → Always (All P) (codes_in f) → (n : ℕ) → n < 36
      → P (get_or (granules_at s r f).value (n / 3) [])
  unfolding granules_at codes_in
  granule_always s r f each n l =
      let many = always_run (λ gs. length gs ≡ 12) (codes_in f) s r (frame_many _ _ _ _) in
      all_at _ (always_run (All P) (codes_in f) s r each) (n / 3) (omega arith)

-- ---- 16 bits

wide : (t : Table) → T (upto (λ sb. leb 2 (width_of (number_of t) sb)) (sblimit t))
unfolding width_of source_row_of rows_of sblimit
wide B2a = tt
wide B2b = tt
wide B2c = tt
wide B2d = tt

eight : (t : Table) → 8 ≤ sblimit t
unfolding rows_of sblimit
eight B2a = lit≤ tt
eight B2b = lit≤ tt
eight B2c = lit≤ tt
eight B2d = lit≤ tt

-- a reading moves at least as far as its first part
first_part : {A B : Type 0} (m : Reads A) (f : A → Reads B) (s : List ℕ) (r : Reader) (n : ℕ)
    → n ≤ (run m s r).next.at.0 → n ≤ (run (m >>= f) s r).next.at.0
first_part m f s r n h =
    rw (run_bind m f s r) (let g = run_moves (f (run m s r).value) s (run m s r).next in omega arith)

-- the allocation of a subband, where 4 bits are left
module _ (s : List ℕ) (table bound sb : ℕ) (quant : List ℕ) (r : Reader) (wide : 2 ≤ width_of table sb) (h : Enough s r 4) where
  one_least : r.at.0 + 2 ≤ (run (allocation_of table sb sb quant) s r).next.at.0
  unfolding allocation_of run
  one_least =
      let e : Enough s r (width_of table sb) = record { short = h.short; near = h.near; enough = omega (arith, width≤4 table sb) } in
      rw (field_whole s r (width_of table sb) e (omega (arith, width≤4 table sb))) (omega arith)

  band_least : r.at.0 + 2 ≤ (run (allocation_band_of table bound sb quant) s r).next.at.0
  unfolding allocation_band_of pair_of
  band_least = first_part (allocation_of table sb sb quant) _ s r (r.at.0 + 2) one_least

-- those of n subbands, where 19 bits are left: 2 bits each, or else 16 already
module _ (s : List ℕ) (table bound limit : ℕ) (quant : List ℕ) (r : Reader) (wide : (sb : ℕ) → sb < limit → 2 ≤ width_of table sb) (h : Enough s r 19) where
  abbrev after : ℕ → Taken (List ℕ)
  after n = run (allocations_of table bound n quant) s r

  bands_more : (n : ℕ) → n < limit → r.at.0 + min (2 * n) 16 ≤ (after n).next.at.0
      → r.at.0 + min (2 * suc n) 16 ≤ (run (allocations_of table bound n quant >>= allocation_band_of table bound n) s r).next.at.0
  bands_more n l sofar = go (ltb (after n).next.at.0 (r.at.0 + 16)) refl
    where
      go : (t : Bool) → ltb (after n).next.at.0 (r.at.0 + 16) ≡ t
          → r.at.0 + min (2 * suc n) 16 ≤ (run (allocations_of table bound n quant >>= allocation_band_of table bound n) s r).next.at.0
      go true e =
          let b : (after n).next.at.0 < r.at.0 + 16 = ltb-true _ _ e in
          let more : Enough s (after n).next 4 = record { short = h.short; near = omega arith; enough = omega arith } in
          rw (run_bind (allocations_of table bound n quant) (allocation_band_of table bound n) s r)
          (omega (arith, band_least s table bound n (after n).value (after n).next (wide n l) more))
      go false e =
          let b : r.at.0 + 16 ≤ (after n).next.at.0 = ltb-false _ _ e in
          first_part (allocations_of table bound n quant) _ s r (r.at.0 + min (2 * suc n) 16) (omega arith)

  bands_least : (n : ℕ) → n ≤ limit → r.at.0 + min (2 * n) 16 ≤ (after n).next.at.0
  unfolding bands run
  bands_least zero l = omega arith
  bands_least (suc n) l = bands_more n l (bands_least n (omega arith))

sixteen : (p k x : ℕ) → 8 ≤ k → p + min (2 * k) 16 ≤ x → p + 16 ≤ x
sixteen p k x l h = omega arith

side_least : (s : List ℕ) (r : Reader) (mono : Bool) (t : Table) (bound : ℕ) → Enough s r 19
    → r.at.0 + 16 ≤ (run (side_of mono (number_of t) bound (sblimit t)) s r).next.at.0
unfolding side_of
side_least s r mono t bound h =
    first_part (allocations_of (number_of t) bound (sblimit t) _) _ s r _
    (sixteen _ _ _ (eight t)
    (bands_least s (number_of t) bound (sblimit t) _ r (λ sb l. leb→le _ _ (below _ (sblimit t) (wide t) sb l)) h (sblimit t) (omega arith)))

pub frame_uses_16_bits : (s : List ℕ) (r : Reader) (f : Format) → Enough s r 19 → r.at.0 + 16 ≤ (granules_at s r f).next.at.0
unfolding granules_at codes_in frame_of table_of limit_of
frame_uses_16_bits s r f h =
    let t = chosen (eqb f.mode 3) f.bitrate f.samplerate in
    first_part _ _ s r _ (side_least s r (eqb f.mode 3) t (cut_of f.bound (sblimit t)) h)
