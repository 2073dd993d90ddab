-- The port's program of reads and the standard's ask for the same fields, one after the other, and the port's samples are 01's formulas
-- over the standard's codes: with bounds that belong together, and over the standard's tables with the one listed entry replaced.
-- Assumes nothing.
use Prim.Native.Nat.{ℕ, zero, suc, ◌+◌, ◌*◌, ◌/◌, ◌%◌, ◌^◌, ◌≤◌, ◌<◌}
use Rattle.std.proofs.Math.Path.{◌≡◌, refl, sym, ap, subst}
use Rattle.std.proofs.Common.{ap₂, ◌∙◌, lt_of_lt_of_le, lt-ltb, le-ltb, ne_eqb, eqb→eq, ltb→lt, leb→le, length-set, pow_mono}
use Rattle.std.specs.Prelude.{Bool, cond, ◌&&◌, ◌||◌, T, ltb, leb, pos, get_or, replicate}
use Rattle.std.proofs.Math.Bool.{true, false}
use mathlib.Core.List.{List, [], ◌∷◌, ◌++◌}
use native.Mathlib.Omega.{arith}
use Rattle.std.proofs.Math.Dec.{eqb}
use Rattle.std.proofs.Math.IntN.{ℤ}
use Rattle.std.proofs.Math.ListN.{length, set, length-append}
use Rattle.std.proofs.lemmas.List.{length-replicate}
use Rattle.std.proofs.Math.Pow.{pow_pos}
use Rattle.std.proofs.Math.Seq.{get_or-set_same, get_or-set_other}
use Rattle.ground.specs.Entries.{entry}
use Rattle.ground.specs.Stores.{three}
use Rattle.ground.specs.Upto.{upto, below, below2, and_left, and_right, or_left}
use Rattle.buffer.specs.declared.Reader.{Reader}
use Rattle.grammar.specs.Reads.{Reads, done, ask, ◌>>=◌, taken, run}
use Rattle.grammar.specs.Run.{run_bind}
use Rattle.tables.specs.Standard.{Table, B2a, B2b, B2c, B2d, row_of, rows_of, sblimit, classes, quantisation_of, levels_of, code_bits_of, grouped_of}
use Rattle.tables.specs.Source.{step4, source_row_of, quantiser_of}
use Rattle.tables.specs.Differences.{number_of, same_width}
use Rattle.tables.specs.Laws.{width≤4, quantiser<18, sblimit≤30}
use Rattle.samples.specs.Sample.{factor_of}
use Rattle.side.specs.Bands.{bands, pair_of, channels_of, allocated_of}
use Rattle.side.specs.Side.{Side, allocation_of, allocation_band_of, allocations_of, selector_of, factors_of, side_of}
use Rattle.codes.specs.Frame.{singles_of, codes_of, three_samples_of, place_of, copied, sample_band_of, granule_of, granules_of, frame_of}
use Rattle.standard.specs.AudioData.{loop, place, allocated, allocation, shared_allocation, allocations, scfsi, scalefactors, each_allocated, Code, grouped, single, none, find, class_for, code, code_at, granule, granules, AudioFields, after_allocations, audio_data_by}
use Rattle.alike.specs.Related.{Related, related_run, related_cond, related_bind, related_assoc, related_done, related_made, related_below, related_both, related_two, related_one, Twin, twin_replicate, twin_set, twin_left}
use Rattle.alike.specs.Bound.{Bounds, for_single_channel, two_channels, bound_within}
use Rattle.alike.specs.Made.{code_digits, samples_at, shared, placed, own, band, made, made_from, made_by01}
use Rattle.alike.specs.Replaced.{replaced, taken_is_replaced}

abbrev channels : Bool → ℕ
channels mono = cond mono 1 2

-- ---- what goes through both channels, and what is there only where something is allocated

module _ {A B : Type 0} (P : A → B → Type 0) (at' : ℕ → ℕ → B → Reads B) (sb : ℕ) (l : sb < 32) where
  related_channels : (mono : Bool) (at : ℕ → A → Reads A)
      → ((ch : ℕ) → place ch sb % 32 ≡ sb → ch < channels mono → (xs : A) (ys : B) → P xs ys → Related P (at (place ch sb) xs) (at' ch sb ys))
      → (xs : A) (ys : B) → P xs ys → Related P (channels_of mono at sb xs) (loop 0 (channels mono) (λ ch. at' ch sb) ys)
  unfolding channels_of loop ◌>>=◌
  related_channels true at h xs ys p =
      related_one P P false (at sb) (at (sb + 32)) (λ x. x) (at' 0 sb ys) xs refl (h 0 (omega arith) (omega arith) xs ys p) (λ _ _ q. q)
  related_channels false at h xs ys p =
      related_two P P true (at sb) (at (sb + 32)) (λ x. x) (λ ch. at' ch sb) xs ys refl (h 0 (omega arith) (omega arith) xs ys p)
      (λ x y q. h 1 (omega arith) (omega arith) x y q)

related_allocated : {A B : Type 0} (Q : A → B → Type 0) (quant a : List ℕ) (one : ℕ → A → Reads A) (ch sb : ℕ) (read : B → Reads B) (xs : A) (ys : B)
    → let at = place ch sb in eqb (get_or quant at 0) 0 ≡ eqb (get_or a at 0) 0 → (eqb (get_or a at 0) 0 ≡ true → Q xs ys)
    → (eqb (get_or a at 0) 0 ≡ false → Related Q (one at xs) (read ys)) → Related Q (allocated_of quant one at xs) (allocated a ch sb read ys)
unfolding Related
related_allocated Q quant a one ch sb read xs ys e f g =
    let at = place ch sb in rw e (related_cond Q (eqb (get_or a at 0) 0) (done xs) (one at xs) (done ys) (read ys) f g)

-- ---- the quantiser that the source has for an allocation

zero_quantiser : (table sb : ℕ) → quantiser_of table sb 0 ≡ 0
unfolding quantiser_of
zero_quantiser table sb = eqb→eq _ _ (entry (λ row. eqb (get_or row 0 0) 0) [] step4 tt tt (source_row_of table sb % 16))

some_test : Table → ℕ → ℕ → Bool
some_test t sb v = (ltb 0 (quantiser_of (number_of t) sb v) || eqb v 0) || leb (2 ^ (row_of t sb).nbal) v

some_hold : (t : Table) → T (upto (λ (sb : ℕ). upto (some_test t sb) 16) (sblimit t))
unfolding some_test quantiser_of source_row_of row_of rows_of sblimit
some_hold B2a = tt
some_hold B2b = tt
some_hold B2c = tt
some_hold B2d = tt

-- what is allocated is so in both
same_zero : (t : Table) (sb v : ℕ) → sb < sblimit t → v < 2 ^ (row_of t sb).nbal → eqb (quantiser_of (number_of t) sb v) 0 ≡ eqb v 0
unfolding some_test
same_zero t sb zero h l = ap (λ (q : ℕ). eqb q 0) (zero_quantiser (number_of t) sb)
same_zero t sb (suc v) h l =
    let small : 2 ^ (row_of t sb).nbal ≤ 2 ^ 4 = pow_mono (rw (same_width t sb h) at (width≤4 (number_of t) sb)) in
    let q = quantiser_of (number_of t) sb (suc v) in
    let some : 0 < q =
    ltb→lt _ _
    (or_left (ltb 0 q) (eqb (suc v) 0)
    (or_left (ltb 0 q || eqb (suc v) 0) (leb (2 ^ (row_of t sb).nbal) (suc v))
    (below2 (some_test t) (sblimit t) 16 (some_hold t) sb (suc v) h (lt_of_lt_of_le l small))
    (λ k. let g : 2 ^ (row_of t sb).nbal ≤ suc v = leb→le _ _ k in omega arith))
    (λ k. let g : suc v ≡ 0 = eqb→eq _ _ k in omega arith)) in
    ne_eqb q 0 (λ e. omega arith) ∙ sym (ne_eqb (suc v) 0 (λ e. omega arith))

-- ---- the allocations

-- the source's quantiser for a field's value, at place i; in mono the second channel's places are the port's alone
Alloc : Bool → Table → ℕ → ℕ → ℕ → Type 0
Alloc mono t i q v = (mono ≡ true → i < 32) → (q ≡ quantiser_of (number_of t) (i % 32) v) × (v < 2 ^ (row_of t (i % 32)).nbal)

Allocs : Bool → Table → List ℕ → List ℕ → Type 0
Allocs mono t = Twin 0 0 (Alloc mono t)

module _ (t : Table) where
  allocation_related : (mono : Bool) (ch sb : ℕ) → sb < sblimit t → place ch sb % 32 ≡ sb → (xs ys : List ℕ) → Allocs mono t xs ys
      → Related (Allocs mono t) (allocation_of (number_of t) sb (place ch sb) xs) (allocation t ch sb ys)
  unfolding allocation_of allocation Related Allocs Alloc
  allocation_related mono ch sb h e xs ys p = (
    same_width t sb h,
    λ v l.
        twin_set 0 0 (Alloc mono t) xs ys p (place ch sb) (quantiser_of (number_of t) sb v) v
        (λ _. (
          ap (λ (k : ℕ). quantiser_of (number_of t) k v) (sym e),
          subst (λ (k : ℕ). v < 2 ^ (row_of t k).nbal) (sym e) (rw (same_width t sb h) at l),
        )),
  )

  -- a subband below the standard's bound, and one from it up
  allocation_below : {mono : Bool} {b b' : ℕ} → Bounds t mono b b' → (sb : ℕ) → sb < b' → (xs ys : List ℕ) → Allocs mono t xs ys
      → Related (Allocs mono t) (allocation_band_of (number_of t) b sb xs) (loop 0 (channels mono) (λ ch. allocation t ch sb) ys)
  unfolding allocation_band_of Allocs Alloc loop ◌>>=◌
  allocation_below for_single_channel sb h xs ys p =
      let w = sblimit≤30 t in
      related_one (Allocs true t) (Allocs true t) (ltb sb 0) _ _ _ (allocation t 0 sb ys) xs (le-ltb sb 0 (omega arith))
      (allocation_related true 0 sb h (omega arith) xs ys p)
      (λ x y q. twin_left 0 0 (Alloc true t) x y q (sb + 32) (get_or x sb 0) (λ _ u. absurd (let z = u refl in omega arith)))
  allocation_below (two_channels b l) sb h xs ys p =
      let w = sblimit≤30 t in
      related_two (Allocs false t) (Allocs false t) (ltb sb b) _ _ _ (λ ch. allocation t ch sb) xs ys (lt-ltb _ _ h)
      (allocation_related false 0 sb (omega arith) (omega arith) xs ys p) (λ x y q. allocation_related false 1 sb (omega arith) (omega arith) x y q)

  allocation_above : {mono : Bool} {b b' : ℕ} → Bounds t mono b b' → (sb : ℕ) → b' ≤ sb → sb < sblimit t → (xs ys : List ℕ) → Allocs mono t xs ys
      → Related (Allocs mono t) (allocation_band_of (number_of t) b sb xs) (shared_allocation t sb ys)
  unfolding allocation_band_of shared_allocation Allocs Alloc pair_of Related
  allocation_above for_single_channel sb h l xs ys p = absurd (omega arith)
  allocation_above (two_channels b m) sb h l xs ys p =
      let w = sblimit≤30 t in
      let low : sb % 32 ≡ sb = omega arith in
      let high : (sb + 32) % 32 ≡ sb = omega arith in
      rw (le-ltb sb b h)
      (related_bind (Allocs false t) (Allocs false t) (allocation_of (number_of t) sb sb xs) (allocation t 0 sb ys) _ _
      (allocation_related false 0 sb l low xs ys p)
      (λ x y q. twin_set 0 0 (Alloc false t) x y q (sb + 32) (get_or x sb 0) (get_or y sb 0)
      (λ _. subst (λ (k : ℕ). (get_or x sb 0 ≡ quantiser_of (number_of t) k (get_or y sb 0)) × (get_or y sb 0 < 2 ^ (row_of t k).nbal)) (low ∙ sym high)
      (q.each sb (λ _. omega arith)))))

  allocations_related : {mono : Bool} {b b' : ℕ} → Bounds t mono b b'
      → Related (Allocs mono t) (allocations_of (number_of t) b (sblimit t) (replicate 64 0)) (allocations t (channels mono) b')
  unfolding allocations Allocs Alloc
  allocations_related {mono} {b} {b'} w =
      related_both (λ _. Allocs mono t) (allocation_band_of (number_of t) b) _ (shared_allocation t) b' (sblimit t)
      (allocation_below w) (allocation_above w) (replicate 64 0) (replicate 64 0)
      (twin_replicate 0 0 (Alloc mono t) (λ i _. (sym (zero_quantiser (number_of t) (i % 32)), pow_pos _)) 64) (bound_within w)

  -- ---- the selectors, the scale factors

  module _ (mono : Bool) (quant a : List ℕ) (both : Allocs mono t quant a) where
    -- the places that the standard reads
    used : (ch sb : ℕ) → sb < sblimit t → ch < channels mono → mono ≡ true → place ch sb < 32
    used zero sb h l e = omega (arith, sblimit≤30 t)
    used (suc ch) sb h l e = absurd (let z : suc ch < 1 = rw e at l in omega arith)

    -- what is allocated is so in both, place by place
    same_allocated : (ch sb : ℕ) → sb < sblimit t → place ch sb % 32 ≡ sb → ch < channels mono
        → eqb (get_or quant (place ch sb) 0) 0 ≡ eqb (get_or a (place ch sb) 0) 0
    unfolding Allocs Alloc
    same_allocated ch sb h e l =
        let at = place ch sb in
        let x = both.each at (used ch sb h l) in
        ap (λ (q : ℕ). eqb q 0) x.0 ∙ same_zero t (at % 32) (get_or a at 0) (omega arith) x.1

    each_related : {A B : Type 0} (P : A → B → Type 0) (one : ℕ → A → Reads A) (read : ℕ → ℕ → B → Reads B)
        → ((ch sb : ℕ) → place ch sb % 32 ≡ sb → (x : A) (y : B) → P x y → Related P (one (place ch sb) x) (read ch sb y))
        → (xs : A) (ys : B) → P xs ys → Related P (bands (channels_of mono (allocated_of quant one)) (sblimit t) xs) (each_allocated t (channels mono) a read ys)
    unfolding each_allocated
    each_related P one read h =
        related_below (λ _. P) _ _ (sblimit t)
        (λ sb l. related_channels P (λ ch k. allocated a ch k (read ch k)) sb (omega (arith, sblimit≤30 t)) mono (allocated_of quant one)
        (λ ch e m x y q. related_allocated P quant a one ch sb (read ch sb) x y (same_allocated ch sb l e m) (λ _. q) (λ _. h ch sb e x y q)))
        (sblimit t) (omega arith)

    selectors_related : Related ◌≡◌ (bands (channels_of mono (allocated_of quant selector_of)) (sblimit t) (replicate 64 0))
        (each_allocated t (channels mono) a scfsi (replicate 64 0))
    unfolding selector_of scfsi Related
    selectors_related = each_related ◌≡◌ selector_of scfsi (λ ch sb _ x y q. (refl, λ v _. ap (λ z. set z (place ch sb) v) q)) _ _ refl

    Factors : List ℕ → List ℕ → Type 0
    Factors = Twin 0 63 (λ _ f v. f ≡ factor_of v)

    three_factors : (at x y z : ℕ) (xs ys : List ℕ) → Factors xs ys → Factors (three at (factor_of x) (factor_of y) (factor_of z) xs) (three at x y z ys)
    unfolding Factors
    three_factors at x y z xs ys p =
        let R : ℕ → ℕ → ℕ → Type 0 = λ _ f v. f ≡ factor_of v in
        twin_set 0 63 R _ _ (twin_set 0 63 R _ _ (twin_set 0 63 R xs ys p at (factor_of x) x refl) (at + 64) (factor_of y) y refl) (at + 128) (factor_of z) z refl

    factors_at : (selector ch sb : ℕ) (xs ys : List ℕ) → Factors xs ys
        → Related Factors (factors_of selector (place ch sb) xs) (scalefactors selector ch sb ys)
    unfolding factors_of scalefactors Related
    factors_at zero ch sb xs ys p = (refl, λ x _. (refl, λ y _. (refl, λ z _. three_factors (place ch sb) x y z xs ys p)))
    factors_at (suc zero) ch sb xs ys p = (refl, λ x _. (refl, λ y _. three_factors (place ch sb) x x y xs ys p))
    factors_at (suc (suc zero)) ch sb xs ys p = (refl, λ x _. three_factors (place ch sb) x x x xs ys p)
    factors_at (suc (suc (suc n))) ch sb xs ys p = (refl, λ x _. (refl, λ y _. three_factors (place ch sb) x y y xs ys p))

    factors_related : (selector c : List ℕ) → selector ≡ c
        → Related Factors (bands (channels_of mono (allocated_of quant (λ at. factors_of (get_or selector at 0) at))) (sblimit t) (replicate 192 0))
        (each_allocated t (channels mono) a (λ ch sb. scalefactors (get_or c (place ch sb) 0) ch sb) (replicate 192 63))
    unfolding Factors factor_of
    factors_related selector c same =
        each_related Factors (λ at. factors_of (get_or selector at 0) at) (λ ch sb. scalefactors (get_or c (place ch sb) 0) ch sb)
        (λ ch sb _ x y q. let at = place ch sb in
        subst (λ z. Related Factors (factors_of (get_or selector at 0) at x) (scalefactors (get_or z at 0) ch sb y)) same
        (factors_at (get_or selector at 0) ch sb x y q))
        (replicate 192 0) (replicate 192 63) (twin_replicate 0 63 (λ _ f v. f ≡ factor_of v) (λ _. refl) 192)

-- ---- the codes

-- a quantiser's row of Table B.4, found by its steps
class_test : ℕ → Bool
class_test q = eqb (quantisation_of q).samples (class_for (levels_of q)).samples && eqb (code_bits_of q) (class_for (levels_of q)).bits

class_holds : (q : ℕ) → q < 18 → T (class_test q)
unfolding class_test class_for find levels_of code_bits_of quantisation_of classes
class_holds q h = below class_test 18 tt q h

class_found : (q : ℕ) → q < 18 → (grouped_of q ≡ eqb (class_for (levels_of q)).samples 3) × (code_bits_of q ≡ (class_for (levels_of q)).bits)
unfolding class_test grouped_of
class_found q h =
    let a = eqb (quantisation_of q).samples (class_for (levels_of q)).samples in
    let b = eqb (code_bits_of q) (class_for (levels_of q)).bits in
    let e : (quantisation_of q).samples ≡ (class_for (levels_of q)).samples = eqb→eq _ _ (and_left a b (class_holds q h)) in
    (ap (λ (n : ℕ). eqb n 3) e, eqb→eq _ _ (and_right a b (class_holds q h)))

-- the three samples of a place, whatever Q says of them
samples_related : (Q : List ℤ → List Code → Type 0) (q factor ch sb : ℕ) (xs : List ℤ) (cs : List Code) → q < 18
    → let at = place ch sb in ((c : Code) → Q (samples_at (levels_of q) factor (code_digits (levels_of q) c) at xs) (set cs at c))
    → Related Q (three_samples_of q factor at xs) (code (class_for (levels_of q)) ch sb cs)
unfolding three_samples_of codes_of singles_of code Related ◌>>=◌
samples_related Q q factor ch sb xs cs h k =
    let f = class_found q h in rw (← f.0) (by (grouped_of q) f.1)
  where
    at : ℕ
    at = place ch sb

    by : (b : Bool) → code_bits_of q ≡ (class_for (levels_of q)).bits
        → Related Q (cond b (ask (code_bits_of q) λ v. done (code_digits (levels_of q) (grouped v))) (singles_of (code_bits_of q))
        >>= λ d. done (samples_at (levels_of q) factor d at xs))
        (cond b (ask (class_for (levels_of q)).bits λ v. done (set cs at (grouped v)))
        (ask (class_for (levels_of q)).bits λ x. ask (class_for (levels_of q)).bits λ y. ask (class_for (levels_of q)).bits λ z. done (set cs at (single x y z))))
    by true w = (w, λ v _. k (grouped v))
    by false w = (w, λ x _. (w, λ y _. (w, λ z _. k (single x y z))))

-- ---- a granule, over the tables with the listed entry replaced

-- what the standard's fields make
module _ (t : Table) (mono : Bool) (a f : List ℕ) (bound part : ℕ) where
  abbrev at_place : ℕ → ℕ → Code → List ℤ → List ℤ
  at_place = placed replaced t (channels mono) bound a f part

  abbrev so_far : List Code → ℕ → List ℤ
  so_far = made replaced t (channels mono) bound a f part

  Granule : ℕ → List ℤ → List Code → Type 0
  Granule n xs cs = (length cs ≡ 64) × (xs ≡ so_far cs n)

  -- channel 0 of a subband
  abbrev first_made : ℕ → List Code → List ℤ
  first_made sb ds = at_place 0 sb (get_or ds sb none) (so_far ds sb)

  First : ℕ → List ℤ → List Code → Type 0
  First sb ys ds = (length ds ≡ 64) × (ys ≡ first_made sb ds)

  -- the codes at a subband's places have no part in the subbands below it
  made_below : (cs : List Code) (at : ℕ) (c : Code) (n : ℕ) → n ≤ at % 32 → n ≤ 32 → so_far (set cs at c) n ≡ so_far cs n
  unfolding made
  made_below cs at c zero h l = refl
  made_below cs at c (suc n) h l =
      let left = get_or-set_other cs at n c none (λ e. omega arith) in
      let right = get_or-set_other cs at (n + 32) c none (λ e. omega arith) in
      rw (left, right, made_below cs at c n (omega arith) (omega arith))

  -- the port's copy, where channel 1 has no codes of its own
  copy_related : (sb : ℕ) → own replaced t (channels mono) bound a f part sb ≡ false → (ys : List ℤ) (ds : List Code) → First sb ys ds
      → Granule (suc sb) (copied sb ys) ds
  unfolding First Granule made band copied
  copy_related sb e ys ds m = (m.0, rw e (ap (shared sb) m.1))

module _ (t : Table) (mono : Bool) (quant a : List ℕ) (both : Allocs mono t quant a) (factor f : List ℕ)
    (fs : Twin 0 63 (λ _ x v. x ≡ factor_of v) factor f) (part : ℕ) where
  abbrev side : Side
  side = record { quant = quant; factor = factor }

  same_levels : (ch sb : ℕ) → sb < sblimit t → place ch sb % 32 ≡ sb → ch < channels mono
      → levels_of (get_or quant (place ch sb) 0) ≡ replaced t sb (get_or a (place ch sb) 0)
  unfolding Allocs Alloc
  same_levels ch sb h e l =
      let at = place ch sb in
      let x = both.each at (used t mono quant a both ch sb h l) in
      ap levels_of x.0
      ∙ taken_is_replaced t (at % 32) (get_or a at 0) (omega arith) x.1
      ∙ ap (λ (k : ℕ). replaced t k (get_or a at 0)) e

  few_quantisers : (ch sb : ℕ) → sb < sblimit t → ch < channels mono → get_or quant (place ch sb) 0 < 18
  unfolding Allocs Alloc
  few_quantisers ch sb h l =
      let at = place ch sb in
      subst (λ (q : ℕ). q < 18) (sym (both.each at (used t mono quant a both ch sb h l)).0) (quantiser<18 (number_of t) (at % 32) (get_or a at 0))

  module _ (bound : ℕ) where
    -- a place: what stood there before is made of the codes so far, and a code at this place has no part in it
    place_related : (ch sb : ℕ) → sb < sblimit t → place ch sb % 32 ≡ sb → place ch sb < 64 → ch < channels mono
        → (base : List Code → List ℤ) (xs : List ℤ) (cs : List Code)
        → length cs ≡ 64 → xs ≡ base cs → ((c : Code) → base (set cs (place ch sb) c) ≡ base cs)
        → Related (λ ys ds. (length ds ≡ 64) × (ys ≡ at_place t mono a f bound part ch sb (get_or ds (place ch sb) none) (base ds)))
        (place_of side part (place ch sb) xs) (code_at replaced t a ch sb cs)
    unfolding place_of code_at placed
    place_related ch sb h e l m base xs cs long is apart =
        let at = place ch sb in
        let Q : List ℤ → List Code → Type 0 = λ ys ds. (length ds ≡ 64) × (ys ≡ at_place t mono a f bound part ch sb (get_or ds at none) (base ds)) in
        related_allocated Q quant a (λ k. three_samples_of (get_or quant k 0) (get_or factor (part * 64 + k) 0) k) ch sb
        (code (class_for (replaced t sb (get_or a at 0))) ch sb) xs cs
        (same_allocated t mono quant a both ch sb h e m)
        (λ z. (long, simp z is))
        (λ z. subst
        (λ (n : ℕ). ((c : Code) → Q (samples_at n (get_or factor (part * 64 + at) 0) (code_digits n c) at xs) (set cs at c))
        → Related Q (three_samples_of (get_or quant at 0) (get_or factor (part * 64 + at) 0) at xs) (code (class_for n) ch sb cs))
        (same_levels ch sb h e m) (samples_related Q (get_or quant at 0) (get_or factor (part * 64 + at) 0) ch sb xs cs (few_quantisers ch sb h m))
        (λ c. (length-set cs at c ∙ long, rw (z, get_or-set_same cs at c none (omega arith), apart c, ← is, fs.each (part * 64 + at)))))

    first_related : (sb : ℕ) → sb < sblimit t → (xs : List ℤ) (cs : List Code) → Granule t mono a f bound part sb xs cs
        → Related (First t mono a f bound part sb) (place_of side part sb xs) (code_at replaced t a 0 sb cs)
    unfolding Granule First
    first_related sb h xs cs g =
        let z = sblimit≤30 t in
        place_related 0 sb h (omega arith) (omega arith) (some mono) (λ ds. so_far t mono a f bound part ds sb) xs cs g.0 g.1
        (λ c. made_below t mono a f bound part cs sb c sb (omega arith) (omega arith))
      where
        some : (m : Bool) → 0 < channels m
        some true = omega arith
        some false = omega arith

-- channel 1 of a subband that has it
second_related : (t : Table) (quant a : List ℕ) (both : Allocs false t quant a) (factor f : List ℕ) (fs : Twin 0 63 (λ _ x v. x ≡ factor_of v) factor f)
    (part b sb : ℕ) → sb < b → sb < sblimit t → (ys : List ℤ) (ds : List Code) → First t false a f b part sb ys ds
    → Related (Granule t false a f b part (suc sb)) (place_of (record { quant = quant; factor = factor }) part (sb + 32) ys) (code_at replaced t a 1 sb ds)
unfolding First Granule made band
second_related t quant a both factor f fs part b sb h k ys ds m =
    let z = sblimit≤30 t in
    let left = first_made t false a f b part sb in
    subst
    (λ (o : Bool). Related
    (λ zs es. (length es ≡ 64) × (zs ≡ cond o (at_place t false a f b part 1 sb (get_or es (sb + 32) none) (left es)) (shared sb (left es))))
    (place_of (record { quant = quant; factor = factor }) part (sb + 32) ys) (code_at replaced t a 1 sb ds))
    (sym (lt-ltb sb b h))
    (place_related t false quant a both factor f fs part b 1 sb k (omega arith) (omega arith) (omega arith) left ys ds m.0 m.1
    (λ c. rw (
      get_or-set_other ds (sb + 32) sb c none (λ e. omega arith),
      made_below t false a f b part ds (sb + 32) c sb (omega arith) (omega arith),
    )))

-- a subband below the standard's bound, and one from it up
band_below : {t : Table} {mono : Bool} {b b' : ℕ} → Bounds t mono b b' → (quant a : List ℕ) → Allocs mono t quant a → (factor f : List ℕ)
    → Twin 0 63 (λ _ x v. x ≡ factor_of v) factor f → (part sb : ℕ) → sb < b' → (xs : List ℤ) (cs : List Code) → Granule t mono a f b' part sb xs cs
    → Related (Granule t mono a f b' part (suc sb)) (sample_band_of (record { quant = quant; factor = factor }) part b sb xs)
    (loop 0 (channels mono) (λ ch. code_at replaced t a ch sb) cs)
unfolding sample_band_of loop ◌>>=◌
band_below {t} for_single_channel quant a both factor f fs part sb h xs cs g =
    related_one (First t true a f (sblimit t) part sb) _ (ltb sb 0) _ _ (copied sb) (code_at replaced t a 0 sb cs) xs (le-ltb sb 0 (omega arith))
    (first_related t true quant a both factor f fs part (sblimit t) sb h xs cs g) (copy_related t true a f (sblimit t) part sb refl)
band_below {t} (two_channels b l) quant a both factor f fs part sb h xs cs g =
    related_two (First t false a f b part sb) _ (ltb sb b) _ _ (copied sb) (λ ch. code_at replaced t a ch sb) xs cs (lt-ltb _ _ h)
    (first_related t false quant a both factor f fs part b sb (omega arith) xs cs g)
    (second_related t quant a both factor f fs part b sb h (omega arith))

band_above : {t : Table} {mono : Bool} {b b' : ℕ} → Bounds t mono b b' → (quant a : List ℕ) → Allocs mono t quant a → (factor f : List ℕ)
    → Twin 0 63 (λ _ x v. x ≡ factor_of v) factor f → (part sb : ℕ) → b' ≤ sb → sb < sblimit t → (xs : List ℤ) (cs : List Code)
    → Granule t mono a f b' part sb xs cs
    → Related (Granule t mono a f b' part (suc sb)) (sample_band_of (record { quant = quant; factor = factor }) part b sb xs) (code_at replaced t a 0 sb cs)
unfolding sample_band_of
band_above for_single_channel quant a both factor f fs part sb h l xs cs g = absurd (omega arith)
band_above {t} (two_channels b m) quant a both factor f fs part sb h l xs cs g =
    related_one (First t false a f b part sb) _ (ltb sb b) _ _ (copied sb) (code_at replaced t a 0 sb cs) xs (le-ltb sb b h)
    (first_related t false quant a both factor f fs part b sb l xs cs g) (copy_related t false a f b part sb (le-ltb sb b h))

granule_related : {t : Table} {mono : Bool} {b b' : ℕ} → Bounds t mono b b' → (quant a : List ℕ) → Allocs mono t quant a → (factor f : List ℕ)
    → Twin 0 63 (λ _ x v. x ≡ factor_of v) factor f → (part : ℕ)
    → Related (Granule t mono a f b' part (sblimit t)) (granule_of (record { quant = quant; factor = factor }) part b (sblimit t))
    (granule replaced t (channels mono) b' a)
unfolding granule_of granule Granule made
granule_related {t} {mono} {b} {b'} w quant a both factor f fs part =
    related_both (Granule t mono a f b' part) (sample_band_of (record { quant = quant; factor = factor }) part b) _ _ b' (sblimit t)
    (band_below w quant a both factor f fs part) (band_above w quant a both factor f fs part)
    (replicate 192 (pos 0)) (replicate 64 none) (length-replicate 64 none, refl) (bound_within w)

-- ---- the granules, and the frame

module _ (t : Table) (channels bound : ℕ) (a f : List ℕ) where
  abbrev from : ℕ → List (List Code) → List (List ℤ)
  from = made_from replaced t channels bound a f

  abbrev whole : ℕ → List Code → List ℤ
  whole g x = made replaced t channels bound a f (g / 4) x (sblimit t)

  snoc : (g : ℕ) (xs : List (List Code)) (x : List Code) → from g (xs ++ (x ∷ [])) ≡ from g xs ++ (whole (g + length xs) x ∷ [])
  unfolding made_from
  snoc g [] x = ap (λ (k : ℕ). whole k x ∷ []) (omega arith)
  snoc g (y ∷ ys) x =
      let e : suc g + length ys ≡ g + suc (length ys) = omega arith in
      ap (λ zs. whole g y ∷ zs) (snoc (suc g) ys x ∙ ap (λ (k : ℕ). from (suc g) ys ++ (whole k x ∷ [])) e)

module _ (t : Table) (mono : Bool) (quant a : List ℕ) (both : Allocs mono t quant a) (factor f : List ℕ)
    (fs : Twin 0 63 (λ _ x v. x ≡ factor_of v) factor f) {b b' : ℕ} (w : Bounds t mono b b') where
  Made : ℕ → List (List ℤ) → List (List Code) → Type 0
  Made n xs cs = (length cs ≡ n) × (xs ≡ from t (channels mono) b' a f 0 cs)

  granules_related : (n : ℕ)
      → Related (Made n) (granules_of (record { quant = quant; factor = factor }) b (sblimit t) n) (granules replaced t (channels mono) b' a n)
  unfolding granules_of granules loop Made made_from Related Granule
  granules_related zero = (refl, refl)
  granules_related (suc g) =
      related_bind (Made g) (Made (suc g)) _ _ _ _ (granules_related g)
      (λ xs cs m. related_bind (Granule t mono a f b' (g / 4) (sblimit t)) (Made (suc g)) _ _ _ _
      (granule_related w quant a both factor f fs (g / 4))
      (λ y ds q. (
        length-append cs (ds ∷ []) ∙ omega (arith, m.0),
        rw (m.1, q.1)
            (ap (λ (k : ℕ). from t (channels mono) b' a f 0 cs ++ (whole t (channels mono) b' a f k ds ∷ [])) (omega (arith, m.0))
            ∙ sym (snoc t (channels mono) b' a f 0 cs ds)),
      )))

-- what the port reads after the allocations
abbrev rest : Bool → ℕ → ℕ → List ℕ → Reads Side
rest mono bound limit quant =
    bands (channels_of mono (allocated_of quant selector_of)) limit (replicate 64 0) >>= λ selector.
    bands (channels_of mono (allocated_of quant (λ at. factors_of (get_or selector at 0) at))) limit (replicate 192 0) >>= λ factor.
    done (record { quant = quant; factor = factor })

rest_related : (t : Table) (mono : Bool) {b b' : ℕ} (w : Bounds t mono b b') (quant a : List ℕ) → Allocs mono t quant a
    → Related (λ xs x. xs ≡ made_by01 replaced t (channels mono) b' x) (rest mono b (sblimit t) quant >>= λ side. granules_of side b (sblimit t) 12)
    (after_allocations replaced t (channels mono) b' a)
unfolding after_allocations made_by01 Factors Made Related
rest_related t mono {b} {b'} w quant a both =
    let Q : List (List ℤ) → AudioFields → Type 0 = λ xs x. xs ≡ made_by01 replaced t (channels mono) b' x in
    related_assoc Q _ _ _ _
    (related_bind ◌≡◌ Q _ _ _ _ (selectors_related t mono quant a both)
    (λ selector c e. related_assoc Q _ _ _ _
    (related_bind (Factors t mono quant a both) Q _ _ _ _ (factors_related t mono quant a both selector c e)
    (λ factor f fs. related_done Q (record { quant = quant; factor = factor }) (λ side. granules_of side b (sblimit t) 12) _
    (related_made (Made t mono quant a both factor f fs w 12) Q
    (λ g. record { allocation = a; scfsi = c; scalefactor = f; codes = g })
    (granules_of (record { quant = quant; factor = factor }) b (sblimit t) 12) (granules replaced t (channels mono) b' a 12)
    (granules_related t mono quant a both factor f fs w 12) (λ xs cs m. m.1))))))

-- The frame of the standard, read by the port: to the same bit, and 01's formulas over the standard's fields and codes
pub frame_by_bounds : (t : Table) {mono : Bool} {b b' : ℕ} → Bounds t mono b b' → (s : List ℕ) (r : Reader)
    → let x = run (audio_data_by replaced t (cond mono 1 2) b') s r in
    run (frame_of mono (number_of t) b (sblimit t)) s r ≡ taken (made_by01 replaced t (cond mono 1 2) b' x.value) x.next
unfolding audio_data_by frame_of side_of
frame_by_bounds t {mono} {b} {b'} w s r =
    let port = allocations_of (number_of t) b (sblimit t) (replicate 64 0) in
    let ours = run port s r in
    let theirs = run (allocations t (channels mono) b') s r in
    let granular : Side → Reads (List (List ℤ)) = λ side. granules_of side b (sblimit t) 12 in
    let after = after_allocations replaced t (channels mono) b' theirs.value in
    let first = related_run (Allocs mono t) port (allocations t (channels mono) b') (allocations_related t w) s r in
    let second = related_run (λ xs x. xs ≡ made_by01 replaced t (channels mono) b' x) (rest mono b (sblimit t) ours.value >>= granular) after
    (rest_related t mono w ours.value theirs.value first.value) s ours.next in
    let on : run after s ours.next ≡ run (audio_data_by replaced t (channels mono) b') s r =
    ap (run after s) first.next ∙ sym (run_bind (allocations t (channels mono) b') (after_allocations replaced t (channels mono) b') s r) in
    run_bind _ granular s r
    ∙ ap (λ z. run (granular z.value) s z.next) (run_bind _ (rest mono b (sblimit t)) s r)
    ∙ sym (run_bind (rest mono b (sblimit t) ours.value) granular s ours.next)
    ∙ ap₂ taken (second.value ∙ ap (λ z. made_by01 replaced t (channels mono) b' z.value) on) (second.next ∙ ap (λ z. z.next) on)
