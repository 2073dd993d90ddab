-- Where the two channels' scale factors are equal, the port's copy is the standard's own reading: the definitions stand in specs/JointStereo.
-- Assumes nothing.
use Prim.Native.Nat.{ℕ, zero, suc, ◌+◌, ◌*◌, ◌/◌, ◌%◌, ◌≤◌, ◌<◌}
use Rattle.std.specs.Prelude.{◌≡◌, Bool, ◌&&◌, List, [], ◌∷◌, eqb, ℤ, pos, length}
use Rattle.std.proofs.Math.Path.{refl, ap}
use Rattle.std.proofs.Common.{sym, ap₂, ◌∙◌, arith, ext_get_or, ltb-false}
use Rattle.std.proofs.Math.Bool.{true, false, cond}
use Rattle.std.proofs.Math.Dec.{ltb}
use Rattle.std.proofs.Math.ListN.{get_or, length-replicate, get_or-replicate}
use Rattle.ground.specs.Tests.{by_test}
use Rattle.ground.specs.Stores.{three, length_three, three_either}
use Rattle.tables.specs.Standard.{Table, sblimit}
use Rattle.tables.specs.Laws.{sblimit≤30}
use Rattle.samples.specs.Sample.{factor_of}
use Rattle.standard.specs.AudioData.{Steps, place, AudioFields, Code, none}
use Rattle.alike.specs.Made.{code_digits, samples_at, shared, placed, band, made, made_from, made_by01}
use Rattle.alike.specs.JointStereo.{SameScale, own_band, own_made, own_made_from, made_by_own_factors}

-- from subband n up nothing is made yet
record Unmade (n : ℕ) (xs : List ℤ) : Type 0 where
  many : length xs ≡ 192
  rest : (i : ℕ) → i < 192 → n ≤ i % 32 → get_or xs i (pos 0) ≡ pos 0

three_unmade : (n at : ℕ) (x y z : ℤ) (xs : List ℤ) → at % 32 ≡ n → at < 64 → Unmade (suc n) xs → Unmade (suc n) (three at x y z xs)
three_unmade n at x y z xs e l u =
    record {
      many = length_three (pos 0) at x y z xs ∙ u.many;
      rest = λ i h up. three_either (pos 0) at x y z xs (omega (arith, u.many)) i (pos 0)
          (λ d. absurd (omega arith)) (λ d. absurd (omega arith)) (λ d. absurd (omega arith)) (λ _ _ _. u.rest i h up);
    }

-- the left's finished samples, copied: the second channel's own
copy_of_three : (sb : ℕ) (x y z : ℤ) (xs : List ℤ) → sb < 32 → length xs ≡ 192
    → shared sb (three sb x y z xs) ≡ three (sb + 32) x y z (three sb x y z xs)
copy_of_three sb x y z xs l many =
    let at : (i : ℕ) (w : ℤ) → (i ≡ sb → x ≡ w) → (i ≡ sb + 64 → y ≡ w) → (i ≡ sb + 128 → z ≡ w)
    → ((i ≡ sb → ⊥) → (i ≡ sb + 64 → ⊥) → (i ≡ sb + 128 → ⊥) → get_or xs i (pos 0) ≡ w) → get_or (three sb x y z xs) i (pos 0) ≡ w
    = three_either (pos 0) sb x y z xs (omega arith) in
    rw (
      at sb x (λ _. refl) (λ e. absurd (omega arith)) (λ e. absurd (omega arith)) (λ n _ _. absurd (n refl)),
      at (sb + 64) y (λ e. absurd (omega arith)) (λ _. refl) (λ e. absurd (omega arith)) (λ _ n _. absurd (n refl)),
      at (sb + 128) z (λ e. absurd (omega arith)) (λ e. absurd (omega arith)) (λ _. refl) (λ _ _ n. absurd (n refl)),
    )

-- and where nothing is allocated, silence over silence
copy_of_nothing : (sb : ℕ) (xs : List ℤ) → sb < 32 → Unmade sb xs → shared sb xs ≡ xs
copy_of_nothing sb xs l u =
    let silent : (i : ℕ) → i < 192 → sb ≤ i % 32 → get_or xs i (pos 0) ≡ pos 0 = u.rest in
    let zero_at : (i j : ℕ) → i < 192 → j ≡ i → sb ≤ i % 32 → pos 0 ≡ get_or xs j (pos 0) = λ i j h e up. sym (rw e (silent i h up)) in
    rw (silent sb (omega arith) (omega arith), silent (sb + 64) (omega arith) (omega arith), silent (sb + 128) (omega arith) (omega arith))
    (ext_get_or (pos 0) _ xs (length_three (pos 0) (sb + 32) (pos 0) (pos 0) (pos 0) xs)
    (λ i h. three_either (pos 0) (sb + 32) (pos 0) (pos 0) (pos 0) xs (omega (arith, u.many)) i (get_or xs i (pos 0))
    (λ e. zero_at (sb + 32) i (omega arith) e (omega arith)) (λ e. zero_at (sb + 32 + 64) i (omega arith) e (omega arith))
    (λ e. zero_at (sb + 32 + 128) i (omega arith) e (omega arith)) (λ _ _ _. refl)))

module _ (steps : Steps) (t : Table) (channels bound : ℕ) (a f : List ℕ) (part : ℕ) where
  abbrev at_place : ℕ → ℕ → Code → List ℤ → List ℤ
  at_place = placed steps t channels bound a f part

  -- a place leaves what is above its subband unmade
  placed_unmade : (ch sb : ℕ) (c : Code) (xs : List ℤ) → place ch sb % 32 ≡ sb → place ch sb < 64 → Unmade (suc sb) xs → Unmade (suc sb) (at_place ch sb c xs)
  unfolding placed
  placed_unmade ch sb c xs e l u =
      let n = steps t sb (get_or a (place ch sb) 0) in
      let made_here = samples_at n (factor_of (get_or f (part * 64 + place ch sb) 63)) (code_digits n c) (place ch sb) xs in
      by_test (Unmade (suc sb)) (eqb (get_or a (place ch sb) 0) 0) xs made_here (λ _. u) (λ _. three_unmade sb (place ch sb) _ _ _ xs e l u)

  band_unmade : (sb : ℕ) (left right : Code) (xs : List ℤ) → sb < 32 → Unmade sb xs → Unmade (suc sb) (own_band steps t channels bound a f part sb left right xs)
  unfolding own_band
  band_unmade sb left right xs l u =
      let v = placed_unmade 0 sb left xs (omega arith) (omega arith) (record { many = u.many; rest = λ i h up. u.rest i h (omega arith) }) in
      let first = at_place 0 sb left xs in
      by_test (Unmade (suc sb)) (eqb channels 2) (at_place 1 sb (cond (ltb sb bound) right left) first) (shared sb first)
      (λ _. placed_unmade 1 sb (cond (ltb sb bound) right left) first (omega arith) (omega arith) v)
      (λ _. three_unmade sb (sb + 32) _ _ _ first (omega arith) (omega arith) v)

  -- from the bound up: the copy is what the second channel's own scale factor makes
  copy_alike : (sb : ℕ) (c : Code) (xs : List ℤ) → sb < 32 → Unmade sb xs → SameScale a f part sb
      → shared sb (at_place 0 sb c xs) ≡ at_place 1 sb c (at_place 0 sb c xs)
  unfolding placed
  copy_alike sb c xs l u same = rw (same.allocation, same.scalefactor) (go (eqb (get_or a sb 0) 0))
    where
      go : (none : Bool)
          → let n = steps t sb (get_or a sb 0) in
          let here = samples_at n (factor_of (get_or f (part * 64 + sb) 63)) (code_digits n c) in
          let first = cond none xs (here sb xs) in shared sb first ≡ cond none first (here (sb + 32) first)
      go true = copy_of_nothing sb xs l u
      go false = copy_of_three sb _ _ _ xs l u.many

  band_alike : (sb : ℕ) (left right : Code) (xs : List ℤ) → sb < 32 → Unmade sb xs → (bound ≤ sb → SameScale a f part sb)
      → band steps t channels bound a f part sb left right xs ≡ own_band steps t channels bound a f part sb left right xs
  unfolding band own_band
  band_alike sb left right xs l u same = go (eqb channels 2) (ltb sb bound) refl
    where
      go : (two below : Bool) → ltb sb bound ≡ below
          → cond (two && below) (at_place 1 sb right (at_place 0 sb left xs)) (shared sb (at_place 0 sb left xs))
          ≡ cond two (at_place 1 sb (cond below right left) (at_place 0 sb left xs)) (shared sb (at_place 0 sb left xs))
      go false below e = refl
      go true true e = refl
      go true false e = copy_alike sb left xs l u (same (ltb-false sb bound e))

  granule_alike : (cs : List Code) (n : ℕ) → n ≤ 32 → ((sb : ℕ) → bound ≤ sb → sb < n → SameScale a f part sb)
      → (made steps t channels bound a f part cs n ≡ own_made steps t channels bound a f part cs n) × Unmade n (own_made steps t channels bound a f part cs n)
  unfolding made own_made
  granule_alike cs zero l same =
      (refl, record { many = length-replicate 192 (pos 0); rest = λ i h _. get_or-replicate 192 i (pos 0) (pos 0) h })
  granule_alike cs (suc n) l same =
      let before = granule_alike cs n (omega arith) (λ sb h k. same sb h (omega arith)) in
      let left = get_or cs (place 0 n) none in
      let right = get_or cs (place 1 n) none in (
        ap (band steps t channels bound a f part n left right) before.0
            ∙ band_alike n left right _ (omega arith) before.1 (λ h. same n h (omega arith)),
        band_unmade n left right _ (omega arith) before.1,
      )

-- where the scale factors of both channels are equal from the bound up, the source's frame is the standard's way
pub frame_alike : (steps : Steps) (t : Table) (channels bound : ℕ) (x : AudioFields)
    → ((part sb : ℕ) → bound ≤ sb → sb < sblimit t → SameScale x.allocation x.scalefactor part sb)
    → made_by01 steps t channels bound x ≡ made_by_own_factors steps t channels bound x
unfolding made_by01 made_by_own_factors made_from own_made_from
frame_alike steps t channels bound x same = go 0 x.codes
  where
    go : (g : ℕ) (cs : List (List Code))
        → made_from steps t channels bound x.allocation x.scalefactor g cs ≡ own_made_from steps t channels bound x.allocation x.scalefactor g cs
    go g [] = refl
    go g (c ∷ cs) =
        ap₂ ◌∷◌
        (granule_alike steps t channels bound x.allocation x.scalefactor (g / 4) c (sblimit t) (omega (arith, sblimit≤30 t)) (same (g / 4))).0
        (go (suc g) cs)
