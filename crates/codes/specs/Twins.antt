-- Where the bound is 0, as in mono, both channels of a granule have the same samples: from the bound up the right channel takes the
-- left's. From 01, "From a header to codes"; docs/DIFFERENCES.md, S10 ("Mono is written to both channels"). Assumes nothing.
use Rattle.std.specs.Prelude.{ℕ, zero, suc, ◌+◌, ◌*◌, ◌/◌, ◌%◌, ◌≤◌, ◌<◌, ◌≡◌, refl, Bool, List, [], ◌∷◌, ◌++◌, ℤ, pos, get_or, set, replicate}
use Rattle.std.proofs.Math.Path.{sym}
use Rattle.std.proofs.Common.{ap, ◌∙◌, arith, length-set, get_or-set_other, le-ltb}
use Rattle.std.proofs.Math.ListN.{length}
use Rattle.std.proofs.lemmas.List.{length-replicate, get_or-replicate}
use Rattle.grammar.specs.Values.{Always, always_bind, anything, always_anything}
use Rattle.ground.specs.Stores.{three, length_three, three_either}
use Rattle.side.specs.Bands.{pair_of}
use Rattle.side.specs.Side.{Side, side_of}
use Rattle.side.specs.Values.{bands_always, allocated_always}
use Rattle.codes.specs.Frame.{codes_of, three_samples_of as three_of, place_of, copied, sample_band_of, granule_of, granules_of, frame_of}
use Rattle.codes.specs.Values.{All}

-- 192 of them, the right channel's equal to the left's, but for one band, or for none where it is 32
pub record Twins (apart : ℕ) (xs : List ℤ) : Type 0 where
  pub many : length xs ≡ 192
  pub same : (i : ℕ) → i < 192 → i % 64 < 32 → (i % 64 ≡ apart → ⊥) → get_or xs i (pos 0) ≡ get_or xs (i + 32) (pos 0)

module _ (sb : ℕ) (low : sb < 32) where
  set_twins : (xs : List ℤ) (place : ℕ) (v : ℤ) → place % 32 ≡ sb → Twins sb xs → Twins sb (set xs place v)
  set_twins xs place v is t =
      record {
        many = length-set xs place v ∙ t.many;
        same = λ i l left other.
            get_or-set_other xs place i v (pos 0) (λ e. other (omega arith)) ∙ t.same i l left other
            ∙ sym (get_or-set_other xs place (i + 32) v (pos 0) (λ e. other (omega arith)));
      }

  three_twins : (place : ℕ) (x y z : ℤ) (xs : List ℤ) → place % 32 ≡ sb → Twins sb xs → Twins sb (three place x y z xs)
  three_twins place x y z xs is t =
      set_twins _ (place + 128) z (omega arith) (set_twins _ (place + 64) y (omega arith) (set_twins xs place x is t))

  -- the left channel's code leaves one band apart
  place_twins : (side : Side) (part : ℕ) (xs : List ℤ) → Twins 32 xs → Always (Twins sb) (place_of side part sb xs)
  unfolding place_of three_of Always
  place_twins side part xs t =
      allocated_always (Twins sb) side.quant (λ k. three_of (get_or side.quant k 0) (get_or side.factor (part * 64 + k) 0) k) sb
      (λ _ ys u. always_bind anything (Twins sb) (codes_of (get_or side.quant sb 0)) _ (always_anything (codes_of (get_or side.quant sb 0)))
      (λ c _. three_twins sb _ _ _ ys (omega arith) u))
      xs (record { many = t.many; same = λ i l left _. t.same i l left (λ e. omega arith) })

  -- and its copy puts that right
  copied_twins : (xs : List ℤ) → Twins sb xs → Twins 32 (copied sb xs)
  unfolding copied
  copied_twins xs t =
      record {
        many = length_three (pos 0) (sb + 32) _ _ _ xs ∙ t.many;
        same = λ i l left _.
            three_either (pos 0) (sb + 32) _ _ _ xs room i (get_or xs i (pos 0))
            (λ e. absurd (omega arith)) (λ e. absurd (omega arith)) (λ e. absurd (omega arith)) (λ _ _ _. refl)
            ∙ sym
            (three_either (pos 0) (sb + 32) _ _ _ xs room (i + 32) (get_or xs i (pos 0))
            (λ e. at sb i (omega arith)) (λ e. at (sb + 64) i (omega arith)) (λ e. at (sb + 128) i (omega arith))
            (λ a b c. sym (t.same i l left (λ e. omega arith))));
      }
    where
      room : sb + 32 + 128 < length xs
      room = omega (arith, t.many)

      at : (j k : ℕ) → j ≡ k → get_or xs j (pos 0) ≡ get_or xs k (pos 0)
      at j k e = ap (λ (n : ℕ). get_or xs n (pos 0)) e

  band_twins : (side : Side) (part : ℕ) (xs : List ℤ) → Twins 32 xs → Always (Twins 32) (sample_band_of side part 0 sb xs)
  unfolding sample_band_of pair_of Always
  band_twins side part xs t =
      always_bind (Twins sb) (Twins 32) (place_of side part sb xs) _ (place_twins side part xs t)
      (λ ys u. rw (le-ltb sb 0 (omega arith)) (copied_twins ys u))

granule_twins : (side : Side) (part limit : ℕ) → limit ≤ 32 → Always (Twins 32) (granule_of side part 0 limit)
unfolding granule_of
granule_twins side part limit l =
    bands_always (Twins 32) (sample_band_of side part 0) limit (λ sb h. band_twins sb (omega arith) side part) limit (omega arith) _ silence
  where
    silence : Twins 32 (replicate 192 (pos 0))
    silence =
        record {
          many = length-replicate 192 (pos 0);
          same = λ i h left _. get_or-replicate 192 i (pos 0) (pos 0) h ∙ sym (get_or-replicate 192 (i + 32) (pos 0) (pos 0) (omega arith));
        }

one_more : (gs : List (List ℤ)) (x : List ℤ) → All (Twins 32) gs → Twins 32 x → All (Twins 32) (gs ++ (x ∷ []))
unfolding All
one_more [] x p q = (q, tt)
one_more (g ∷ gs) x p q = (p.0, one_more gs x p.1 q)

granules_twins : (side : Side) (limit : ℕ) → limit ≤ 32 → (n : ℕ) → Always (All (Twins 32)) (granules_of side 0 limit n)
unfolding granules_of Always All
granules_twins side limit l zero = tt
granules_twins side limit l (suc n) =
    always_bind (All (Twins 32)) (All (Twins 32)) (granules_of side 0 limit n) _ (granules_twins side limit l n)
    (λ gs p. always_bind (Twins 32) (All (Twins 32)) (granule_of side (n / 4) 0 limit) _ (granule_twins side (n / 4) limit l)
    (λ x t. one_more gs x p t))

pub frame_twins : (mono : Bool) (table limit : ℕ) → limit ≤ 32 → Always (All (Twins 32)) (frame_of mono table 0 limit)
unfolding frame_of
frame_twins mono table limit l =
    always_bind anything (All (Twins 32)) (side_of mono table 0 limit) _ (always_anything (side_of mono table 0 limit))
    (λ side _. granules_twins side limit l 12)
