-- What one line adds to a tally. Assumes nothing.
use Prim.Native.Nat.{ℕ, suc, ◌+◌, ◌≤◌, ◌<◌}
use mathlib.Core.Path.{◌≡◌, refl, ap, sym, ◌∙◌}
use mathlib.Core.Bool.{Bool, true, false, cond}
use mathlib.Core.List.{List, [], ◌∷◌, ◌++◌, flat_map, append_assoc, append-nil}
use native.Mathlib.Omega.{arith}
use lib.Dec.{eqb, ltb}
use lib.ListN.{length, get_or, set, length-append, length-set, get_or-eq_default}
use borrow.Author.Tests.{eq-eqb, ne_eqb, ltb-true, ltb-false}
use Rattle.ground.specs.Stores.{set_either}
use Rattle.ground.specs.Table.{table, length_table, at_table, is_table}
use Rattle.ground.specs.Tests.{by_test}
use Rattle.listing.specs.Tally.{rate_in_line, rates_in, bytes_of, bytes_in, end_or, end_from, end_in, skipped_in, junk_in}
use Rattle.listing.specs.declared.Line.{Line}
use Rattle.listing.specs.declared.Line.TheVariants.{Frame, Refused, End, Long}
use Rattle.tally.specs.Tally.{kept_of, keep_of, keep_at, junk_more, add_of, tally_of, Few}
use Rattle.tally.specs.declared.Kept.{Kept}
use Rattle.tally.specs.declared.Tally.{Tally}

abbrev none : Kept
none = kept_of []

flat_more : (f : Line → List ℕ) (xs : List Line) (x : Line) → flat_map f (xs ++ (x ∷ [])) ≡ flat_map f xs ++ f x
unfolding flat_map
flat_more f [] x = append-nil (f x)
flat_more f (y ∷ ys) x = ap (λ (more : List ℕ). f y ++ more) (flat_more f ys x) ∙ sym (append_assoc (f y) (flat_map f ys) (f x))

end_more : (before : ℕ) (xs : List Line) (x : Line) → end_from before (xs ++ (x ∷ [])) ≡ end_or x (end_from before xs)
unfolding end_from
end_more before [] x = refl
end_more before (y ∷ ys) x = end_more (end_or y before) ys x

junk_of_one : (x : Line) → junk_in (x ∷ []) ≡ skipped_in x
unfolding junk_in
junk_of_one (Frame number at rate kbps mode bits time skipped) = refl
junk_of_one (Refused number at skipped) = omega arith
junk_of_one (End number at skipped) = omega arith
junk_of_one Long = refl

counts_too : (k frames junk n : ℕ) → k + cond (eqb frames 0) (junk + n) junk ≡ cond (eqb frames 0) (k + junk + n) (k + junk)
counts_too k frames junk n = go (eqb frames 0)
  where
    go : (first : Bool) → k + cond first (junk + n) junk ≡ cond first (k + junk + n) (k + junk)
    go true = omega arith
    go false = refl

-- one line more counts where no frame stands before it
junk_one_more : (xs : List Line) (x : Line) → junk_in (xs ++ (x ∷ [])) ≡ junk_more (tally_of xs) (skipped_in x)
unfolding junk_in flat_map tally_of
junk_one_more [] x = omega (arith, junk_of_one x)
junk_one_more (Frame number at rate kbps mode bits time skipped ∷ ys) x = rw (ne_eqb (suc (length (rates_in ys))) 0 (λ e. omega arith))
junk_one_more (Refused number at skipped ∷ ys) x =
    ap (λ n. skipped + n) (junk_one_more ys x) ∙ counts_too skipped (length (rates_in ys)) (junk_in ys) (skipped_in x)
junk_one_more (End number at skipped ∷ ys) x =
    ap (λ n. skipped + n) (junk_one_more ys x) ∙ counts_too skipped (length (rates_in ys)) (junk_in ys) (skipped_in x)
junk_one_more (Long ∷ ys) x = junk_one_more ys x

none_more : (tally : Tally) → junk_more tally 0 ≡ tally.junk
none_more tally = by_test (λ n. n ≡ tally.junk) (eqb tally.frames.count 0) _ _ (λ _. omega arith) (λ _. refl)

pub junk_few : (xs : List Line) (x : Line) → junk_in (xs ++ (x ∷ [])) ≤ junk_in xs + skipped_in x
unfolding tally_of
junk_few xs x =
    rw (junk_one_more xs x)
    (by_test (λ n. n ≤ junk_in xs + skipped_in x) (eqb (length (rates_in xs)) 0) _ _ (λ _. omega arith) (λ _. omega arith))

kept_more : (values : List ℕ) (value : ℕ) → kept_of (values ++ (value ∷ [])) ≡ keep_of (kept_of values) value
kept_more [] value = refl
kept_more (v ∷ vs) value =
    let one : suc (length (vs ++ (value ∷ []))) ≡ suc (length vs) + 1 = omega (arith, length-append vs (value ∷ [])) in
    rw (ne_eqb (suc (length vs)) 0 (λ e. omega arith)) (ap {B = Kept} (λ (n : ℕ). record { count = n; first = v }) one)

same_table : (f g : ℕ → Kept) → ((n : ℕ) → n < 16 → f n ≡ g n) → table 16 f ≡ table 16 g
same_table f g same = is_table none 16 g (table 16 f) (length_table 16 f) (λ n l. at_table none 16 f n l ∙ same n l)

-- a line that is no refusal leaves them as they are
no_refusal : (xs : List Line) (x : Line) → ((n : ℕ) → bytes_of n x ≡ [])
    → table 16 (λ n. kept_of (bytes_in n (xs ++ (x ∷ [])))) ≡ table 16 (λ n. kept_of (bytes_in n xs))
no_refusal xs x e =
    same_table _ _ (λ n l. ap kept_of (flat_more (bytes_of n) xs x ∙ ap (λ (more : List ℕ). bytes_in n xs ++ more) (e n) ∙ append-nil (bytes_in n xs)))

module _ (xs : List Line) (number at : ℕ) where
  abbrev before : ℕ → Kept
  before n = kept_of (bytes_in n xs)

  abbrev after : ℕ → Kept
  after n = kept_of (bytes_in n xs ++ cond (eqb n number) (at ∷ []) [])

  other_kept : (n : ℕ) → (n ≡ number → ⊥) → before n ≡ after n
  other_kept n e = rw (ne_eqb n number e) (ap kept_of (sym (append-nil (bytes_in n xs))))

  one_kept : (n : ℕ) → n ≡ number → keep_of (before number) at ≡ after n
  one_kept n e = rw (e, eq-eqb number number refl) (sym (kept_more (bytes_in number xs) at))

  refusal_kept : keep_at (table 16 before) number at ≡ table 16 after
  refusal_kept =
      by_test (λ (refused : List Kept). refused ≡ table 16 after) (ltb number 16) _ _
      (λ t. let inside = ltb-true number 16 t in
      let kept : keep_of (get_or (table 16 before) number none) at ≡ keep_of (before number) at = ap (λ (k : Kept). keep_of k at) (at_table none 16 before number inside) in
      is_table none 16 after (set (table 16 before) number (keep_of (get_or (table 16 before) number none) at))
      (length-set (table 16 before) number _ ∙ length_table 16 before)
      (λ n l. set_either none (table 16 before) number n _ (after n) (omega (arith, length_table 16 before)) (λ e. kept ∙ one_kept n e)
      (λ e. at_table none 16 before n l ∙ other_kept n e)))
      (λ t. let outside = ltb-false number 16 t in same_table before after (λ n l. other_kept n (λ e. omega arith)))

pub added : (xs : List Line) (x : Line) → tally_of (xs ++ (x ∷ [])) ≡ add_of (tally_of xs) x
unfolding tally_of
added xs (Frame number at rate kbps mode bits time skipped) =
    let x = Frame number at rate kbps mode bits time skipped in
    rw (flat_more rate_in_line xs x, kept_more (rates_in xs) rate, no_refusal xs x (λ n. refl), end_more 0 xs x, junk_one_more xs x)
added xs (Refused number at skipped) =
    let x = Refused number at skipped in
    rw (flat_more rate_in_line xs x, append-nil (rates_in xs), end_more 0 xs x, junk_one_more xs x)
    (ap {B = Tally} (λ refused. record { frames = kept_of (rates_in xs); refused = refused; end = end_in xs; junk = junk_more (tally_of xs) skipped })
    (same_table _ _ (λ n l. ap kept_of (flat_more (bytes_of n) xs x)) ∙ sym (refusal_kept xs number at.0)))
added xs (End number at skipped) =
    let x = End number at skipped in
    rw (flat_more rate_in_line xs x, append-nil (rates_in xs), no_refusal xs x (λ n. refl), end_more 0 xs x, junk_one_more xs x)
added xs Long =
    rw (flat_more rate_in_line xs Long, append-nil (rates_in xs), no_refusal xs Long (λ n. refl), end_more 0 xs Long, junk_one_more xs Long ∙ none_more (tally_of xs))

-- ---- no more are counted than there are lines

one_at_most : (f : Line → List ℕ) → ((x : Line) → length (f x) ≤ 1) → (xs : List Line) → length (flat_map f xs) ≤ length xs
unfolding flat_map
one_at_most f one [] = omega arith
one_at_most f one (x ∷ xs) = omega (arith, length-append (f x) (flat_map f xs), one x, one_at_most f one xs)

one_rate : (x : Line) → length (rate_in_line x) ≤ 1
one_rate (Frame number at rate kbps mode bits time skipped) = omega arith
one_rate (Refused number at skipped) = omega arith
one_rate (End number at skipped) = omega arith
one_rate Long = omega arith

one_byte : (n : ℕ) (x : Line) → length (bytes_of n x) ≤ 1
one_byte n (Frame number at rate kbps mode bits time skipped) = omega arith
one_byte n (Refused number at skipped) =
    by_test (λ (bytes : List ℕ). length bytes ≤ 1) (eqb n number) _ _ (λ _. omega arith) (λ _. omega arith)
one_byte n (End number at skipped) = omega arith
one_byte n Long = omega arith

module _ (xs : List Line) (short : length xs < 100000) where
  abbrev kept : ℕ → Kept
  kept n = kept_of (bytes_in n xs)

  by_place : (n : ℕ) (t : Bool) → ltb n 16 ≡ t → (get_or (table 16 kept) n none).count < 100000
  by_place n true e = rw (at_table none 16 kept n (ltb-true n 16 e)) (omega (arith, one_at_most (bytes_of n) (one_byte n) xs))
  by_place n false e =
      let outside : length (table 16 kept) ≤ n = omega (arith, length_table 16 kept, ltb-false n 16 e) in
      rw (get_or-eq_default (table 16 kept) none outside) (omega arith)

  pub few : ((tally_of xs).frames.count < 100000) × Few (tally_of xs).refused
  unfolding tally_of
  few = (omega (arith, one_at_most rate_in_line one_rate xs), λ n. by_place n (ltb n 16) refl)
