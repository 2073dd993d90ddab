-- The parts of a summary, by what was counted. Assumes nothing.
use Prim.Native.Nat.{ℕ, zero, suc, ◌+◌, ◌-◌, ◌≤◌, ◌<◌}
use mathlib.Core.Path.{◌≡◌, ap, sym, refl, ◌∙◌}
use mathlib.Core.List.{List, [], ◌++◌, append_assoc, append-nil}
use native.Mathlib.Omega.{arith}
use native.Mathlib.Nat.{add-zero, zero-add}
use lib.ListN.{length, get_or}
use borrow.Author.Tests.{lt-ltb, le-ltb}
use Rattle.ground.specs.Table.{at_table}
use Rattle.readings.specs.declared.Reading.{Reading}
use Rattle.listing.specs.Lines.{lines_of}
use Rattle.listing.specs.Summary.{frames_text, junk_text, reason_text, refusal_text, refusals_text, lines_text, summary_of}
use Rattle.listing.specs.Tally.{bytes_in}
use Rattle.listing.specs.Text.{newline}
use Rattle.listing.specs.Words.{letters}
use Rattle.listing.specs.declared.Line.{Line}
use Rattle.tally.specs.Tally.{kept_of, tally_of}
use Rattle.tally.specs.declared.Kept.{Kept}
use Rattle.tally.specs.declared.Tally.{Tally}
use Rattle.summary.specs.Refusals.{refusals_by}

-- so many numbers, and then so many more
refusals_add : (refused : List Kept) (n some more : ℕ)
    → refusals_by refused n (some + more) ≡ refusals_by refused n some ++ refusals_by refused (n + some) more
unfolding refusals_by
refusals_add refused n zero more = rw (zero-add more, add-zero n)
refusals_add refused n (suc some) more =
    let kept = get_or refused n (kept_of []) in
    let this = refusal_text n kept.count kept.first in
    let e : suc some + more ≡ suc (some + more) = omega arith in
    let f : suc n + some ≡ n + suc some = omega arith in
    ap (refusals_by refused n) e ∙ ap (λ (text : List ℕ). this ++ text) (refusals_add refused (suc n) some more)
    ∙ sym (append_assoc this (refusals_by refused (suc n) some) (refusals_by refused (suc n + some) more))
    ∙ ap (λ (k : ℕ). (this ++ refusals_by refused (suc n) some) ++ refusals_by refused k more) f

module _ (refused : List Kept) (number : ℕ) (from : 2 ≤ number) (below : number < 16) where
  abbrev this : List ℕ
  this = let kept = get_or refused number (kept_of []) in refusal_text number kept.count kept.first

  -- before a number, it and those behind it
  pub around : refusals_by refused 2 14 ≡ refusals_by refused 2 (number - 2) ++ (this ++ refusals_by refused (suc number) (15 - number))
  unfolding refusals_by
  around =
      let e : 14 ≡ (number - 2) + suc (15 - number) = omega arith in
      let f : 2 + (number - 2) ≡ number = omega arith in
      ap (refusals_by refused 2) e ∙ refusals_add refused 2 (number - 2) (suc (15 - number))
      ∙ ap (λ (k : ℕ). refusals_by refused 2 (number - 2) ++ refusals_by refused k (suc (15 - number))) f

  pub one_more : refusals_by refused 2 (number + 1 - 2) ≡ refusals_by refused 2 (number - 2) ++ this
  unfolding refusals_by
  one_more =
      let e : number + 1 - 2 ≡ (number - 2) + 1 = omega arith in
      let f : 2 + (number - 2) ≡ number = omega arith in
      ap (refusals_by refused 2) e ∙ refusals_add refused 2 (number - 2) 1
      ∙ ap (λ (k : ℕ). refusals_by refused 2 (number - 2) ++ refusals_by refused k 1) f
      ∙ ap (λ (text : List ℕ). refusals_by refused 2 (number - 2) ++ text) (append-nil this)

-- a tally keeps of each number what the listing has
refusals_counted : (lines : List Line) (n more : ℕ) → n + more ≤ 16 → refusals_by (tally_of lines).refused n more ≡ refusals_text lines n more
unfolding refusals_by refusals_text tally_of
refusals_counted lines n zero l = refl
refusals_counted lines n (suc more) l =
    let is = at_table (kept_of []) 16 (λ i. kept_of (bytes_in i lines)) n (omega arith) in
    rw (is, refusals_counted lines (suc n) more (omega arith))

pub summary_is : (c : Reading) (s : List ℕ) (t : Tally) → length s ≤ 65536 → t ≡ tally_of (lines_of c s)
    → summary_of c s
    ≡ frames_text t.frames.count t.frames.first
    ++ (junk_text t.junk ++ (refusals_by t.refused 2 14 ++ (reason_text (letters "; ended with ") t.end ++ newline)))
unfolding summary_of lines_text tally_of
summary_is c s t l e = rw (e, le-ltb 65536 (length s) l, refusals_counted (lines_of c s) 2 14 (omega arith))

pub long_summary : (c : Reading) (s : List ℕ) → 65536 < length s → summary_of c s ≡ letters "too long: 65,536 bytes at most\n"
unfolding summary_of
long_summary c s l = rw (lt-ltb 65536 (length s) l)
