-- A summary is short enough to be counted. Assumes nothing.
use Prim.Native.Nat.{ℕ, zero, suc, ◌+◌, ◌*◌, ◌/◌, ◌%◌, ◌^◌, ◌≤◌, ◌<◌}
use mathlib.Core.Bool.{cond}
use mathlib.Core.List.{List, []}
use native.Mathlib.Omega.{arith}
use lib.Dec.{eqb, lit≤}
use lib.ListN.{length, length-append}
use Rattle.ground.specs.Tests.{by_test}
use Rattle.readings.specs.declared.Reading.{Reading}
use Rattle.listing.specs.Lines.{too_long, lines_of}
use Rattle.listing.specs.Summary.{counted_text, hundredths_of, seconds_text, frames_text, junk_text, reason_text, refusal_text, refusals_text, lines_text, summary_of}
use Rattle.listing.specs.Tally.{first_of, rates_in, bytes_in, end_in, junk_in}
use Rattle.listing.specs.Text.{bracketed}
use Rattle.listing.specs.TextLaws.{short_number, short_reason}
use Rattle.listing.specs.Words.{letters}
use Rattle.listing.specs.declared.Line.{Line}

short_plural : (n : ℕ) → length (cond (eqb n 1) [] (letters "s")) ≤ 1
short_plural n = by_test (λ (text : List ℕ). length text ≤ 1) (eqb n 1) _ _ (λ _. omega arith) (λ _. omega arith)

short_counted : (word : List ℕ) (n : ℕ) (things : List ℕ) → length (counted_text word n things) ≤ length word + length things + 21
unfolding counted_text
short_counted word n things = simp length-append (omega (arith, short_number word n, short_plural n))

short_seconds : (n : ℕ) → length (seconds_text n) ≤ 65
unfolding seconds_text
short_seconds n =
    simp length-append (omega (arith, short_number (letters ", ") (n / 100), short_number (letters ".") (n / 10 % 10), short_number [] (n % 10)))

short_frames : (frames rate : ℕ) → length (frames_text frames rate) ≤ 100
unfolding frames_text
short_frames frames rate =
    by_test (λ (text : List ℕ). length text ≤ 100) (eqb frames 0) _ _ (λ _. lit≤ tt)
    (λ _. simp length-append (omega (arith, short_counted [] frames (letters " frame"), short_seconds (hundredths_of frames rate))))

short_junk : (bytes : ℕ) → length (junk_text bytes) ≤ 50
unfolding junk_text
short_junk bytes =
    by_test (λ (text : List ℕ). length text ≤ 50) (eqb bytes 0) _ _ (λ _. omega arith)
    (λ _. simp length-append (omega (arith, short_counted (letters "; ") bytes (letters " byte"))))

short_told : (word : List ℕ) (n : ℕ) → length (reason_text word n) ≤ length word + 83
unfolding reason_text bracketed
short_told word n = simp length-append (omega (arith, short_number word n, short_reason n))

short_refusal : (n count first : ℕ) → length (refusal_text n count first) ≤ 200
unfolding refusal_text
short_refusal n count first =
    by_test (λ (text : List ℕ). length text ≤ 200) (eqb count 0) _ _ (λ _. omega arith)
    (λ _. simp length-append (omega (
      arith,
      short_counted (letters "; ") count (letters " call"),
      short_told (letters " refused with ") n,
      short_number (letters " from byte ") first,
    )))

short_refusals : (lines : List Line) (n more : ℕ) → length (refusals_text lines n more) ≤ 200 * more
unfolding refusals_text
short_refusals lines n zero = omega arith
short_refusals lines n (suc more) =
    simp length-append (omega (arith, short_refusal n (length (bytes_in n lines)) (first_of (bytes_in n lines)), short_refusals lines (suc n) more))

short_lines : (lines : List Line) → length (lines_text lines) ≤ 3150
unfolding lines_text
short_lines lines =
    simp length-append (omega (
      arith,
      short_frames (length (rates_in lines)) (first_of (rates_in lines)),
      short_junk (junk_in lines),
      short_refusals lines 2 14,
      short_told (letters "; ended with ") (end_in lines),
    ))

pub summary_fits : (c : Reading) (s : List ℕ) → length (summary_of c s) < 2 ^ 64
unfolding summary_of
summary_fits c s =
    by_test (λ (text : List ℕ). length text < 2 ^ 64) (too_long s) _ _ (λ _. omega arith) (λ _. omega (arith, short_lines (lines_of c s)))
