-- What a line says was passed over is what it was given. What an opening carries is no more than the stream has bytes, and what a line
-- says no more than twice that.
-- Assumes nothing.
use Rattle.std.specs.Prelude.{ℕ, ◌+◌, ◌*◌, ◌≤◌, ◌≡◌, refl, List, Float, length, Ok, Err}
use Rattle.std.proofs.Common.{arith}
use Rattle.ground.specs.Tests.{by_test}
use Rattle.readings.specs.declared.Reading.{Reading}
use Rattle.state.specs.declared.Audio.{Audio}
use Rattle.audio.specs.Calls.{open_of, decode_of}
use Rattle.audio.specs.CallsLaws.{open_passes_few, decode_passes_few}
use Rattle.audio.specs.Numbers.{ends}
use Rattle.audio.specs.declared.Answer.{Answer}
use Rattle.audio.specs.declared.Answer.TheVariants.{Frame, Refused}
use Rattle.listing.specs.Lines.{line_by, next_of, carried_by}
use Rattle.listing.specs.Tally.{skipped_in}
use Rattle.listing.specs.declared.Line.{Line}
use Rattle.verdict.specs.Verdict.{Heading, Asked}
use Rattle.refusal.specs.Numbers.{number_of}

pub opening_carries_few : (c : Reading) (s : List ℕ) (memory : List Float) (opened : Asked) (carried : ℕ) → opened ≡ open_of c s memory
    → carried ≡ carried_by opened.skipped opened.answer → carried ≤ length s
opening_carries_few c s memory opened carried e f = rw (f, e) (by (open_of c s memory).answer)
  where
    by : (h : Heading) → carried_by (open_of c s memory).skipped h ≤ length s
    by (Ok _) = open_passes_few c s memory
    by (Err n) = omega arith

pub line_skips : (number k : ℕ) (x : Answer) (a : Audio) → skipped_in (line_by number k x a) ≡ k
line_skips number k (Frame time bits) a = refl
line_skips number k (Refused n) a = by_test (λ (x : Line). skipped_in x ≡ k) (ends (number_of n)) _ _ (λ _. refl) (λ _. refl)

pub line_skips_few : (s : List ℕ) (memory output : List Float) (carried : ℕ) (a : Audio) → carried ≤ length s
    → skipped_in (next_of s memory output carried a).line ≤ 2 * length s
unfolding next_of
line_skips_few s memory output carried a l =
    let d = decode_of s memory output a in
    omega (arith, line_skips a.frames (carried + d.skipped) d.answer d.state, decode_passes_few s memory output a)
