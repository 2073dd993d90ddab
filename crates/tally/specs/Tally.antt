-- What the pass over a listing gives, and what one line adds to it.
-- Assumes nothing.
use Rattle.std.specs.Prelude.{ℕ, ◌+◌, ◌<◌, cond, List, [], eqb, ltb, length, get_or, set}
use Rattle.ground.specs.Table.{table}
use Rattle.listing.specs.Tally.{first_of, rates_in, bytes_in, end_in, junk_in}
use Rattle.listing.specs.declared.Line.{Line}
use Rattle.listing.specs.declared.Line.TheVariants.{Frame, Refused, End, Long}
use Rattle.tally.specs.declared.Kept.{Kept}
use Rattle.tally.specs.declared.Tally.{Tally}

-- how many values, and the first
abbrev pub kept_of : List ℕ → Kept
kept_of values = record { count = length values; first = first_of values }

unfoldable pub tally_of : List Line → Tally
tally_of lines =
    record { frames = kept_of (rates_in lines); refused = table 16 (λ n. kept_of (bytes_in n lines)); end = end_in lines; junk = junk_in lines }

-- ---- one more

abbrev pub keep_of : Kept → ℕ → Kept
keep_of kept value = record { count = kept.count + 1; first = cond (eqb kept.count 0) value kept.first }

abbrev pub keep_at : List Kept → ℕ → ℕ → List Kept
keep_at refused number value = cond (ltb number 16) (set refused number (keep_of (get_or refused number (kept_of [])) value)) refused

-- up to the first frame's line
abbrev pub junk_more : Tally → ℕ → ℕ
junk_more tally skipped = cond (eqb tally.frames.count 0) (tally.junk + skipped) tally.junk

abbrev pub add_of : Tally → Line → Tally
add_of tally (Frame number at rate kbps mode bits time skipped) =
    record { frames = keep_of tally.frames rate; refused = tally.refused; end = tally.end; junk = junk_more tally skipped }
add_of tally (Refused number at skipped) =
    record { frames = tally.frames; refused = keep_at tally.refused number at.0; end = tally.end; junk = junk_more tally skipped }
add_of tally (End number at skipped) = record { frames = tally.frames; refused = tally.refused; end = number; junk = junk_more tally skipped }
add_of tally Long = tally

-- so few that one more can be counted
abbrev pub Few : List Kept → Type 0
Few refused = (n : ℕ) → (get_or refused n (kept_of [])).count < 100000
