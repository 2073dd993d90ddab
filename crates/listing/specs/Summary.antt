-- A stream in one line of words: its frames and how long they sound, the junk in front, its refusals by their numbers, and its end.
-- Assumes nothing.
use Rattle.std.specs.Prelude.{ℕ, zero, suc, ◌+◌, ◌*◌, ◌/◌, ◌%◌, cond, List, [], ◌++◌, eqb, length}
use Rattle.readings.specs.declared.Reading.{Reading}
use Rattle.listing.specs.Lines.{too_long, lines_of}
use Rattle.listing.specs.Tally.{first_of, rates_in, bytes_in, end_in, junk_in}
use Rattle.listing.specs.Text.{newline, numbered, bracketed}
use Rattle.listing.specs.Words.{letters, reason_of}
use Rattle.listing.specs.declared.Line.{Line}

-- "1 frame", "2 frames"
unfoldable pub counted_text : List ℕ → ℕ → List ℕ → List ℕ
counted_text word n things = numbered word n ++ (things ++ cond (eqb n 1) [] (letters "s"))

-- a frame has 1,152 samples; to the nearest hundredth of a second, a half up
unfoldable pub hundredths_of : ℕ → ℕ → ℕ
hundredths_of frames rate = (frames * 115200 + rate / 2) / rate

unfoldable pub seconds_text : ℕ → List ℕ
seconds_text hundredths =
    numbered (letters ", ") (hundredths / 100)
    ++ (numbered (letters ".") (hundredths / 10 % 10) ++ (numbered [] (hundredths % 10) ++ letters " s"))

unfoldable pub frames_text : ℕ → ℕ → List ℕ
frames_text frames rate =
    cond (eqb frames 0) (letters "0 frames: nothing was played")
    (counted_text [] frames (letters " frame") ++ seconds_text (hundredths_of frames rate))

-- 02, E2: "Makers send clips with junk in front". None is not told
unfoldable pub junk_text : ℕ → List ℕ
junk_text bytes = cond (eqb bytes 0) [] (counted_text (letters "; ") bytes (letters " byte") ++ letters " of junk in front")

-- a number, and what it means
unfoldable pub reason_text : List ℕ → ℕ → List ℕ
reason_text word n = numbered word n ++ bracketed (reason_of n)

-- a number that no call was refused with is not told
unfoldable pub refusal_text : ℕ → ℕ → ℕ → List ℕ
refusal_text n count first =
    cond (eqb count 0) []
    (counted_text (letters "; ") count (letters " call")
    ++ (reason_text (letters " refused with ") n ++ numbered (letters " from byte ") first))

-- so many numbers from n on
unfoldable pub refusals_text : List Line → ℕ → ℕ → List ℕ
refusals_text lines n zero = []
refusals_text lines n (suc more) = refusal_text n (length (bytes_in n lines)) (first_of (bytes_in n lines)) ++ refusals_text lines (suc n) more

-- every number that a tally has a place for, 2 to 15, so that no refusal is left out. 2 to 6 and 13 are those of a call that was refused and
-- is not the end
unfoldable pub lines_text : List Line → List ℕ
lines_text lines =
    frames_text (length (rates_in lines)) (first_of (rates_in lines))
    ++ (junk_text (junk_in lines) ++ (refusals_text lines 2 14 ++ (reason_text (letters "; ended with ") (end_in lines) ++ newline)))

unfoldable pub summary_of : Reading → List ℕ → List ℕ
summary_of c s = cond (too_long s) (letters "too long: 65,536 bytes at most\n") (lines_text (lines_of c s))
