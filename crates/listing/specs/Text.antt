-- The lines as text: ASCII, decimal numbers, a newline behind each line. From 01, the lister's example; the marks behind a frame of the
-- stored streams are replay's own, and the words behind a line the lister's for people. Assumes nothing.
use Rattle.std.specs.Prelude.{ℕ, zero, suc, ◌/◌, cond, List, [], ◌∷◌, ◌++◌, ltb, Float, length}
use Rattle.std.specs.Float.{binary64}
use Rattle.std.specs.Float.Ieee.{is_nan, to_bits}
use Rattle.io.specs.Digits.{last_digits}
use Rattle.buffer.specs.declared.BytePos.{BytePos}
use Rattle.readings.specs.declared.Reading.{Reading}
use Rattle.listing.specs.Fnv.{sum_of}
use Rattle.listing.specs.Lines.{Shown, shown_of}
use Rattle.listing.specs.Words.{letters, line_words}
use Rattle.listing.specs.declared.Behind.{Behind}
use Rattle.listing.specs.declared.Behind.TheVariants.{Nothing, Marks, Words}
use Rattle.listing.specs.declared.Line.{Line}
use Rattle.listing.specs.declared.Line.TheVariants.{Frame, Refused, End, Long}

-- ---- numbers

-- how many decimal digits a number has: one, or one more than its tenth, and no more than the first number says
unfoldable pub digits_in : ℕ → ℕ → ℕ
digits_in zero n = 0
digits_in (suc most) n = cond (ltb n 10) 1 (suc (digits_in most (n / 10)))

-- its digits, at most 20, which hold every number of 64 bits
unfoldable pub decimal_of : ℕ → List ℕ
decimal_of n = last_digits 10 (digits_in 20 n) n

-- ---- words

abbrev pub frame_word : List ℕ
frame_word = letters "frame "

abbrev pub at_word : List ℕ
at_word = letters " at "

abbrev pub rate_word : List ℕ
rate_word = letters " rate "

abbrev pub kbps_word : List ℕ
kbps_word = letters " kbps "

abbrev pub mode_word : List ℕ
mode_word = letters " mode "

abbrev pub bits_word : List ℕ
bits_word = letters " bits "

abbrev pub refused_word : List ℕ
refused_word = letters "refused "

abbrev pub end_word : List ℕ
end_word = letters "end "

abbrev pub long_word : List ℕ
long_word = letters "long"

abbrev pub skipped_word : List ℕ
skipped_word = letters " skipped "

abbrev pub time_word : List ℕ
time_word = letters " time "

abbrev pub sum_word : List ℕ
sum_word = letters " sum "

abbrev pub newline : List ℕ
newline = letters "\n"

-- a word and the number behind it
unfoldable pub numbered : List ℕ → ℕ → List ℕ
numbered word n = word ++ decimal_of n

-- ---- lines

-- replay's marks: the bits of a start time, which is no NaN, and a checksum of the samples, in 16 hexadecimal digits each
abbrev pub time_bits : Float → ℕ
time_bits time = cond (is_nan time) 0 (to_bits binary64 time)

unfoldable pub hexed : List ℕ → ℕ → List ℕ
hexed word n = word ++ last_digits 16 16 n

-- only a frame has them
abbrev pub marks_of : Line → List Float → List ℕ
marks_of (Frame number at rate kbps mode bits time skipped) samples = hexed time_word (time_bits time) ++ hexed sum_word (sum_of samples (length samples))
marks_of (Refused number at skipped) samples = []
marks_of (End number at skipped) samples = []
marks_of Long samples = []

unfoldable pub bracketed : List ℕ → List ℕ
bracketed words = letters " (" ++ (words ++ letters ")")

-- what stands behind a line, where it is asked for
abbrev pub behind_of : Behind → Line → List Float → List ℕ
behind_of Nothing line samples = []
behind_of Marks line samples = marks_of line samples
behind_of Words line samples = bracketed (line_words line)

-- "`refused`: number and byte position"; "`end`: 1 or 7 and position". 02, E2: "Lister lines end with `skipped n`"
unfoldable pub place_text : List ℕ → ℕ → BytePos → ℕ → List ℕ
place_text word number at skipped = numbered word number ++ (numbered at_word at.0 ++ numbered skipped_word skipped)

-- "Frame line: number from 0, byte after header and check word, rate, kbps, mode, bits used", and with E2 the bytes passed over
unfoldable pub format_text : ℕ → ℕ → ℕ → ℕ → List ℕ
format_text rate kbps mode bits = numbered rate_word rate ++ (numbered kbps_word kbps ++ (numbered mode_word mode ++ numbered bits_word bits))

unfoldable pub frame_text : ℕ → BytePos → ℕ → ℕ → ℕ → ℕ → ℕ → List ℕ
frame_text number at rate kbps mode bits skipped =
    numbered frame_word number ++ (numbered at_word at.0 ++ (format_text rate kbps mode bits ++ numbered skipped_word skipped))

-- a line as 01 and E2 have it, up to its newline
abbrev pub bare_text : Line → List ℕ
bare_text (Frame number at rate kbps mode bits time skipped) = frame_text number at rate kbps mode bits skipped
bare_text (Refused number at skipped) = place_text refused_word number at skipped
bare_text (End number at skipped) = place_text end_word number at skipped
bare_text Long = long_word

abbrev pub text_by : Behind → Line → List Float → List ℕ
text_by behind line samples = bare_text line ++ (behind_of behind line samples ++ newline)

-- one line after the other
unfoldable pub texts_of : Behind → List Shown → List ℕ
texts_of behind [] = []
texts_of behind (x ∷ xs) = text_by behind x.line x.samples ++ texts_of behind xs

-- all that is written of a stream
unfoldable pub listing_of : Reading → Behind → List ℕ → List ℕ
listing_of c behind s = texts_of behind (shown_of c s)
