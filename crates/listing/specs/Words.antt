-- What a line means, in words, for people. Assumes nothing.
use Rattle.std.specs.Prelude.{ℕ, zero, suc, cond, List, [], ◌∷◌, eqb}
use Prim.Native.Char.{code}
use Prim.Native.String.{String, len, char_at}
use Rattle.listing.specs.declared.Line.{Line}
use Rattle.listing.specs.declared.Line.TheVariants.{Frame, Refused, End, Long}

-- the letters of a text in ASCII, from one of them on
abbrev pub letters_from : String → ℕ → ℕ → List ℕ
letters_from text at zero = []
letters_from text at (suc more) = code (char_at text at) ∷ letters_from text (suc at) more

abbrev pub letters : String → List ℕ
letters text = letters_from text 0 (len text)

-- the numbers of a call, from 01's table, and 13 from 02, E3. 8, 9 and 10 are given where something was lent or saved wrong, and no other
-- is a call's
unfoldable pub reason_of : ℕ → List ℕ
reason_of n =
    cond (eqb n 1) (letters "no header can follow")
    (cond (eqb n 2) (letters "no sync found")
    (cond (eqb n 3) (letters "another version or layer")
    (cond (eqb n 4) (letters "a bit rate that is none")
    (cond (eqb n 5) (letters "a sample rate that is none")
    (cond (eqb n 6) (letters "another bit rate, sample rate or mode than the first")
    (cond (eqb n 7) (letters "the last frame is cut off")
    (cond (eqb n 13) (letters "a bit rate that the standard does not have in this mode")
    (letters "a mistake of the caller"))))))))

-- a frame's mode; there are four
unfoldable pub mode_words : ℕ → List ℕ
mode_words n =
    cond (eqb n 0) (letters "stereo") (cond (eqb n 1) (letters "joint stereo") (cond (eqb n 2) (letters "two channels") (letters "mono")))

abbrev pub line_words : Line → List ℕ
line_words (Frame number at rate kbps mode bits time skipped) = mode_words mode
line_words (Refused number at skipped) = reason_of number
line_words (End number at skipped) = reason_of number
line_words Long = letters "more than 65,536 bytes"
