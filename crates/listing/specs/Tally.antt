-- What a listing adds up to: each frame's rate, the byte of each call that was refused with one number, the number that ended it, and the
-- bytes of junk in front. Assumes nothing.
use Rattle.std.specs.Prelude.{ℕ, ◌+◌, cond, eqb, get_or}
use mathlib.Core.List.{List, [], ◌∷◌, flat_map}
use Rattle.listing.specs.declared.Line.{Line}
use Rattle.listing.specs.declared.Line.TheVariants.{Frame, Refused, End, Long}

-- 0 where there is none
abbrev pub first_of : List ℕ → ℕ
first_of xs = get_or xs 0 0

abbrev pub rate_in_line : Line → List ℕ
rate_in_line (Frame number at rate kbps mode bits time skipped) = rate ∷ []
rate_in_line (Refused number at skipped) = []
rate_in_line (End number at skipped) = []
rate_in_line Long = []

abbrev pub rates_in : List Line → List ℕ
rates_in = flat_map rate_in_line

abbrev pub bytes_of : ℕ → Line → List ℕ
bytes_of n (Frame number at rate kbps mode bits time skipped) = []
bytes_of n (Refused number at skipped) = cond (eqb n number) (at.0 ∷ []) []
bytes_of n (End number at skipped) = []
bytes_of n Long = []

abbrev pub bytes_in : ℕ → List Line → List ℕ
bytes_in n = flat_map (bytes_of n)

-- a listing has one end, its last line (claims, `listing-ends`)
abbrev pub end_or : Line → ℕ → ℕ
end_or (Frame number at rate kbps mode bits time skipped) before = before
end_or (Refused number at skipped) before = before
end_or (End number at skipped) before = number
end_or Long before = before

unfoldable pub end_from : ℕ → List Line → ℕ
end_from before [] = before
end_from before (x ∷ xs) = end_from (end_or x before) xs

abbrev pub end_in : List Line → ℕ
end_in = end_from 0

-- what a line says was passed over; `long` says nothing
abbrev pub skipped_in : Line → ℕ
skipped_in (Frame number at rate kbps mode bits time skipped) = skipped
skipped_in (Refused number at skipped) = skipped
skipped_in (End number at skipped) = skipped
skipped_in Long = 0

-- 02, E2: "Makers send clips with junk in front": what was passed over up to the first frame, or to the end if there is none. Bytes behind a
-- frame may be its own unused end
unfoldable pub junk_in : List Line → ℕ
junk_in [] = 0
junk_in (Frame number at rate kbps mode bits time skipped ∷ xs) = skipped
junk_in (Refused number at skipped ∷ xs) = skipped + junk_in xs
junk_in (End number at skipped ∷ xs) = skipped + junk_in xs
junk_in (Long ∷ xs) = junk_in xs
