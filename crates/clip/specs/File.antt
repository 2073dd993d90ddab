-- The WAVE file of a clip. From 02, E1: "a RIFF WAVE file: the 44-byte header, 16-bit stereo, then every decoded frame."
-- Assumes nothing.
use Rattle.std.specs.Prelude.{ℕ, suc, ◌≤◌, ◌<◌, ◌≡◌, cond, List, [], ◌∷◌, ◌++◌, ltb, length, drop, get_or}
use Rattle.std.proofs.Common.{ap, ◌∙◌, drop-cons, lt-ltb, le-ltb}
use Rattle.std.proofs.Math.Seq.{drop-length}
use Rattle.clip.specs.Frames.{Heard, clip_of, rate_in}
use Rattle.riff.specs.Header.{wave_header_of}
use Rattle.riff.specs.Level.{pcm_of}

-- a part for each frame, in order
unfoldable pub frame_parts : List Heard → List (List ℕ)
frame_parts [] = []
frame_parts (x ∷ more) = pcm_of x.samples ∷ frame_parts more

unfoldable pub parts_of : List ℕ → List (List ℕ)
parts_of s = wave_header_of (length (clip_of s)) (rate_in (clip_of s)) ∷ frame_parts (clip_of s)

-- one after the other
unfoldable pub joined : List (List ℕ) → List ℕ
joined [] = []
joined (part ∷ more) = part ++ joined more

unfoldable pub file_of : List ℕ → List ℕ
file_of s = joined (parts_of s)

-- what the program writes: of more than 65,536 bytes nothing
unfoldable pub wave_of : List ℕ → List ℕ
wave_of s = cond (ltb 65536 (length s)) [] (file_of s)

-- a file begins with its header, and the frames from frame i on with frame i
pub header_first : (s : List ℕ) → length s ≤ 65536
    → wave_of s ≡ wave_header_of (length (clip_of s)) (rate_in (clip_of s)) ++ joined (frame_parts (clip_of s))
unfolding wave_of file_of parts_of joined
header_first s short = rw (le-ltb 65536 (length s) short)

pub frame_first : (xs : List Heard) (i : ℕ) (x : Heard) → i < length xs → get_or xs i x ≡ x
    → joined (frame_parts (drop i xs)) ≡ pcm_of x.samples ++ joined (frame_parts (drop (suc i) xs))
unfolding frame_parts joined
frame_first xs i x l e =
    let first : drop i xs ≡ x ∷ drop (suc i) xs = drop-cons xs i x l ∙ ap (λ (y : Heard). y ∷ drop (suc i) xs) e in
    ap (λ (ys : List Heard). joined (frame_parts ys)) first

pub none_behind : (xs : List Heard) (i : ℕ) → i ≡ length xs → joined (frame_parts (drop i xs)) ≡ []
unfolding frame_parts joined
none_behind xs i e = rw (e, drop-length)

-- nothing is written of a longer stream
pub none_of_long : (s : List ℕ) → 65536 < length s → wave_of s ≡ []
unfolding wave_of
none_of_long s long = rw (lt-ltb 65536 (length s) long)
