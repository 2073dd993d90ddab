-- The 44 bytes before the samples of a RIFF WAVE file. From IBM and Microsoft, "Multimedia Programming Interface and Data
-- Specifications 1.0": a RIFF chunk of the form WAVE, that holds a format chunk and a data chunk. 02, E1: "Lengths in the header are exact."
-- Assumes nothing.
use Rattle.std.specs.Prelude.{ℕ, ◌+◌, ◌-◌, ◌*◌, ◌/◌, ◌%◌, ◌^◌, ◌≤◌, ◌<◌, ◌≡◌, refl, List, [], ◌∷◌, ◌++◌, length, take, drop, set}
use Rattle.std.proofs.Math.Nat.{div-div-eq-div-mul}
use Rattle.std.proofs.Common.{arith}

-- a number in two and in four bytes, low byte first
abbrev pub le16 : ℕ → List ℕ
le16 n = n % 256 ∷ n / 256 % 256 ∷ []

abbrev pub le32 : ℕ → List ℕ
le32 n = n % 256 ∷ n / 256 % 256 ∷ n / 65536 % 256 ∷ n / 16777216 % 256 ∷ []

-- the letters R I F F, W A V E, f m t and a space, d a t a
abbrev pub riff_name : List ℕ
riff_name = 82 ∷ 73 ∷ 70 ∷ 70 ∷ []

abbrev pub wave_name : List ℕ
wave_name = 87 ∷ 65 ∷ 86 ∷ 69 ∷ []

abbrev pub format_name : List ℕ
format_name = 102 ∷ 109 ∷ 116 ∷ 32 ∷ []

abbrev pub data_name : List ℕ
data_name = 100 ∷ 97 ∷ 116 ∷ 97 ∷ []

-- a frame has 2,304 samples of two bytes
abbrev pub data_bytes : ℕ → ℕ
data_bytes frames = 4608 * frames

-- the format chunk after its name: its length, PCM, two channels, samples a second, bytes a second, bytes of a sample of both
-- channels, bits of a sample
abbrev pub format_chunk_of : ℕ → List ℕ
format_chunk_of rate = le32 16 ++ le16 1 ++ le16 2 ++ le32 rate ++ le32 (4 * rate) ++ le16 4 ++ le16 16

-- the RIFF chunk's length is that of what follows it: 36 bytes of this header, and the data
unfoldable pub wave_header_of : ℕ → ℕ → List ℕ
wave_header_of frames rate =
    riff_name ++ le32 (36 + data_bytes frames) ++ wave_name ++ format_name ++ format_chunk_of rate ++ data_name ++ le32 (data_bytes frames)

-- E1: "A stream with no frame gives a file with no samples and rate 44100."
pub no_samples : wave_header_of 0 44100 ≡
    82 ∷ 73 ∷ 70 ∷ 70 ∷ 36 ∷ 0 ∷ 0 ∷ 0 ∷ 87 ∷ 65 ∷ 86 ∷ 69 ∷ 102 ∷ 109 ∷ 116 ∷ 32 ∷ 16 ∷ 0 ∷ 0 ∷ 0 ∷ 1 ∷ 0 ∷ 2 ∷ 0
    ∷ 68 ∷ 172 ∷ 0 ∷ 0 ∷ 16 ∷ 177 ∷ 2 ∷ 0 ∷ 4 ∷ 0 ∷ 16 ∷ 0 ∷ 100 ∷ 97 ∷ 116 ∷ 97 ∷ 0 ∷ 0 ∷ 0 ∷ 0 ∷ []
unfolding wave_header_of
no_samples = refl

pub length_header : (frames rate : ℕ) → length (wave_header_of frames rate) ≡ 44
unfolding wave_header_of
length_header frames rate = refl

-- the number that bytes stand for, low byte first
abbrev pub value_of : List ℕ → ℕ
value_of [] = 0
value_of (b ∷ bs) = b + 256 * value_of bs

-- the byte of weight d, with what stands above it
part : (n d : ℕ) → n / d % 256 + 256 * (n / (d * 256)) ≡ n / d
part n d = rw (← div-div-eq-div-mul n d 256) (omega arith)

pub le32_back : (n : ℕ) → n < 2 ^ 32 → value_of (le32 n) ≡ n
le32_back n h =
    let top : n / 16777216 % 256 + 0 ≡ n / 16777216 = omega arith in
    rw (top, part n 65536, part n 256) (omega arith)

-- E1: "Lengths in the header are exact": of the bytes after the first eight, and of the samples
pub lengths_exact : (frames rate : ℕ) → frames ≤ 900000
    → (value_of (take 4 (drop 4 (wave_header_of frames rate))) ≡ length (wave_header_of frames rate) - 8 + data_bytes frames)
    × (value_of (take 4 (drop 40 (wave_header_of frames rate))) ≡ data_bytes frames)
unfolding wave_header_of
lengths_exact frames rate h = (le32_back (36 + data_bytes frames) (omega arith), le32_back (data_bytes frames) (omega arith))

-- bytes with the four of a number stored from a place on: what `riff::put` does
abbrev pub put_at : List ℕ → ℕ → ℕ → List ℕ
put_at bytes at n =
    set (set (set (set bytes at (n % 256)) (at + 1) (n / 256 % 256)) (at + 2) (n / 65536 % 256)) (at + 3) (n / 16777216 % 256)
