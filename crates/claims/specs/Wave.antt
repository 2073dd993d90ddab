-- The WAVE file of a clip: its header says what follows, and every sample in it goes by E1's formula. From 02, E1. Assumes nothing.
use Rattle.std.specs.Prelude.{ℕ, zero, suc, ◌+◌, ◌-◌, ◌*◌, ◌/◌, ◌%◌, ◌≤◌, ◌<◌, ◌≡◌, refl, Bool, List, [], ◌∷◌, ◌++◌, ℤ, Float, length, take, drop}
use Rattle.std.proofs.Math.Path.{ap}
use Rattle.std.proofs.Common.{sym, ◌∙◌, zero-add, arith, length-append}
use Rattle.std.specs.Float.{nan, inf, fin}
use Rattle.std.specs.Float.Ieee.{up, down}
use Rattle.std.proofs.Math.ListN.{get_or, get_or-append}
use Rattle.std.proofs.Math.Seq.{get_or-append-add}
use Rattle.buffer.specs.Bits.{longest_stream}
use Rattle.synthesis.specs.Slots.{output_length}
use Rattle.riff.specs.Level.{half_up, held, level_of, bits16, pcm_of, length_pcm, low_byte, high_byte}
use Rattle.riff.specs.Header.{wave_header_of, value_of, length_header, le32_back, lengths_exact}
use Rattle.finite.specs.Within.{Within}
use Rattle.clip.specs.Frames.{Heard, clip_of, rate_in}
use Rattle.clip.specs.Turns.{few_in_clip}
use Rattle.clip.specs.Rates.{clip_rate_small}
use Rattle.clip.specs.File.{frame_parts, parts_of, joined, file_of}
use Rattle.heard.specs.Heard.{Every, frame_length, one_rate, heard_finite}

-- ---- lengths

joined_length : (xs : List Heard) → Every (λ x. length x.samples ≡ output_length) xs → length (joined (frame_parts xs)) ≡ 4608 * length xs
unfolding joined frame_parts
joined_length [] e = refl
joined_length (x ∷ xs) e =
    let rest = joined_length xs (λ i d l. e (suc i) d (omega arith)) in
    let many = e 0 x (omega arith) in
    omega (arith, length-append (pcm_of x.samples) (joined (frame_parts xs)), length_pcm x.samples)

-- "the 44-byte header, 16-bit stereo, then every decoded frame"
pub file_length : (s : List ℕ) → length (file_of s) ≡ 44 + 4608 * length (clip_of s)
unfolding file_of parts_of joined
file_length s =
    let header = wave_header_of (length (clip_of s)) (rate_in (clip_of s)) in
    let frames = joined (frame_parts (clip_of s)) in
    omega (arith, length-append header frames, length_header (length (clip_of s)) (rate_in (clip_of s)), joined_length (clip_of s) (frame_length s))

-- the file's first 44 bytes are the header's
in_file : (frames rate : ℕ) (more : List ℕ) → let header = wave_header_of frames rate in
    (take 4 (drop 4 (header ++ more)) ≡ take 4 (drop 4 header)) × (take 4 (drop 40 (header ++ more)) ≡ take 4 (drop 40 header))
unfolding wave_header_of
in_file frames rate more = (refl, refl)

-- "Lengths in the header are exact": of what follows the first eight bytes, and of what follows the 44
pub file_lengths_exact : (s : List ℕ) → length s ≤ 65536
    → (value_of (take 4 (drop 4 (file_of s))) ≡ length (file_of s) - 8) × (value_of (take 4 (drop 40 (file_of s))) ≡ length (file_of s) - 44)
unfolding file_of parts_of joined
file_lengths_exact s short =
    let n = length (clip_of s) in
    let rate = rate_in (clip_of s) in
    let same = in_file n rate (joined (frame_parts (clip_of s))) in
    let few : n ≤ 900000 = omega (arith, few_in_clip s) in
    let exact = lengths_exact n rate few in
    let all = file_length s in
    (ap value_of same.0 ∙ exact.0 ∙ omega (arith, length_header n rate), ap value_of same.1 ∙ exact.1 ∙ omega arith)

-- ---- the rate

-- bytes 24 to 27, samples a second, are those of every frame
pub file_rate : (s : List ℕ) (i : ℕ) (d : Heard) → i < length (clip_of s) → value_of (take 4 (drop 24 (file_of s))) ≡ (get_or (clip_of s) i d).rate
unfolding file_of parts_of joined wave_header_of
file_rate s i d l = le32_back (rate_in (clip_of s)) (omega (arith, clip_rate_small s)) ∙ sym (one_rate s i d l)

-- ---- the samples

-- the level by the sample's own value
pub record Leveled (x : Float) : Type 0 where
  pub sign : Bool
  pub digits : ℕ
  pub exponent : ℤ
  pub is : x ≡ fin sign digits exponent
  pub level : level_of x ≡ held sign (half_up (digits * up exponent * 32768) (down exponent))

by_value : (n : ℕ) (x : Float) → Within n x → Leveled x
unfolding level_of
by_value n nan h = absurd h
by_value n (inf s) h = absurd h
by_value n (fin s m e) h = record { sign = s; digits = m; exponent = e; is = refl; level = refl }

bytes_at : (xs : List Heard) → Every (λ x. length x.samples ≡ output_length) xs → (i : ℕ) (d : Heard) → i < length xs → (k : ℕ) → k < 4608
    → get_or (joined (frame_parts xs)) (4608 * i + k) 0 ≡ get_or (pcm_of (get_or xs i d).samples) k 0
unfolding joined frame_parts
bytes_at [] e i d l k h = absurd (omega arith)
bytes_at (x ∷ xs) e zero d l k h =
    rw (zero-add k)
    (get_or-append (pcm_of x.samples) (joined (frame_parts xs)) 0 k (omega (arith, length_pcm x.samples, e 0 x (omega arith))))
bytes_at (x ∷ xs) e (suc i) d l k h =
    let up : 4608 * suc i + k ≡ length (pcm_of x.samples) + (4608 * i + k) = omega (arith, length_pcm x.samples, e 0 x (omega arith)) in
    ap (λ (at : ℕ). get_or (pcm_of x.samples ++ joined (frame_parts xs)) at 0) up
    ∙ get_or-append-add (pcm_of x.samples) (joined (frame_parts xs)) (4608 * i + k) 0
    ∙ bytes_at xs (λ j d l. e (suc j) d (omega arith)) i d (omega arith) k h

module _ (s : List ℕ) (i : ℕ) (d : Heard) (l : i < length (clip_of s)) where
  file_at : (k : ℕ) → k < 4608 → get_or (file_of s) (44 + (4608 * i + k)) 0 ≡ get_or (pcm_of (get_or (clip_of s) i d).samples) k 0
  unfolding file_of parts_of joined
  file_at k h =
      let header = wave_header_of (length (clip_of s)) (rate_in (clip_of s)) in
      let frames = joined (frame_parts (clip_of s)) in
      ap (λ (n : ℕ). get_or (header ++ frames) (n + (4608 * i + k)) 0) (sym (length_header (length (clip_of s)) (rate_in (clip_of s))))
      ∙ get_or-append-add header frames (4608 * i + k) 0
      ∙ bytes_at (clip_of s) (frame_length s) i d l k h

  module _ (j : ℕ) (h : j < output_length) where
    abbrev sample : Float
    sample = get_or (get_or (clip_of s) i d).samples j nan

    -- "then every decoded frame": sample j of frame i is there, in 16 bits, low byte first
    pub sample_bytes : (get_or (file_of s) (44 + (4608 * i + 2 * j)) 0 ≡ bits16 (level_of sample) % 256)
        × (get_or (file_of s) (44 + (4608 * i + (2 * j + 1))) 0 ≡ bits16 (level_of sample) / 256)
    sample_bytes =
        let xs = (get_or (clip_of s) i d).samples in
        let many : j < length xs = omega (arith, frame_length s i d l) in
        (file_at (2 * j) (omega arith) ∙ low_byte xs j many, file_at (2 * j + 1) (omega arith) ∙ high_byte xs j many)

    -- "A sample is multiplied by 32768, ..": it has a value, so what riff says of a NaN or an infinity is never heard
    pub no_nan_is_written : length s ≤ longest_stream → Leveled sample
    no_nan_is_written short = by_value 8259553 sample (heard_finite s short i d l j h)

-- ---- no frame

-- "A stream with no frame gives a file with no samples and rate 44100."
pub no_frame : (s : List ℕ) → clip_of s ≡ [] → file_of s ≡ wave_header_of 0 44100
unfolding file_of parts_of joined frame_parts wave_header_of
no_frame s e = rw e
