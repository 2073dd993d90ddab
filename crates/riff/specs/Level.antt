-- A sample as 16 bits. From 02, E1: "A sample is multiplied by 32768, rounded to the nearest whole number, halves away from zero,
-- and held within −32768 to 32767. Minus zero is 0." Assumes nothing.
use Rattle.std.specs.Prelude.{ℕ, zero, suc, ◌+◌, ◌-◌, ◌*◌, ◌/◌, ◌%◌, ◌≤◌, ◌<◌, min, ◌≡◌, refl, Bool, true, false, cond, List, [], ◌∷◌, ℤ, pos, negsuc, neg_ℤ, Float, length, get_or}
use Rattle.std.proofs.Common.{sym, ◌∙◌, add-mul, mul_assoc, mul_left_comm, div-add-mod', mod-lt, arith}
use Rattle.std.proofs.Math.Nat.{min-le_right}
use Rattle.std.specs.Float.{nan, inf, fin}
use Rattle.std.specs.Float.Ieee.{up, down}

-- "rounded to the nearest whole number": a / b + 1/2, cut to a whole number, so that a half goes up
abbrev pub half_up : ℕ → ℕ → ℕ
half_up a b = (2 * a + b) / (2 * b)

-- "halves away from zero, and held within −32768 to 32767": n steps away from zero, downward where s is true
abbrev pub held : Bool → ℕ → ℤ
held s n = cond s (neg_ℤ (pos (min n 32768))) (pos (min n 32767))

-- "multiplied by 32768": over the float's exact value, which is m * up e / down e in size.
-- An infinity is held; a NaN is no number and gives silence
unfoldable pub level_of : Float → ℤ
level_of nan = pos 0
level_of (inf s) = held s 32768
level_of (fin s m e) = held s (half_up (m * up e * 32768) (down e))

-- "16-bit": two's complement
abbrev pub bits16 : ℤ → ℕ
bits16 (pos n) = n
bits16 (negsuc n) = 65535 - n

-- two bytes a sample, low byte first, as RIFF has its numbers
unfoldable pub pcm_of : List Float → List ℕ
pcm_of [] = []
pcm_of (x ∷ xs) = bits16 (level_of x) % 256 ∷ bits16 (level_of x) / 256 ∷ pcm_of xs

-- the samples as a converter takes them: 16 bits each
unfoldable pub words_of : List Float → List ℕ
words_of [] = []
words_of (x ∷ xs) = bits16 (level_of x) ∷ words_of xs

-- the number n that `halfUp` gives is the nearest: n − 1/2 ≤ a / b < n + 1/2
pub half_up_is_nearest : (a b : ℕ) → 0 < b → (2 * half_up a b * b ≤ 2 * a + b) × (2 * a < (2 * half_up a b + 1) * b)
half_up_is_nearest a b h =
    let n = half_up a b in
    let whole : n * (2 * b) + (2 * a + b) % (2 * b) ≡ 2 * a + b = div-add-mod' (2 * a + b) (2 * b) in
    let rest : (2 * a + b) % (2 * b) < 2 * b = mod-lt (2 * a + b) (omega arith) in
    let twice : n * (2 * b) ≡ 2 * n * b = mul_left_comm n 2 b ∙ sym (mul_assoc 2 n b) in
    let more : (2 * n + 1) * b ≡ 2 * n * b + 1 * b = add-mul (2 * n) 1 b in
    (omega arith, omega arith)

-- `fin s m e` is m * 2 ^ e, downward where s is true, and `negsuc k` is −(k + 1). So this is n half steps: n / 65536
abbrev halves : Bool → ℕ → Float
halves s n = fin s n (negsuc 15)

pub examples :
    -- a half, and the next floats below it and above it
    (level_of (halves false 1) ≡ pos 1) × (level_of (fin false 16777215 (negsuc 39)) ≡ pos 0) × (level_of (fin false 8388609 (negsuc 38)) ≡ pos 1)
    × (level_of (halves true 1) ≡ negsuc 0) × (level_of (fin true 16777215 (negsuc 39)) ≡ pos 0)
    -- two and a half, each way
    × (level_of (halves false 5) ≡ pos 3) × (level_of (halves true 5) ≡ negsuc 2)
    -- the zeros
    × (level_of (fin false 0 (pos 0)) ≡ pos 0) × (level_of (fin true 0 (pos 0)) ≡ pos 0)
    -- 32766.5 and 32767.5 steps, each way
    × (level_of (halves false 65533) ≡ pos 32767) × (level_of (halves false 65535) ≡ pos 32767)
    × (level_of (halves true 65533) ≡ negsuc 32766) × (level_of (halves true 65535) ≡ negsuc 32767)
    -- 1.0, −1.0, 3.0 and −3.0
    × (level_of (fin false 1 (pos 0)) ≡ pos 32767) × (level_of (fin true 1 (pos 0)) ≡ negsuc 32767)
    × (level_of (fin false 3 (pos 0)) ≡ pos 32767) × (level_of (fin true 3 (pos 0)) ≡ negsuc 32767)
    × (level_of (inf false) ≡ pos 32767) × (level_of (inf true) ≡ negsuc 32767) × (level_of nan ≡ pos 0)
unfolding level_of
examples = (refl, refl, refl, refl, refl, refl, refl, refl, refl, refl, refl, refl, refl, refl, refl, refl, refl, refl, refl, refl)

-- 0.5, −0.5 and one step down
pub example_bytes : pcm_of (fin false 1 (negsuc 0) ∷ fin true 1 (negsuc 0) ∷ fin true 1 (negsuc 14) ∷ []) ≡ 0 ∷ 64 ∷ 0 ∷ 192 ∷ 255 ∷ 255 ∷ []
unfolding pcm_of level_of
example_bytes = refl

pub example_words : words_of (fin false 1 (negsuc 0) ∷ fin true 1 (negsuc 0) ∷ fin true 1 (negsuc 14) ∷ []) ≡ 16384 ∷ 49152 ∷ 65535 ∷ []
unfolding words_of level_of
example_words = refl

small_down : (n : ℕ) → bits16 (neg_ℤ (pos n)) < 65536
small_down zero = omega arith
small_down (suc n) = omega arith

-- a level is 16 bits
pub sixteen : (x : Float) → bits16 (level_of x) < 65536
unfolding level_of
sixteen nan = omega arith
sixteen (inf true) = omega arith
sixteen (inf false) = omega arith
sixteen (fin true m e) = small_down (min (half_up (m * up e * 32768) (down e)) 32768)
sixteen (fin false m e) = omega (arith, min-le_right (half_up (m * up e * 32768) (down e)) 32767)

pub length_pcm : (xs : List Float) → length (pcm_of xs) ≡ 2 * length xs
unfolding pcm_of
length_pcm [] = refl
length_pcm (x ∷ xs) = let r = length_pcm xs in omega arith

-- the two bytes of sample i
pub low_byte : (xs : List Float) (i : ℕ) → i < length xs → get_or (pcm_of xs) (2 * i) 0 ≡ bits16 (level_of (get_or xs i nan)) % 256
unfolding pcm_of
low_byte [] i h = elim h [ ]
low_byte (x ∷ xs) zero h = refl
low_byte (x ∷ xs) (suc i) h = let e : 2 * suc i ≡ suc (suc (2 * i)) = omega arith in rw e (low_byte xs i (omega arith))

pub high_byte : (xs : List Float) (i : ℕ) → i < length xs → get_or (pcm_of xs) (2 * i + 1) 0 ≡ bits16 (level_of (get_or xs i nan)) / 256
unfolding pcm_of
high_byte [] i h = elim h [ ]
high_byte (x ∷ xs) zero h = refl
high_byte (x ∷ xs) (suc i) h = let e : 2 * suc i + 1 ≡ suc (suc (2 * i + 1)) = omega arith in rw e (high_byte xs i (omega arith))

-- word i, and how many there are
pub length_words : (xs : List Float) → length (words_of xs) ≡ length xs
unfolding words_of
length_words [] = refl
length_words (x ∷ xs) = let r = length_words xs in omega arith

pub word_at : (xs : List Float) (i : ℕ) → i < length xs → get_or (words_of xs) i 0 ≡ bits16 (level_of (get_or xs i nan))
unfolding words_of
word_at [] i h = elim h [ ]
word_at (x ∷ xs) zero h = refl
word_at (x ∷ xs) (suc i) h = word_at xs i (omega arith)

-- the bytes of a file's samples are those of the words, low byte first
pub bytes_of_words : (xs : List Float) (i : ℕ) → i < length xs
    → get_or (pcm_of xs) (2 * i) 0 + 256 * get_or (pcm_of xs) (2 * i + 1) 0 ≡ get_or (words_of xs) i 0
bytes_of_words xs i h =
    let w = bits16 (level_of (get_or xs i nan)) in
    let whole : w % 256 + 256 * (w / 256) ≡ w = omega arith in
    rw (low_byte xs i h, high_byte xs i h, word_at xs i h) whole
