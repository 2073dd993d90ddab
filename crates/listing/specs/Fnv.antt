-- FNV-1a of 64 bits over the bit patterns of samples, low byte first: how a frame of 2,304 samples is told apart in one number.
-- From Fowler, Noll and Vo's definition: from the offset basis, for each byte, exclusive or, then times the prime, modulo 2^64.
use Rattle.std.specs.Prelude.{ℕ, zero, suc, ◌*◌, ◌/◌, ◌%◌, ◌^◌, cond, List, Float, get_or}
use Rattle.std.specs.Int.Bits.{bit_xor}
use Rattle.std.specs.Float.{nan, binary32}
use Rattle.std.specs.Float.Ieee.{is_nan, to_bits}

-- the prime is 2^40 + 435
abbrev pub times_prime : ℕ → ℕ
times_prime h = (h * 1099511628211) % 2 ^ 64

-- one byte more
unfoldable pub mixed_of : ℕ → ℕ → ℕ
mixed_of h byte = times_prime (bit_xor h byte)

-- the four bytes of a pattern
unfoldable pub word_of : ℕ → ℕ → ℕ
word_of h word = mixed_of (mixed_of (mixed_of (mixed_of h (word % 256)) (word / 256 % 256)) (word / 65536 % 256)) (word / 16777216)

-- a NaN has no one pattern: the quiet one stands for it
unfoldable pub pattern_of : Float → ℕ
pattern_of x = cond (is_nan x) 2143289344 (to_bits binary32 x)

-- the first n samples
unfoldable pub sum_of : List Float → ℕ → ℕ
sum_of samples zero = 14695981039346656037
sum_of samples (suc n) = word_of (sum_of samples n) (pattern_of (get_or samples n nan))
