-- The bits of a stream of bytes, most significant first, and searches over its bytes.
-- From 01, "From the bytes to a header"; buffer.rs reads in this order.
use Rattle.std.specs.Prelude.{ℕ, zero, suc, ◌+◌, ◌-◌, ◌*◌, ◌/◌, ◌%◌, ◌^◌, List, Bool, false, cond, not, get_or, length, eqb}
use Rattle.ground.specs.First.{first_from}

-- the bytes that a stream has at most: 01, number 8
abbrev pub longest_stream : ℕ
longest_stream = 16777216

-- the bit position that a state has at most: 01, "State in range". One byte past the end of the longest stream, where a search can stop
abbrev pub farthest_bit : ℕ
farthest_bit = 134217736

-- bit i of the stream: byte i / 8, and in it the bit of weight 2 ^ (7 - i % 8)
unfoldable pub bit_at : List ℕ → ℕ → ℕ
bit_at s i = get_or s (i / 8) 0 / 2 ^ (7 - i % 8) % 2

-- the n bits from `at`, as a number: "a read of 0 bits is 0; bits come most significant first"
unfoldable pub bits_value : List ℕ → ℕ → ℕ → ℕ
bits_value s at zero = 0
bits_value s at (suc n) = bits_value s at n * 2 + bit_at s (at + n)

-- "FF then FC or FD"
abbrev pub sync_pair : ℕ → ℕ → Bool
sync_pair a b = cond (eqb a 255) (eqb (b / 2) 126) false

-- whether such a pair starts at byte i
abbrev pub pair_at : List ℕ → ℕ → Bool
pair_at s i = sync_pair (get_or s i 0) (get_or s (i + 1) 0)

-- whether byte i differs from v
abbrev pub other_at : List ℕ → ℕ → ℕ → Bool
other_at s v i = not (eqb (get_or s i 0) v)

-- the first place from i on whose byte is not v, or else the larger of i and the stream's length
abbrev pub past_of : List ℕ → ℕ → ℕ → ℕ
past_of s v i = first_from (other_at s v) (length s - i) i

-- the first place from i on where a pair starts, or else "the larger of i and the last byte" (an empty stream's is 0)
abbrev pub stop_of : List ℕ → ℕ → ℕ
stop_of s i = first_from (pair_at s) (length s - 1 - i) i
