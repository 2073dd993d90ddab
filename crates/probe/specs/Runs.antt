-- Long runs of one inner call, so that a clock outside can time it without the boundary's own cost.
use Rattle.std.specs.Prelude.{ℕ, zero, suc, ◌+◌, ◌%◌, ◌^◌, List}
use Rattle.buffer.specs.Calls.{field_of}
use Rattle.buffer.specs.declared.Reader.{Reader}

-- the reader after n fields of `width` bits
unfoldable pub reader_after : List ℕ → ℕ → Reader → ℕ → Reader
reader_after s width r zero = r
reader_after s width r (suc n) = (field_of s (reader_after s width r n) width).next

-- the sum of their values, cut to 64 bits
unfoldable pub run_sum : List ℕ → ℕ → Reader → ℕ → ℕ
run_sum s width r zero = 0
run_sum s width r (suc n) = (run_sum s width r n + (field_of s (reader_after s width r n) width).value) % 2 ^ 64
