-- How large what the tables hold can be: what callers need to know of it.
-- Assumes nothing.
use Rattle.std.specs.Prelude.{ℕ, ◌+◌, ◌*◌, ◌/◌, ◌%◌, ◌^◌, ◌≤◌, ◌<◌, ◌≡◌, Bool, true, false, cond, ◌&&◌, ◌||◌, List, [], T, eqb, ltb, leb, get_or}
use Rattle.std.proofs.Common.{arith, eqb→eq, leb→le, ltb→lt, lit≤}
use Rattle.ground.specs.Upto.{below, and_left, and_right, or_left}
use Rattle.ground.specs.Entries.{every, entry}
use Rattle.tables.specs.Standard.{Table, B2a, B2b, B2c, B2d, rows_of, sblimit, chosen, limit_of, class, classes, quantisation_of, levels_of, code_bits_of, grouped_of}
use Rattle.tables.specs.Source.{step1, step3, step4, class_of, source_row_of, width_of, quantiser_of}

-- a test that holds at each entry of each row
rows : (p : ℕ → Bool) (xs : List (List ℕ)) → T (p 0) → T (every (every p) xs) → (i j : ℕ) → T (p (get_or (get_or xs i []) j 0))
rows p xs t u i j = entry p 0 (get_or xs i []) t (entry (every p) [] xs tt u i) j

pub class≤2 : (mono : Bool) (bitrate : ℕ) → class_of mono bitrate ≤ 2
unfolding class_of
class≤2 mono bitrate = leb→le _ _ (rows (λ x. leb x 2) step1 tt tt (cond mono 0 1) bitrate)

pub row≤4 : (table sb : ℕ) → source_row_of table sb % 16 ≤ 4
unfolding source_row_of
row≤4 table sb = leb→le _ _ (rows (λ x. leb (x % 16) 4) step3 tt tt table sb)

pub width≤4 : (table sb : ℕ) → width_of table sb ≤ 4
unfolding width_of source_row_of
width≤4 table sb = leb→le _ _ (rows (λ x. leb (x / 16) 4) step3 tt tt table sb)

pub quantiser<18 : (table sb allocation : ℕ) → quantiser_of table sb allocation < 18
unfolding quantiser_of
quantiser<18 table sb allocation = ltb→lt _ _ (rows (λ x. ltb x 18) step4 tt tt (source_row_of table sb % 16) allocation)

pub bits≤16 : (q : ℕ) → code_bits_of q ≤ 16
unfolding code_bits_of quantisation_of classes
bits≤16 q = leb→le _ _ (entry (λ c. leb c.bits 16) (class 0 0 0) classes tt tt q)

pub sblimit≤30 : (t : Table) → sblimit t ≤ 30
unfolding sblimit rows_of
sblimit≤30 B2a = lit≤ tt
sblimit≤30 B2b = lit≤ tt
sblimit≤30 B2c = lit≤ tt
sblimit≤30 B2d = lit≤ tt

pub limit≤30 : (mode bitrate samplerate : ℕ) → limit_of mode bitrate samplerate ≤ 30
unfolding limit_of
limit≤30 mode bitrate samplerate = sblimit≤30 (chosen (eqb mode 3) bitrate samplerate)

-- a quantiser's levels, and how large its codes are: one of three samples, and one of one
pub record QuantiserSizes (q : ℕ) : Type 0 where
  pub least : 3 ≤ levels_of q
  pub most : levels_of q ≤ 65535
  pub grouped : grouped_of q ≡ true → 2 ^ code_bits_of q ≤ (levels_of q + 4) * levels_of q * levels_of q
  pub single : grouped_of q ≡ false → 2 ^ code_bits_of q ≡ levels_of q + 1

abbrev ranged : ℕ → Bool
ranged q = leb 3 (levels_of q) && leb (levels_of q) 65535

abbrev wide : ℕ → Bool
wide q =
    cond (grouped_of q) (leb (2 ^ code_bits_of q) ((levels_of q + 4) * levels_of q * levels_of q))
    (eqb (2 ^ code_bits_of q) (levels_of q + 1))

size_test : ℕ → Bool
size_test q = (ranged q && wide q) || eqb q 0

pub sized : (q : ℕ) → 0 < q → q < 18 → QuantiserSizes q
unfolding size_test levels_of code_bits_of grouped_of quantisation_of classes
sized q p h =
    let t = or_left (ranged q && wide q) (eqb q 0) (below size_test 18 tt q h) (λ k. let e : q ≡ 0 = eqb→eq q 0 k in omega arith) in
    let u = and_left (ranged q) (wide q) t in
    let v = and_right (ranged q) (wide q) t in
    record {
      least = leb→le _ _ (and_left (leb 3 (levels_of q)) (leb (levels_of q) 65535) u);
      most = leb→le _ _ (and_right (leb 3 (levels_of q)) (leb (levels_of q) 65535) u);
      grouped = λ g. leb→le _ _ (rw g at v);
      single = λ g. eqb→eq _ _ (rw g at v);
    }
