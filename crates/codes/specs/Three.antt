-- Three codes of one width read at once are the three read one by one, where all their bits are there.
-- Assumes nothing.
use Rattle.std.specs.Prelude.{ℕ, ◌+◌, ◌*◌, ◌/◌, ◌%◌, ◌^◌, ◌≤◌, ◌<◌, ◌≡◌, refl, List, ltb, length, Result}
use Rattle.std.proofs.Common.{ap, ◌∙◌, add_assoc, arith, ltb-false}
use Rattle.std.proofs.Math.Pow.{high, low}
use Rattle.ground.specs.Tests.{by_test}
use Rattle.buffer.specs.Bits.{bits_value, longest_stream, farthest_bit}
use Rattle.buffer.specs.Calls.{or_zero, read_of, field_of, reader_at, left}
use Rattle.buffer.specs.Laws.{split, bits_below, Enough, field_whole}
use Rattle.buffer.specs.declared.Reader.{Reader}
use Rattle.buffer.specs.declared.Taken.{Taken}
use Rattle.refusal.specs.declared.Refusal.{Refusal}
use Rattle.grammar.specs.Reads.{run, taken}
use Rattle.samples.specs.declared.Three.{Three}
use Rattle.codes.specs.Frame.{singles_of}

-- the upper, middle and lower of three numbers of so many bits in one
abbrev pub cut_in_three : ℕ → ℕ → Three
cut_in_three value bits = record { first = value / 2 ^ bits / 2 ^ bits; second = value / 2 ^ bits % 2 ^ bits; third = value % 2 ^ bits }

-- a field that moves has all its bits
pub moved_enough : (s : List ℕ) (r : Reader) (n : ℕ) → ((field_of s r n).next.at.0 ≡ r.at.0 → ⊥) → Enough s r n
unfolding field_of read_of
moved_enough s r n =
    let P : Result (Taken ℕ) Refusal → Type 0 = λ x. ((or_zero r x).next.at.0 ≡ r.at.0 → ⊥) → Enough s r n in
    by_test P (ltb longest_stream (length s)) _ _ (λ _ m. absurd (m refl))
    (λ a. by_test P (ltb farthest_bit r.at.0) _ _ (λ _ m. absurd (m refl))
    (λ b. by_test P (ltb 32 n) _ _ (λ _ m. absurd (m refl))
    (λ _. by_test P (ltb (left s r) n) _ _ (λ _ m. absurd (m refl))
    (λ d _. record { short = ltb-false _ _ a; near = ltb-false _ _ b; enough = ltb-false _ _ d }))))

-- so many bits three times over
three_values : (s : List ℕ) (at b : ℕ) →
    bits_value s at (3 * b) ≡ (bits_value s at b * 2 ^ b + bits_value s (at + b) b) * 2 ^ b + bits_value s (at + b + b) b
three_values s at b =
    let e : 3 * b ≡ b + b + b = omega arith in
    rw (e, split s at (b + b) b, split s at b b, add_assoc at b b)

pieces : (x y z b : ℕ) → y < 2 ^ b → z < 2 ^ b → cut_in_three ((x * 2 ^ b + y) * 2 ^ b + z) b ≡ record { first = x; second = y; third = z }
pieces x y z b h g = rw (high (x * 2 ^ b + y) b g, low (x * 2 ^ b + y) b g, high x b h, low x b h)

-- b of the bits that remain, from d on
part : {s : List ℕ} {r : Reader} {n : ℕ} (d b : ℕ) → Enough s r n → d + b ≤ n → Enough s (reader_at (r.at.0 + d)) b
part d b h l = record { short = h.short; near = omega arith; enough = omega arith }

pub at_once : (s : List ℕ) (r : Reader) (b : ℕ) (f : Taken ℕ) → f ≡ field_of s r (3 * b) → b ≤ 10 → (f.next.at.0 ≡ r.at.0 → ⊥) →
    taken (cut_in_three f.value b) f.next ≡ run (singles_of b) s r
unfolding singles_of run
at_once s r b f e l m =
    let at = r.at.0 in
    let all = moved_enough s r (3 * b) (λ k. m (ap (λ g. g.next.at.0) e ∙ k)) in
    let one : field_of s r b ≡ record { value = bits_value s at b; next = reader_at (at + b) } =
    field_whole s r b (record { short = all.short; near = all.near; enough = omega arith }) (omega arith) in
    let two = field_whole s (reader_at (at + b)) b (part b b all (omega arith)) (omega arith) in
    let three = field_whole s (reader_at (at + b + b)) b (rw (← add_assoc at b b) at (part (b + b) b all (omega arith))) (omega arith) in
    let values = rw (← three_values s at b) at (pieces (bits_value s at b) _ _ b (bits_below s (at + b) b) (bits_below s (at + b + b) b)) in
    let place : at + 3 * b ≡ at + b + b + b = omega arith in
    rw (e, field_whole s r (3 * b) all (omega arith), one, two, three, place) (ap (λ k. taken k (reader_at (at + b + b + b))) values)
