-- How far a reading moves, and what it owes to the bits it calls for, once for every format:
-- `exact` (bits used are the sum of the widths whenever that many remain) and `alike` (agreeing bits read the same).
-- Assumes nothing.
use Rattle.std.specs.Prelude.{ℕ, zero, suc, ◌+◌, ◌-◌, ◌*◌, ◌≤◌, ◌<◌, max, ◌≡◌, refl, Bool, true, false, List, length, ltb}
use Rattle.std.proofs.Common.{ap, ◌∙◌, arith, add_assoc, lt-ltb, le-ltb, ltb-true, ltb-false}
use Rattle.buffer.specs.Laws.{Enough, field_whole, field_moves}
use Rattle.buffer.specs.Bits.{bit_at, bits_value}
use Rattle.buffer.specs.Calls.{field_of, read_of}
use Rattle.buffer.specs.declared.Reader.{Reader}
use Rattle.grammar.specs.Reads.{Reads, done, ask, ◌>>=◌, run, called}

-- no field is wider than 32 bits
unfoldable pub Narrow : {A : Type 0} → Reads A → Type 0
Narrow (done a) = Unit
Narrow (ask n k) = (n ≤ 32) × ((v : ℕ) → Narrow (k v))

pub narrow_bind : {A B : Type 0} (m : Reads A) (f : A → Reads B) → Narrow m → ((a : A) → Narrow (f a)) → Narrow (m >>= f)
unfolding Narrow ◌>>=◌
narrow_bind (done a) f h g = g a
narrow_bind (ask n k) f h g = (h.0, λ v. narrow_bind (k v) f (h.1 v) g)

-- what is left of n bits when a move by d is made
rest : {s : List ℕ} {r : Reader} {n : ℕ} (d k : ℕ) (q : Reader) → Enough s r n → q.at.0 ≡ r.at.0 + d → d + k ≤ n → Enough s q k
rest d k q h e l = record { short = h.short; near = omega arith; enough = omega arith }

-- where all the bits that a reading calls for are there, it moves by just so many
pub exact : {A : Type 0} (m : Reads A) (s : List ℕ) (r : Reader) → Narrow m → Enough s r (called m s r) →
    (run m s r).next.at.0 ≡ r.at.0 + called m s r
unfolding run called Narrow
exact (done a) s r w h = omega arith
exact (ask n k) s r w h =
    let c = called (k (field_of s r n).value) s (field_of s r n).next in
    let e : (field_of s r n).next.at.0 ≡ r.at.0 + n = rw (field_whole s r n (rest 0 n r h (omega arith) (omega arith)) w.0) in
    omega (arith, e, exact (k (field_of s r n).value) s (field_of s r n).next (w.1 (field_of s r n).value) (rest n c _ h e (omega arith)))

-- whatever remains, a reading moves forward, by no more than it calls for, and not past the farther of its start and the end
pub run_moves : {A : Type 0} (m : Reads A) (s : List ℕ) (r : Reader) →
    (r.at.0 ≤ (run m s r).next.at.0) × ((run m s r).next.at.0 ≤ r.at.0 + called m s r)
    × ((run m s r).next.at.0 ≤ max r.at.0 (8 * length s))
unfolding run called
run_moves (done a) s r = (omega arith, omega arith, omega arith)
run_moves (ask n k) s r =
    let f = field_moves s r n in
    let ih = run_moves (k (field_of s r n).value) s (field_of s r n).next in
    (omega arith, omega arith, omega arith)

-- the n bits from one place are those from the other
unfoldable pub Agree : List ℕ → ℕ → List ℕ → ℕ → ℕ → Type 0
Agree s p t q n = (i : ℕ) → i < n → bit_at s (p + i) ≡ bit_at t (q + i)

agree_value : (s t : List ℕ) (p q n : ℕ) → Agree s p t q n → bits_value s p n ≡ bits_value t q n
unfolding Agree bits_value
agree_value s t p q zero h = refl
agree_value s t p q (suc n) h = rw (agree_value s t p q n (λ i l. h i (omega arith)), h n (omega arith))

agree_first : (s t : List ℕ) (p q n k : ℕ) → Agree s p t q (n + k) → Agree s p t q n
unfolding Agree
agree_first s t p q n k a i l = a i (omega arith)

agree_rest : (s t : List ℕ) (p q n k d p' q' : ℕ) → p' ≡ p + d → q' ≡ q + d → d ≤ n → Agree s p t q (n + k) → Agree s p' t q' k
unfolding Agree
agree_rest s t p q n k d p' q' e f h a i l = rw (e, f, add_assoc p d i, add_assoc q d i) (a (d + i) (omega arith))

-- a field of more than 32 bits is refused: 0, and the reader stays
field_wide : (s : List ℕ) (r : Reader) (n : ℕ) → Enough s r n → 32 < n → field_of s r n ≡ record { value = 0; next = r }
unfolding field_of read_of
field_wide s r n h l = simp (le-ltb _ _ h.short, le-ltb _ _ h.near, lt-ltb _ _ l)

-- two fields of one width: the same value, and moves as long as each other
record Step (s : List ℕ) (r : Reader) (t : List ℕ) (q : Reader) (n : ℕ) : Type 0 where
  same : (field_of s r n).value ≡ (field_of t q n).value
  by : ℕ
  short : by ≤ n
  moves : (field_of s r n).next.at.0 ≡ r.at.0 + by
  moves' : (field_of t q n).next.at.0 ≡ q.at.0 + by

-- more than 32 bits are refused on both sides; any others are there and agree
step : (s t : List ℕ) (r q : Reader) (n : ℕ) → Enough s r n → Enough t q n → Agree s r.at.0 t q.at.0 n → Step s r t q n
step s t r q n h h' a = go (ltb 32 n) refl
  where
    go : (b : Bool) → ltb 32 n ≡ b → Step s r t q n
    go true e =
        let l : 32 < n = ltb-true _ _ e in
        record {
          same = rw (field_wide s r n h l, field_wide t q n h' l);
          by = 0;
          short = omega arith;
          moves = rw (field_wide s r n h l) (omega arith);
          moves' = rw (field_wide t q n h' l) (omega arith);
        }
    go false e =
        let l : n ≤ 32 = ltb-false _ _ e in
        record {
          same = rw (field_whole s r n h l, field_whole t q n h' l) (agree_value s t r.at.0 q.at.0 n a);
          by = n;
          short = omega arith;
          moves = ap (λ f. f.next.at.0) (field_whole s r n h l);
          moves' = ap (λ f. f.next.at.0) (field_whole t q n h' l);
        }

-- two readings are alike: the same value, the same number of bits called for, and of bits used
pub record Alike {A : Type 0} (m : Reads A) (s : List ℕ) (r : Reader) (t : List ℕ) (q : Reader) : Type 0 where
  pub value : (run m s r).value ≡ (run m t q).value
  pub calls : called m s r ≡ called m t q
  pub moves : (run m s r).next.at.0 + q.at.0 ≡ (run m t q).next.at.0 + r.at.0

-- where all the bits that a reading calls for are there and agree, it reads the same
pub alike : {A : Type 0} (m : Reads A) (s t : List ℕ) (r q : Reader) → Enough s r (called m s r) → Enough t q (called m s r) →
    Agree s r.at.0 t q.at.0 (called m s r) → Alike m s r t q
unfolding run called
alike (done a) s t r q h h' a' = record { value = refl; calls = refl; moves = omega arith }
alike (ask n k) s t r q h h' a =
    let c = called (k (field_of s r n).value) s (field_of s r n).next in
    let st = step s t r q n (rest 0 n r h (omega arith) (omega arith)) (rest 0 n q h' (omega arith) (omega arith))
    (agree_first s t r.at.0 q.at.0 n c a) in
    let ih = alike (k (field_of s r n).value) s t (field_of s r n).next (field_of t q n).next
    (rest st.by c _ h st.moves (omega arith)) (rest st.by c _ h' st.moves' (omega arith))
    (agree_rest s t r.at.0 q.at.0 n c st.by _ _ st.moves st.moves' st.short a) in
    record {
      value = ih.value ∙ ap (λ v. (run (k v) t (field_of t q n).next).value) st.same;
      calls = rw (← st.same) (ap (λ x. n + x) ih.calls);
      moves = omega (arith, ih.moves, ap (λ v. (run (k v) t (field_of t q n).next).next.at.0) st.same, st.moves, st.moves');
    }

-- the bits used, counted
pub same_used : {A : Type 0} {m : Reads A} {s t : List ℕ} {r q : Reader} → Alike m s r t q →
    (run m s r).next.at.0 - r.at.0 ≡ (run m t q).next.at.0 - q.at.0
same_used a = omega (arith, a.moves)
