-- The reader's eight calls by 01's table: 8, 10, 11, 12 in this order, each given exactly when. Every call begins with 8 and 10; `read`
-- alone goes on to 11 and 12, and a search that finds nothing is answered. Assumes nothing.
use Prim.Native.Nat.{ℕ, zero as none, suc, ◌+◌, ◌-◌, ◌*◌, ◌/◌, ◌≤◌, ◌<◌}
use Rattle.std.specs.Prelude.{◌≡◌, Bool, true, false, cond, List, eqb, ltb, length, Result, Ok, Err}
use Rattle.std.proofs.Math.Path.{refl, ap, sym}
use Rattle.std.proofs.Common.{subst, ◌∙◌}
use native.Mathlib.Omega.{arith}
use borrow.Author.Tests.{lt-ltb, le-ltb, ltb-true, ltb-false}
use Rattle.ground.specs.First.{first_none, first_within, first_passes}
use Rattle.ground.specs.Tests.{by_test}
use Rattle.buffer.specs.Bits.{bits_value, past_of, pair_at, stop_of, longest_stream, farthest_bit}
use Rattle.buffer.specs.Calls.{taken, gate, left, byte_pos_of, aligned, reader_at, byte_at, read_of, has_of, ended_of, align_of, skip_of, tell_of, skip_bytes_of, search_of}
use Rattle.buffer.specs.Numbers.{result_number}
use Rattle.buffer.specs.PairLaws.{pair_found}
use Rattle.buffer.specs.declared.BytePos.{BytePos}
use Rattle.buffer.specs.declared.Reader.{Reader}
use Rattle.buffer.specs.declared.Taken.{Taken}
use Rattle.buffer.specs.declared.Sync.{Sync}
use Rattle.buffer.specs.declared.Sync.TheVariants.{Found, Missing}
use Rattle.ground.specs.Rows.{TableOf}
use Rattle.refusal.specs.declared.Refusal.TheVariants.{LongStream, BadState, WideRead, ShortRead}
use Rattle.refusal.specs.declared.Refusal.{Refusal}

-- ---- 8 and 10, for every call

pub data Gated {A : Type 0} (s : List ℕ) (r : Reader) (number : ℕ) (go : Result A Refusal) : ℕ → Result A Refusal → Type 0 where
  -- "stream above 16,777,216 bytes"
  eight : longest_stream < length s → Gated s r number go 8 (Err LongStream)
  -- "state out of range": "bit position at most 134,217,736"
  ten : length s ≤ longest_stream → farthest_bit < r.at.0 → Gated s r number go 10 (Err BadState)
  -- neither
  answered : length s ≤ longest_stream → r.at.0 ≤ farthest_bit → Gated s r number go number go

module _ {A : Type 0} (s : List ℕ) (r : Reader) (go : Result A Refusal) (k : ℕ) (otherwise : result_number go ≡ k) where
  pub gate_table : TableOf result_number (gate s r go) (Gated s r k go)
  gate_table =
      record {
        holds =
            by_test (λ x. Row (result_number x) x) (ltb longest_stream (length s)) _ _ (λ e. eight (ltb-true _ _ e))
            (λ e. by_test (λ x. Row (result_number x) x) (ltb farthest_bit r.at.0) _ _ (λ f. ten (ltb-false _ _ e) (ltb-true _ _ f))
            (λ f. subst (λ (i : ℕ). Row i go) (sym otherwise) (answered (ltb-false _ _ e) (ltb-false _ _ f))));
        only = one;
      }
    where
      Row : ℕ → Result A Refusal → Type 0
      Row = Gated s r k go

      one : {n : ℕ} {x : Result A Refusal} → Row n x → (x ≡ gate s r go) × (result_number x ≡ n)
      one (eight l) = (simp (lt-ltb _ _ l), refl)
      one (ten l f) = (simp (le-ltb _ _ l, lt-ltb _ _ f), refl)
      one (answered l f) = (simp (le-ltb _ _ l, le-ltb _ _ f), otherwise)

-- ---- read goes on to 11 and 12

pub data ReadGives (s : List ℕ) (r : Reader) (n : ℕ) : ℕ → Result (Taken ℕ) Refusal → Type 0 where
  -- "bit read of more than 32 bits"
  eleven : 32 < n → ReadGives s r n 11 (Err WideRead)
  -- "bit read wider than what remains"
  twelve : n ≤ 32 → left s r < n → ReadGives s r n 12 (Err ShortRead)
  zero : n ≤ 32 → n ≤ left s r → ReadGives s r n 0 (Ok (taken (bits_value s r.at.0 n) (reader_at (r.at.0 + n))))

abbrev pub reading : List ℕ → Reader → ℕ → Result (Taken ℕ) Refusal
reading s r n =
    cond (ltb 32 n) (Err WideRead) (cond (ltb (left s r) n) (Err ShortRead) (Ok (taken (bits_value s r.at.0 n) (reader_at (r.at.0 + n)))))

pub reading_table : (s : List ℕ) (r : Reader) (n : ℕ) → TableOf result_number (reading s r n) (ReadGives s r n)
reading_table s r n =
    record {
      holds =
          by_test P (ltb 32 n) _ _ (λ e. eleven (ltb-true _ _ e))
          (λ e. by_test P (ltb (left s r) n) _ _ (λ f. twelve (ltb-false _ _ e) (ltb-true _ _ f)) (λ f. zero (ltb-false _ _ e) (ltb-false _ _ f)));
      only = one;
    }
  where
    P : Result (Taken ℕ) Refusal → Type 0
    P x = ReadGives s r n (result_number x) x

    one : {k : ℕ} {x : Result (Taken ℕ) Refusal} → ReadGives s r n k x → (x ≡ reading s r n) × (result_number x ≡ k)
    one (eleven l) = (simp (lt-ltb _ _ l), refl)
    one (twelve l f) = (simp (le-ltb _ _ l, lt-ltb _ _ f), refl)
    one (zero l f) = (simp (le-ltb _ _ l, le-ltb _ _ f), refl)

-- ---- the eight calls

-- either way an answer: 0
either_is_0 : {A : Type 0} (t : Bool) (x y : A) → result_number (cond t (Ok x) (Ok y)) ≡ 0
either_is_0 t x y = by_test (λ z. result_number z ≡ 0) t _ _ (λ _. refl) (λ _. refl)

module _ (s : List ℕ) (r : Reader) where
  pub read_table : (n : ℕ) → TableOf result_number (read_of s r n) (Gated s r (result_number (reading s r n)) (reading s r n))
  unfolding read_of
  read_table n = gate_table s r (reading s r n) _ refl

  -- the others answer: 0
  pub has_table : (n : ℕ) → TableOf result_number (has_of s r n) (Gated s r 0 (cond (ltb (left s r) n) (Ok false) (Ok true)))
  unfolding has_of
  has_table n = gate_table s r _ 0 (either_is_0 (ltb (left s r) n) false true)

  pub has_ended_table : TableOf result_number (ended_of s r) (Gated s r 0 (cond (eqb (left s r) 0) (Ok true) (Ok false)))
  unfolding ended_of
  has_ended_table = gate_table s r _ 0 (either_is_0 (eqb (left s r) 0) true false)

  pub align_table : TableOf result_number (align_of s r) (Gated s r 0 (Ok (aligned r)))
  unfolding align_of
  align_table = gate_table s r _ 0 refl

  pub skip_table : (n : ℕ) → TableOf result_number (skip_of s r n) (Gated s r 0 (cond (ltb (left s r) n) (Ok r) (Ok (reader_at (r.at.0 + n)))))
  unfolding skip_of
  skip_table n = gate_table s r _ 0 (either_is_0 (ltb (left s r) n) r (reader_at (r.at.0 + n)))

  pub tell_table : TableOf result_number (tell_of s r) (Gated s r 0 (Ok (byte_pos_of r.at)))
  unfolding tell_of
  tell_table = gate_table s r _ 0 refl

  pub skip_bytes_table : (v : ℕ) → let from = (r.at.0 + 7) / 8 in
      TableOf result_number (skip_bytes_of s r v) (Gated s r 0 (Ok (taken (past_of s v from - from) (reader_at (past_of s v from * 8)))))
  unfolding skip_bytes_of
  skip_bytes_table v = gate_table s r _ 0 refl

  pub search_table : let stop = stop_of s (r.at.0 / 8) in
      TableOf result_number (search_of s r)
      (Gated s r 0
      (cond (ltb stop (length s - 1)) (Ok (Found (byte_at stop) (stop - r.at.0 / 8) (reader_at ((stop + 1) * 8 + 3))))
      (Ok (Missing (byte_at (length s)) (length s - r.at.0 / 8) (reader_at ((stop + 1) * 8))))))
  unfolding search_of
  search_table = gate_table s r _ 0 (either_is_0 (ltb (stop_of s (r.at.0 / 8)) (length s - 1)) _ _)

-- ---- what a search passes over (02, E2), in the stream's own bytes

-- from the byte that holds the position so many bytes lead to a pair, past none
pub a_pair_found : (s : List ℕ) (r : Reader) → length s ≤ longest_stream → r.at.0 ≤ farthest_bit → {sync : BytePos} {k : ℕ} {next : Reader}
    → search_of s r ≡ Ok (Found sync k next)
    → (r.at.0 / 8 + k ≡ sync.0) × (pair_at s sync.0 ≡ true) × ((j : ℕ) → r.at.0 / 8 ≤ j → j < sync.0 → pair_at s j ≡ false)
unfolding search_of
a_pair_found s r short near {sync} {k} {next} e = by (ltb stop (length s - 1)) refl (rw (le-ltb _ _ short, le-ltb _ _ near) at e)
  where
    from : ℕ
    from = r.at.0 / 8

    stop : ℕ
    stop = stop_of s from

    by : (t : Bool) → ltb stop (length s - 1) ≡ t
        → ◌≡◌ {A = Result Sync Refusal} (cond t (Ok (Found (byte_at stop) (stop - from) (reader_at ((stop + 1) * 8 + 3)))) (Ok (Missing (byte_at (length s)) (length s - from) (reader_at ((stop + 1) * 8)))))
        (Ok (Found sync k next))
        → (from + k ≡ sync.0) × (pair_at s sync.0 ≡ true) × ((j : ℕ) → from ≤ j → j < sync.0 → pair_at s j ≡ false)
    by false t e = absurd (let z : ◌≡◌ {A = ℕ} 0 1 = cc in omega arith)
    by true t e =
        let at : byte_at stop ≡ sync = cc in
        let passed : stop - from ≡ k = cc in
        let place : stop ≡ sync.0 = ap (λ (b : BytePos). b.0) at in
        let w = first_within (pair_at s) (length s - 1 - from) from in
        let pair = pair_found s from (ltb-true _ _ t) in (
          omega (arith, passed, place, w),
          ap (pair_at s) (sym place) ∙ pair,
          λ j l m. first_passes (pair_at s) (length s - 1 - from) from j l (omega (arith, place)),
        )

-- ---- "a reader searched again at the end goes one byte further each time, at last to a 10"

-- where a search leaves a reader
abbrev pub searched : Reader → Result Sync Refusal → Reader
searched r (Ok (Found sync skipped next)) = next
searched r (Ok (Missing sync skipped next)) = next
searched r (Err n) = r

unfoldable pub searched_again : List ℕ → Reader → ℕ → Reader
searched_again s r none = r
searched_again s r (suc k) = let q = searched_again s r k in searched q (search_of s q)

module _ (s : List ℕ) (short : length s ≤ longest_stream) where
  -- from the last byte on, at byte i
  one_byte_further : (i : ℕ) → length s ≤ i + 1 → i * 8 ≤ farthest_bit → search_of s (reader_at (i * 8)) ≡ Ok (Missing (byte_at (length s)) (length s - i) (reader_at ((i + 1) * 8)))
  unfolding search_of
  one_byte_further i late near =
      let from : i * 8 / 8 ≡ i = omega arith in
      let stop : stop_of s i ≡ i = sym (first_none (pair_at s) (length s - 1) i (stop_of s i) (omega arith) refl) in
      simp (le-ltb _ _ short, le-ltb _ _ near, from, stop, le-ltb i (length s - 1) (omega arith))

  further_each_time : (i : ℕ) → length s ≤ i + 1 → (k : ℕ) → (i + k) * 8 ≤ farthest_bit + 8 → searched_again s (reader_at (i * 8)) k ≡ reader_at ((i + k) * 8)
  unfolding searched_again
  further_each_time i late none near = ap (λ (j : ℕ). reader_at (j * 8)) (omega arith)
  further_each_time i late (suc k) near =
      ap (λ (q : Reader). searched q (search_of s q)) (further_each_time i late k (omega arith))
      ∙ ap (searched (reader_at ((i + k) * 8))) (one_byte_further (i + k) (omega arith) (omega arith))
      ∙ ap (λ (j : ℕ). reader_at (j * 8)) (omega arith)

  -- so from byte i, at the last byte or past it, so many searches later
  pub at_last_to_a_ten : (i : ℕ) → length s ≤ i + 1 → i ≤ farthest_bit / 8
      → search_of s (searched_again s (reader_at (i * 8)) (farthest_bit / 8 + 1 - i)) ≡ Err BadState
  unfolding search_of
  at_last_to_a_ten i late near =
      let far : (i + (farthest_bit / 8 + 1 - i)) * 8 ≡ farthest_bit + 8 = omega arith in
      ap (search_of s) (further_each_time i late (farthest_bit / 8 + 1 - i) (omega arith) ∙ ap reader_at far)
      ∙ simp (le-ltb _ _ short)
