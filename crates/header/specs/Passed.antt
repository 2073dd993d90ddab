-- What an attempt passed over: from its aligned start to the FF of the sync, or to the stream's end if there is none. From 02, E2.
-- Assumes nothing.
use Rattle.std.specs.Prelude.{ℕ, ◌+◌, ◌-◌, ◌*◌, ◌/◌, ◌%◌, ◌≤◌, ◌<◌, max, ◌≡◌, refl, Bool, true, false, List, eqb, ltb, length, get_or, Result, Ok, Err}
use Rattle.std.proofs.Common.{sym, ap, ◌∙◌, arith, eqb-true, ltb-true, ltb-false}
use Rattle.std.proofs.Math.Decide.{ℕ_discrete}
use Rattle.std.proofs.lemmas.Bool.{not-false}
use Rattle.ground.specs.Tests.{by_test}
use Rattle.ground.specs.First.{first_within, first_passes}
use Rattle.ground.specs.Rows.{is_false}
use Rattle.buffer.specs.Bits.{longest_stream, farthest_bit, bits_value, other_at, pair_at, past_of, stop_of}
use Rattle.buffer.specs.Calls.{reader_at, byte_after_of, left, field_of, has_of, skip_bytes_of, search_of}
use Rattle.buffer.specs.Laws.{field_whole, field_read, field_moves}
use Rattle.buffer.specs.PairLaws.{pair_found, pair_is_ff, pair_ones, ones_are_ff}
use Rattle.buffer.specs.declared.BytePos.{BytePos}
use Rattle.grammar.specs.Reads.{Taken}
use Rattle.buffer.specs.declared.Reader.{Reader}
use Rattle.buffer.specs.declared.Sync.{Sync}
use Rattle.header.specs.declared.Attempt.{Attempt}
use Rattle.header.specs.declared.Format.{Format}
use Rattle.refusal.specs.declared.Refusal.{Refusal}
use Rattle.header.specs.declared.Unsynced.{Unsynced}
use Rattle.header.specs.Header.{by_search, seek_of, sync_of, by_has, start_of, by_start, header_of}
use Rattle.header.specs.Attempts.{past, eleven_bits, from, stop, NoPair, Synced, in_place, searched, Attempts, one, two, three, four, five, thirteen, six, zero}

-- ---- the sync that an attempt met

-- no pair starts at any byte from the aligned start up to this one; the last byte of a stream begins none
abbrev pub NoneBefore : List ℕ → Reader → ℕ → Type 0
NoneBefore s r n = (j : ℕ) → (byte_after_of r.at).0 ≤ j → j < n → j + 1 < length s → pair_at s j ≡ false

-- eleven ones begin at byte b, so an FF stands there, at the aligned start or behind it; reading goes on behind them, and before b there
-- is no pair
pub record Met (s : List ℕ) (r : Reader) (b : BytePos) (q : Reader) : Type 0 where
  pub forth : (byte_after_of r.at).0 ≤ b.0
  pub ones : bits_value s (b.0 * 8) 11 ≡ 2047
  pub ff : get_or s b.0 0 % 256 ≡ 255
  pub behind : q.at.0 ≡ b.0 * 8 + 11
  pub none_before : NoneBefore s r b.0

module _ (s : List ℕ) (r : Reader) (short : length s ≤ longest_stream) (near : r.at.0 ≤ farthest_bit) (room : 48 ≤ left s r) where
  past_within : ((byte_after_of r.at).0 ≤ past s r) × (past s r ≤ length s)
  past_within = let w = first_within (other_at s 0) (length s - (r.at.0 + 7) / 8) ((r.at.0 + 7) / 8) in (omega arith, omega arith)

  -- zero bytes are no pair
  zeros_are_none : NoneBefore s r (past s r)
  zeros_are_none j l m n =
      let zero : get_or s j 0 ≡ 0 = eqb-true _ _ (not-false _ (first_passes (other_at s 0) (length s - (r.at.0 + 7) / 8) ((r.at.0 + 7) / 8) j l m)) in
      is_false (pair_at s j) (λ e. absurd (let ff : get_or s j 0 ≡ 255 = pair_is_ff s j e in omega arith))

  -- nor are the two bytes behind them, unless their 11 bits are ones
  eleven_are_none : ((eleven_bits s r).value ≡ 2047 → ⊥) → past s r + 1 < length s → pair_at s (past s r) ≡ false
  eleven_are_none not inside =
      let whole = field_whole s (reader_at (past s r * 8)) 11 (record { short = short; near = omega arith; enough = omega arith }) (omega arith) in
      is_false (pair_at s (past s r)) (λ e. not (ap (λ f. f.value) whole ∙ pair_ones s (past s r) e))

  -- so from the aligned start on there is none before the one that the search finds
  none_before_the_search : ((eleven_bits s r).value ≡ 2047 → ⊥) → (j : ℕ) → (byte_after_of r.at).0 ≤ j → j < from s r → j + 1 < length s → pair_at s j ≡ false
  none_before_the_search not j l m n = go (ℕ_discrete j (past s r))
    where
      go : Dec (j ≡ past s r) → pair_at s j ≡ false
      go (yes e) = ap (pair_at s) e ∙ eleven_are_none not (omega arith)
      go (no e) = let f = field_moves s (reader_at (past s r * 8)) 11 in zeros_are_none j l (omega arith) n

  none_before_the_stop : ((eleven_bits s r).value ≡ 2047 → ⊥) → NoneBefore s r (stop s r)
  none_before_the_stop not j l m n = go (ltb j (from s r)) refl
    where
      go : (t : Bool) → ltb j (from s r) ≡ t → pair_at s j ≡ false
      go true e = none_before_the_search not j l (ltb-true _ _ e) n
      go false e = first_passes (pair_at s) (length s - 1 - from s r) (from s r) j (ltb-false _ _ e) m

  pub sync_is_ff : {b : BytePos} {q : Reader} → Synced s r b q → Met s r b q
  sync_is_ff (in_place eleven) =
      let some : (v : ℕ) → v ≡ 2047 → v ≡ 0 → ⊥ = λ v e z. omega arith in
      let read = field_read s (reader_at (past s r * 8)) 11 (omega arith) (some _ eleven) in
      let whole = field_whole s (reader_at (past s r * 8)) 11 (record { short = short; near = omega arith; enough = omega arith }) (omega arith) in
      let ones = sym (ap (λ f. f.value) whole) ∙ eleven in
      record { forth = past_within.0; ones = ones; ff = ones_are_ff s (past s r) ones; behind = read.0; none_before = zeros_are_none }
  sync_is_ff (searched not before) =
      let w = first_within (pair_at s) (length s - 1 - from s r) (from s r) in
      let f = field_moves s (reader_at (past s r * 8)) 11 in
      let p = past_within in
      let ones = pair_ones s (stop s r) (pair_found s (from s r) before) in
      record {
        forth = omega arith;
        ones = ones;
        ff = ones_are_ff s (stop s r) ones;
        behind = omega arith;
        none_before = none_before_the_stop not;
      }

  -- with 2 there is none to the stream's end
  pub none_to_the_end : ((eleven_bits s r).value ≡ 2047 → ⊥) → NoPair s r → NoneBefore s r (length s)
  none_to_the_end not none j l m n = go (ltb j (from s r)) refl
    where
      go : (t : Bool) → ltb j (from s r) ≡ t → pair_at s j ≡ false
      go true e = none_before_the_search not j l (ltb-true _ _ e) n
      go false e = none j (ltb-false _ _ e) n

-- ---- so it is in every row

-- an attempt with number n went on from its aligned start to byte `sync`: past no pair; to an FF; with 2 to the stream's end, with 1 nowhere
pub record Passed (s : List ℕ) (r : Reader) (n sync : ℕ) : Type 0 where
  pub none_before : NoneBefore s r sync
  pub to_an_ff : (n ≡ 1 → ⊥) → (n ≡ 2 → ⊥) → get_or s sync 0 % 256 ≡ 255
  pub to_the_end : n ≡ 2 → sync ≡ length s
  pub nowhere : n ≡ 1 → sync ≡ (byte_after_of r.at).0

met_passed : {s : List ℕ} {r : Reader} {b : BytePos} {q : Reader} (n : ℕ) → (n ≡ 1 → ⊥) → (n ≡ 2 → ⊥) → Met s r b q → Passed s r n b.0
met_passed n not-one not-two met =
    record {
      none_before = met.none_before;
      to_an_ff = λ _ _. met.ff;
      to_the_end = λ e. absurd (not-two e);
      nowhere = λ e. absurd (not-one e);
    }

pub attempt_passed : {s : List ℕ} {r : Reader} {known : Format} {n : ℕ} {x : Attempt} → length s ≤ longest_stream → r.at.0 ≤ farthest_bit
    → Attempts s r known n x → Passed s r n x.sync.0
attempt_passed short near (one l) =
    record { none_before = λ j l m. absurd (omega arith); to_an_ff = λ e. absurd (e refl); to_the_end = λ e. absurd (omega arith); nowhere = λ _. refl }
attempt_passed {s} {r} short near (two room not none) =
    record {
      none_before = none_to_the_end s r short near room not none;
      to_an_ff = λ _ e. absurd (e refl);
      to_the_end = λ _. refl;
      nowhere = λ e. absurd (omega arith);
    }
attempt_passed {s} {r} short near (three room y _) = met_passed 3 (λ e. omega arith) (λ e. omega arith) (sync_is_ff s r short near room y)
attempt_passed {s} {r} short near (four room y _ _) = met_passed 4 (λ e. omega arith) (λ e. omega arith) (sync_is_ff s r short near room y)
attempt_passed {s} {r} short near (five room y _ _) = met_passed 5 (λ e. omega arith) (λ e. omega arith) (sync_is_ff s r short near room y)
attempt_passed {s} {r} short near (thirteen room y _ _ _) = met_passed 13 (λ e. omega arith) (λ e. omega arith) (sync_is_ff s r short near room y)
attempt_passed {s} {r} short near (six room y _ _ _ _ _) = met_passed 6 (λ e. omega arith) (λ e. omega arith) (sync_is_ff s r short near room y)
attempt_passed {s} {r} short near (zero room y _ _ _ _) = met_passed 0 (λ e. omega arith) (λ e. omega arith) (sync_is_ff s r short near room y)

-- ---- for the code, whatever was asked: the sync lies at the aligned start or behind it, and not past the stream's end unless the start does

abbrev Within : List ℕ → ℕ → BytePos → Type 0
Within s b sync = (b ≤ sync.0) × (sync.0 ≤ max b (length s))

abbrev Starts : List ℕ → ℕ → Result (Taken BytePos) Unsynced → Type 0
Starts s b (Ok x) = Within s b x.value
Starts s b (Err e) = Within s b e.sync

-- a search from byte b or behind it, and not past the end
seek_within : (s : List ℕ) (b : ℕ) (r : Reader) → b * 8 ≤ r.at.0 → r.at.0 ≤ 8 * length s → Starts s b (seek_of s r)
unfolding seek_of search_of
seek_within s b r low high =
    let w = first_within (pair_at s) (length s - 1 - r.at.0 / 8) (r.at.0 / 8) in
    by_test P (ltb longest_stream (length s)) _ _ (λ _. (omega arith, omega arith))
    (λ _. by_test P (ltb farthest_bit r.at.0) _ _ (λ _. (omega arith, omega arith))
    (λ _. by_test P (ltb (stop_of s (r.at.0 / 8)) (length s - 1)) _ _
    (λ t. let l = ltb-true (stop_of s (r.at.0 / 8)) (length s - 1) t in (omega arith, omega arith)) (λ _. (omega arith, omega arith))))
  where
    P : Result Sync Refusal → Type 0
    P x = Starts s b (by_search r x)

sync_starts : (s : List ℕ) (b p : ℕ) → b ≤ p → p ≤ length s → Starts s b (sync_of s (reader_at (p * 8)))
unfolding sync_of
sync_starts s b p low high =
    let m = field_moves s (reader_at (p * 8)) 11 in
    by_test (Starts s b) (eqb (field_of s (reader_at (p * 8)) 11).value 2047) _ _ (λ _. (omega arith, omega arith))
    (λ _. seek_within s b _ (omega arith) (omega arith))

start_within : (s : List ℕ) (r : Reader) → Starts s ((r.at.0 + 7) / 8) (start_of s r)
unfolding start_of has_of skip_bytes_of
start_within s r =
    by_test P (ltb longest_stream (length s)) _ _ (λ _. (omega arith, omega arith))
    (λ short. by_test P (ltb farthest_bit r.at.0) _ _ (λ _. (omega arith, omega arith))
    (λ near. by_test P (ltb (left s r) 48) _ _ (λ _. (omega arith, omega arith))
    (λ room.
    let b = (r.at.0 + 7) / 8 in
    let w = first_within (other_at s 0) (length s - b) b in
    let enough : 48 ≤ left s r = ltb-false _ _ room in
    simp (short, near) (sync_starts s b (past_of s 0 b) (omega arith) (omega arith)))))
  where
    P : Result Bool Refusal → Type 0
    P h = Starts s ((r.at.0 + 7) / 8) (by_has s r h)

pub sync_within : (s : List ℕ) (r : Reader) (known : Format) → let b = (header_of s r known).sync.0 in let start = (byte_after_of r.at).0 in
    (start ≤ b) × (b ≤ max start (length s))
unfolding header_of
sync_within s r known = go (start_of s r) (start_within s r)
  where
    go : (x : Result (Taken BytePos) Unsynced) → Starts s ((r.at.0 + 7) / 8) x → Within s ((r.at.0 + 7) / 8) (by_start s known x).sync
    go (Ok x) w = w
    go (Err e) w = w
