-- One header attempt by 01's table: the numbers 1 to 6, 13 (02, E3) and 0, each given exactly when, in the order in which the header is read,
-- the place where reading goes on, and the byte of the sync's FF (02, E2). From 01, "Numbers a call can give" and "From the bytes to a header". Assumes nothing.
use Prim.Native.Nat.{ℕ, ◌+◌, ◌-◌, ◌*◌, ◌/◌, ◌≤◌, ◌<◌}
use Rattle.std.specs.Prelude.{◌≡◌, Bool, ◌&&◌, ◌||◌, List, ◌⊎◌, T, eqb, leb, ltb, length, Some, None, Result, Ok, Err}
use Rattle.std.proofs.Math.Path.{refl, ap}
use Rattle.std.proofs.Common.{sym, subst, ◌∙◌, inl, inr}
use Rattle.std.proofs.Math.Bool.{true, false, cond}
use native.Mathlib.Omega.{arith}
use borrow.Author.Tests.{lt-ltb, le-ltb, eq-eqb, ne_eqb, eqb-true, eqb-false, ltb-true, ltb-false}
use Rattle.ground.specs.Tests.{by_test, both, neither, either}
use Rattle.ground.specs.First.{first_within}
use Rattle.buffer.specs.Bits.{longest_stream, farthest_bit, other_at, pair_at, past_of, stop_of}
use Rattle.buffer.specs.Calls.{reader_at, byte_at, byte_after_of, left, field_of, has_of, skip_bytes_of, search_of}
use Rattle.buffer.specs.Laws.{field_moves}
use Rattle.buffer.specs.PairLaws.{no_pair_found}
use Rattle.buffer.specs.declared.BytePos.{BytePos}
use Rattle.buffer.specs.declared.Reader.{Reader}
use Rattle.grammar.specs.Reads.{Reads, done, ◌>>=◌, Taken, taken, run}
use Rattle.header.specs.Header.{bound_by, size_of, differs, by_search, seek_of, sync_of, start_of, ident_of, by_ident, rates_of, by_rates, mode_of, check_of, bound_of, unless_refused, accepted_header, rest_of, fields_of, unsynced, attempt, refusal, by_start, header_of, header_number}
use Rattle.header.specs.Accepted.{SameFormat, same_format}
use Rattle.readings.specs.Pairs.{barred}
use Rattle.refusal.specs.declared.Refusal.{Refusal}
use Rattle.refusal.specs.declared.Refusal.TheVariants.{NoHeader, NoSync, OtherLayer, NoBitRate, NoSampleRate, OtherFormat, BarredRate}
use Rattle.header.specs.declared.Rates.{Rates}
use Rattle.header.specs.declared.Format.{Format}
use Rattle.readings.specs.declared.Reading.{Reading}
use Rattle.header.specs.declared.Accepted.{Accepted}
use Rattle.header.specs.declared.Attempt.{Attempt}
use Rattle.header.specs.declared.Unsynced.{Unsynced}
use Rattle.ground.specs.Rows.{TableOf, never, is_true, is_false, push}
use Rattle.header.specs.Moves.{few_bits_stay}

-- ---- the sync

module _ (s : List ℕ) (r : Reader) where
  -- "it aligns, passes zero bytes, and reads 11 bits"
  abbrev pub past : ℕ
  past = past_of s 0 ((r.at.0 + 7) / 8)

  abbrev pub eleven_bits : Taken ℕ
  eleven_bits = field_of s (reader_at (past * 8)) 11

  -- "if they are not all ones, the search starts at the byte holding the reading position"
  abbrev pub from : ℕ
  from = eleven_bits.next.at.0 / 8

  abbrev pub stop : ℕ
  stop = stop_of s from

  -- no "FF then FC or FD" from there on
  abbrev pub NoPair : Type 0
  NoPair = (j : ℕ) → from ≤ j → j + 1 < length s → pair_at s j ≡ false

-- found at once, or by the search: the byte of its FF, and the place after it
pub data Synced (s : List ℕ) (r : Reader) : BytePos → Reader → Type 0 where
  in_place : (eleven_bits s r).value ≡ 2047 → Synced s r (byte_at (past s r)) (eleven_bits s r).next
  searched : ((eleven_bits s r).value ≡ 2047 → ⊥) → stop s r < length s - 1
      → Synced s r (byte_at (stop s r)) (reader_at ((stop s r + 1) * 8 + 3))

-- ---- the fields after it, from place q on, each where the one before it ends

module _ (s : List ℕ) (q : Reader) where
  abbrev pub version : Taken ℕ
  version = field_of s q 2

  abbrev pub layer : Taken ℕ
  layer = field_of s version.next 2

  abbrev pub protection : Taken ℕ
  protection = field_of s layer.next 1

  abbrev pub bitrate : Taken ℕ
  bitrate = field_of s protection.next 4

  abbrev pub samplerate : Taken ℕ
  samplerate = field_of s bitrate.next 2

  abbrev pub padding : Taken ℕ
  padding = field_of s samplerate.next 1

  abbrev pub mode : Taken ℕ
  mode = field_of s (field_of s padding.next 1).next 2

  abbrev pub extension : Taken ℕ
  extension = field_of s mode.next 2

  abbrev pub flags : Taken ℕ
  flags = field_of s extension.next 4

  -- "protection 1 (0 means a check word)"
  abbrev pub checked : Bool
  checked = eqb protection.value 0

  abbrev pub after_check : Reader
  after_check = cond checked (field_of s flags.next 16).next flags.next

  -- 01's 3 the other way round
  pub record Identified : Type 0 where
    pub version_3 : version.value ≡ 3
    pub layer_2 : layer.value ≡ 2

  -- .. and 4: 0 is free format, 15 is forbidden
  pub record BitrateGiven : Type 0 where
    pub ident : Identified
    pub not_free : bitrate.value ≡ 0 → ⊥
    pub not_forbidden : bitrate.value ≡ 15 → ⊥

  -- 02, E3: whether a reading refuses the pair of bit rate and mode
  abbrev pub pair_barred : Reading → Bool
  pair_barred reading = barred reading (bitrate.value - 1) mode.value

  abbrev pub format_by : Reading → Format
  format_by reading =
      record {
        reading = reading;
        samplerate = samplerate.value;
        bitrate = bitrate.value - 1;
        mode = mode.value;
        bound = bound_by mode.value extension.value;
      }

  abbrev pub data_size : ℕ
  data_size = size_of (bitrate.value - 1) samplerate.value padding.value checked

-- ---- the table

pub data Attempts (s : List ℕ) (r : Reader) (known : Format) : ℕ → Attempt → Type 0 where
  -- "fewer than 48 bits remain"
  one : left s r < 48 → Attempts s r known 1 (refusal NoHeader (byte_after_of r.at) r)
  -- "header sought, no sync found"
  two : 48 ≤ left s r → ((eleven_bits s r).value ≡ 2047 → ⊥) → NoPair s r
      → Attempts s r known 2 (refusal NoSync (byte_at (length s)) (reader_at ((stop s r + 1) * 8)))
  -- "version not 3, or layer not 2"
  three : {b : BytePos} {q : Reader} → 48 ≤ left s r → Synced s r b q → (Identified s q → ⊥)
      → Attempts s r known 3 (refusal OtherLayer b (protection s q).next)
  -- "bit-rate field 0 or 15"
  four : {b : BytePos} {q : Reader} → 48 ≤ left s r → Synced s r b q → Identified s q → ((bitrate s q).value ≡ 0) ⊎ ((bitrate s q).value ≡ 15)
      → Attempts s r known 4 (refusal NoBitRate b (bitrate s q).next)
  -- "sample-rate field 3"
  five : {b : BytePos} {q : Reader} → 48 ≤ left s r → Synced s r b q → BitrateGiven s q → (samplerate s q).value ≡ 3
      → Attempts s r known 5 (refusal NoSampleRate b (samplerate s q).next)
  -- 02, E3: a bit rate that the standard keeps for one mode; "after 5 and before 6; position as for 6"
  thirteen : {b : BytePos} {q : Reader} → 48 ≤ left s r → Synced s r b q → BitrateGiven s q → ((samplerate s q).value ≡ 3 → ⊥)
      → pair_barred s q known.reading ≡ true
      → Attempts s r known 13 (refusal BarredRate b (mode s q).next)
  -- "a header was accepted earlier, and bit rate, sample rate or mode differs"
  six : {b : BytePos} {q : Reader} → 48 ≤ left s r → Synced s r b q → BitrateGiven s q → ((samplerate s q).value ≡ 3 → ⊥)
      → pair_barred s q known.reading ≡ false
      → (known.samplerate ≡ 3 → ⊥) → (SameFormat known (format_by s q known.reading) → ⊥)
      → Attempts s r known 6 (refusal OtherFormat b (mode s q).next)
  -- "header accepted"
  zero : {b : BytePos} {q : Reader} → 48 ≤ left s r → Synced s r b q → BitrateGiven s q → ((samplerate s q).value ≡ 3 → ⊥)
      → pair_barred s q known.reading ≡ false
      → ((known.samplerate ≡ 3 → ⊥) → SameFormat known (format_by s q known.reading))
      → Attempts s r known 0 (record { header = Ok (accepted_header (format_by s q known.reading) (data_size s q)); sync = b; next = after_check s q })

-- ---- the course of the fields: one choice after the other

module _ (s : List ℕ) (q : Reader) (known : Format) where
  abbrev no_bitrate : Bool
  no_bitrate = eqb (bitrate s q).value 0 || eqb (bitrate s q).value 15

  abbrev is_layer_iI : Bool
  is_layer_iI = eqb (version s q).value 3 && eqb (layer s q).value 2

  abbrev other : Bool
  other = differs known (format_by s q known.reading).bitrate (format_by s q known.reading).samplerate (format_by s q known.reading).mode

  abbrev barred_pair : Bool
  barred_pair = pair_barred s q known.reading

  -- the check word is passed
  check_course : (check : Bool) (x : ℕ) (g : ℕ → Result Accepted Refusal) (r : Reader)
      → run (check_of check >>= (λ _. done x) >>= (λ b. done (g b))) s r ≡ taken (g x) (cond check (field_of s r 16).next r)
  unfolding check_of run ◌>>=◌
  check_course true x g r = refl
  check_course false x g r = refl

  -- 13, then 6, then accepted
  in_turn : (k d : Bool) (more : Reads (Result Accepted Refusal)) (r : Reader)
      → run (unless_refused (cond k (Some BarredRate) (cond d (Some OtherFormat) None)) more) s r
      ≡ cond k (taken (Err BarredRate) r) (cond d (taken (Err OtherFormat) r) (run more s r))
  unfolding run
  in_turn true d more r = refl
  in_turn false true more r = refl
  in_turn false false more r = refl

  rest_course : run (rest_of known (checked s q) ((bitrate s q).value - 1) (samplerate s q).value (padding s q).value) s (padding s q).next
      ≡ cond barred_pair (taken (Err BarredRate) (mode s q).next)
      (cond other (taken (Err OtherFormat) (mode s q).next) (taken (Ok (accepted_header (format_by s q known.reading) (data_size s q))) (after_check s q)))
  unfolding rest_of mode_of bound_of run ◌>>=◌
  rest_course =
      in_turn barred_pair other _ (mode s q).next
      ∙ ap (λ (x : Taken (Result Accepted Refusal)). cond barred_pair (taken (Err BarredRate) (mode s q).next) (cond other (taken (Err OtherFormat) (mode s q).next) x))
      (check_course (checked s q) _ _ (flags s q).next)

  rates_course : run (rates_of >>= by_rates known (checked s q)) s (protection s q).next
      ≡ cond no_bitrate (taken (Err NoBitRate) (bitrate s q).next)
      (cond (eqb (samplerate s q).value 3) (taken (Err NoSampleRate) (samplerate s q).next)
      (run (rest_of known (checked s q) ((bitrate s q).value - 1) (samplerate s q).value (padding s q).value) s (padding s q).next))
  unfolding rates_of run ◌>>=◌
  rates_course =
      push (λ (m : Reads (Result Rates Refusal)). run (m >>= by_rates known (checked s q)) s (bitrate s q).next) no_bitrate _ _
      ∙ ap (cond no_bitrate (taken (Err NoBitRate) (bitrate s q).next))
      (push (λ (m : Reads (Result Rates Refusal)). run (m >>= by_rates known (checked s q)) s (samplerate s q).next) (eqb (samplerate s q).value 3) _ _)

  fields_course : run (fields_of known) s q
      ≡ cond is_layer_iI (run (rates_of >>= by_rates known (checked s q)) s (protection s q).next) (taken (Err OtherLayer) (protection s q).next)
  unfolding fields_of ident_of run ◌>>=◌
  fields_course = push (λ (i : Result Bool Refusal). run (by_ident known i) s (protection s q).next) is_layer_iI _ _

-- what the choices say of the fields
module _ (s : List ℕ) (q : Reader) (known : Format) where
  is_layer : is_layer_iI s q known ≡ true → Identified s q
  is_layer e = let b = both e in record { version_3 = eqb-true _ _ b.first; layer_2 = eqb-true _ _ b.second }

  not_layer : (Identified s q → ⊥) → is_layer_iI s q known ≡ false
  not_layer n = is_false (is_layer_iI s q known) (λ e. n (is_layer e))

  not_a_bitrate : ((bitrate s q).value ≡ 0) ⊎ ((bitrate s q).value ≡ 15) → no_bitrate s q known ≡ true
  not_a_bitrate (inl e) = rw e
  not_a_bitrate (inr e) = rw e

  other_is_known : other s q known ≡ true → known.samplerate ≡ 3 → ⊥
  other_is_known d e = never d (rw (eq-eqb _ _ e))

  other_is_not_same : other s q known ≡ true → SameFormat known (format_by s q known.reading) → ⊥
  other_is_not_same d w =
      never d (rw (ne_eqb _ _ (other_is_known d), eq-eqb _ _ (sym w.bitrate), eq-eqb _ _ (sym w.samplerate), eq-eqb _ _ (sym w.mode)))

-- ---- the course of the sync, where 48 bits are left

module _ (s : List ℕ) (r : Reader) (short : length s ≤ longest_stream) (near : r.at.0 ≤ farthest_bit) where
  module _ (room : 48 ≤ left s r) where
    eleven_near : (eleven_bits s r).next.at.0 ≤ farthest_bit
    eleven_near =
        let from = (r.at.0 + 7) / 8 in
        let w = first_within (other_at s 0) (length s - from) from in
        let m = field_moves s (reader_at (past_of s 0 from * 8)) 11 in
        omega arith

    seek_course : seek_of s (eleven_bits s r).next
        ≡ cond (ltb (stop s r) (length s - 1)) (Ok (taken (byte_at (stop s r)) (reader_at ((stop s r + 1) * 8 + 3))))
        (Err (unsynced NoSync (byte_at (length s)) (reader_at ((stop s r + 1) * 8))))
    unfolding seek_of search_of
    seek_course =
        simp (le-ltb _ _ short, le-ltb _ _ eleven_near) (push (by_search (eleven_bits s r).next) (ltb (stop s r) (length s - 1)) _ _)

    start_course : start_of s r
        ≡ cond (eqb (eleven_bits s r).value 2047) (Ok (taken (byte_at (past s r)) (eleven_bits s r).next)) (seek_of s (eleven_bits s r).next)
    unfolding start_of has_of skip_bytes_of sync_of
    start_course =
        let whole : past s r * 8 / 8 ≡ past s r = omega arith in
        simp (le-ltb _ _ short, le-ltb _ _ near, le-ltb _ _ room, whole)

    synced : {b : BytePos} {q : Reader} → Synced s r b q → start_of s r ≡ Ok (taken b q)
    synced (in_place e) = start_course ∙ simp (eq-eqb _ _ e)
    synced (searched n l) = start_course ∙ simp (ne_eqb _ _ n) (seek_course ∙ simp (lt-ltb _ _ l))

  -- ---- the attempt stands in its row, and whatever row holds is the attempt's

  module _ (known : Format) where
    Stands : Attempt → Type 0
    Stands x = Attempts s r known (header_number x.header) x

    fields_stand : {b : BytePos} {q : Reader} → 48 ≤ left s r → Synced s r b q → Stands (attempt b (run (fields_of known) s q))
    unfolding Stands
    fields_stand {b} {q} room y =
        rw (fields_course s q known)
        (by_test S (is_layer_iI s q known) _ _ (λ i. rated (is_layer s q known i))
        (λ i. three room y (λ l. never (rw (eq-eqb _ _ l.version_3, eq-eqb _ _ l.layer_2)) i)))
      where
        S : Taken (Result Accepted Refusal) → Type 0
        S x = Stands (attempt b x)

        rated : Identified s q → S (run (rates_of >>= by_rates known (checked s q)) s (protection s q).next)
        rated l =
            rw (rates_course s q known, rest_course s q known)
            (by_test S (no_bitrate s q known) _ _ (λ t. four room y l (either _ t (λ e. inl (eqb-true _ _ e)) (λ e. inr (eqb-true _ _ e))))
            (λ t. let n = neither (eqb (bitrate s q).value 0) _ t in
            let u : BitrateGiven s q = record { ident = l; not_free = eqb-false _ _ n.0; not_forbidden = eqb-false _ _ n.1 } in
            by_test S (eqb (samplerate s q).value 3) _ _ (λ f. five room y u (eqb-true _ _ f))
            (λ f. by_test S (barred_pair s q known) _ _ (thirteen room y u (eqb-false _ _ f))
            (λ k. by_test S (other s q known) _ _ (λ d. six room y u (eqb-false _ _ f) k (other_is_known s q known d) (other_is_not_same s q known d))
            (λ d. zero room y u (eqb-false _ _ f) k (same_format known (format_by s q known.reading) d))))))

    attempt_stands : Stands (header_of s r known)
    unfolding Stands header_of
    attempt_stands = go (ltb (left s r) 48) refl
      where
        S : Result (Taken BytePos) Unsynced → Type 0
        S x = Stands (by_start s known x)

        go : (t : Bool) → ltb (left s r) 48 ≡ t → S (start_of s r)
        go true e = let l = ltb-true _ _ e in subst Stands (sym (few_bits_stay s r known short near l)) (one l)
        go false e =
            let room : 48 ≤ left s r = ltb-false _ _ e in
            rw (start_course room, seek_course room)
            (by_test S (eqb (eleven_bits s r).value 2047) _ _ (λ o. fields_stand room (in_place (eqb-true _ _ o)))
            (λ o. by_test S (ltb (stop s r) (length s - 1)) _ _ (λ l. fields_stand room (searched (eqb-false _ _ o) (ltb-true _ _ l)))
            (λ l. two room (eqb-false _ _ o) ((no_pair_found s (from s r)).0 (ltb-false _ _ l)))))

    -- where the sync is found, the attempt is what the fields say
    after_a_sync : {b : BytePos} {q : Reader} → 48 ≤ left s r → Synced s r b q → header_of s r known ≡ attempt b (run (fields_of known) s q)
    unfolding header_of
    after_a_sync room y = ap (by_start s known) (synced room y)

    none_found : 48 ≤ left s r → ((eleven_bits s r).value ≡ 2047 → ⊥) → length s - 1 ≤ stop s r
        → header_of s r known ≡ refusal NoSync (byte_at (length s)) (reader_at ((stop s r + 1) * 8))
    unfolding header_of
    none_found room o l = rw (start_course room, seek_course room, ne_eqb _ _ o, le-ltb _ _ l)

    layer_course : {b : BytePos} {q : Reader} → 48 ≤ left s r → Synced s r b q → Identified s q
        → header_of s r known ≡ attempt b (run (rates_of >>= by_rates known (checked s q)) s (protection s q).next)
    layer_course {b} {q} room y l =
        after_a_sync room y ∙ ap (attempt b) (fields_course s q known ∙ simp (eq-eqb _ _ l.version_3, eq-eqb _ _ l.layer_2))

    rated_course : {b : BytePos} {q : Reader} → 48 ≤ left s r → Synced s r b q → BitrateGiven s q
        → header_of s r known
        ≡ attempt b
        (cond (eqb (samplerate s q).value 3) (taken (Err NoSampleRate) (samplerate s q).next)
        (cond (barred_pair s q known) (taken (Err BarredRate) (mode s q).next)
        (cond (other s q known) (taken (Err OtherFormat) (mode s q).next) (taken (Ok (accepted_header (format_by s q known.reading) (data_size s q))) (after_check s q)))))
    rated_course {b} {q} room y u =
        layer_course room y u.ident
        ∙ ap (attempt b)
        (rates_course s q known ∙ simp (ne_eqb _ _ u.not_free, ne_eqb _ _ u.not_forbidden, rest_course s q known))

    attempt_only : {n : ℕ} {x : Attempt} → Attempts s r known n x → (x ≡ header_of s r known) × (header_number x.header ≡ n)
    attempt_only (one l) = (rw (few_bits_stay s r known short near l), refl)
    attempt_only (two room o f) = (rw (none_found room o ((no_pair_found s (from s r)).1 f)), refl)
    attempt_only (three {q = q} room y n) = (rw (after_a_sync room y, fields_course s q known, not_layer s q known n), refl)
    attempt_only (four {q = q} room y l b) = (rw (layer_course room y l, rates_course s q known, not_a_bitrate s q known b), refl)
    attempt_only (five {q = q} room y u f) = (rw (rated_course room y u, eq-eqb _ _ f), refl)
    attempt_only (thirteen {q = q} room y u f k) = (rw (rated_course room y u, ne_eqb _ _ f, k), refl)
    attempt_only (six {q = q} room y u f k known-one differ) =
        let d = is_true (other s q known) (λ d. differ (same_format known (format_by s q known.reading) d known-one)) in
        (rw (rated_course room y u, ne_eqb _ _ f, k, d), refl)
    attempt_only (zero {q = q} room y u f k same) =
        let d = is_false (other s q known) (λ d. other_is_not_same s q known d (same (other_is_known s q known d))) in
        (rw (rated_course room y u, ne_eqb _ _ f, k, d), refl)

    pub attempt_table : TableOf (λ (x : Attempt). header_number x.header) (header_of s r known) (Attempts s r known)
    unfolding Stands
    attempt_table = record { holds = attempt_stands; only = attempt_only }

-- an attempt gives no other number
abbrev pub attempt_gives : ℕ → Bool
attempt_gives n = leb n 6 || eqb n 13

pub attempt_number : {s : List ℕ} {r : Reader} {known : Format} {n : ℕ} {x : Attempt} → Attempts s r known n x → T (attempt_gives n)
attempt_number (one l) = tt
attempt_number (two room o l) = tt
attempt_number (three room y n) = tt
attempt_number (four room y l b) = tt
attempt_number (five room y u f) = tt
attempt_number (thirteen room y u f k) = tt
attempt_number (six room y u f k h d) = tt
attempt_number (zero room y u f k d) = tt

-- and 6 never as the first: "opening can give it [13], just as 2 to 5"
abbrev pub first_gives : ℕ → Bool
first_gives n = leb n 5 || eqb n 13

pub first_number : {s : List ℕ} {r : Reader} {known : Format} {n : ℕ} {x : Attempt} → known.samplerate ≡ 3 → Attempts s r known n x → T (first_gives n)
first_number e (one l) = tt
first_number e (two room o l) = tt
first_number e (three room y n) = tt
first_number e (four room y l b) = tt
first_number e (five room y u f) = tt
first_number e (thirteen room y u f k) = tt
first_number e (six room y u f k h d) = absurd (h e)
first_number e (zero room y u f k d) = tt
