-- The port's header and the standard's, both ways. Where a header of ISO/IEC 11172-3 stands at a byte that an attempt reaches, the port
-- accepts it, with the standard's fields, bound and frame size; in the strict reading (02, E3) if the standard has its pair of bit rate and
-- mode, and else refuses it with 13. And a header that the port accepts, all of its bits being there, is one of the standard's. Either way
-- it stands at the byte that the attempt tells, so up to there the bytes were passed over (02, E2).
-- Demand 2: "Header .. proved against a definition written from ISO/IEC 11172-3 Layer II". Assumes nothing.
use Rattle.std.specs.Prelude.{ℕ, ◌+◌, ◌-◌, ◌*◌, ◌/◌, ◌%◌, ◌≤◌, ◌<◌, ◌≡◌, refl, true, false, List, [], ◌∷◌, T, leb, length, get_or, Result, Ok, Err}
use Rattle.std.proofs.Common.{sym, ap, subst, ◌∙◌, arith, leb→le, eq-eqb}
use Rattle.std.proofs.Math.Decide.{ℕ_discrete}
use Rattle.ground.specs.First.{first_within, first_before, first_is}
use Rattle.ground.specs.Rows.{is_false}
use Rattle.ground.specs.Tests.{by_test}
use Rattle.ground.specs.Upto.{and_left, and_right}
use Rattle.ground.specs.Entries.{every}
use Rattle.buffer.specs.Bits.{longest_stream, farthest_bit, bits_value, other_at, pair_at, past_of}
use Rattle.buffer.specs.Calls.{reader_at, byte_at, left, field_of}
use Rattle.buffer.specs.Laws.{split, bits_below, in_byte, byte_is_bits, field_whole, field_moves}
use Rattle.buffer.specs.PairLaws.{pair_ones}
use Rattle.buffer.specs.declared.BytePos.{BytePos}
use Rattle.buffer.specs.declared.Reader.{Reader}
use Rattle.buffer.specs.declared.Taken.{Taken}
use Rattle.readings.specs.Readings.{strict}
use Rattle.header.specs.Header.{refusal, header_of, accepted_header}
use Rattle.header.specs.Accepted.{SameFormat}
use Rattle.header.specs.Attempts.{eleven_bits, stop, Synced, in_place, searched, samplerate, flags, checked, after_check, format_by, data_size as size_by, BitrateGiven, pair_barred, Attempts, one, two, three, four, five, thirteen, six, zero as accepted, attempt_table}
use Rattle.header.specs.Passed.{Met, sync_is_ff}
use Rattle.header.specs.declared.Attempt.{Attempt}
use Rattle.header.specs.declared.Format.{Format}
use Rattle.standard.specs.Header.{HeaderFields, bitrate_index, sampling_frequency, mode_bits, permitted, data_size, data_bit}
use Rattle.alike.specs.Fields.{Says, after_sync, bits_at, field, version_is, layer_is, bitrate_is, samplerate_is, mode_is, says, next_is, eleven_ones, version_3, twelve_ones}
use Rattle.alike.specs.Pairs.{Permits, permitted_is_taken, taken_is_permitted, not_permitted_is_refused}
use Rattle.refusal.specs.declared.Refusal.{Refusal}
use Rattle.header.specs.declared.Accepted.{Accepted}
use Rattle.refusal.specs.declared.Refusal.TheVariants.{BarredRate}

-- ---- a header of the standard is accepted

-- no header was accepted earlier, or one of the same bit rate, sampling frequency and mode: docs/DIFFERENCES.md, F4
pub record Continues (known : Format) (s : List ℕ) (byte : ℕ) : Type 0 where
  pub bitrate : bitrate_index s byte - 1 ≡ known.bitrate
  pub samplerate : sampling_frequency s byte ≡ known.samplerate
  pub mode : mode_bits s byte ≡ known.mode

abbrev pub Follows : Format → List ℕ → ℕ → Type 0
Follows known s byte = (known.samplerate ≡ 3 → ⊥) → Continues known s byte

-- the attempt is made at this byte or before it, and at no byte between stand eleven ones: docs/DIFFERENCES.md, F5 and F7
pub record Reaches (s : List ℕ) (r : Reader) (byte : ℕ) : Type 0 where
  pub from : (r.at.0 + 7) / 8 ≤ byte
  pub none_before : (j : ℕ) → (r.at.0 + 7) / 8 ≤ j → j < byte → bits_value s (j * 8) 11 ≡ 2047 → ⊥

-- accepted, with the standard's fields and data size; the audio data begin where the standard says
pub record AcceptedAt (s : List ℕ) (r : Reader) (byte : ℕ) (known : Format) : Type 0 where
  pub format : Format
  pub reading : format.reading ≡ known.reading
  pub says : Says s byte format (data_size s byte)
  pub is : header_of s r known ≡ record { header = Ok (accepted_header format (data_size s byte)); sync = byte_at byte; next = reader_at (data_bit s byte) }

module _ (s : List ℕ) (bytes : (j : ℕ) → get_or s j 0 < 256) (r : Reader) (byte : ℕ) (reaches : Reaches s r byte) (short : length s ≤ longest_stream)
    (room : 8 * byte + 48 ≤ 8 * length s) (fields : HeaderFields s byte) where
  -- its first two bytes are FF, and FC or FD
  first_byte : get_or s byte 0 ≡ 255
  first_byte =
      let l = bits_below s (byte * 8 + 8) 3 in
      omega (arith, eleven_ones s byte short fields, split s (byte * 8) 8 3, byte_is_bits s byte, bytes byte)

  second_byte : get_or s (byte + 1) 0 / 2 ≡ 126
  second_byte =
      let place : (byte * 8 + 8) / 8 ≡ byte + 1 = omega arith in
      let start : (byte * 8 + 8) % 8 ≡ 0 = omega arith in
      let seven : bits_value s (byte * 8 + 8) 7 ≡ get_or s (byte + 1) 0 / 2 % 128 = rw (place, start) at (in_byte s (byte * 8 + 8) 7 (omega arith)) in
      let a = split s (byte * 8) 8 3 in
      let b = split s (byte * 8 + 8) 3 4 in
      let c = split s (byte * 8 + 11) 2 2 in
      let d : bits_value s (byte * 8 + 8 + 3) 4 ≡ bits_value s (byte * 8 + 11) 4 = ap (λ (k : ℕ). bits_value s k 4) (omega arith) in
      let e : bits_value s (byte * 8 + 11 + 2) 2 ≡ bits_value s (byte * 8 + 13) 2 = ap (λ (k : ℕ). bits_value s k 2) (omega arith) in
      let l = bits_below s (byte * 8 + 8) 3 in
      let m = bits_below s (byte * 8) 8 in
      omega (arith, eleven_ones s byte short fields, version_3 s byte short fields, fields.layer, bytes (byte + 1))

  abbrev start : ℕ
  start = (r.at.0 + 7) / 8

  -- the byte that is read first: zero bytes are passed
  abbrev tried : ℕ
  tried = past_of s 0 start

  tried_before : tried ≤ byte
  tried_before =
      let some : other_at s 0 byte ≡ true = rw first_byte in
      first_before (other_at s 0) (length s - start) start byte reaches.from (omega (arith, reaches.from)) some

  eleven_is : eleven_bits s r ≡ bits_at s tried 0 11
  eleven_is =
      let none : tried * 8 ≡ tried * 8 + 0 = omega arith in
      ap (λ (k : ℕ). field_of s (reader_at k) 11) none ∙ field s tried short 0 11 (omega (arith, tried_before)) (omega arith)

  eleven_value : (eleven_bits s r).value ≡ bits_value s (tried * 8) 11
  eleven_value = ap (λ (z : Taken ℕ). z.value) eleven_is ∙ ap (λ (k : ℕ). bits_value s k 11) (omega arith)

  -- in place, or behind a search that begins one byte on
  found : Synced s r (byte_at byte) (after_sync byte)
  found = go (ℕ_discrete tried byte)
    where
      -- at that byte, and read on from there
      there : {b : BytePos} {q : Reader} → Synced s r b q → b.0 ≡ byte → q ≡ after_sync byte → Synced s r (byte_at byte) (after_sync byte)
      there {b} {q} y e f = subst (λ (k : ℕ). Synced s r (byte_at k) (after_sync byte)) e (subst (Synced s r b) f y)

      go : Dec (tried ≡ byte) → Synced s r (byte_at byte) (after_sync byte)
      go (yes e) =
          there (in_place (eleven_value ∙ rw e (eleven_ones s byte short fields))) e (ap (λ (z : Taken ℕ). z.next) eleven_is ∙ ap after_sync e)
      go (no n) =
          let w = first_within (other_at s 0) (length s - start) start in
          let before : tried < byte = omega (arith, tried_before) in
          let next : (eleven_bits s r).next.at.0 ≡ tried * 8 + 11 = ap (λ (z : Taken ℕ). z.next.at.0) eleven_is in
          let from : (eleven_bits s r).next.at.0 / 8 ≡ tried + 1 = omega arith in
          let pair : pair_at s byte ≡ true = rw (eq-eqb _ _ first_byte, eq-eqb _ _ second_byte) in
          let stops : stop s r ≡ byte =
          rw from
          (first_is (pair_at s) (length s - 1 - (tried + 1)) (tried + 1) byte (omega arith) (omega arith) pair
          (λ j l m. is_false _ (λ t. reaches.none_before j (omega arith) m (pair_ones s j t)))) in
          there (searched (λ o. reaches.none_before tried w.0 before (sym eleven_value ∙ o)) (omega arith)) stops (ap reader_at (omega arith))

  given : BitrateGiven s (after_sync byte)
  given =
      let thirty : 8 * byte + 32 ≤ 8 * length s = omega arith in
      let b = ap (λ (z : Taken ℕ). z.value) (bitrate_is s byte short thirty) in
      record {
        ident =
            record {
              version_3 = ap (λ (z : Taken ℕ). z.value) (version_is s byte short thirty) ∙ version_3 s byte short fields;
              layer_2 = ap (λ (z : Taken ℕ). z.value) (layer_is s byte short thirty) ∙ fields.layer;
            };
        not_free = λ e. omega (arith, fields.bitrate_least);
        not_forbidden = λ e. omega (arith, fields.bitrate_most);
      }

  thirty : 8 * byte + 32 ≤ 8 * length s
  thirty = omega arith

  near : r.at.0 ≤ farthest_bit
  near = let begins = reaches.from in omega arith

  enough : 48 ≤ left s r
  enough = let begins = reaches.from in omega arith

  rate : (samplerate s (after_sync byte)).value ≡ 3 → ⊥
  rate e = omega (arith, fields.frequency, ap (λ (z : Taken ℕ). z.value) (samplerate_is s byte short thirty))

  -- a pair that the standard does not have: refused behind the mode, 26 bits from the FF
  pub not_permitted_is_13 : (known : Format) → strict known.reading ≡ true → permitted (mode_bits s byte) (bitrate_index s byte) ≡ false
      → header_of s r known ≡ refusal BarredRate (byte_at byte) (reader_at (byte * 8 + 26))
  not_permitted_is_13 known chosen none =
      let pair = not_permitted_is_refused s byte short thirty fields.bitrate_least fields.bitrate_most known.reading chosen none in
      sym ((attempt_table s r short near known).only (thirteen enough found given rate pair)).0
      ∙ ap (λ (z : Taken ℕ). refusal BarredRate (byte_at byte) z.next) (mode_is s byte short thirty)

  pub the_standards_header : (known : Format) → Permits known.reading s byte → Follows known s byte → AcceptedAt s r byte known
  the_standards_header known permits follows =
      let f = format_by s (after_sync byte) known.reading in
      let w = says s byte short thirty known.reading in
      let same : (known.samplerate ≡ 3 → ⊥) → SameFormat known f =
      λ n. let k = follows n in
      record { bitrate = w.bitrate ∙ k.bitrate; samplerate = w.samplerate ∙ k.samplerate; mode = w.mode ∙ k.mode } in
      let pair = permitted_is_taken s byte short thirty fields.bitrate_least fields.bitrate_most known.reading permits in
      let row = (attempt_table s r short near known).only (accepted enough found given rate pair same) in
      record {
        format = f;
        reading = refl;
        says = subst (Says s byte f) w.size w;
        is =
            sym row.0
            ∙ ap {B = Attempt} (λ (n : ℕ). record { header = Ok (accepted_header f n); sync = byte_at byte; next = after_check s (after_sync byte) }) w.size
            ∙ ap {B = Attempt} (λ (next : Reader). record { header = Ok (accepted_header f (data_size s byte)); sync = byte_at byte; next = next })
            (next_is s byte short thirty room);
      }

-- ---- an accepted header is the standard's

-- fields one behind the other, each of 16 bits or fewer: where 16 bits are left behind them, all of them were there
module _ (s : List ℕ) (short : length s ≤ longest_stream) where
  abbrev behind : List ℕ → Reader → Reader
  behind [] r = r
  behind (n ∷ ns) r = behind ns (field_of s r n).next

  abbrev total : List ℕ → ℕ
  total [] = 0
  total (n ∷ ns) = n + total ns

  behind_forth : (ns : List ℕ) (r : Reader) → r.at.0 ≤ (behind ns r).at.0
  behind_forth [] r = omega arith
  behind_forth (n ∷ ns) r = let f = behind_forth ns (field_of s r n).next in let m = field_moves s r n in omega arith

  all_there : (ns : List ℕ) → T (every (λ n. leb n 16) ns) → (r : Reader) → (behind ns r).at.0 + 16 ≤ 8 * length s
      → (behind ns r).at.0 ≡ r.at.0 + total ns
  all_there [] t r h = omega arith
  all_there (n ∷ ns) t r h =
      let l : n ≤ 16 = leb→le _ _ (and_left (leb n 16) (every (λ n. leb n 16) ns) t) in
      let f = behind_forth ns (field_of s r n).next in
      let m = field_moves s r n in
      let w = field_whole s r n (record { short = short; near = omega arith; enough = omega arith }) (omega arith) in
      let e : (field_of s r n).next.at.0 ≡ r.at.0 + n = ap (λ (z : Taken ℕ). z.next.at.0) w in
      omega (arith, all_there ns (and_right (leb n 16) (every (λ n. leb n 16) ns) t) (field_of s r n).next h)

  -- so a header is whole that 16 bits are left behind of
  whole_header : (byte : ℕ) → let after = after_sync byte in (after_check s after).at.0 + 16 ≤ 8 * length s → 8 * byte + 48 ≤ 8 * length s
  whole_header byte h =
      let after = after_sync byte in
      let forth : (flags s after).next.at.0 ≤ (after_check s after).at.0 =
      by_test (λ (r : Reader). (flags s after).next.at.0 ≤ r.at.0) (checked s after) _ _ (λ _. (field_moves s (flags s after).next 16).0)
      (λ _. omega arith) in
      let e : (flags s after).next.at.0 ≡ byte * 8 + 11 + 21 = all_there (2 ∷ 2 ∷ 1 ∷ 4 ∷ 2 ∷ 1 ∷ 1 ∷ 2 ∷ 2 ∷ 4 ∷ []) tt after (omega arith) in
      omega arith

-- the parts of an accepted header; else the one that is given
abbrev format_in : Format → Result Accepted Refusal → Format
format_in f (Ok x) = x.format
format_in f (Err n) = f

abbrev size_in : ℕ → Result Accepted Refusal → ℕ
size_in size (Ok x) = x.size
size_in size (Err n) = size

-- a header of the standard, where its 32 bits are there; the audio data begin where the standard says, where 16 bits more are there;
-- and all of these are, where 16 bits are left when the header is read
pub record StandardsHeader (s : List ℕ) (r : Reader) (f : Format) (n : ℕ) (byte : ℕ) (next : Reader) : Type 0 where
  pub from : (r.at.0 + 7) / 8 ≤ byte
  pub fields : 8 * byte + 32 ≤ 8 * length s → HeaderFields s byte
  pub says : 8 * byte + 32 ≤ 8 * length s → Says s byte f n
  pub pair : 8 * byte + 32 ≤ 8 * length s → Permits f.reading s byte
  pub data_bit_is : 8 * byte + 48 ≤ 8 * length s → next ≡ reader_at (data_bit s byte)
  pub whole : next.at.0 + 16 ≤ 8 * length s → 8 * byte + 48 ≤ 8 * length s

module _ (s : List ℕ) (r : Reader) (short : length s ≤ longest_stream) (known : Format) where
  module _ (byte : ℕ) (ones : bits_value s (byte * 8) 11 ≡ 2047) (room : 8 * byte + 32 ≤ 8 * length s) where
    fields_hold : let after = after_sync byte in BitrateGiven s after → ((samplerate s after).value ≡ 3 → ⊥) → HeaderFields s byte
    fields_hold u f =
        let value : Taken ℕ → ℕ = λ z. z.value in
        let v = sym (ap value (version_is s byte short room)) ∙ u.ident.version_3 in
        let b = ap value (bitrate_is s byte short room) in
        let l = bits_below s (byte * 8 + 16) 4 in
        let m = bits_below s (byte * 8 + 20) 2 in
        let t = twelve_ones s byte short ones v in
        record {
          syncword = t.0;
          id = t.1;
          layer = sym (ap value (layer_is s byte short room)) ∙ u.ident.layer_2;
          bitrate_least = least (bitrate_index s byte) (λ e. u.not_free (b ∙ e));
          bitrate_most = most (bitrate_index s byte) l (λ e. u.not_forbidden (b ∙ e));
          frequency = few (sampling_frequency s byte) m (λ e. f (ap value (samplerate_is s byte short room) ∙ e));
        }
      where
        least : (n : ℕ) → (n ≡ 0 → ⊥) → 1 ≤ n
        least n h = omega arith

        most : (n : ℕ) → n < 16 → (n ≡ 15 → ⊥) → n ≤ 14
        most n l h = omega arith

        few : (n : ℕ) → n < 4 → (n ≡ 3 → ⊥) → n ≤ 2
        few n l h = omega arith

  accepted_at : {b : BytePos} {after : Reader} → BitrateGiven s after → ((samplerate s after).value ≡ 3 → ⊥) → pair_barred s after known.reading ≡ false → Met s r b after
      → StandardsHeader s r (format_by s after known.reading) (size_by s after) b.0 (after_check s after)
  accepted_at {b} u f k met =
      let byte = b.0 in
      subst
      (λ (p : Reader). BitrateGiven s p → ((samplerate s p).value ≡ 3 → ⊥) → pair_barred s p known.reading ≡ false
      → StandardsHeader s r (format_by s p known.reading) (size_by s p) byte (after_check s p))
      (ap reader_at (sym met.behind))
      (λ v g k. record {
        from = met.forth;
        fields = λ room. fields_hold byte met.ones room v g;
        says = λ room. says s byte short room known.reading;
        pair =
            λ room. let h = fields_hold byte met.ones room v g in
            taken_is_permitted s byte short room h.bitrate_least h.bitrate_most known.reading k;
        data_bit_is = λ room. next_is s byte short (omega arith) room;
        whole = whole_header s short byte;
      })
      u f k

  by_row : {n : ℕ} {x : Attempt} → r.at.0 ≤ farthest_bit → Attempts s r known n x → {f : Format} {size : ℕ} → x.header ≡ Ok (accepted_header f size)
      → StandardsHeader s r f size x.sync.0 x.next
  by_row near (one _) e = absurd (let z : ◌≡◌ {A = ℕ} 0 1 = cc in omega arith)
  by_row near (two _ _ _) e = absurd (let z : ◌≡◌ {A = ℕ} 0 1 = cc in omega arith)
  by_row near (three _ _ _) e = absurd (let z : ◌≡◌ {A = ℕ} 0 1 = cc in omega arith)
  by_row near (four _ _ _ _) e = absurd (let z : ◌≡◌ {A = ℕ} 0 1 = cc in omega arith)
  by_row near (five _ _ _ _) e = absurd (let z : ◌≡◌ {A = ℕ} 0 1 = cc in omega arith)
  by_row near (thirteen _ _ _ _ _) e = absurd (let z : ◌≡◌ {A = ℕ} 0 1 = cc in omega arith)
  by_row near (six _ _ _ _ _ _ _) e = absurd (let z : ◌≡◌ {A = ℕ} 0 1 = cc in omega arith)
  by_row near (accepted {b = b} {q = after} room y u g k same) {f} {size} e =
      let same_format : format_by s after known.reading ≡ f = ap (format_in f) e in
      let same_size : size_by s after ≡ size = ap (size_in size) e in
      subst (λ (h : Format). StandardsHeader s r h size b.0 (after_check s after)) same_format
      (subst (λ (n : ℕ). StandardsHeader s r (format_by s after known.reading) n b.0 (after_check s after)) same_size
      (accepted_at u g k (sync_is_ff s r short near room y)))

  pub an_accepted_header : r.at.0 ≤ farthest_bit → {f : Format} {size : ℕ} → (header_of s r known).header ≡ Ok (accepted_header f size)
      → StandardsHeader s r f size (header_of s r known).sync.0 (header_of s r known).next
  an_accepted_header near = by_row near (attempt_table s r short near known).holds
