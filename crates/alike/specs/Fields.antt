-- What the port's fields read where a header's bits are there, and what it keeps of them, against the standard's fields at a byte: to the
-- same bits, and twelve ones with ID 1 for eleven ones with "version" 3. Assumes nothing.
use Rattle.std.specs.Prelude.{ℕ, ◌+◌, ◌-◌, ◌*◌, ◌≤◌, ◌≡◌, Bool, ◌&&◌, List, T, eqb, leb, length}
use Rattle.std.proofs.Common.{ap, ◌∙◌, arith, eqb→eq, leb→le}
use Rattle.ground.specs.Tests.{by_test}
use Rattle.ground.specs.Upto.{and_left, and_right}
use Rattle.buffer.specs.Bits.{longest_stream, bits_value}
use Rattle.buffer.specs.Calls.{reader_at, field_of}
use Rattle.buffer.specs.Laws.{split, bits_below, field_whole}
use Rattle.buffer.specs.declared.Reader.{Reader}
use Rattle.buffer.specs.declared.Taken.{Taken}
use Rattle.tables.specs.Standard.{kbps_of, sblimit}
use Rattle.header.specs.Header.{size_of}
use Rattle.header.specs.Attempts.{version, layer, protection, bitrate, samplerate, padding, mode, extension, flags, after_check, format_by, data_size as size_by}
use Rattle.header.specs.declared.Format.{Format}
use Rattle.readings.specs.declared.Reading.{Reading}
use Rattle.side.specs.Side.{cut_of}
use Rattle.standard.specs.Header.{HeaderFields, syncword, id, layer as layer_bits, protection_bit, bitrate_index, sampling_frequency, padding_bit, mode_bits, mode_extension, bound, allocation_table, frame_bytes, header_bytes, data_size, data_bit}
use Rattle.alike.specs.Bound.{Bounds, the_standards_bound}

-- what the port keeps of a header is what the standard's fields say at a byte
pub record Says (s : List ℕ) (byte : ℕ) (f : Format) (n : ℕ) : Type 0 where
  pub samplerate : f.samplerate ≡ sampling_frequency s byte
  pub bitrate : f.bitrate ≡ bitrate_index s byte - 1
  pub mode : f.mode ≡ mode_bits s byte
  -- cut to the limit, as it is when the frame is decoded
  pub bound : let t = allocation_table (mode_bits s byte) (bitrate_index s byte) (sampling_frequency s byte) in
      Bounds t (eqb (mode_bits s byte) 3) (cut_of f.bound (sblimit t)) (bound (mode_bits s byte) (mode_extension s byte) t)
  pub size : n ≡ data_size s byte

-- a header of the standard, by a test that a stream computes
abbrev pub is_header : List ℕ → ℕ → Bool
is_header s byte =
    eqb (syncword s byte) 4095
    && (eqb (id s byte) 1 && (eqb (layer_bits s byte) 2 && (leb 1 (bitrate_index s byte) && (leb (bitrate_index s byte) 14 && leb (sampling_frequency s byte) 2))))

pub header_fields : (s : List ℕ) (byte : ℕ) → T (is_header s byte) → HeaderFields s byte
header_fields s byte t =
    let u = and_right (eqb (syncword s byte) 4095) _ t in
    let v = and_right (eqb (id s byte) 1) _ u in
    let w = and_right (eqb (layer_bits s byte) 2) _ v in
    let x = and_right (leb 1 (bitrate_index s byte)) _ w in
    record {
      syncword = eqb→eq _ _ (and_left (eqb (syncword s byte) 4095) _ t);
      id = eqb→eq _ _ (and_left (eqb (id s byte) 1) _ u);
      layer = eqb→eq _ _ (and_left (eqb (layer_bits s byte) 2) _ v);
      bitrate_least = leb→le _ _ (and_left (leb 1 (bitrate_index s byte)) _ w);
      bitrate_most = leb→le _ _ (and_left (leb (bitrate_index s byte) 14) _ x);
      frequency = leb→le _ _ (and_right (leb (bitrate_index s byte) 14) _ x);
    }

-- 144 times the bit rate in bit/s is 144000 times that in kbit/s
same_size : (index frequency padding protection : ℕ)
    → size_of (index - 1) frequency padding (eqb protection 0) ≡ frame_bytes index frequency padding - header_bytes protection
unfolding size_of
same_size index frequency padding protection =
    let k = kbps_of (index - 1) in
    let e : 144000 * k ≡ 144 * (1000 * k) = omega arith in
    rw e

-- ---- the fields, where the header's 32 bits are there

-- behind eleven bits of sync at a byte
abbrev pub after_sync : ℕ → Reader
after_sync byte = reader_at (byte * 8 + 11)

-- n bits, k bits on from a byte
abbrev pub bits_at : List ℕ → ℕ → ℕ → ℕ → Taken ℕ
bits_at s byte k n = record { value = bits_value s (byte * 8 + k) n; next = reader_at (byte * 8 + (k + n)) }

module _ (s : List ℕ) (byte : ℕ) (short : length s ≤ longest_stream) where
  pub field : (k n : ℕ) → 8 * byte + (k + n) ≤ 8 * length s → n ≤ 32 → field_of s (reader_at (byte * 8 + k)) n ≡ bits_at s byte k n
  field k n h l =
      field_whole s (reader_at (byte * 8 + k)) n (record { short = short; near = omega arith; enough = omega arith }) l
      ∙ ap {B = Taken ℕ} (λ (x : ℕ). record { value = bits_value s (byte * 8 + k) n; next = reader_at x }) (omega arith)

  module _ (room : 8 * byte + 32 ≤ 8 * length s) where
    pub version_is : version s (after_sync byte) ≡ bits_at s byte 11 2
    version_is = field 11 2 (omega arith) (omega arith)

    pub layer_is : layer s (after_sync byte) ≡ bits_at s byte 13 2
    layer_is = ap (λ (z : Taken ℕ). field_of s z.next 2) version_is ∙ field 13 2 (omega arith) (omega arith)

    protection_is : protection s (after_sync byte) ≡ bits_at s byte 15 1
    protection_is = ap (λ (z : Taken ℕ). field_of s z.next 1) layer_is ∙ field 15 1 (omega arith) (omega arith)

    pub bitrate_is : bitrate s (after_sync byte) ≡ bits_at s byte 16 4
    bitrate_is = ap (λ (z : Taken ℕ). field_of s z.next 4) protection_is ∙ field 16 4 (omega arith) (omega arith)

    pub samplerate_is : samplerate s (after_sync byte) ≡ bits_at s byte 20 2
    samplerate_is = ap (λ (z : Taken ℕ). field_of s z.next 2) bitrate_is ∙ field 20 2 (omega arith) (omega arith)

    padding_is : padding s (after_sync byte) ≡ bits_at s byte 22 1
    padding_is = ap (λ (z : Taken ℕ). field_of s z.next 1) samplerate_is ∙ field 22 1 (omega arith) (omega arith)

    pub mode_is : mode s (after_sync byte) ≡ bits_at s byte 24 2
    mode_is =
        ap (λ (z : Taken ℕ). field_of s (field_of s z.next 1).next 2) padding_is
        ∙ ap (λ (z : Taken ℕ). field_of s z.next 2) (field 23 1 (omega arith) (omega arith))
        ∙ field 24 2 (omega arith) (omega arith)

    extension_is : extension s (after_sync byte) ≡ bits_at s byte 26 2
    extension_is = ap (λ (z : Taken ℕ). field_of s z.next 2) mode_is ∙ field 26 2 (omega arith) (omega arith)

    flags_is : flags s (after_sync byte) ≡ bits_at s byte 28 4
    flags_is = ap (λ (z : Taken ℕ). field_of s z.next 4) extension_is ∙ field 28 4 (omega arith) (omega arith)

    size_is : size_by s (after_sync byte) ≡ data_size s byte
    size_is =
        let b = ap (λ (z : Taken ℕ). z.value) bitrate_is in
        let f = ap (λ (z : Taken ℕ). z.value) samplerate_is in
        let p = ap (λ (z : Taken ℕ). z.value) padding_is in
        let v = ap (λ (z : Taken ℕ). z.value) protection_is in
        let e : size_by s (after_sync byte)
        ≡ size_of (bitrate_index s byte - 1) (sampling_frequency s byte) (padding_bit s byte) (eqb (protection_bit s byte) 0) = cc in
        e ∙ same_size (bitrate_index s byte) (sampling_frequency s byte) (padding_bit s byte) (protection_bit s byte)

    pub says : (reading : Reading) → Says s byte (format_by s (after_sync byte) reading) (size_by s (after_sync byte))
    says reading =
        record {
          samplerate = ap (λ (z : Taken ℕ). z.value) samplerate_is;
          bitrate = ap (λ (z : Taken ℕ). z.value - 1) bitrate_is;
          mode = ap (λ (z : Taken ℕ). z.value) mode_is;
          bound = rw (extension_is, mode_is) (the_standards_bound (mode_bits s byte) (mode_extension s byte) _ (bits_below s (byte * 8 + 26) 2));
          size = size_is;
        }

    -- the check word is passed
    pub next_is : 8 * byte + 48 ≤ 8 * length s → after_check s (after_sync byte) ≡ reader_at (data_bit s byte)
    next_is more =
        rw (flags_is, protection_is)
        (by_test (λ (r : Reader). r ≡ reader_at (data_bit s byte)) (eqb (protection_bit s byte) 0) _ _
        (λ e. ap (λ (z : Taken ℕ). z.next) (field 32 16 (omega arith) (omega arith)) ∙ ap reader_at (rw e (omega arith)))
        (λ e. ap reader_at (rw e (omega arith))))

  -- twelve ones and ID 1 are eleven ones and a "version" of 3
  module _ (fields : HeaderFields s byte) where
    pub eleven_ones : bits_value s (byte * 8) 11 ≡ 2047
    eleven_ones =
        let e = split s (byte * 8) 11 1 in
        let l = bits_below s (byte * 8) 11 in
        let g = bits_below s (byte * 8 + 11) 1 in
        omega (arith, fields.syncword)

    pub version_3 : bits_value s (byte * 8 + 11) 2 ≡ 3
    version_3 =
        let e = split s (byte * 8) 11 1 in
        let f = split s (byte * 8 + 11) 1 1 in
        let l = bits_below s (byte * 8) 11 in
        let m = bits_below s (byte * 8 + 11) 1 in
        let n : bits_value s (byte * 8 + 11 + 1) 1 ≡ bits_value s (byte * 8 + 12) 1 = ap (λ (k : ℕ). bits_value s k 1) (omega arith) in
        omega (arith, fields.syncword, fields.id)

  pub twelve_ones : bits_value s (byte * 8) 11 ≡ 2047 → bits_value s (byte * 8 + 11) 2 ≡ 3 → (syncword s byte ≡ 4095) × (id s byte ≡ 1)
  twelve_ones o v =
      let e = split s (byte * 8) 11 1 in
      let f = split s (byte * 8 + 11) 1 1 in
      let m = bits_below s (byte * 8 + 11) 1 in
      let n : bits_value s (byte * 8 + 11 + 1) 1 ≡ bits_value s (byte * 8 + 12) 1 = ap (λ (k : ℕ). bits_value s k 1) (omega arith) in
      let k = bits_below s (byte * 8 + 12) 1 in
      (omega arith, omega arith)
