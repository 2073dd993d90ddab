-- What was promised, sentence by sentence: a record for each of the person's three demands, a field for each sentence, filled by a
-- theorem (demands 1 and 3 in proofs/Promises). The definitions that a field names are those that the contracts of the code cite.
-- docs/CLAIMS.md goes by it.
use Rattle.std.specs.Prelude.{ℕ, ◌+◌, ◌*◌, ◌%◌, ◌≤◌, ◌<◌, ◌≡◌, true, false, List, ℤ, pos, Float, length, get_or, Ok}
use Rattle.std.specs.Float.{fin, nan}
use Rattle.ground.specs.Rows.{TableOf}
use Rattle.synthesis.specs.Slots.{memory_length}
use Rattle.buffer.specs.Bits.{longest_stream, farthest_bit}
use Rattle.buffer.specs.Calls.{reader_at, byte_at}
use Rattle.buffer.specs.declared.Reader.{Reader}
use Rattle.readings.specs.Readings.{strict}
use Rattle.header.specs.Header.{refusal, header_of, accepted_header}
use Rattle.header.specs.declared.Format.{Format}
use Rattle.readings.specs.declared.Reading.{Reading}
use Rattle.clock.specs.Clock.{start_time_of}
use Rattle.state.specs.State.{in_range}
use Rattle.state.specs.declared.Audio.{Audio}
use Rattle.audio.specs.Calls.{open_of, open_memory, format_of, decode_of, Replied, Decoded}
use Rattle.audio.specs.Numbers.{heading_number, reply_number, answer_number, ends}
use Rattle.audio.specs.declared.Answer.TheVariants.{Refused}
use Rattle.tables.specs.Standard.{Table, steps_of}
use Rattle.tables.specs.Differences.{differs_at}
use Rattle.standard.specs.Header.{HeaderFields, bitrate_index, mode_bits, permitted, allocation_table}
use Rattle.alike.specs.Replaced.{Listed, the_list, replaced}
use Rattle.alike.specs.Frames.{Unlisted}
use Rattle.alike.specs.Pairs.{Permits}
use Rattle.alike.specs.Headers.{Follows, Reaches, AcceptedAt, the_standards_header, not_permitted_is_13, StandardsHeader, an_accepted_header}
use Rattle.past.specs.Pasts.{Past}
use Rattle.past.specs.Calls.{Call, outcome, new_memory, new_output, sample, frame_state, first_bit, bits_called, Accepts, end_of}
use Rattle.past.specs.Sound.{reading_of, time_by_frames}
use Rattle.past.specs.Finite.{BitForBit}
use Rattle.claims.specs.Numbers.{Decodes, Opens, Asks}
use Rattle.claims.specs.Settled.{RestsAt}
use Rattle.claims.specs.Standard.{reading_over, ReadAs, unlisted_reads_the_same, ReadByItsFormat, accepted_as_the_standard, On, StandardsFrame, accepted_frames_are_the_standards, strict_frames_have_the_standards_pairs}
use Rattle.claims.specs.Widths.{bits_are_the_movement, bits_are_the_widths}
use Rattle.ringout.specs.RingOut.{Agreeing, Together}
use Rattle.claims.specs.Sharp.{TellsApart}
use Rattle.verdict.specs.Verdict.{Asked}
use Rattle.refusal.specs.declared.Refusal.{Refusal}
use Rattle.refusal.specs.declared.Refusal.TheVariants.{BarredRate}

pub record Demand1 : Type 0 where
  -- "Every stream, buffer and saved state gets a definite answer and the call ends." "Each refusal has its number."
  pub decode_has_its_number : (c : Call)
      → TableOf (λ (x : Decoded). answer_number x.answer) (outcome c) (Decodes c.stream c.memory c.output c.state)
  pub opening_has_its_number : (r : Reading) (s : List ℕ) (m : List Float) → TableOf (λ (x : Asked). heading_number x.answer) (open_of r s m) (Opens r s m)
  pub question_has_its_number : (s : List ℕ) (a : Audio) → TableOf (λ (x : Replied). reply_number x.answer) (format_of s a) (Asks s a)
  -- "Nothing relies on the caller having looked first."
  pub no_call_leads_out_of_range : {a : Audio} {m : List Float} → Past a m → in_range a ≡ true
  pub an_end_is_one_for_ever : (s : List ℕ) (m o : List Float) (a : Audio) → let x = decode_of s m o a in
      ends (answer_number x.answer) ≡ true → RestsAt s (answer_number x.answer) x.state
  -- "A refused call leaves the samples untouched, and the synthesis memory too,"
  pub refused_leaves_all : (c : Call) (n : Refusal) → (outcome c).answer ≡ Refused n → (new_memory c ≡ c.memory) × (new_output c ≡ c.output)
  -- "but that an opening which only found no good header still clears the memory."
  pub opening_clears_memory : (s : List ℕ) (m : List Float) → length s ≤ longest_stream → memory_length ≤ length m
      → (i : ℕ) → i < memory_length → get_or (open_memory s m) i nan ≡ fin false 0 (pos 0)

pub record Demand2 : Type 0 where
  -- "Frames, bits, samples and start times equal the Rust's": the definitions are after the Rust, and compared with it by running
  pub bits_are_how_far_it_moves : {c : Call} (ok : Accepts c) → (end_of c).at.0 ≡ first_bit c + ok.bits
  pub bits_are_the_sum_of_widths : {c : Call} (ok : Accepts c) → first_bit c + bits_called c ≤ 8 * length c.stream → ok.bits ≡ bits_called c
  pub start_time_by_frames : {c : Call} → Past c.state c.memory → (ok : Accepts c)
      → ok.time ≡ start_time_of c.state.frames (frame_state c).format.samplerate
  -- "Header, ..": the standard's, in a stream of bytes, is accepted by the attempt that reaches it, with its fields, bound and frame size ..
  pub headers_are_the_standards : (s : List ℕ) → ((j : ℕ) → get_or s j 0 < 256) → (r : Reader) (byte : ℕ) → Reaches s r byte → length s ≤ longest_stream
      → 8 * byte + 48 ≤ 8 * length s → HeaderFields s byte → (known : Format) → Permits known.reading s byte → Follows known s byte
      → AcceptedAt s r byte known
  -- .. 02, E3: "in the strict one demand 2 is over the standard's pairs": one with another pair is refused with 13, behind its mode ..
  pub another_pair_is_13 : (s : List ℕ) → ((j : ℕ) → get_or s j 0 < 256) → (r : Reader) (byte : ℕ) → Reaches s r byte → length s ≤ longest_stream
      → 8 * byte + 48 ≤ 8 * length s → HeaderFields s byte → (known : Format) → strict known.reading ≡ true
      → permitted (mode_bits s byte) (bitrate_index s byte) ≡ false → header_of s r known ≡ refusal BarredRate (byte_at byte) (reader_at (byte * 8 + 26))
  -- .. so no frame is accepted with one, whatever the calls since a strict opening ..
  pub only_the_standards_pairs : {c : Call} (past : Past c.state c.memory) → strict (reading_of past) ≡ true → Accepts c
      → let f = (frame_state c).format in permitted f.mode (f.bitrate + 1) ≡ true
  -- .. and an accepted one, where its bits are there, is one of the standard's
  pub only_the_standards_headers : (s : List ℕ) (r : Reader) → length s ≤ longest_stream → (known : Format) → r.at.0 ≤ farthest_bit
      → {f : Format} {size : ℕ} → (header_of s r known).header ≡ Ok (accepted_header f size)
      → StandardsHeader s r f size (header_of s r known).sync.0 (header_of s r known).next
  -- "allocation, scale factors and sample codes are proved against a definition written from ISO/IEC 11172-3 Layer II;": every accepted
  -- frame is read as the standard lists it, over its tables with the listed entry replaced ..
  pub codes_are_the_standards : {c : Call} → Past c.state c.memory → Accepts c → ReadByItsFormat c
  -- .. and where all calls since opening were on one stream, behind a header of the standard that stands in it
  pub frames_are_the_standards : {c : Call} (past : Past c.state c.memory) → On c.stream past → Accepts c → StandardsFrame c
  -- "where Rust and standard part, the list says so.": four places of the tables, and where none of them is read, nothing is replaced
  pub the_list_has_four : (t : Table) (sb allocation : ℕ) → differs_at t sb allocation ≡ true → Listed t sb allocation
  pub else_the_standards_own : {s : List ℕ} {r : Reader} {mode extension index frequency : ℕ} {granules : List (List ℤ)} {end : Reader}
      → Unlisted (allocation_table mode index frequency) (reading_over steps_of s r mode extension index frequency).value.allocation
      → ReadAs replaced s r mode extension index frequency granules end → ReadAs steps_of s r mode extension index frequency granules end

pub demand_2 : Demand2
demand_2 =
    record {
      bits_are_how_far_it_moves = bits_are_the_movement;
      bits_are_the_sum_of_widths = bits_are_the_widths;
      start_time_by_frames = time_by_frames;
      headers_are_the_standards = the_standards_header;
      another_pair_is_13 = not_permitted_is_13;
      only_the_standards_pairs = strict_frames_have_the_standards_pairs;
      only_the_standards_headers = an_accepted_header;
      codes_are_the_standards = accepted_as_the_standard;
      frames_are_the_standards = accepted_frames_are_the_standards;
      the_list_has_four = the_list;
      else_the_standards_own = unlisted_reads_the_same;
    }

pub record Demand3 : Type 0 where
  -- "Take two decoders with any two pasts of calls since opening, .. whose counts of accepted frames leave the same remainder by 4. Both
  -- accept a frame of the same sample rate, bit rate, mode and mode extension, and the bits .. are all present and equal."
  -- "Then both use the same number of bits,"
  pub same_bits : {c d : Call} (agree : Agreeing c d) → agree.accepts.bits ≡ agree.accepts'.bits
  -- "and samples 481 to 1,152 of each channel are equal bit for bit."
  pub rings_out : {c d : Call} → Past c.state c.memory → Past d.state d.memory → c.state.frames % 4 ≡ d.state.frames % 4
      → Agreeing c d → (channel k : ℕ) → channel < 2 → 481 ≤ k → k ≤ 1152 → BitForBit (sample (new_output c) channel k) (sample (new_output d) channel k)
  -- so it is for any two memories at one ring position, whatever they hold
  pub whatever_the_memories_hold : {c d : Call} → Agreeing c d → c.state.ring ≡ d.state.ring
      → (channel k : ℕ) → channel < 2 → 481 ≤ k → k ≤ 1152 → sample (new_output c) channel k ≡ sample (new_output d) channel k
  -- "It rings on for 15 blocks of 32 samples": and not for fewer
  pub rings_on : (c : Call) × (d : Call) × TellsApart c d
  -- "While the accepted frames go on agreeing so, with no opening and no other writing between, every later sample is equal too."
  pub every_later_sample : {c d : Call} → Together c.state c.memory d.state d.memory → Agreeing c d
      → (channel k : ℕ) → channel < 2 → 1 ≤ k → k ≤ 1152 → BitForBit (sample (new_output c) channel k) (sample (new_output d) channel k)
