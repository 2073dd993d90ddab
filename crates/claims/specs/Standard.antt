-- Demand 2: "Header, allocation, scale factors and sample codes are proved against a definition written from ISO/IEC 11172-3 Layer II;
-- where Rust and standard part, the list says so." Over decoders: every frame that a call accepts is read as the standard lists it, to the
-- same bit, over its tables with the one listed entry replaced. Where all calls since opening were on one stream, the frame's header is a
-- header of the standard at a byte of it, and the reading begins where the standard says. In the strict reading (02, E3) its pair of bit rate
-- and mode is one that the standard has. Assumes nothing.
use Rattle.std.specs.Prelude.{ℕ, ◌+◌, ◌-◌, ◌*◌, ◌≤◌, ◌<◌, ◌≡◌, refl, true, List, eqb, Float, ℤ, length, get_or, Result, Ok, Err}
use Rattle.std.proofs.Common.{sym, ap, subst, ◌∙◌, arith}
use Rattle.buffer.specs.Bits.{longest_stream, farthest_bit}
use Rattle.buffer.specs.Calls.{reader_at}
use Rattle.buffer.specs.declared.BytePos.{BytePos}
use Rattle.buffer.specs.declared.Reader.{Reader}
use Rattle.grammar.specs.Reads.{Taken, run}
use Rattle.tables.specs.Standard.{steps_of, limit_of, sblimit}
use Rattle.tables.specs.Differences.{table_of}
use Rattle.readings.specs.Readings.{strict}
use Rattle.header.specs.Header.{header_of, accepted_header}
use Rattle.header.specs.declared.Attempt.{Attempt}
use Rattle.header.specs.declared.Format.{Format}
use Rattle.side.specs.Side.{cut_of}
use Rattle.standard.specs.Header.{HeaderFields, bitrate_index, sampling_frequency, mode_bits, mode_extension, bound, allocation_table, permitted, frame_size, data_bit}
use Rattle.standard.specs.AudioData.{Steps, AudioFields, audio_data_over}
use Rattle.alike.specs.Made.{samples_by01}
use Rattle.alike.specs.Replaced.{replaced}
use Rattle.alike.specs.Bound.{Bounds, the_standards_bound}
use Rattle.alike.proofs.Alike.{frame_by_bounds}
use Rattle.alike.specs.Frames.{Unlisted, unlisted_is_the_standards}
use Rattle.alike.specs.Fields.{Says}
use Rattle.alike.specs.Pairs.{Permits, not_barred_is_permitted}
use Rattle.alike.specs.Headers.{Follows, Reaches, AcceptedAt, the_standards_header, an_accepted_header}
use Rattle.frame.specs.Frame.{codes_in, granules_at}
use Rattle.state.specs.State.{fresh, in_range}
use Rattle.state.specs.StateLaws.{ranged, fresh_ranged}
use Rattle.state.specs.declared.Audio.{Audio}
use Rattle.verdict.specs.Verdict.{seeking, attempt_of, Heading, Asked}
use Rattle.verdict.specs.VerdictLaws.{waits, accepts, Verdict, at_once, no_header, cut_off, whole, verdict_kept}
use Rattle.audio.specs.Calls.{answering, after_of, framed_of, decode_of, open_of, format_of}
use Rattle.audio.specs.CallsLaws.{question_leaves, by_opening}
use Rattle.past.specs.Pasts.{Past, opened, asked as has_asked, decoded, refused, relent}
use Rattle.past.specs.Calls.{Call, outcome, frame_state, before, granules_in, end_of, Accepts, accepted_known, accepted_leaves, verdict_of}
use Rattle.past.specs.Sound.{sound_state_in_range, sound, frame_has_extension, reading_of, the_reading_stays}
use Rattle.claims.specs.Numbers.{passed}
use Rattle.refusal.specs.declared.Refusal.{Refusal}
use Rattle.header.specs.declared.Accepted.{Accepted}

-- ---- a frame by its header's mode, mode_extension, bitrate_index and sampling_frequency

abbrev pub reading_over : Steps → List ℕ → Reader → ℕ → ℕ → ℕ → ℕ → Taken AudioFields
reading_over steps s r mode extension index frequency = run (audio_data_over steps mode extension index frequency) s r

-- the samples are 01's formulas over the standard's fields, and the reading ends at the standard's bit
pub record ReadAs (steps : Steps) (s : List ℕ) (r : Reader) (mode extension index frequency : ℕ) (granules : List (List ℤ)) (end : Reader) : Type 0 where
  pub samples : granules ≡ samples_by01 steps mode extension index frequency (reading_over steps s r mode extension index frequency).value
  pub to : end ≡ (reading_over steps s r mode extension index frequency).next

-- the audio data behind the header at a byte
abbrev pub ReadBehind : List ℕ → ℕ → List (List ℤ) → Reader → Type 0
ReadBehind s byte =
    ReadAs replaced s (reader_at (data_bit s byte)) (mode_bits s byte) (mode_extension s byte) (bitrate_index s byte) (sampling_frequency s byte)

-- whatever the stream and the place, where a format says what these fields say
reads_by : (s : List ℕ) (r : Reader) (f : Format) (mode extension index frequency : ℕ) → f.mode ≡ mode → f.bitrate ≡ index - 1 → f.samplerate ≡ frequency
    → let t = allocation_table mode index frequency in
    Bounds t (eqb mode 3) (cut_of f.bound (sblimit t)) (bound mode extension t)
    → let x = granules_at s r f in ReadAs replaced s r mode extension index frequency x.value x.next
unfolding granules_at codes_in table_of limit_of
reads_by s r f mode extension index frequency m b k w =
    let e = frame_by_bounds (allocation_table mode index frequency) w s r in
    rw (m, b, k) (record { samples = ap (λ (z : Taken (List (List ℤ))). z.value) e; to = ap (λ (z : Taken (List (List ℤ))). z.next) e })

reads_by_header : (h : List ℕ) (byte : ℕ) (f : Format) (n : ℕ) → Says h byte f n → (s : List ℕ) (r : Reader)
    → let x = granules_at s r f in
    ReadAs replaced s r (mode_bits h byte) (mode_extension h byte) (bitrate_index h byte) (sampling_frequency h byte) x.value x.next
reads_by_header h byte f n w s r =
    reads_by s r f (mode_bits h byte) (mode_extension h byte) (bitrate_index h byte) (sampling_frequency h byte) w.mode w.bitrate w.samplerate w.bound

-- where no allocation is listed, it is read as the standard's tables say
pub unlisted_reads_the_same : {s : List ℕ} {r : Reader} {mode extension index frequency : ℕ} {granules : List (List ℤ)} {end : Reader}
    → Unlisted (allocation_table mode index frequency) (reading_over steps_of s r mode extension index frequency).value.allocation
    → ReadAs replaced s r mode extension index frequency granules end → ReadAs steps_of s r mode extension index frequency granules end
unlisted_reads_the_same {s} {r} {mode} {extension} {index} {frequency} clean x =
    let e = unlisted_is_the_standards mode extension index frequency s r clean in
    record {
      samples = x.samples ∙ ap (λ (z : Taken AudioFields). samples_by01 replaced mode extension index frequency z.value) e.0 ∙ e.1;
      to = x.to ∙ ap (λ (z : Taken AudioFields). z.next) e.0;
    }

-- a header of the standard that an attempt reaches, and the audio data behind it
pub the_standards_stream : (s : List ℕ) → ((j : ℕ) → get_or s j 0 < 256) → (r : Reader) (byte : ℕ) → Reaches s r byte → length s ≤ longest_stream
    → 8 * byte + 48 ≤ 8 * length s → HeaderFields s byte → (known : Format) → Permits known.reading s byte → Follows known s byte
    → (x : AcceptedAt s r byte known)
    × (let y = granules_at s (reader_at (data_bit s byte)) x.format in ReadBehind s byte y.value y.next)
the_standards_stream s bytes r byte reaches short room fields known permits follows =
    let x = the_standards_header s bytes r byte reaches short room fields known permits follows in
    (x, reads_by_header s byte x.format _ x.says s (reader_at (data_bit s byte)))

-- ---- every frame that a call accepts, whatever streams the calls before it were on

-- read by a mode, mode_extension, bitrate_index and sampling_frequency as headers of the standard have them
pub record ReadByItsFormat (c : Call) : Type 0 where
  pub extension : ℕ
  pub extension_most : extension ≤ 3
  pub mode_most : (frame_state c).format.mode ≤ 3
  pub index_most : (frame_state c).format.bitrate + 1 ≤ 14
  pub frequency_most : (frame_state c).format.samplerate ≤ 2
  -- 02, E3: in the strict reading a pair that the standard has
  pub pair : let f = (frame_state c).format in strict f.reading ≡ true → permitted f.mode (f.bitrate + 1) ≡ true
  pub reads : let f = (frame_state c).format in
      ReadAs replaced c.stream (frame_state c).reader f.mode extension (f.bitrate + 1) f.samplerate (granules_in c) (end_of c)

pub accepted_as_the_standard : {c : Call} → Past c.state c.memory → Accepts c → ReadByItsFormat c
accepted_as_the_standard {c} past ok =
    let r = sound_state_in_range past in
    let x = frame_has_extension c.stream (length c.memory) (length c.output) c.state r (sound past) (accepted_known c ok) in
    let f = (frame_state c).format in
    let fit = (accepted_leaves c ok).goes.ready.fit in
    let pair = ((verdict_kept (ranged c.state r) (verdict_of c)).sound (sound past)).pair (λ e. omega (arith, fit.samplerate)) in
    let w = the_standards_bound f.mode x.0 (allocation_table f.mode (f.bitrate + 1) f.samplerate) x.1 in
    record {
      extension = x.0;
      extension_most = omega (arith, x.1);
      mode_most = omega (arith, fit.mode);
      index_most = omega (arith, fit.bitrate);
      frequency_most = omega (arith, fit.samplerate);
      pair = not_barred_is_permitted f.reading f.bitrate f.mode fit.bitrate fit.mode pair;
      reads = reads_by c.stream (frame_state c).reader f f.mode x.0 (f.bitrate + 1) f.samplerate refl (omega arith) refl (rw x.2 w);
    }

-- ---- where all calls were on one stream: the pending header was found in it

-- every call of a past was on this stream
unfoldable pub On : (s : List ℕ) {a : Audio} {m : List Float} → Past a m → Type 0
On s (opened c t m l k) = t ≡ s
On s (has_asked p t) = (t ≡ s) × On s p
On s (decoded p t o) = (t ≡ s) × On s p
On s (refused p t other o n e) = (t ≡ s) × On s p
On s (relent p more) = On s p

-- the attempt that found it
record Headed (s : List ℕ) (a : Audio) : Type 0 where
  from : Reader
  known : Format
  near : from.at.0 ≤ farthest_bit
  sync : BytePos
  is : header_of s from known ≡ record { header = Ok (accepted_header a.format a.pending); sync = sync; next = a.reader }

Pending : List ℕ → Audio → Type 0
Pending s a = (a.pending ≡ 0 → ⊥) → Headed s a

attempt_headed : (s : List ℕ) (a : Audio) → a.reader.at.0 ≤ farthest_bit → a.pending ≡ 0 → Pending s (attempt_of s a).state
unfolding attempt_of Pending
attempt_headed s a near none = let t = header_of s a.reader a.format in go t.sync t.header t.next refl
  where
    go : (b : BytePos) (h : Result Accepted Refusal) (r : Reader) → header_of s a.reader a.format ≡ record { header = h; sync = b; next = r }
        → Pending s (seeking (passed a b) a r h).state
    go b (Ok x) r e = λ _. record { from = a.reader; known = a.format; near = near; sync = b; is = e }
    go b (Err n) r e = λ some. absurd (some none)

verdict_headed : {s : List ℕ} {m o : ℕ} {a : Audio} {x : Asked} → a.reader.at.0 ≤ farthest_bit → Pending s a → Verdict s m o a x → Pending s x.state
verdict_headed near p (at_once h) = p
verdict_headed {s} {a = a} near p (no_header c z e) = subst (λ (x : Asked). Pending s x.state) e (attempt_headed s a near z)
verdict_headed near p (cut_off c (waits n) l) = p
verdict_headed {s} {a = a} near p (cut_off c (accepts z e) l) = subst (λ (x : Asked). Pending s x.state) e (attempt_headed s a near z)
verdict_headed near p (whole c (waits n) l) = p
verdict_headed {s} {a = a} near p (whole c (accepts z e) l) = subst (λ (x : Asked). Pending s x.state) e (attempt_headed s a near z)

decode_headed : (c : Call) → c.state.reader.at.0 ≤ farthest_bit → Pending c.stream c.state → Pending c.stream (outcome c).state
unfolding decode_of framed_of after_of Pending
decode_headed c near p = go (before c).answer (verdict_headed near p (verdict_of c))
  where
    go : (h : Heading) → Pending c.stream (frame_state c) → Pending c.stream (answering c.stream (before c).skipped h (frame_state c)).state
    go (Ok _) w = λ some. absurd (some refl)
    go (Err n) w = w

call_headed : {s : List ℕ} (c : Call) → c.stream ≡ s → in_range c.state ≡ true → Pending s c.state → Pending s (outcome c).state
call_headed c e r p =
    subst (λ u. Pending u (outcome c).state) e
    (decode_headed c (ranged c.state r).near (subst (λ u. Pending u c.state) (sym e) p))

past_headed : (s : List ℕ) {a : Audio} {m : List Float} (past : Past a m) → On s past → Pending s a
unfolding On Pending fresh
past_headed s (opened c t m l k) e =
    subst (λ u. Pending u (open_of c t m).state) e
    (by_opening c t m (λ (x : Asked). Pending t x.state) (λ _ some. absurd (some refl)) (λ _ _ some. absurd (some refl))
    (λ _ _. attempt_headed t (fresh c) (fresh_ranged c).near refl))
past_headed s (has_asked {a} p t) e =
    let r = sound_state_in_range p in
    let w = past_headed s p e.1 in
    let w' = subst (λ u. Pending u a) (sym e.0) w in
    subst (λ u. Pending u (format_of t a).state) e.0
    (question_leaves t a (Pending t) w' (λ _ _ unknown. attempt_headed t a (ranged a r).near ((ranged a r).known unknown)))
past_headed s (decoded {a} {m} p t o) e =
    call_headed (record { stream = t; memory = m; output = o; state = a }) e.0 (sound_state_in_range p) (past_headed s p e.1)
past_headed s (refused {a} p t other o n refuses) e =
    call_headed (record { stream = t; memory = other; output = o; state = a }) e.0 (sound_state_in_range p) (past_headed s p e.1)
past_headed s (relent p more) e = past_headed s p e

-- a frame of the standard: its header at a byte, what it says, all of its bytes there, its audio data behind it, and the reading of them
pub record StandardsFrame (c : Call) : Type 0 where
  pub byte : ℕ
  pub inside : byte + frame_size c.stream byte ≤ length c.stream
  pub fields : HeaderFields c.stream byte
  pub says : Says c.stream byte (frame_state c).format (frame_state c).pending
  pub pair : Permits (frame_state c).format.reading c.stream byte
  pub begins : (frame_state c).reader ≡ reader_at (data_bit c.stream byte)
  pub reads : ReadBehind c.stream byte (granules_in c) (end_of c)

pub accepted_frames_are_the_standards : {c : Call} (past : Past c.state c.memory) → On c.stream past → Accepts c → StandardsFrame c
unfolding Pending
accepted_frames_are_the_standards {c} past one ok =
    let s = c.stream in
    let r = ranged c.state (sound_state_in_range past) in
    let k = verdict_kept r (verdict_of c) in
    let some = k.some (accepted_known c ok) in
    let h : Headed s (frame_state c) = verdict_headed r.near (past_headed s past one) (verdict_of c) some in
    let ready = (accepted_leaves c ok).goes.ready in
    let x = an_accepted_header s h.from ready.short h.known h.near (ap (λ (t : Attempt). t.header) h.is) in
    let next : (header_of s h.from h.known).next ≡ (frame_state c).reader = ap (λ (t : Attempt). t.next) h.is in
    let large = k.ranged.large some in
    let byte = (header_of s h.from h.known).sync.0 in
    let there : 8 * byte + 48 ≤ 8 * length s = x.whole (rw next (omega (arith, ready.there))) in
    let begins = sym next ∙ x.data_bit_is there in
    let says = x.says (omega arith) in
    let at : (frame_state c).reader.at.0 ≡ data_bit s byte = ap (λ (r : Reader). r.at.0) begins in
    record {
      byte = byte;
      inside = omega (arith, ready.there, says.size);
      fields = x.fields (omega arith);
      says = says;
      pair = x.pair (omega arith);
      begins = begins;
      reads = rw (← begins) (reads_by_header s byte (frame_state c).format (frame_state c).pending says s (frame_state c).reader);
    }

-- 02, E3: opened strictly, whatever streams the calls were on, a frame is accepted only with a pair that the standard has
pub strict_frames_have_the_standards_pairs : {c : Call} (past : Past c.state c.memory) → strict (reading_of past) ≡ true → Accepts c
    → let f = (frame_state c).format in permitted f.mode (f.bitrate + 1) ≡ true
strict_frames_have_the_standards_pairs {c} past chosen ok =
    let kept = (verdict_kept (ranged c.state (sound_state_in_range past)) (verdict_of c)).reading in
    (accepted_as_the_standard past ok).pair (ap strict (kept ∙ the_reading_stays past) ∙ chosen)
