-- Demand 3: the last clip "rings on for 15 blocks of 32 samples, and there it must stop". Two decoders with any two pasts since opening,
-- whose counts of accepted frames leave the same remainder by 4, accept agreeing frames: both use the same number of bits, samples 481 to
-- 1,152 of each channel are equal, and while the accepted frames go on agreeing so, every later sample. Assumes nothing.
use Rattle.std.specs.Prelude.{ℕ, ◌+◌, ◌-◌, ◌*◌, ◌%◌, ◌≤◌, ◌<◌, ◌≡◌, refl, List, ◌++◌, ℤ, Float, length, get_or, take, Ok}
use Rattle.std.proofs.Math.Path.{sym, ap}
use Rattle.std.proofs.Common.{ap₂, ◌∙◌, zero-add, arith}
use Rattle.std.specs.Float.{nan}
use Rattle.grammar.specs.Reads.{run, called}
use Rattle.grammar.specs.Widths.{Agree, Alike, alike}
use Rattle.header.specs.Header.{bound_by}
use Rattle.header.specs.Accepted.{Extended}
use Rattle.header.specs.declared.Format.{Format}
use Rattle.readings.specs.declared.Reading.{Reading}
use Rattle.window.specs.Output.{Place}
use Rattle.synthesis.specs.Slots.{ring_of, memory_after, output_after, output_length, memory_length}
use Rattle.synthesis.specs.Wash.{output_washed}
use Rattle.frame.specs.Frame.{codes_in, granules_at, slots_of}
use Rattle.audio.specs.Calls.{decode_of, format_of}
use Rattle.state.specs.declared.Audio.{Audio}
use Rattle.verdict.specs.Verdict.{asked as stands, Asked}
use Rattle.audio.specs.declared.Answer.TheVariants.{Refused as AnswerRefused}
use Rattle.past.specs.Pasts.{Past}
use Rattle.past.specs.Calls.{Call, outcome, new_memory, new_output, sample, before, frame_state, first_bit, bits_called, Accepts, before_keeps, accepted_known, known_accepted, granules_in, Leaves, accepted_leaves}
use Rattle.past.specs.Sound.{sound, sound_state_in_range, frame_has_extension}
use Rattle.past.specs.Ring.{ring_by_frames}
use Rattle.refusal.specs.declared.Refusal.{Refusal}

-- ---- agreeing frames

-- "both accept a frame of the same sample rate, bit rate, mode and mode extension, and the bits from its first allocation bit to the
-- last bit it calls for are all present and equal". The second calls for as many (`same-bits-called`), and each accepted frame has an
-- extension (`accepted-frame-has-extension`)
pub record Agreeing (c d : Call) : Type 0 where
  pub accepts : Accepts c
  pub accepts' : Accepts d
  -- opened with the same choices
  pub reading : (frame_state c).format.reading ≡ (frame_state d).format.reading
  pub samplerate : (frame_state c).format.samplerate ≡ (frame_state d).format.samplerate
  pub bitrate : (frame_state c).format.bitrate ≡ (frame_state d).format.bitrate
  pub mode : (frame_state c).format.mode ≡ (frame_state d).format.mode
  pub extension : ℕ
  pub bound : (frame_state c).format.bound ≡ bound_by (frame_state c).format.mode extension
  pub bound' : (frame_state d).format.bound ≡ bound_by (frame_state d).format.mode extension
  pub present : first_bit c + bits_called c ≤ 8 * length c.stream
  pub present' : first_bit d + bits_called c ≤ 8 * length d.stream
  pub equal : Agree c.stream (first_bit c) d.stream (first_bit d) (bits_called c)

-- frames of one format whose bits are equal are read alike, by the fields of `Agreeing` alone
pub one_format : (f g : Format) (e : ℕ) → f.reading ≡ g.reading → f.samplerate ≡ g.samplerate → f.bitrate ≡ g.bitrate → f.mode ≡ g.mode
    → f.bound ≡ bound_by f.mode e → g.bound ≡ bound_by g.mode e → f ≡ g
one_format f g e w r b m h k =
    let z : f.bound ≡ g.bound = h ∙ ap (λ (x : ℕ). bound_by x e) m ∙ sym k in
    go f.reading g.reading f.samplerate g.samplerate f.bitrate g.bitrate f.mode g.mode f.bound g.bound w r b m z
  where
    go : (w w' : Reading) (r r' b b' m m' h h' : ℕ) → w ≡ w' → r ≡ r' → b ≡ b' → m ≡ m' → h ≡ h'
        → ◌≡◌ {A = Format} (record { reading = w; samplerate = r; bitrate = b; mode = m; bound = h })
        (record { reading = w'; samplerate = r'; bitrate = b'; mode = m'; bound = h' })
    go w w' r r' b b' m m' h h' o p q s t = cc

module _ {c d : Call} (ok : Accepts c) (ok' : Accepts d) (present : first_bit c + bits_called c ≤ 8 * length c.stream)
    (present' : first_bit d + bits_called c ≤ 8 * length d.stream) (equal : Agree c.stream (first_bit c) d.stream (first_bit d) (bits_called c)) where
  pub reads_alike : Alike (codes_in (frame_state c).format) c.stream (frame_state c).reader d.stream (frame_state d).reader
  reads_alike =
      let x = (accepted_leaves c ok).goes.ready.short in
      let y = (accepted_leaves d ok').goes.ready.short in
      alike (codes_in (frame_state c).format) c.stream d.stream (frame_state c).reader (frame_state d).reader
      (record { short = x; near = omega (arith, present); enough = omega (arith, present) })
      (record { short = y; near = omega (arith, present'); enough = omega (arith, present') }) equal

  granules_alike : (frame_state c).format ≡ (frame_state d).format → granules_in c ≡ granules_in d
  unfolding granules_at
  granules_alike format = reads_alike.value ∙ ap (λ (f : Format). (run (codes_in f) d.stream (frame_state d).reader).value) format

-- ---- the mode extension

-- every frame that is accepted since opening has one, 0 to 3, by which its bound goes: 01, "joint stereo (1) gives 4 times (extension
-- + 1), mono (3) gives 0, others 32". So "same mode extension" can be said by the bound
pub accepted_frame_has_extension : {c : Call} → Past c.state c.memory → Accepts c
    → Extended (frame_state c).format.mode (frame_state c).format.bound
accepted_frame_has_extension {c} p ok =
    frame_has_extension c.stream (length c.memory) (length c.output) c.state (sound_state_in_range p) (sound p) (accepted_known c ok)

-- and in joint stereo, where alone it matters, the bound tells it
pub joint_bound_tells_extension : (e f : ℕ) → bound_by 1 e ≡ bound_by 1 f → e ≡ f
joint_bound_tells_extension e f h = omega arith

-- ---- the samples

-- as far as the synthesis goes two decoders are one: what lies past the rings may differ
pub record Joined (a : Audio) (m : List Float) (b : Audio) (n : List Float) : Type 0 where
  pub ring : a.ring ≡ b.ring
  pub rings : (channel : ℕ) → channel < 2 → ring_of channel m ≡ ring_of channel n

-- what a call that accepts a frame leaves, by its ring position and granules
module _ (x : Call) (ok : Accepts x) (p : ℕ) (at : x.state.ring ≡ p) (granules : List (List ℤ)) (is : granules_in x ≡ granules) where
  pub memory_is : new_memory x ≡ memory_after (slots_of granules) p x.memory 36
  memory_is = (accepted_leaves x ok).memory ∙ ap₂ (λ q g. memory_after (slots_of g) q x.memory 36) at is

  pub output_is : new_output x ≡ output_after (slots_of granules) p x.memory x.output 0 36
  output_is = (accepted_leaves x ok).output ∙ ap₂ (λ q g. output_after (slots_of g) q x.memory x.output 0 36) at is

-- two calls that accept frames of the same granules, at one ring position
module _ {c d : Call} (ok : Accepts c) (ok' : Accepts d) (granules : granules_in c ≡ granules_in d) (ring : c.state.ring ≡ d.state.ring) where
  abbrev f : ℕ → ℕ → List ℤ
  f = slots_of (granules_in d)

  abbrev lent : Leaves c
  lent = accepted_leaves c ok

  abbrev lent' : Leaves d
  lent' = accepted_leaves d ok'

  place : Place c.state.ring
  place = rw (← (before_keeps c).ring) lent.goes.ready.place

  pub outputs_by_granules : (i : ℕ)
      → get_or (output_after f c.state.ring c.memory c.output 0 36) i nan ≡ get_or (output_after f c.state.ring d.memory d.output 0 36) i nan
      → get_or (new_output c) i nan ≡ get_or (new_output d) i nan
  outputs_by_granules i e =
      ap (λ (o : List Float). get_or o i nan) (output_is c ok c.state.ring refl (granules_in d) granules) ∙ e
      ∙ sym (ap (λ (o : List Float). get_or o i nan) (output_is d ok' c.state.ring (sym ring) (granules_in d) refl))

  -- whatever the memories held, sixteen slots wash it out
  first_output : (i : ℕ) → 960 ≤ i → i < output_length → get_or (new_output c) i nan ≡ get_or (new_output d) i nan
  first_output i late l =
      outputs_by_granules i
      (rw (← zero-add i)
      (output_washed f f place c.memory d.memory lent.goes.memory_long lent'.goes.memory_long 36 (λ _ _ _ _. refl) c.output d.output 0 0
      lent.goes.output_long lent'.goes.output_long i late l))

module _ {c d : Call} (agree : Agreeing c d) (ring : c.state.ring ≡ d.state.ring) where
  -- the law without pasts: at one ring position the memories may hold whatever they like
  pub whatever_the_memories : (channel k : ℕ) → channel < 2 → 481 ≤ k → k ≤ 1152 → sample (new_output c) channel k ≡ sample (new_output d) channel k
  whatever_the_memories channel k two late last =
      first_output agree.accepts agree.accepts'
      (granules_alike agree.accepts agree.accepts' agree.present agree.present' agree.equal
      (one_format _ _ agree.extension agree.reading agree.samplerate agree.bitrate agree.mode agree.bound agree.bound'))
      ring (2 * (k - 1) + channel) (omega arith) (omega arith)

-- ---- the first agreeing frame, whatever came before

module _ {c d : Call} (past : Past c.state c.memory) (past' : Past d.state d.memory) (remainder : c.state.frames % 4 ≡ d.state.frames % 4)
    (agree : Agreeing c d) where
  pub same_ring : c.state.ring ≡ d.state.ring
  same_ring = ring_by_frames past ∙ ap (λ (r : ℕ). (1024 - 256 * r) % 1024) remainder ∙ sym (ring_by_frames past')

-- ---- and after it

-- a call that accepts no frame: a question about the format, a decode call that gives a number, whatever memory it was lent; and between
-- calls the lent slice may change behind the memory
pub data Passes (a : Audio) (m : List Float) : Audio → List Float → Type 0 where
  asks : (s : List ℕ) → Passes a m (format_of s a).state m
  refuses : (s : List ℕ) (other o : List Float) (number : Refusal) → (decode_of s other o a).answer ≡ AnswerRefused number → Passes a m (decode_of s other o a).state m
  lends : (more : List Float) → Passes a m a (take memory_length m ++ more)

-- two decoders that accepted agreeing frames, and since then, each on its own streams, any calls that accept no frame, and pair by
-- pair further agreeing frames: "with no opening and no other writing between"
pub data Together : Audio → List Float → Audio → List Float → Type 0 where
  begin : (c d : Call) → Past c.state c.memory → Past d.state d.memory → c.state.frames % 4 ≡ d.state.frames % 4
      → Agreeing c d → Together (outcome c).state (new_memory c) (outcome d).state (new_memory d)
  one_passes : {a b a' : Audio} {m n m' : List Float} → Together a m b n → Passes a m a' m' → Together a' m' b n
  other_passes : {a b b' : Audio} {m n n' : List Float} → Together a m b n → Passes b n b' n' → Together a m b' n'
  again : (c d : Call) → Together c.state c.memory d.state d.memory
      → Agreeing c d → Together (outcome c).state (new_memory c) (outcome d).state (new_memory d)

-- ---- calls that agree

-- two calls before whose frames the same state stands agree, if their streams hold the same n bits there
pub agree_on : (c d : Call) {j k : ℕ} (b : Audio) → before c ≡ stands j (Ok tt) b → before d ≡ stands k (Ok tt) b
    → (extension n : ℕ) → b.format.bound ≡ bound_by b.format.mode extension → called (codes_in b.format) c.stream b.reader ≡ n
    → b.reader.at.0 + n ≤ 8 * length c.stream → b.reader.at.0 + n ≤ 8 * length d.stream
    → Agree c.stream b.reader.at.0 d.stream b.reader.at.0 n → Agreeing c d
agree_on c d b is is' extension n bound calls there there' equal =
    let f : frame_state c ≡ b = ap (λ (x : Asked). x.state) is in
    let g : frame_state d ≡ b = ap (λ (x : Asked). x.state) is' in
    let many : bits_called c ≡ n = ap (λ (a : Audio). called (codes_in a.format) c.stream a.reader) f ∙ calls in
    let from : first_bit c ≡ b.reader.at.0 = ap (λ (a : Audio). a.reader.at.0) f in
    let from' : first_bit d ≡ b.reader.at.0 = ap (λ (a : Audio). a.reader.at.0) g in
    record {
      accepts = known_accepted c b is;
      accepts' = known_accepted d b is';
      reading = ap (λ (a : Audio). a.format.reading) (f ∙ sym g);
      samplerate = ap (λ (a : Audio). a.format.samplerate) (f ∙ sym g);
      bitrate = ap (λ (a : Audio). a.format.bitrate) (f ∙ sym g);
      mode = ap (λ (a : Audio). a.format.mode) (f ∙ sym g);
      extension = extension;
      bound = rw f bound;
      bound' = rw g bound;
      present = omega (arith, many, from, there);
      present' = omega (arith, many, from', there');
      equal = rw (many, from, from') equal;
    }

-- a call that has its bits agrees with itself
pub agrees_with_itself : {c : Call} → Accepts c → (extension : ℕ) → (frame_state c).format.bound ≡ bound_by (frame_state c).format.mode extension
    → first_bit c + bits_called c ≤ 8 * length c.stream → Agreeing c c
unfolding Agree
agrees_with_itself ok e b h =
    record {
      accepts = ok;
      accepts' = ok;
      reading = refl;
      samplerate = refl;
      bitrate = refl;
      mode = refl;
      extension = e;
      bound = b;
      bound' = b;
      present = h;
      present' = h;
      equal = λ i l. refl;
    }
