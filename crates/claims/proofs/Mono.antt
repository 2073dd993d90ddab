-- A clip that opens in mono, and its file: what specs/Mono says of a frame, of every sample of both. Assumes nothing.
use Rattle.std.specs.Prelude.{ℕ, ◌+◌, ◌-◌, ◌*◌, ◌/◌, ◌%◌, ◌≤◌, ◌<◌, ◌≡◌, List, [], Float, length, get_or}
use Rattle.std.proofs.Math.Path.{sym, ap}
use Rattle.std.proofs.Common.{◌∙◌, arith}
use Rattle.buffer.specs.Bits.{longest_stream}
use Rattle.riff.specs.Level.{level_of, bits16}
use Rattle.synthesis.specs.Slots.{memory_length, quiet}
use Rattle.readings.specs.Readings.{plain}
use Rattle.audio.specs.Calls.{open_of}
use Rattle.clip.specs.Frames.{Heard, clip_of}
use Rattle.clip.specs.File.{file_of}
use Rattle.past.specs.Calls.{sample}
use Rattle.heard.specs.Heard.{opening_past, in_clip}
use Rattle.past.specs.Formats.{after_frame, format_stays}
use Rattle.claims.specs.Wave.{sample_bytes}
use Rattle.claims.specs.Mono.{open_known, InMono, mono_on, mono_alike}

module _ (s : List ℕ) (short : length s ≤ longest_stream) (mono : (open_of plain s (quiet memory_length)).state.format.mode ≡ 3) where
  pub mono_clip : (i : ℕ) (d : Heard) → i < length (clip_of s)
      → (k : ℕ) → 1 ≤ k → k ≤ 1152 → sample (get_or (clip_of s) i d).samples 0 k ≡ sample (get_or (clip_of s) i d).samples 1 k
  mono_clip =
      in_clip InMono (λ x. (k : ℕ) → 1 ≤ k → k ≤ 1152 → sample x.samples 0 k ≡ sample x.samples 1 k) mono_on
      (λ c q ok. mono_alike q.past ok (sym (after_frame c).mode ∙ (format_stays c q.known).mode ∙ q.mode))
      s (record { past = opening_past plain s short; known = open_known s (quiet memory_length) mono; mode = mono })

  -- the right sample's two bytes are those of the left, which stand before them
  pub mono_file : (i : ℕ) → i < length (clip_of s) → (k : ℕ) → 1 ≤ k → k ≤ 1152 → let at = 44 + (4608 * i + 4 * (k - 1)) in
      (get_or (file_of s) at 0 ≡ get_or (file_of s) (at + 2) 0) × (get_or (file_of s) (at + 1) 0 ≡ get_or (file_of s) (at + 3) 0)
  mono_file i l k first last =
      let d : Heard = record { rate = 0; samples = [] } in
      let e = mono_clip i d l k first last in
      let a = sample_bytes s i d l (2 * (k - 1) + 0) (omega arith) in
      let b = sample_bytes s i d l (2 * (k - 1) + 1) (omega arith) in (
        move (omega arith) ∙ a.0 ∙ ap (λ (x : Float). bits16 (level_of x) % 256) e ∙ sym b.0 ∙ move (omega arith),
        move (omega arith) ∙ a.1 ∙ ap (λ (x : Float). bits16 (level_of x) / 256) e ∙ sym b.1 ∙ move (omega arith),
      )
    where
      move : {m n : ℕ} → m ≡ n → get_or (file_of s) m 0 ≡ get_or (file_of s) n 0
      move e = ap (λ (at : ℕ). get_or (file_of s) at 0) e
