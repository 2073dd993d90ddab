-- The source's synthesis (native32emu, mpeg/audio.rs, `decode_frame`), from a slot's samples to `interleaved`, line by line and in its order,
-- to be held beside the Rust: `source-is-synthesis` says that it makes `memoryAfter` and `outputAfter`, of any samples and any number of
-- slots. The lines of `idct36` and of the window are in transform/specs/Source and window/specs/Source. Assumes nothing.
use Prim.Native.Nat.{ℕ, zero, suc, ◌+◌, ◌-◌, ◌*◌, ◌%◌, ◌^◌, ◌≤◌, ◌<◌}
use Rattle.std.specs.Prelude.{◌≡◌, List, ℤ, Float}
use Rattle.std.proofs.Math.Path.{refl, ap}
use Rattle.std.proofs.Common.{sym, ◌∙◌}
use native.Mathlib.Omega.{arith}
use Rattle.std.proofs.Math.ListN.{length}
use Rattle.transform.specs.Source.{idct36}
use Rattle.transform.proofs.Source.{source_is_idct}
use Rattle.window.specs.Output.{Place, stores}
use Rattle.window.specs.Source.{sounded}
use Rattle.window.proofs.Source.{source_is_output}
use Rattle.synthesis.specs.Slots.{place_before, position_after, put, slot_ring, ring_after, outputs_at, interleaved}
use Rattle.synthesis.specs.Slots.{memory_length, ring_of, memory_after, output_after}
use Rattle.synthesis.specs.Ring.{place_after, ring_length}
use Rattle.synthesis.specs.Memory.{ring_of_length, memory_ring}

-- self.v_pos, out_pos, self.v[0], self.v[1], self.interleaved
pub record Synthesis : Type 0 where
  pub v_pos : ℕ
  pub out_pos : ℕ
  pub v0 : List Float
  pub v1 : List Float
  pub interleaved : List Float

-- (self.v_pos - 64) & 1023, on i32: - 64 is + (2 ^ 32 - 64) there, and & 1023 is the remainder by 1,024
abbrev back : ℕ → ℕ
back v_pos = (v_pos + (2 ^ 32 - 64)) % 1024

-- self.v_pos = ..; for ch in 0..2 { idct36(&self.sample[ch], p, ..); .. } out_pos += 32; samples ch being self.sample[ch] at p
abbrev slot : (ℕ → List ℤ) → Synthesis → Synthesis
slot samples s =
    let v_pos = back s.v_pos in
    let v0 = idct36 (samples 0) s.v0 v_pos in
    let left = sounded v0 v_pos s.interleaved s.out_pos 0 in
    let v1 = idct36 (samples 1) s.v1 v_pos in
    let both = sounded v1 v_pos left s.out_pos 1 in
    record { v_pos = v_pos; out_pos = s.out_pos + 32; v0 = v0; v1 = v1; interleaved = both }

-- slot after slot, f ch n being the samples of slot n
pub slots : (ℕ → ℕ → List ℤ) → ℕ → Synthesis → Synthesis
slots f zero s = s
slots f (suc n) s = slot (λ ch. f ch n) (slots f n s)

-- ---- it is the synthesis

alike : {p q o r : ℕ} {a b c d x y : List Float} → p ≡ q → o ≡ r → a ≡ b → c ≡ d → x ≡ y
    → ◌≡◌ {A = Synthesis} (record { v_pos = p; out_pos = o; v0 = a; v1 = c; interleaved = x })
    (record { v_pos = q; out_pos = r; v0 = b; v1 = d; interleaved = y })
alike e f g h i = cc

-- from position p, with a memory's rings, and from the pair `out` of an output
module _ (f : ℕ → ℕ → List ℤ) {p : ℕ} (place : Place p) (memory : List Float) (big : memory_length ≤ length memory) (output : List Float)
    (out : ℕ) where
  abbrev ring : ℕ → ℕ → List Float
  ring ch n = ring_after (f ch) p (ring_of ch memory) n

  abbrev sound : ℕ → List Float
  sound n = interleaved (λ ch. outputs_at (f ch) p (ring_of ch memory)) output (2 * out) n

  abbrev after : ℕ → Synthesis
  after n = record { v_pos = position_after p n; out_pos = out + 32 * n; v0 = ring 0 n; v1 = ring 1 n; interleaved = sound n }

  module _ (n : ℕ) (full : (ch : ℕ) → ch < 2 → length (f ch n) ≡ 32) where
    here : Place (position_after p (suc n))
    here = place_after place (suc n)

    written : (ch : ℕ) → ch < 2 → idct36 (f ch n) (ring ch n) (position_after p (suc n)) ≡ ring ch (suc n)
    unfolding ring_after slot_ring put
    written ch two =
        let l : length (ring ch n) ≡ 1024 = ring_length (f ch) place (ring_of ch memory) (ring_of_length ch two memory big) n in
        let q : Place (position_after p (suc n)) = here in
        source_is_idct (f ch n) (full ch two) (ring ch n) (position_after p (suc n)) (omega arith)

    heard : (before : List Float) (ch at : ℕ) → 2 * (out + 32 * n) + ch ≡ at
        → sounded (ring ch (suc n)) (position_after p (suc n)) before (out + 32 * n) ch ≡ stores before at (outputs_at (f ch) p (ring_of ch memory) n) 32
    unfolding outputs_at
    heard before ch at e = rw e at (source_is_output (ring ch (suc n)) here before (out + 32 * n) ch)

    moved : back (position_after p n) ≡ position_after p (suc n)
    unfolding position_after
    moved = let e : (position_after p n + (2 ^ 32 - 64)) % 1024 ≡ place_before (position_after p n) = omega arith in e

    one_more : slot (λ ch. f ch n) (after n) ≡ after (suc n)
    unfolding interleaved
    one_more =
        rw moved
        (alike refl (omega arith) (written 0 (omega arith)) (written 1 (omega arith))
        (rw (written 0 (omega arith), written 1 (omega arith), heard (sound n) 0 (2 * out + 64 * n) (omega arith))
        (heard _ 1 (2 * out + 64 * n + 1) (omega arith))))

  slots_stand : (n : ℕ) → ((ch k : ℕ) → ch < 2 → k < n → length (f ch k) ≡ 32) → slots f n (after 0) ≡ after n
  unfolding slots
  slots_stand zero full = refl
  slots_stand (suc n) full =
      ap (slot (λ ch. f ch n)) (slots_stand n (λ ch k two l. full ch k two (omega arith))) ∙ one_more n (λ ch two. full ch n two (omega arith))

  abbrev pub opened : Synthesis
  opened = record { v_pos = p; out_pos = out; v0 = ring_of 0 memory; v1 = ring_of 1 memory; interleaved = output }

  opening : opened ≡ after 0
  unfolding position_after ring_after interleaved
  opening = alike refl (omega arith) refl refl refl

  pub source_is_synthesis : (n : ℕ) → ((ch k : ℕ) → ch < 2 → k < n → length (f ch k) ≡ 32)
      → slots f n opened
      ≡ record {
        v_pos = position_after p n;
        out_pos = out + 32 * n;
        v0 = ring_of 0 (memory_after f p memory n);
        v1 = ring_of 1 (memory_after f p memory n);
        interleaved = output_after f p memory output (2 * out) n;
      }
  unfolding output_after
  source_is_synthesis n full =
      ap (slots f n) opening ∙ slots_stand n full
      ∙ alike refl refl (sym (memory_ring f place memory big 0 (omega arith) n)) (sym (memory_ring f place memory big 1 (omega arith) n)) refl
