-- Demand 1: "A refused call leaves the samples untouched, and the synthesis memory too, but that an opening which only found no
-- good header still clears the memory." And 01: longer memories keep the rest. Assumes nothing.
use Rattle.std.specs.Prelude.{ℕ, ◌+◌, ◌≤◌, ◌<◌, refl, List, [], ◌++◌, pos, Float, length, get_or, drop, Ok, Err}
use Rattle.std.proofs.Math.Path.{◌≡◌}
use Rattle.std.proofs.Common.{sym, ap, ◌∙◌, inr, arith, get_or-append-add, get_or-drop}
use Rattle.std.proofs.Math.Bool.{false}
use Rattle.std.specs.Float.Ieee.{fin, nan}
use Rattle.std.proofs.Math.ListN.{get_or-append}
use borrow.Author.Tests.{lt-ltb, le-ltb}
use Rattle.ground.specs.Table.{at_table}
use Rattle.window.specs.Output.{Place}
use Rattle.synthesis.specs.Slots.{with_rings, memory_length, output_length}
use Rattle.synthesis.specs.Memory.{memory_with}
use Rattle.synthesis.specs.Output.{output_other}
use Rattle.buffer.specs.Bits.{longest_stream}
use Rattle.audio.specs.CallsLaws.{blank_length}
use Rattle.verdict.specs.Verdict.{ready_of, Heading}
use Rattle.audio.specs.Calls.{answering, remembering, sounding, after_of, framed_of, decode_of, decode_memory, decode_output, blank, open_memory, no_room_of}
use Rattle.state.specs.declared.Audio.{Audio}
use Rattle.audio.specs.declared.Answer.TheVariants.{Refused as AnswerRefused}
use Rattle.past.specs.Calls.{Call, new_memory, new_output, before, before_keeps, known_leaves}
use Rattle.refusal.specs.declared.Refusal.{Refusal}

-- every number but a decoded frame's 0 leaves memory and output as they were
module _ (s : List ℕ) (memory output : List Float) (a : Audio) where
  by_verdict : (k : ℕ) (h : Heading) (b : Audio) (n : Refusal) → (answering s k h b).answer ≡ AnswerRefused n
      → (remembering s memory h b ≡ memory) × (sounding s memory output h b ≡ output)
  unfolding framed_of after_of
  by_verdict k (Ok _) b n e = absurd (let z : ◌≡◌ {A = ℕ} 0 1 = cc in omega arith)
  by_verdict k (Err m) b n e = (refl, refl)

  pub refused_call_leaves_all : (n : Refusal) → (decode_of s memory output a).answer ≡ AnswerRefused n
      → (decode_memory s memory output a ≡ memory) × (decode_output s memory output a ≡ output)
  unfolding decode_of decode_memory decode_output
  refused_call_leaves_all n e =
      let r = ready_of s (length memory) (length output) a in by_verdict r.skipped r.answer r.state n e

-- "Longer ones are allowed; the rest of them stays untouched", whatever the call's answer
pub the_rest_stays : (c : Call) (i : ℕ) → (get_or (new_memory c) (memory_length + i) nan ≡ get_or c.memory (memory_length + i) nan)
    × (get_or (new_output c) (output_length + i) nan ≡ get_or c.output (output_length + i) nan)
unfolding decode_memory decode_output with_rings
the_rest_stays c i = go (before c).answer refl
  where
    go : (h : Heading) → (before c).answer ≡ h → (get_or (new_memory c) (memory_length + i) nan ≡ get_or c.memory (memory_length + i) nan)
        × (get_or (new_output c) (output_length + i) nan ≡ get_or c.output (output_length + i) nan)
    go (Ok _) e =
        let d = known_leaves c e in
        let place : Place c.state.ring = rw (← (before_keeps c).ring) d.goes.ready.place in
        let behind : drop memory_length (new_memory c) ≡ drop memory_length c.memory =
        ap (drop memory_length) d.memory ∙ memory_with _ place c.memory d.goes.memory_long 36 (λ _. []) in (
          sym (get_or-drop memory_length (new_memory c) i nan)
              ∙ ap (λ (m : List Float). get_or m i nan) behind
              ∙ get_or-drop memory_length c.memory i nan,
          ap (λ (o : List Float). get_or o (output_length + i) nan) d.output
              ∙ output_other _ _ c.memory c.output 0 36 (output_length + i) (inr (omega arith)),
        )
    go (Err n) e = (rw e refl, rw e refl)

-- an opening that gives 8 or 9 leaves the memory
module _ (s : List ℕ) (memory : List Float) where
  pub too_long_opening_leaves_memory : longest_stream < length s → open_memory s memory ≡ memory
  unfolding open_memory no_room_of
  too_long_opening_leaves_memory l = simp (lt-ltb _ _ l)

  pub too_small_opening_leaves_memory : length s ≤ longest_stream → length memory < memory_length → open_memory s memory ≡ memory
  unfolding open_memory no_room_of
  too_small_opening_leaves_memory l m = simp (le-ltb _ _ l, lt-ltb _ _ m)

  -- any other clears the first 2,048 values to +0.0, and no other value
  module _ (short : length s ≤ longest_stream) (long : memory_length ≤ length memory) where
    opened : open_memory s memory ≡ blank ++ drop memory_length memory
    unfolding open_memory no_room_of
    opened = simp (le-ltb _ _ short, le-ltb _ _ long)

    pub opening_clears : (i : ℕ) → i < memory_length → get_or (open_memory s memory) i nan ≡ fin false 0 (pos 0)
    unfolding blank
    opening_clears i l =
        rw opened (get_or-append blank (drop memory_length memory) nan i (rw blank_length l) ∙ at_table nan memory_length (λ _. fin false 0 (pos 0)) i l)

    pub opening_keeps_the_rest : (i : ℕ) → get_or (open_memory s memory) (memory_length + i) nan ≡ get_or memory (memory_length + i) nan
    opening_keeps_the_rest i =
        rw opened
        (ap (λ (k : ℕ). get_or (blank ++ drop memory_length memory) (k + i) nan) (sym blank_length)
        ∙ get_or-append-add blank (drop memory_length memory) i nan
        ∙ get_or-drop memory_length memory i nan)
