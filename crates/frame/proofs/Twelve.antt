-- A frame's granules one after the other: that a granule's samples are floats exactly, and what one granule more makes of
-- memory and output. Assumes nothing.
use Prim.Native.Nat.{ℕ, suc, ◌+◌, ◌*◌, ◌/◌, ◌%◌, ◌≤◌, ◌<◌}
use mathlib.Core.Path.{◌≡◌, refl, sym, ap, ◌∙◌}
use mathlib.Core.List.{List, [], ◌∷◌, ◌++◌}
use native.Mathlib.Omega.{arith}
use native.Mathlib.Numerals.{add-one}
use native.Mathlib.Nat.{le_trans}
use lib.Dec.{lit≤}
use lib.IntN.{ℤ, pos}
use lib.Ieee.{Float}
use lib.ListN.{length, get_or, get_or-append}
use lib.Seq.{get_or-append-add}
use Rattle.buffer.specs.declared.Reader.{Reader}
use Rattle.grammar.specs.Reads.{Taken, taken, run}
use Rattle.grammar.specs.Run.{run_bind, run_done}
use Rattle.grammar.specs.Values.{always_run}
use Rattle.side.specs.Side.{Side}
use Rattle.codes.specs.Frame.{granule_of, granules_of}
use Rattle.codes.specs.Values.{Bounded}
use Rattle.transform.specs.Transform.{Small, exact_float}
use Rattle.window.specs.Output.{Place}
use Rattle.synthesis.specs.Slots.{memory_length, slot_samples, position_after, ring_after, interleaved, memory_after, output_after}
use Rattle.synthesis.specs.Ring.{SameSlots, slots_from, position_add}
use Rattle.synthesis.specs.Memory.{memory_alike, memory_zero}
use Rattle.synthesis.specs.Output.{output_alike}
use Rattle.synthesis.specs.Granule.{granule_memory, granule_output}
use Rattle.frame.specs.Frame.{slots_of}
use Rattle.frame.specs.FrameLaws.{granules_many}

pub bounded_small : (xs : List ℤ) → Bounded xs → Small xs
bounded_small xs b i h = exact_float (get_or xs i (pos 0)) (le_trans (b.each i) (lit≤ tt))

module _ (gs : List (List ℤ)) (g : ℕ) (many : length gs ≡ g) (x : List ℤ) where
  abbrev longer : List (List ℤ)
  longer = gs ++ (x ∷ [])

  -- the slots before the last granule are as they were
  earlier : (ch : ℕ) → ch < 2 → SameSlots (3 * g) (slots_of gs ch) (slots_of longer ch)
  earlier ch l n h =
      ap (λ y. slot_samples y ch (n % 3)) (sym (get_or-append gs (x ∷ []) [] (n / 3) (omega arith)))

  -- and its own are the last three
  last : (ch : ℕ) → ch < 2 → SameSlots 3 (slot_samples x ch) (slots_from (3 * g) (slots_of longer ch))
  last ch l k h =
      let q : (3 * g + k) / 3 ≡ length gs + 0 = omega arith in
      let m : (3 * g + k) % 3 ≡ k = omega arith in
      rw (q, m, get_or-append-add gs (x ∷ []) 0 [])

  module _ {p : ℕ} (h : Place p) (memory output : List Float) (big : memory_length ≤ length memory) where
    abbrev memory_so_far : List Float
    memory_so_far = memory_after (slots_of gs) p memory (3 * g)

    abbrev output_so_far : List Float
    output_so_far = output_after (slots_of gs) p memory output 0 (3 * g)

    pub more_memory : memory_after (slot_samples x) (position_after p (3 * g)) memory_so_far 3 ≡ memory_after (slots_of longer) p memory (3 * g + 3)
    more_memory =
        rw (memory_alike (slots_of gs) (slots_of longer) p memory (3 * g) earlier)
        (granule_memory (slots_of longer) (slot_samples x) h memory output big 0 (3 * g) 3 last)

    pub more_output : (at : ℕ) → at ≡ 0 + 64 * (3 * g)
        → output_after (slot_samples x) (position_after p (3 * g)) memory_so_far output_so_far at 3 ≡ output_after (slots_of longer) p memory output 0 (3 * g + 3)
    more_output at e =
        let memories = memory_alike (slots_of gs) (slots_of longer) p memory (3 * g) earlier in
        let outputs = output_alike (slots_of gs) p memory output 0 (slots_of longer) (3 * g) earlier in
        rw (e, memories, outputs) (granule_output (slots_of longer) (slot_samples x) h memory output big 0 (3 * g) 3 last)

-- ---- the loop's state after g granules, from reader r and ring position p

module _ (side : Side) (bound limit : ℕ) (s : List ℕ) (r : Reader) (p : ℕ) (memory output : List Float) where
  abbrev gone : ℕ → Taken (List (List ℤ))
  gone g = run (granules_of side bound limit g) s r

  pub record After (g : ℕ) (end : Reader) (ring : ℕ) (m o : List Float) : Type 0 where
    pub read : end ≡ (gone g).next
    pub place : ring ≡ position_after p (3 * g)
    pub kept : m ≡ memory_after (slots_of (gone g).value) p memory (3 * g)
    pub given : o ≡ output_after (slots_of (gone g).value) p memory output 0 (3 * g)

  pub after_none : After 0 r p memory output
  unfolding granules_of run position_after memory_after ring_after output_after interleaved
  after_none = record { read = refl; place = refl; kept = sym (memory_zero (slots_of []) p memory); given = refl }

  -- one granule more
  module _ (h : Place p) (big : memory_length ≤ length memory) (g : ℕ) (end : Reader) (ring : ℕ) (m o : List Float) (before : After g end ring m o) where
    abbrev one : Taken (List ℤ)
    one = run (granule_of side (g / 4) bound limit) s end

    more : gone (suc g) ≡ taken ((gone g).value ++ (one.value ∷ [])) one.next
    unfolding granules_of
    more =
        run_bind (granules_of side bound limit g) _ s r
        ∙ rw (← before.read) (run_bind (granule_of side (g / 4) bound limit) _ s end ∙ run_done _ _ _)

    many : length (gone g).value ≡ g
    many = always_run (λ gs. length gs ≡ g) (granules_of side bound limit g) s r (granules_many side bound limit g)

    pub after_more : (end' : Reader) (ring' : ℕ) (m' o' : List Float) → end' ≡ one.next → ring' ≡ position_after ring 3
        → m' ≡ memory_after (slot_samples one.value) ring m 3 → o' ≡ output_after (slot_samples one.value) ring m o (192 * g) 3
        → After (g + 1) end' ring' m' o'
    after_more end' ring' m' o' a b c d =
        let three : 3 * (g + 1) ≡ 3 * g + 3 = omega arith in
        record {
          read = a ∙ rw (add-one g, more);
          place = b ∙ rw (before.place, three) (sym (position_add p (3 * g) 3));
          kept = c ∙ rw (before.place, before.kept, three, add-one g, more) (more_memory (gone g).value g many one.value h memory output big);
          given =
              d
              ∙ rw (before.place, before.kept, before.given, three, add-one g, more)
              (more_output (gone g).value g many one.value h memory output big (192 * g) (omega arith));
        }
