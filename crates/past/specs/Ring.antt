-- What of a decoder the synthesis sees, its frame count, ring position and memory, through any calls since opening: only a decoded frame
-- changes it. So the ring position goes by the count of accepted frames, "hence the remainder by 4 in demand 3" (01), and the
-- memory stays long enough. Assumes nothing.
use Rattle.std.specs.Prelude.{ℕ, zero, suc, ◌+◌, ◌-◌, ◌*◌, ◌%◌, ◌≤◌, ◌<◌, ◌≡◌, List, ◌++◌, Float, length, drop, Ok, Err}
use Rattle.std.proofs.Math.Path.{refl, ap}
use Rattle.std.proofs.Common.{sym, ◌∙◌, arith, length-append, take-append-drop}
use Rattle.std.proofs.Math.ListN.{take, length-drop}
use Rattle.std.proofs.Math.Seq.{length-take-le, take-append-le}
use Rattle.std.proofs.lemmas.List.{drop-append-le}
use borrow.Author.Tests.{le-ltb}
use Rattle.buffer.specs.Bits.{longest_stream}
use Rattle.window.specs.Output.{Place}
use Rattle.synthesis.specs.Slots.{position_after, ring_of, memory_length}
use Rattle.synthesis.specs.Ring.{place_after, position_frame}
use Rattle.state.specs.State.{fresh}
use Rattle.audio.specs.Calls.{after_of, framed_of, framed_memory, decode_of, decode_memory, blank, open_of, open_memory, no_room_of}
use Rattle.audio.specs.CallsLaws.{Ready, blank_length}
use Rattle.readings.specs.declared.Reading.{Reading}
use Rattle.state.specs.declared.Audio.{Audio}
use Rattle.past.specs.Pasts.{Past, opened, asked, decoded, refused, relent}
use Rattle.verdict.specs.VerdictLaws.{Stays, attempt_keeps}
use Rattle.past.specs.Calls.{question_keeps, Call, outcome, new_memory, before, frame_state, before_keeps, known_leaves, refused_keeps}
use Rattle.past.specs.Formats.{decode_lengths}
use Rattle.verdict.specs.Verdict.{Heading}

-- ---- the memory stays long enough

opened_long : (m : List Float) → memory_length ≤ length m → length (blank ++ drop memory_length m) ≡ length m
opened_long m long = length-append blank (drop memory_length m) ∙ simp (blank_length, length-drop) (omega arith)

relent_long : (m more : List Float) → memory_length ≤ length m → memory_length ≤ length (take memory_length m ++ more)
relent_long m more long = omega (arith, length-append (take memory_length m) more, length-take-le memory_length m long)

pub memory_kept_long : {a : Audio} {m : List Float} → Past a m → memory_length ≤ length m
unfolding open_memory no_room_of
memory_kept_long (opened c s m short long) = simp (le-ltb _ _ short, le-ltb _ _ long) (omega (arith, opened_long m long))
memory_kept_long (asked p s) = memory_kept_long p
memory_kept_long (decoded {a} {m} p s o) =
    omega (arith, memory_kept_long p, (decode_lengths (record { stream = s; memory = m; output = o; state = a })).0)
memory_kept_long (refused p s other o n e) = memory_kept_long p
memory_kept_long (relent {a} {m} p more) = relent_long m more (memory_kept_long p)

-- and what is lent past it has no part in the two rings
module _ (m : List Float) (long : memory_length ≤ length m) (channel : ℕ) (two : channel < 2) where
  in_front : (more : List Float) → ring_of channel (take memory_length m ++ more) ≡ take 1024 (drop (1024 * channel) (take memory_length m))
  unfolding ring_of
  in_front more =
      let front = take memory_length m in
      let full = length-take-le memory_length m long in
      ap (take 1024) (drop-append-le (1024 * channel) front more (omega arith))
      ∙ take-append-le 1024 (drop (1024 * channel) front) more (omega (arith, full, length-drop (1024 * channel) front))

  pub relent_rings : (more : List Float) → ring_of channel (take memory_length m ++ more) ≡ ring_of channel m
  relent_rings more = in_front more ∙ sym (in_front (drop memory_length m)) ∙ ap (ring_of channel) (take-append-drop memory_length m)

-- ---- what an opening gives, and each decoded frame hands on, holds since opening

module _ (P : ℕ → ℕ → List Float → Type 0) where
  -- P of a decoder's frame count, ring position and memory
  abbrev pub Seen : Audio → List Float → Type 0
  Seen a m = P a.frames a.ring m

  pub seen_stays : {a b : Audio} {m : List Float} → Stays a b → Seen a m → Seen b m
  seen_stays k h = rw (k.frames, k.ring) h

  module _ (opening : (m : List Float) → memory_length ≤ length m → P 0 0 (blank ++ drop memory_length m))
      (frame : (s : List ℕ) (b : Audio) (m : List Float) → Ready s b → memory_length ≤ length m → Seen b m
      → P (b.frames + 1) (position_after b.ring 36) (framed_memory s b m))
      (tail : (frames ring : ℕ) (m more : List Float) → memory_length ≤ length m → P frames ring m → P frames ring (take memory_length m ++ more)) where
    opened_seen : (c : Reading) (s : List ℕ) (m : List Float) → length s ≤ longest_stream → memory_length ≤ length m → Seen (open_of c s m).state (open_memory s m)
    unfolding open_of open_memory no_room_of fresh
    opened_seen c s m short long = simp (le-ltb _ _ short, le-ltb _ _ long) (seen_stays (attempt_keeps s (fresh c)) (opening m long))

    decoded_seen : (c : Call) → Seen c.state c.memory → Seen (outcome c).state (new_memory c)
    unfolding decode_of decode_memory framed_of after_of
    decoded_seen c h = go (before c).answer refl
      where
        ready : Seen (frame_state c) c.memory
        ready = seen_stays (before_keeps c) h

        go : (x : Heading) → (before c).answer ≡ x → Seen (outcome c).state (new_memory c)
        go (Ok _) e = let d = known_leaves c e in rw e (frame c.stream (frame_state c) c.memory d.goes.ready d.goes.memory_long ready)
        go (Err n) e = rw e ready

    pub since_opening : {a : Audio} {m : List Float} → Past a m → Seen a m
    since_opening (opened c s m short long) = opened_seen c s m short long
    since_opening (asked {a} {m} p s) = seen_stays (question_keeps s a) (since_opening p)
    since_opening (decoded {a} {m} p s o) = decoded_seen (record { stream = s; memory = m; output = o; state = a }) (since_opening p)
    since_opening (refused {a} {m} p s other o n e) =
        seen_stays (refused_keeps (record { stream = s; memory = other; output = o; state = a }) n e) (since_opening p)
    since_opening (relent {a} {m} p more) = tail a.frames a.ring m more (memory_kept_long p) (since_opening p)

-- ---- the ring position by the count of frames

-- four frames take it round
abbrev home : ℕ → ℕ
home frames = (1024 - 256 * (frames % 4)) % 1024

record InStep (frames ring : ℕ) (m : List Float) : Type 0 where
  at : ring ≡ home frames
  place : Place ring

home_next : (n : ℕ) → (home n + 768) % 1024 ≡ home (n + 1)
home_next n =
    let e : (n % 4 + 1) % 4 ≡ (n + 1) % 4 = omega arith in
    rw (← e) (go (n % 4) (omega arith))
  where
    go : (r : ℕ) → r < 4 → ((1024 - 256 * r) % 1024 + 768) % 1024 ≡ (1024 - 256 * ((r + 1) % 4)) % 1024
    go zero l = refl
    go (suc zero) l = refl
    go (suc (suc zero)) l = refl
    go (suc (suc (suc zero))) l = refl
    go (suc (suc (suc (suc r)))) l = absurd (omega arith)

in_step : {a : Audio} {m : List Float} → Past a m → InStep a.frames a.ring m
in_step =
    since_opening InStep (λ m long. record { at = refl; place = omega arith })
    (λ s b m ready long h. record {
      at = position_frame h.place ∙ ap (λ (p : ℕ). (p + 768) % 1024) h.at ∙ home_next b.frames;
      place = place_after h.place 36;
    })
    (λ frames ring m more long h. record { at = h.at; place = h.place })

pub ring_by_frames : {a : Audio} {m : List Float} → Past a m → a.ring ≡ (1024 - 256 * (a.frames % 4)) % 1024
ring_by_frames p = (in_step p).at

pub ring_in_place : {a : Audio} {m : List Float} → Past a m → Place a.ring
ring_in_place p = (in_step p).place
