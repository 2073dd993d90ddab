-- A clip turn by turn: the frame that a turn finds, and then what is heard from where it ended. So a count of turns is a count of frames.
-- Assumes nothing.
use Rattle.std.specs.Prelude.{ℕ, zero, suc, ◌+◌, ◌-◌, ◌/◌, ◌≤◌, ◌<◌, ◌≡◌, refl, Bool, true, false, cond, Option, Some, None, is_some, List, [], ◌∷◌, Float, ltb, length, drop, get_or}
use Rattle.std.specs.Option.{unwrap_or}
use Rattle.std.proofs.Common.{ap, sym, ◌∙◌, arith, length-drop, drop-cons, lt-ltb, le-ltb}
use Rattle.ground.specs.Tests.{by_test}
use Rattle.synthesis.specs.Slots.{memory_length, output_length, quiet}
use Rattle.audio.specs.Calls.{open_memory, decode_of}
use Rattle.audio.specs.Numbers.{ends}
use Rattle.refusal.specs.Numbers.{number_of}
use Rattle.state.specs.declared.Audio.{Audio}
use Rattle.audio.specs.declared.Answer.{Answer}
use Rattle.audio.specs.declared.Answer.TheVariants.{Frame, Refused}
use Rattle.clip.specs.Frames.{Heard, hearing, rate_in, heard_of, opened_of, clip_of, Turn, turn, turning, turn_of}
use Rattle.clip.specs.declared.Playing.{Playing}
use Rattle.clip.specs.declared.Reached.{Reached}

-- the frame of a turn that found one
abbrev rate_or_0 : Option ℕ → ℕ
rate_or_0 (Some rate) = rate
rate_or_0 None = 0

abbrev pub found_in : Turn → Heard
found_in t = record { rate = rate_or_0 t.reached.rate; samples = t.output }

-- what is heard from where a turn ended
abbrev pub behind : List ℕ → Turn → List Heard
behind s t = let p = t.reached.playing in heard_of p.calls s t.memory t.output p.state

-- what is heard from where it began
unfoldable pub heard_by : List ℕ → Turn → List Heard
heard_by s t = cond (is_some t.reached.rate) (found_in t ∷ behind s t) []

-- its rate, or 44,100 where it found no frame, is that of the first frame that is heard
pub told_rate : (s : List ℕ) (t : Turn) → unwrap_or t.reached.rate 44100 ≡ rate_in (heard_by s t)
unfolding heard_by
told_rate s t = go t.reached.rate t.output (behind s t)
  where
    go : (rate : Option ℕ) (samples : List Float) (more : List Heard)
        → unwrap_or rate 44100 ≡ rate_in (cond (is_some rate) (record { rate = rate_or_0 rate; samples = samples } ∷ more) [])
    go (Some rate) samples more = refl
    go None samples more = refl

by_answer : (x : Answer) (s : List ℕ) (a : Audio) (calls : ℕ) (m o : List Float) (t : Turn) → heard_of calls s m o a ≡ heard_by s t
    → hearing x a o (heard_of calls s m o a) ≡ heard_by s (turning x a calls m o t)
unfolding heard_by
by_answer (Frame time bits) s a calls m o t e = refl
by_answer (Refused n) s a calls m o t e = go (ends (number_of n))
  where
    go : (last : Bool) → cond last [] (heard_of calls s m o a) ≡ heard_by s (cond last (turn None a calls m o) t)
    go true = refl
    go false = e

pub turn_by_turn : (calls : ℕ) (s : List ℕ) (memory output : List Float) (a : Audio)
    → heard_of calls s memory output a ≡ heard_by s (turn_of calls s memory output a)
unfolding heard_of turn_of heard_by
turn_by_turn zero s memory output a = refl
turn_by_turn (suc calls) s memory output a =
    let x = decode_of s memory output a in by_answer x.answer s x.state calls _ _ _ (turn_by_turn calls s _ _ x.state)

-- a turn by what `next` gives, part by part
pub heard_next : (calls : ℕ) (s : List ℕ) (memory output : List Float) (a : Audio) (r : Reached) (m o : List Float) → let t = turn_of calls s memory output a in
    r ≡ t.reached → m ≡ t.memory → o ≡ t.output → heard_of calls s memory output a ≡ heard_by s (record { reached = r; memory = m; output = o })
heard_next calls s memory output a r m o e f g = turn_by_turn calls s memory output a ∙ rw (e, f, g)

-- no more frames than calls
one_at_most : (x : Answer) (a : Audio) (o : List Float) (more : List Heard) (calls : ℕ) → length more ≤ calls → length (hearing x a o more) ≤ suc calls
one_at_most (Frame time bits) a o more calls l = omega arith
one_at_most (Refused n) a o more calls l =
    by_test (λ (xs : List Heard). length xs ≤ suc calls) (ends (number_of n)) _ _ (λ _. omega arith) (λ _. omega arith)

few : (calls : ℕ) (s : List ℕ) (memory output : List Float) (a : Audio) → length (heard_of calls s memory output a) ≤ calls
unfolding heard_of
few zero s memory output a = omega arith
few (suc calls) s memory output a = let x = decode_of s memory output a in one_at_most x.answer x.state _ _ calls (few calls s _ _ x.state)

pub few_in_clip : (s : List ℕ) → length (clip_of s) ≤ length s / 2 + 2
unfolding clip_of
few_in_clip s = few (length s / 2 + 2) s _ _ _

-- ---- for the passes: the opening, and what a turn from it, or from anywhere, says of what is heard there

pub begins : (s : List ℕ) (p : Playing) (m : List Float) → p ≡ opened_of s (quiet memory_length) → m ≡ open_memory s (quiet memory_length)
    → clip_of s ≡ heard_of p.calls s m (quiet output_length) p.state
unfolding clip_of
begins s p m e f = rw (e, f)

pub one_found : (s : List ℕ) (t : Turn) → is_some t.reached.rate ≡ true → heard_by s t ≡ found_in t ∷ behind s t
unfolding heard_by
one_found s t e = rw e

pub none_found : (s : List ℕ) (t : Turn) → is_some t.reached.rate ≡ false → heard_by s t ≡ []
unfolding heard_by
none_found s t e = rw e

pub one_fewer : (s : List ℕ) (t u : Turn) → is_some t.reached.rate ≡ true → behind s t ≡ heard_by s u → length (heard_by s t) ≡ suc (length (heard_by s u))
one_fewer s t u e f = ap length (one_found s t e) ∙ ap (λ xs. suc (length xs)) f

-- a turn at frame i of a clip finds it
pub found_at : (s : List ℕ) (xs : List Heard) (i : ℕ) (d : Heard) (t : Turn) → i < length xs → drop i xs ≡ heard_by s t
    → (get_or xs i d ≡ found_in t) × (drop (suc i) xs ≡ behind s t)
unfolding heard_by
found_at s xs i d t l e =
    by_test P (is_some t.reached.rate) _ _ (λ _ h. (ap (λ ys. get_or ys 0 d) h, ap (drop 1) h)) (λ _ h. absurd (let z = ap length h in omega arith))
    (sym (drop-cons xs i d l) ∙ e)
  where
    P : List Heard → Type 0
    P ys = get_or xs i d ∷ drop (suc i) xs ≡ ys → (get_or xs i d ≡ found_in t) × (drop (suc i) xs ≡ behind s t)

-- ---- turn after turn, as both passes make them

-- the first from the opening, each other from where the one before it ended
unfoldable pub turn_at : List ℕ → ℕ → Turn
turn_at s zero = let p = opened_of s (quiet memory_length) in turn_of p.calls s (open_memory s (quiet memory_length)) (quiet output_length) p.state
turn_at s (suc i) = let t = turn_at s i in let p = t.reached.playing in turn_of p.calls s t.memory t.output p.state

from_turn : (s : List ℕ) (i : ℕ) → i ≤ length (clip_of s) → drop i (clip_of s) ≡ heard_by s (turn_at s i)
unfolding turn_at clip_of
from_turn s zero l = turn_by_turn (length s / 2 + 2) s _ _ _
from_turn s (suc i) l =
    (found_at s (clip_of s) i (found_in (turn_at s i)) (turn_at s i) (omega arith) (from_turn s i (omega arith))).1 ∙ turn_by_turn _ s _ _ _

-- the first pass counts the turns that find a frame, and the second plays as many: turn i finds one exactly when the clip has a frame i
pub counted_is_played : (s : List ℕ) (i : ℕ) → i ≤ length (clip_of s) → is_some (turn_at s i).reached.rate ≡ ltb i (length (clip_of s))
counted_is_played s i l = go (is_some (turn_at s i).reached.rate) refl
  where
    left : length (heard_by s (turn_at s i)) ≡ length (clip_of s) - i
    left = ap length (sym (from_turn s i l)) ∙ length-drop i (clip_of s)

    go : (found : Bool) → is_some (turn_at s i).reached.rate ≡ found → found ≡ ltb i (length (clip_of s))
    go true e = sym (lt-ltb i (length (clip_of s)) (omega (arith, left, ap length (one_found s (turn_at s i) e))))
    go false e = sym (le-ltb i (length (clip_of s)) (omega (arith, left, ap length (none_found s (turn_at s i) e))))

-- and it is that frame
pub plays : (s : List ℕ) (i : ℕ) (d : Heard) → i < length (clip_of s) → get_or (clip_of s) i d ≡ found_in (turn_at s i)
plays s i d l = (found_at s (clip_of s) i d (turn_at s i) l (from_turn s i (omega arith))).0
