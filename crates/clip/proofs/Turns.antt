-- One turn of `next`'s loop, over plain variables: what a call gives, by its answer, and what is left to do.
-- Assumes nothing.
use Prim.Native.Nat.{ℕ, zero, suc, ◌-◌, ◌<◌}
use mathlib.Core.Path.{◌≡◌, refl, sym, ap, ◌∙◌}
use mathlib.Core.Bool.{Bool, true, false}
use mathlib.Core.List.{List}
use native.Mathlib.Omega.{arith}
use lib.Ieee.{Float}
use lib.ListN.{length}
use Rattle.tables.specs.Standard.{rate_of}
use Rattle.frame.specs.Frame.{cut_format}
use Rattle.verdict.specs.Verdict.{ready_of, Heading, Asked}
use Rattle.audio.specs.Calls.{after_of, framed_of, answering, decode_of, decode_memory, decode_output, Decoded}
use Rattle.audio.specs.CallsLaws.{goes}
use Rattle.audio.specs.Numbers.{ends}
use Rattle.refusal.specs.Numbers.{number_of}
use Rattle.state.specs.declared.Audio.{Audio}
use Rattle.audio.specs.declared.Answer.{Answer}
use Rattle.audio.specs.declared.Answer.TheVariants.{Frame, Refused}
use Rattle.clip.specs.Frames.{Turn, turn, turning, turn_of}
use Rattle.refusal.specs.declared.Refusal.{Refusal}
use Rattle.std.specs.Prelude.{Some, None, Ok, Err}

-- a frame is given only at a known sample rate
pub frame_rate : (s : List ℕ) (memory output : List Float) (a : Audio) (x : Decoded) (time : Float) (bits : ℕ) → x ≡ decode_of s memory output a
    → x.answer ≡ Frame time bits → x.state.format.samplerate < 4
unfolding decode_of framed_of after_of cut_format
frame_rate s memory output a x time bits e h = rw e (go before.answer refl (ap (λ (y : Decoded). y.answer) (sym e) ∙ h))
  where
    before : Asked
    before = ready_of s (length memory) (length output) a

    go : (known : Heading) → before.answer ≡ known → (answering s before.skipped known before.state).answer ≡ Frame time bits
        → (answering s before.skipped known before.state).state.format.samplerate < 4
    go (Ok _) k f = let l = (goes s (length memory) (length output) a before refl k).ready.fit.samplerate in omega arith
    go (Err n) k f = absurd (let z : ◌≡◌ {A = ℕ} 0 1 = cc in omega arith)

turns : (s : List ℕ) (memory output : List Float) (a : Audio) (calls : ℕ) → 0 < calls → (x : Decoded) (m o : List Float)
    → x ≡ decode_of s memory output a → m ≡ decode_memory s memory output a → o ≡ decode_output s memory output a → (answer : Answer) → x.answer ≡ answer
    → turning answer x.state (calls - 1) m o (turn_of (calls - 1) s m o x.state) ≡ turn_of calls s memory output a
unfolding turn_of
turns s memory output a zero l x m o e f g answer h = absurd (omega arith)
turns s memory output a (suc calls) l x m o e f g answer h = let z : suc calls - 1 ≡ calls = omega arith in rw (← h, z, e, f, g)

module _ (s : List ℕ) (memory output : List Float) (a : Audio) (calls : ℕ) (some : 0 < calls) (x : Decoded) (m o : List Float)
    (e : x ≡ decode_of s memory output a) (f : m ≡ decode_memory s memory output a) (g : o ≡ decode_output s memory output a) where
  pub frame_found : (time : Float) (bits rate : ℕ) → x.answer ≡ Frame time bits → rate ≡ rate_of x.state.format.samplerate
      → turn (Some rate) x.state (calls - 1) m o ≡ turn_of calls s memory output a
  frame_found time bits rate h r = rw r (turns s memory output a calls some x m o e f g (Frame time bits) h)

  pub end_found : (n : Refusal) (last : Bool) → x.answer ≡ Refused n → last ≡ ends (number_of n) → last ≡ true
      → turn None x.state (calls - 1) m o ≡ turn_of calls s memory output a
  end_found n last h r t = rw (sym r ∙ t) at (turns s memory output a calls some x m o e f g (Refused n) h)

  pub goes_past : (n : Refusal) (last : Bool) → x.answer ≡ Refused n → last ≡ ends (number_of n) → last ≡ false
      → turn_of (calls - 1) s m o x.state ≡ turn_of calls s memory output a
  goes_past n last h r t = rw (sym r ∙ t) at (turns s memory output a calls some x m o e f g (Refused n) h)

-- what `next` gives, part by part
pub by_parts : {t u : Turn} → t ≡ u → (t.reached ≡ u.reached) × ((t.memory ≡ u.memory) × (t.output ≡ u.output))
by_parts e = (ap (λ (t : Turn). t.reached) e, (ap (λ (t : Turn). t.memory) e, ap (λ (t : Turn). t.output) e))

pub no_call_left : (s : List ℕ) (memory output : List Float) (a : Audio) (calls : ℕ) → calls ≡ 0
    → turn None a calls memory output ≡ turn_of calls s memory output a
unfolding turn_of
no_call_left s memory output a calls z = rw z
