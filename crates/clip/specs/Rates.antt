-- A clip's rate is one of the standard's, or that of a clip with no frame: at most 48,000 hertz.
-- Assumes nothing.
use Rattle.std.specs.Prelude.{ℕ, zero, suc, ◌≤◌, List, leb, Float}
use Rattle.std.proofs.Common.{arith, leb→le}
use Rattle.ground.specs.Tests.{by_test}
use Rattle.ground.specs.Entries.{entry}
use Rattle.tables.specs.Standard.{sampling_rates, rate_of}
use Rattle.audio.specs.Calls.{decode_of, decode_memory, decode_output}
use Rattle.audio.specs.Numbers.{ends}
use Rattle.refusal.specs.Numbers.{number_of}
use Rattle.state.specs.declared.Audio.{Audio}
use Rattle.audio.specs.declared.Answer.{Answer}
use Rattle.audio.specs.declared.Answer.TheVariants.{Frame, Refused}
use Rattle.clip.specs.Frames.{Heard, hearing, heard_of, clip_of, rate_in}

rates_in_the_table : (samplerate : ℕ) → rate_of samplerate ≤ 48000
rates_in_the_table samplerate = leb→le _ _ (entry (λ rate. leb rate 48000) 0 sampling_rates tt tt samplerate)

small_first : (x : Answer) (a : Audio) (o : List Float) (more : List Heard) → rate_in more ≤ 48000 → rate_in (hearing x a o more) ≤ 48000
small_first (Frame time bits) a o more h = rates_in_the_table a.format.samplerate
small_first (Refused n) a o more h = by_test (λ (xs : List Heard). rate_in xs ≤ 48000) (ends (number_of n)) _ _ (λ _. omega arith) (λ _. h)

small_rate : (calls : ℕ) (s : List ℕ) (memory output : List Float) (a : Audio) → rate_in (heard_of calls s memory output a) ≤ 48000
unfolding heard_of
small_rate zero s memory output a = omega arith
small_rate (suc calls) s memory output a =
    let x = decode_of s memory output a in
    small_first x.answer x.state _ _ (small_rate calls s (decode_memory s memory output a) (decode_output s memory output a) x.state)

pub clip_rate_small : (s : List ℕ) → rate_in (clip_of s) ≤ 48000
unfolding clip_of
clip_rate_small s = small_rate _ s _ _ _
