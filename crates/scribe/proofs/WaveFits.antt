-- A WAVE file is short enough to be counted: a frame has 4,608 bytes, and there are no more frames than calls. Assumes nothing.
use Rattle.std.specs.Prelude.{ℕ, zero, suc, ◌*◌, ◌^◌, ◌≤◌, ◌<◌, ◌≡◌, List, Float, ltb, length, refl, false, pos, Ok, Err}
use Rattle.std.specs.Float.{fin}
use Rattle.std.proofs.Common.{◌∙◌, arith, length-append, ltb-false}
use Rattle.std.proofs.lemmas.List.{length-replicate}
use Rattle.ground.specs.Tests.{by_test}
use Rattle.synthesis.specs.Slots.{memory_length, output_length, quiet}
use Rattle.synthesis.specs.Output.{output_after_length}
use Rattle.verdict.specs.Verdict.{ready_of, Heading}
use Rattle.refusal.specs.Numbers.{number_of}
use Rattle.state.specs.declared.Audio.{Audio}
use Rattle.frame.specs.Frame.{frame_output}
use Rattle.audio.specs.Calls.{sounding, framed_output, open_memory, decode_of, decode_memory, decode_output}
use Rattle.audio.specs.Numbers.{ends}
use Rattle.audio.specs.declared.Answer.{Answer}
use Rattle.audio.specs.declared.Answer.TheVariants.{Frame, Refused}
use Rattle.riff.specs.Header.{wave_header_of, length_header}
use Rattle.riff.specs.Level.{pcm_of, length_pcm}
use Rattle.clip.specs.Frames.{Heard, hearing, heard_of, opened_of, clip_of, rate_in}
use Rattle.clip.specs.File.{frame_parts, parts_of, joined, file_of, wave_of}

-- the samples of a clip's frames, one after the other
abbrev bytes_of : List Heard → List ℕ
bytes_of xs = joined (frame_parts xs)

sounding_length : (s : List ℕ) (memory output : List Float) (h : Heading) (a : Audio) → length (sounding s memory output h a) ≡ length output
unfolding framed_output frame_output
sounding_length s memory output (Ok _) a = output_after_length _ _ memory output 0 36
sounding_length s memory output (Err n) a = refl

one_frame : (x : Answer) (a : Audio) (o : List Float) (more : List Heard) (calls : ℕ) → length o ≡ output_length → length (bytes_of more) ≤ 4608 * calls
    → length (bytes_of (hearing x a o more)) ≤ 4608 * suc calls
unfolding frame_parts joined
one_frame (Frame time bits) a o more calls long few = omega (arith, length-append (pcm_of o) (bytes_of more), length_pcm o)
one_frame (Refused n) a o more calls long few =
    by_test (λ (xs : List Heard). length (bytes_of xs) ≤ 4608 * suc calls) (ends (number_of n)) _ _ (λ _. omega arith) (λ _. omega arith)

few_bytes : (calls : ℕ) (s : List ℕ) (memory output : List Float) (a : Audio) → length output ≡ output_length
    → length (bytes_of (heard_of calls s memory output a)) ≤ 4608 * calls
unfolding heard_of frame_parts joined decode_output
few_bytes zero s memory output a long = omega arith
few_bytes (suc calls) s memory output a long =
    let x = decode_of s memory output a in
    let r = ready_of s (length memory) (length output) a in
    let same : length (decode_output s memory output a) ≡ output_length = sounding_length s memory output r.answer r.state ∙ long in
    one_frame x.answer x.state (decode_output s memory output a) _ calls same
    (few_bytes calls s (decode_memory s memory output a) (decode_output s memory output a) x.state same)

pub wave_fits : (s : List ℕ) → length (wave_of s) < 2 ^ 64
unfolding wave_of file_of parts_of joined clip_of
wave_fits s =
    let p = opened_of s (quiet memory_length) in
    let few = few_bytes p.calls s (open_memory s (quiet memory_length)) (quiet output_length) p.state (length-replicate output_length (fin false 0 (pos 0))) in
    by_test (λ (text : List ℕ). length text < 2 ^ 64) (ltb 65536 (length s)) _ _ (λ _. omega arith)
    (λ t. omega (
      arith,
      length-append (wave_header_of (length (clip_of s)) (rate_in (clip_of s))) (bytes_of (clip_of s)),
      length_header (length (clip_of s)) (rate_in (clip_of s)),
      few,
      ltb-false 65536 (length s) t,
    ))
