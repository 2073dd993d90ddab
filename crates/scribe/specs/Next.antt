-- A text that is written piece by piece: which piece comes next, and what is left. So whoever has written as many bytes as the text has,
-- each piece where it comes next, has written all of it, in order.
-- Assumes nothing.
use Rattle.std.specs.Prelude.{ℕ, ◌+◌, ◌≤◌, ◌≡◌, List, [], ◌++◌, length, take, drop}
use Rattle.std.proofs.Common.{ap, sym, ◌∙◌, append_assoc, add-zero, arith, length-append, take-append-drop, take-take, drop-drop}
use Rattle.std.proofs.Math.Seq.{take-append_seam, drop-append_seam}

-- the piece stands in the whole behind its first `at` bytes
pub record Next (whole : List ℕ) (at : ℕ) (piece : List ℕ) : Type 0 where
  pub inside : at + length piece ≤ length whole
  pub is : take (length piece) (drop at whole) ≡ piece

-- and this is all that stands there
pub record Rest (whole : List ℕ) (at : ℕ) (rest : List ℕ) : Type 0 where
  pub long : at + length rest ≡ length whole
  pub is : drop at whole ≡ rest

module _ {whole : List ℕ} {at : ℕ} (p q : List ℕ) where
  -- of two pieces the first comes next, and behind it the second
  pub first_next : Next whole at (p ++ q) → Next whole at p
  first_next n =
      let few : length p ≤ length (p ++ q) = omega (arith, length-append p q) in
      record {
        inside = omega (arith, n.inside, length-append p q);
        is = sym (take-take (length p) (length (p ++ q)) (drop at whole) few) ∙ ap (take (length p)) n.is ∙ take-append_seam p q;
      }

  pub second_next : {then : ℕ} → then ≡ at + length p → Next whole at (p ++ q) → Next whole then q
  second_next {then} e n =
      let rest = drop at whole in
      let more = drop (length (p ++ q)) rest in
      let all : rest ≡ p ++ (q ++ more) = sym (take-append-drop (length (p ++ q)) rest) ∙ ap (λ (t : List ℕ). t ++ more) n.is ∙ append_assoc p q more in
      let far : drop then whole ≡ q ++ more =
      ap (λ (k : ℕ). drop k whole) e ∙ sym (drop-drop (length p) at whole) ∙ ap (drop (length p)) all ∙ drop-append_seam p (q ++ more) in
      record { inside = omega (arith, n.inside, length-append p q); is = ap (take (length q)) far ∙ take-append_seam q more }

  pub rest_next : Rest whole at (p ++ q) → Next whole at p
  rest_next r =
      record { inside = omega (arith, r.long, length-append p q); is = ap (take (length p)) r.is ∙ take-append_seam p q }

  pub rest_behind : {then : ℕ} → then ≡ at + length p → Rest whole at (p ++ q) → Rest whole then q
  rest_behind e r =
      record {
        long = omega (arith, r.long, length-append p q);
        is = ap (λ (k : ℕ). drop k whole) e ∙ sym (drop-drop (length p) at whole) ∙ ap (drop (length p)) r.is ∙ drop-append_seam p q;
      }

pub nothing_written : {whole rest : List ℕ} {at : ℕ} → at ≡ 0 → whole ≡ rest → Rest whole at rest
nothing_written {whole} z e = record { long = omega (arith, ap length e); is = ap (λ (k : ℕ). drop k whole) z ∙ e }

pub all_written : {whole : List ℕ} {at : ℕ} → Rest whole at [] → at ≡ length whole
all_written {at = at} r = sym (add-zero at) ∙ r.long
