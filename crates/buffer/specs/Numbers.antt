-- The number of 01's table that an answer stands for: none of the reader's values is refused, so each has 0.
use Rattle.std.specs.Prelude.{ℕ, Result, Ok, Err}
use Rattle.refusal.specs.Numbers.{number_of}
use Rattle.refusal.specs.declared.Refusal.{Refusal}

abbrev pub result_number : {A : Type 0} → Result A Refusal → ℕ
result_number (Ok x) = 0
result_number (Err e) = number_of e
