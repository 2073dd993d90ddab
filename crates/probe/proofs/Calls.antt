-- A call number that is none of 0 to 6 asks for the search.
-- Assumes nothing.
use Rattle.std.proofs.Common.{◌≡◌, ℕ, zero, suc, List, refl}
use Rattle.buffer.specs.Calls.{reader_at, search_of}
use Rattle.probe.specs.Answers.{call_of, of_sync}

pub call_other : (call : ℕ) (s : List ℕ) (at n : ℕ) → (call ≡ 0 → ⊥) → (call ≡ 1 → ⊥) → (call ≡ 2 → ⊥) → (call ≡ 3 → ⊥)
    → (call ≡ 4 → ⊥) → (call ≡ 5 → ⊥) → (call ≡ 6 → ⊥) → call_of call s at n ≡ of_sync at (search_of s (reader_at at))
unfolding call_of
call_other zero s at n a b c d e f g = absurd (a refl)
call_other (suc zero) s at n a b c d e f g = absurd (b refl)
call_other (suc (suc zero)) s at n a b c d e f g = absurd (c refl)
call_other (suc (suc (suc zero))) s at n a b c d e f g = absurd (d refl)
call_other (suc (suc (suc (suc zero)))) s at n a b c d e f g = absurd (e refl)
call_other (suc (suc (suc (suc (suc zero))))) s at n a b c d e f g = absurd (f refl)
call_other (suc (suc (suc (suc (suc (suc zero)))))) s at n a b c d e f g = absurd (g refl)
call_other (suc (suc (suc (suc (suc (suc (suc k))))))) s at n a b c d e f g = refl
