-- The refusals of a summary, by what a tally keeps of each number. Assumes nothing.
use Rattle.std.specs.Prelude.{ℕ, zero, suc, List, [], ◌++◌, get_or}
use Rattle.listing.specs.Summary.{refusal_text}
use Rattle.tally.specs.declared.Kept.{Kept}
use Rattle.tally.specs.Tally.{kept_of}

-- so many numbers from n on
unfoldable pub refusals_by : List Kept → ℕ → ℕ → List ℕ
refusals_by refused n zero = []
refusals_by refused n (suc more) =
    let kept = get_or refused n (kept_of []) in refusal_text n kept.count kept.first ++ refusals_by refused (suc n) more
