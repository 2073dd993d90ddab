-- One product more. Four neighbours' window places stay neighbours, as no row of 32 wraps.
-- From 01, "From samples to sound". Assumes nothing.
use mathlib.Core.Path.{◌≡◌}
use mathlib.Core.List.{List}
use Prim.Native.Nat.{ℕ, ◌+◌, ◌*◌, ◌%◌, ◌<◌}
use native.Mathlib.Numerals.{add-one}
use native.Mathlib.Omega.{arith}
use lib.ListN.{get_or}
use lib.Ieee.{Float, nan, add, mul, binary32}
use Rattle.window.specs.Window.{window_list, window_at}
use Rattle.window.specs.Output.{taps}

pub product_more : (window ring : List Float) (row start j k : ℕ) (x total : Float) → window ≡ window_list → row % 32 ≡ 0 → j < 32
    → total ≡ taps ring (row + j) (start + j) k x
    → add binary32 total (mul binary32 (get_or window ((row + 64 * k) % 512 + j) nan) (get_or ring (start + 128 * k + j) nan))
    ≡ taps ring (row + j) (start + j) (k + 1) x
unfolding taps window_at
product_more window ring row start j k x total e whole small before =
    let w : (row + 64 * k) % 512 + j ≡ (row + j + 64 * k) % 512 = omega arith in
    let r : start + 128 * k + j ≡ start + j + 128 * k = omega arith in
    rw (e, w, r, before, add-one k)
