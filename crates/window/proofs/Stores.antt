-- Stores by two rules that agree below n. Assumes nothing.
use mathlib.Core.Path.{◌≡◌, refl}
use mathlib.Core.List.{List}
use Prim.Native.Nat.{ℕ, zero, suc, ◌<◌}
use native.Mathlib.Omega.{arith}
use lib.Ieee.{Float}
use Rattle.window.specs.Output.{stores}

pub stores_alike : (output : List Float) (at : ℕ) (f g : ℕ → Float) (n : ℕ) → ((j : ℕ) → j < n → f j ≡ g j) → stores output at f n ≡ stores output at g n
unfolding stores
stores_alike output at f g zero e = refl
stores_alike output at f g (suc n) e = rw (e n (omega arith), stores_alike output at f g n (λ j l. e j (omega arith)))
