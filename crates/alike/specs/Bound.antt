-- The port's bound beside the standard's: 0 in mono, where the standard has sblimit, and elsewhere, once cut to the limit, the same.
-- Assumes nothing.
use Rattle.std.specs.Prelude.{ℕ, zero, suc, ◌+◌, ◌*◌, ◌≤◌, ◌<◌, min, ◌≡◌, refl, Bool, true, false, cond, [], ◌∷◌, eqb, get_or}
use Rattle.std.proofs.Common.{arith, eqb-true}
use Rattle.tables.specs.Standard.{Table, sblimit}
use Rattle.tables.specs.Laws.{sblimit≤30}
use Rattle.header.specs.Header.{bound_by}
use Rattle.side.specs.Side.{cut_of}
use Rattle.standard.specs.Header.{bound}

-- whether there is one channel, the port's bound, the standard's. With one channel neither has anything for a second
pub data Bounds (t : Table) : Bool → ℕ → ℕ → Type 0 where
  for_single_channel : Bounds t true 0 (sblimit t)
  two_channels : (bound : ℕ) → bound ≤ sblimit t → Bounds t false bound bound

pub bound_within : {t : Table} {mono : Bool} {b b' : ℕ} → Bounds t mono b b' → b' ≤ sblimit t
bound_within for_single_channel = omega arith
bound_within (two_channels b l) = l

-- 4, 8, 12, 16
extended : (e : ℕ) → e < 4 → 4 * (e + 1) ≡ get_or (4 ∷ 8 ∷ 12 ∷ 16 ∷ []) e 0
extended zero l = refl
extended (suc zero) l = refl
extended (suc (suc zero)) l = refl
extended (suc (suc (suc zero))) l = refl
extended (suc (suc (suc (suc n)))) l = absurd (omega arith)

pub the_standards_bound : (mode extension : ℕ) (t : Table) → extension < 4
    → Bounds t (eqb mode 3) (cut_of (bound_by mode extension) (sblimit t)) (bound mode extension t)
the_standards_bound mode e t l = go (eqb mode 1) refl (eqb mode 3) refl
  where
    go : (joint : Bool) → eqb mode 1 ≡ joint → (mono : Bool) → eqb mode 3 ≡ mono
        → Bounds t mono (cut_of (cond joint (4 * (e + 1)) (cond mono 0 32)) (sblimit t))
        (cond joint (min (get_or (4 ∷ 8 ∷ 12 ∷ 16 ∷ []) e 0) (sblimit t)) (sblimit t))
    go true p true q = absurd (let x = eqb-true mode 1 p in let y = eqb-true mode 3 q in omega arith)
    go true p false q = rw (extended e l) (two_channels (min (get_or (4 ∷ 8 ∷ 12 ∷ 16 ∷ []) e 0) (sblimit t)) (omega arith))
    go false p true q = let none : min 0 (sblimit t) ≡ 0 = omega arith in rw none for_single_channel
    go false p false q = let all : min 32 (sblimit t) ≡ sblimit t = omega (arith, sblimit≤30 t) in rw all (two_channels (sblimit t) (omega arith))
