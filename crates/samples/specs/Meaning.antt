-- What `floorBy` means: z is `floorBy z m` times m and a rest from 0 to m - 1.
-- Assumes nothing.
use Rattle.std.specs.Prelude.{◌≡◌, ℕ, zero, suc, ◌+◌, ◌-◌, ◌*◌, ◌/◌, ◌%◌, ◌<◌, ℤ, pos, negsuc, neg_ℤ, ◌+ℤ◌, ◌*ℤ◌}
use Rattle.std.proofs.Common.{sym, ap, ◌∙◌, div-add-mod', mod-lt, suc-mul, arith, lt-ltb}
use Rattle.samples.specs.Sample.{floor_by}

abbrev pub rest_by : ℤ → ℕ → ℕ
rest_by (pos a) m = a % m
rest_by (negsuc a) m = m - suc (a % m)

-- -p + r, for r below p
neg_add : (p r : ℕ) → r < p → neg_ℤ (pos p) +ℤ pos r ≡ negsuc (p - suc r)
neg_add zero r h = absurd (omega arith)
neg_add (suc p) r h = rw (lt-ltb r (suc p) h)

pub floor_means : (z : ℤ) (m : ℕ) → 0 < m → (z ≡ (floor_by z m *ℤ pos m) +ℤ pos (rest_by z m)) × (rest_by z m < m)
floor_means (pos a) m h = (ap pos (sym (div-add-mod' a m)), mod-lt a h)
floor_means (negsuc a) m h =
    let r : a % m < m = mod-lt a h in
    let e : a / m * m + a % m ≡ a = div-add-mod' a m in
    let d : suc (a / m) * m ≡ a / m * m + m = suc-mul (a / m) m in
    (sym (neg_add (suc (a / m) * m) (m - suc (a % m)) (omega arith) ∙ ap negsuc (omega arith)), omega arith)
