-- What an accepted header holds, whatever the stream: ranges of its format, and a data size of 90 to 1,725 (01's state in range).
-- Assumes nothing.
use Rattle.std.specs.Prelude.{ℕ, ◌+◌, ◌-◌, ◌*◌, ◌/◌, ◌≤◌, ◌<◌, ◌^◌, ◌≡◌, refl, Bool, true, false, cond, not, ◌&&◌, ◌||◌, List, eqb, leb, Option, Some, None, Result, Ok, Err}
use Rattle.std.proofs.Common.{sym, arith, leb→le, eqb-true, ne_eqb}
use Rattle.std.proofs.lemmas.Bool.{eqb-false, not-false}
use Rattle.std.proofs.lemmas.Option.{none-some}
use Rattle.ground.specs.Tests.{by_test, neither}
use Rattle.ground.specs.Upto.{below2, and_left, and_right}
use Rattle.buffer.specs.declared.Reader.{Reader}
use Rattle.grammar.specs.Values.{Always, always_bind, always_run}
use Rattle.tables.specs.Standard.{kbps_of, rate_of}
use Rattle.readings.specs.Pairs.{barred}
use Rattle.buffer.specs.declared.BytePos.{BytePos}
use Rattle.grammar.specs.Reads.{Reads, Taken}
use Rattle.refusal.specs.declared.Refusal.{Refusal}
use Rattle.refusal.specs.declared.Refusal.TheVariants.{BarredRate, OtherFormat}
use Rattle.header.specs.declared.Rates.{Rates}
use Rattle.header.specs.declared.Format.{Format}
use Rattle.header.specs.declared.Accepted.{Accepted}
use Rattle.header.specs.declared.Unsynced.{Unsynced}
use Rattle.header.specs.Header.{ident_of, rates_of, mode_of, bound_of, check_of, bound_by, size_of, least_data, most_data, rest_of, by_rates, by_ident, fields_of, differs, after_mode_of, unless_refused, header_of, start_of, by_start}

-- the frame size of each bit rate and sample rate, by one computed test
sizes_at : ℕ → ℕ → Bool
sizes_at b f =
    leb (kbps_of b) 384 && (leb 1 (rate_of f) && (leb 96 (144000 * kbps_of b / rate_of f) && leb (144000 * kbps_of b / rate_of f) 1728))

pub record FrameSizes (b f : ℕ) : Type 0 where
  pub slow : kbps_of b ≤ 384
  pub rate : 0 < rate_of f
  pub least : 96 ≤ 144000 * kbps_of b / rate_of f
  pub most : 144000 * kbps_of b / rate_of f ≤ 1728

pub frame_sizes : (b f : ℕ) → b < 14 → f < 3 → FrameSizes b f
unfolding sizes_at
frame_sizes b f p q =
    let t = below2 sizes_at 14 3 tt b f p q in
    let u = and_right (leb (kbps_of b) 384) _ t in
    let v = and_right (leb 1 (rate_of f)) _ u in
    record {
      slow = leb→le _ _ (and_left (leb (kbps_of b) 384) _ t);
      rate = leb→le _ _ (and_left (leb 1 (rate_of f)) _ u);
      least = leb→le _ _ (and_left (leb 96 (144000 * kbps_of b / rate_of f)) _ v);
      most = leb→le _ _ (and_right (leb 96 (144000 * kbps_of b / rate_of f)) _ v);
    }

size_fits : (b f p : ℕ) (check : Bool) → b < 14 → f < 3 → p < 2 → (least_data ≤ size_of b f p check) × (size_of b f p check ≤ most_data)
unfolding size_of
size_fits b f p true l m n = let z = frame_sizes b f l m in (omega arith, omega arith)
size_fits b f p false l m n = let z = frame_sizes b f l m in (omega arith, omega arith)

-- the rates, where they are known
abbrev pub KnownRates : Result Rates Refusal → Type 0
KnownRates (Ok x) = (x.bitrate < 14) × (x.samplerate < 3) × (x.padding < 2)
KnownRates (Err e) = Unit

pub rates_known : Always KnownRates rates_of
unfolding rates_of Always
rates_known =
    λ b l. by_test (Always KnownRates) (eqb b 0 || eqb b 15) _ _ (λ _. tt)
    (λ m. λ f k. by_test (Always KnownRates) (eqb f 3) _ _ (λ _. tt)
    (λ o. λ p j. (low b l (eqb-false b 15 (neither (eqb b 0) (eqb b 15) m).1), three f k (eqb-false f 3 o), j)))
  where
    low : (b : ℕ) → b < 2 ^ 4 → (b ≡ 15 → ⊥) → b - 1 < 14
    low b l n = omega arith

    three : (f : ℕ) → f < 2 ^ 2 → (f ≡ 3 → ⊥) → f < 3
    three f l n = omega arith

mode_small : Always (λ m. m < 4) mode_of
unfolding mode_of Always
mode_small = λ _ _. λ m l. l

any_check : (c : Bool) → Always (λ _. Unit) (check_of c)
unfolding check_of Always
any_check true = λ _ _. tt
any_check false = tt

-- the bound of some mode extension, a field of 2 bits
abbrev pub Extended : ℕ → ℕ → Type 0
Extended mode bound = (e : ℕ) × (e < 4) × (bound ≡ bound_by mode e)

bound_extended : (mode : ℕ) (check : Bool) → Always (Extended mode) (bound_of mode check)
unfolding bound_of Always
bound_extended mode check =
    λ e k. λ _ _. always_bind (λ _. Unit) (Extended mode) (check_of check) _ (any_check check) (λ _ _. (e, k, refl))

-- so it is at most 32, and 0 in mono
bound_small : (mode e : ℕ) → e < 4 → (bound_by mode e ≤ 32) × (mode ≡ 3 → bound_by mode e ≡ 0)
bound_small mode e k =
    by_test B (eqb mode 1) _ _ (λ t. (omega arith, λ h. other (eqb-true mode 1 t) h))
    (λ _. by_test B (eqb mode 3) _ _ (λ _. (omega arith, λ _. refl)) (λ t. (omega arith, λ h. absurd (eqb-false mode 3 t h))))
  where
    B : ℕ → Type 0
    B bound = (bound ≤ 32) × (mode ≡ 3 → bound ≡ 0)

    other : mode ≡ 1 → mode ≡ 3 → 4 * (e + 1) ≡ 0
    other p q = omega arith

-- 01's 6 the other way round: where a header was accepted earlier, the new one has its bit rate, sample rate and mode
pub record SameFormat (known f : Format) : Type 0 where
  pub bitrate : f.bitrate ≡ known.bitrate
  pub samplerate : f.samplerate ≡ known.samplerate
  pub mode : f.mode ≡ known.mode

pub same_format : (known f : Format) → differs known f.bitrate f.samplerate f.mode ≡ false → (known.samplerate ≡ 3 → ⊥) → SameFormat known f
same_format known f d n =
    let x = neither (not (eqb known.bitrate f.bitrate) || not (eqb known.samplerate f.samplerate)) _ (rw (ne_eqb _ _ n) at d) in
    let y = neither (not (eqb known.bitrate f.bitrate)) _ x.0 in
    record { bitrate = is _ _ y.0; samplerate = is _ _ y.1; mode = is _ _ x.1 }
  where
    is : (m n : ℕ) → not (eqb m n) ≡ false → n ≡ m
    is m n e = sym (eqb-true m n (not-false _ e))

-- an accepted header: neither 13 nor 6 fell after its mode
pub after_mode : (known : Format) (b f mode : ℕ) → after_mode_of known b f mode ≡ None
    → (barred known.reading b mode ≡ false) × (differs known b f mode ≡ false)
after_mode known b f mode = go (barred known.reading b mode) (differs known b f mode)
  where
    go : (x y : Bool) → cond x (Some BarredRate) (cond y (Some OtherFormat) None) ≡ None → (x ≡ false) × (y ≡ false)
    go false false e = (refl, refl)
    go false true e = absurd (none-some _ (sym e))
    go true y e = absurd (none-some _ (sym e))

-- 01's ranges of a format and a data size, and 02's pairs (E3)
pub record Good (known f : Format) (size : ℕ) : Type 0 where
  pub samplerate : f.samplerate < 3
  pub bitrate : f.bitrate < 14
  pub mode : f.mode < 4
  pub bound : f.bound ≤ 32
  pub mono : f.mode ≡ 3 → f.bound ≡ 0
  pub extension : Extended f.mode f.bound
  pub reading : f.reading ≡ known.reading
  pub pair : barred known.reading f.bitrate f.mode ≡ false
  pub same : (known.samplerate ≡ 3 → ⊥) → SameFormat known f
  pub least : least_data ≤ size
  pub most : size ≤ most_data

abbrev pub GoodHeader : Format → Result Accepted Refusal → Type 0
GoodHeader known (Ok x) = Good known x.format x.size
GoodHeader known (Err e) = Unit

-- a refusal ends the reading, and without one it goes on
unless_good : (known : Format) (found : Option Refusal) (more : Reads (Result Accepted Refusal)) → (found ≡ None → Always (GoodHeader known) more)
    → Always (GoodHeader known) (unless_refused found more)
unfolding Always
unless_good known (Some n) more good = tt
unless_good known None more good = good refl

rest_good : (known : Format) (check : Bool) (b f p : ℕ) → b < 14 → f < 3 → p < 2 → Always (GoodHeader known) (rest_of known check b f p)
unfolding rest_of Always
rest_good known check b f p l m n =
    always_bind (λ mode. mode < 4) (GoodHeader known) mode_of _ mode_small
    (λ mode k. unless_good known (after_mode_of known b f mode) _
    (λ e. always_bind (Extended mode) (GoodHeader known) (bound_of mode check) _ (bound_extended mode check)
    (λ bound h.
    let d = after_mode known b f mode e in
    let z = size_fits b f p check l m n in
    let y = bound_small mode h.0 h.1 in
    record {
      samplerate = m;
      bitrate = l;
      mode = k;
      bound = rw h.2 y.0;
      mono = rw h.2 y.1;
      extension = h;
      reading = refl;
      pair = d.0;
      same = same_format known _ d.1;
      least = z.0;
      most = z.1;
    })))

rates_good : (known : Format) (check : Bool) (r : Result Rates Refusal) → KnownRates r → Always (GoodHeader known) (by_rates known check r)
unfolding Always
rates_good known check (Ok x) h = rest_good known check x.bitrate x.samplerate x.padding h.0 h.1 h.2
rates_good known check (Err e) h = tt

ident_good : (known : Format) (i : Result Bool Refusal) → Always (GoodHeader known) (by_ident known i)
unfolding Always
ident_good known (Ok check) = always_bind KnownRates (GoodHeader known) rates_of _ rates_known (rates_good known check)
ident_good known (Err e) = tt

any_ident : Always (λ _. Unit) ident_of
unfolding ident_of Always
any_ident = λ _ _. λ _ _. λ _ _. tt

fields_good : (known : Format) → Always (GoodHeader known) (fields_of known)
unfolding fields_of
fields_good known = always_bind (λ _. Unit) (GoodHeader known) ident_of _ any_ident (λ i _. ident_good known i)

start_good : (s : List ℕ) (known : Format) (x : Result (Taken BytePos) Unsynced) → GoodHeader known (by_start s known x).header
start_good s known (Ok x) = always_run (GoodHeader known) (fields_of known) s x.next (fields_good known)
start_good s known (Err e) = tt

pub header_good : (s : List ℕ) (r : Reader) (known : Format) → GoodHeader known (header_of s r known).header
unfolding header_of
header_good s r known = start_good s known (start_of s r)
