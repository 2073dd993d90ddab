-- What a state in range holds, both ways, and that each way in which a call changes it keeps it so. From 01, "Numbers a call can
-- give" (State in range). Assumes nothing.
use Rattle.std.specs.Prelude.{ℕ, zero, suc, ◌+◌, ◌*◌, ◌≤◌, ◌<◌, ◌≡◌, refl, Bool, true, false, not, ◌&&◌, ◌||◌, T, eqb, leb}
use Rattle.std.proofs.Common.{sym, ap, subst, ◌∙◌, arith, ltb-true, leb-true, eqb-true, eq-eqb, lt-ltb, le-leb}
use Rattle.std.proofs.Math.Decide.{ℕ_discrete}
use Rattle.std.specs.Float.{binary64}
use Rattle.std.specs.Float.Ieee.{to_bits, div, of_int, round, units, odd, size}
use Rattle.std.proofs.lemmas.Bool.{eqb-false}
use Rattle.ground.specs.Tests.{by_test, both, unless, either}
use Rattle.buffer.specs.Bits.{farthest_bit}
use Rattle.header.specs.Header.{least_data, most_data}
use Rattle.buffer.specs.declared.Reader.{Reader}
use Rattle.header.specs.Accepted.{SameFormat, Good}
use Rattle.header.specs.declared.Format.{Format}
use Rattle.readings.specs.declared.Reading.{Reading}
use Rattle.clock.specs.Clock.{start_time_of, are_same_bits, on_time}
use Rattle.clock.specs.Laws.{start_real, like_bits}
use Rattle.window.specs.Output.{Place}
use Rattle.state.specs.State.{fresh, numbers_ok, in_range, stands_at, pends, framed_to}
use Rattle.state.specs.declared.Audio.{Audio}

pub record Ranged (a : Audio) : Type 0 where
  pub near : a.reader.at.0 ≤ farthest_bit
  pub few : a.frames * 16 ≤ a.reader.at.0
  pub samplerate : a.format.samplerate ≤ 3
  pub bitrate : a.format.bitrate ≤ 13
  pub mode : a.format.mode ≤ 3
  pub bound : a.format.bound ≤ 32
  pub mono : a.format.mode ≡ 3 → a.format.bound ≡ 0
  pub place : Place a.ring
  pub large : (a.pending ≡ 0 → ⊥) → least_data ≤ a.pending
  pub small : a.pending ≤ most_data
  pub known : a.format.samplerate ≡ 3 → a.pending ≡ 0
  pub first : a.format.samplerate ≡ 3 → a.frames ≡ 0
  pub time : on_time a.time a.frames a.format.samplerate ≡ true

numbers_say : (a : Audio) → numbers_ok a ≡ true → on_time a.time a.frames a.format.samplerate ≡ true → Ranged a
unfolding numbers_ok
numbers_say a e time =
    let t10 = both e in let t9 = both t10.first in let t8 = both t9.first in let t7 = both t8.first in let t6 = both t7.first in
    let t5 = both t6.first in let t4 = both t5.first in let t3 = both t4.first in let t2 = both t3.first in let t1 = both t2.first in
    record {
      near = leb-true _ _ t1.first;
      few = leb-true _ _ t1.second;
      samplerate = leb-true _ _ t2.second;
      bitrate = leb-true _ _ t3.second;
      mode = leb-true _ _ t4.second;
      bound = leb-true _ _ t5.second;
      mono = λ h. eqb-true _ _ (unless {a = eqb a.format.mode 3} t6.second (eq-eqb _ _ h));
      place = record { whole = eqb-true _ _ t7.second; on_ring = ltb-true _ _ t8.second };
      large =
          λ n. either (least_data ≤ a.pending) t9.second (λ h. absurd (n (eqb-true _ _ h)))
          (λ h. leb-true _ _ (both {a = leb least_data a.pending} h).first);
      small =
          either (a.pending ≤ most_data) t9.second (λ h. none (eqb-true _ _ h))
          (λ h. leb-true _ _ (both {a = leb least_data a.pending} h).second);
      known = λ h. eqb-true _ _ (both {a = eqb a.frames 0} (unless {a = eqb a.format.samplerate 3} t10.second (eq-eqb _ _ h))).second;
      first = λ h. eqb-true _ _ (both {a = eqb a.frames 0} (unless {a = eqb a.format.samplerate 3} t10.second (eq-eqb _ _ h))).first;
      time = time;
    }
  where
    none : a.pending ≡ 0 → a.pending ≤ most_data
    none z = omega arith

pub ranged : (a : Audio) → in_range a ≡ true → Ranged a
unfolding in_range
ranged a = by_test (λ t. t ≡ true → Ranged a) (numbers_ok a) _ _ (λ h. numbers_say a h) (λ _ e. absurd (subst T (sym e) tt))

if_then : (a b : Bool) → (a ≡ true → b ≡ true) → (not a || b) ≡ true
if_then true b f = f refl
if_then false b f = refl

or_else : (a b : Bool) → (a ≡ false → b ≡ true) → (a || b) ≡ true
or_else true b f = refl
or_else false b f = f refl

-- and the other way round: all that together puts a state in range
pub ranged_in_range : (a : Audio) → Ranged a → in_range a ≡ true
unfolding in_range numbers_ok
ranged_in_range a r =
    simp (
      le-leb _ _ r.near,
      le-leb _ _ r.few,
      le-leb _ _ r.samplerate,
      le-leb _ _ r.bitrate,
      le-leb _ _ r.mode,
      le-leb _ _ r.bound,
      eq-eqb _ _ r.place.whole,
      lt-ltb _ _ r.place.on_ring,
      if_then (eqb a.format.mode 3) (eqb a.format.bound 0) (λ h. eq-eqb _ _ (r.mono (eqb-true _ _ h))),
      or_else (eqb a.pending 0) (leb least_data a.pending && leb a.pending most_data)
          (λ h. simp (le-leb _ _ (r.large (eqb-false _ _ h)), le-leb _ _ r.small)),
      if_then (eqb a.format.samplerate 3) (eqb a.frames 0 && eqb a.pending 0)
          (λ h. simp (eq-eqb _ _ (r.first (eqb-true _ _ h)), eq-eqb _ _ (r.known (eqb-true _ _ h)))),
    )
    r.time

-- ---- a fresh state is in range

pub start_on_time : (frames samplerate : ℕ) → on_time (start_time_of frames samplerate) frames samplerate ≡ true
unfolding on_time
start_on_time frames samplerate =
    let x = start_time_of frames samplerate in sym (like_bits x x (start_real frames samplerate)) ∙ eq-eqb (to_bits binary64 x) (to_bits binary64 x) refl

pub fresh_ranged : (c : Reading) → Ranged (fresh c)
unfolding fresh start_time_of
fresh_ranged c =
    record {
      near = omega arith;
      few = omega arith;
      samplerate = omega arith;
      bitrate = omega arith;
      mode = omega arith;
      bound = omega arith;
      mono = λ _. refl;
      place = record { whole = refl; on_ring = omega arith };
      large = λ some. absurd (some refl);
      small = omega arith;
      known = λ _. refl;
      first = λ _. refl;
      time = start_on_time 0 3;
    }

-- ---- and what a call changes of it stays in range: a law for each way

module _ (a : Audio) (r : Reader) (w : Ranged a) (near : r.at.0 ≤ farthest_bit) (few : a.frames * 16 ≤ r.at.0) where
  -- the position moves, and that is all
  pub stands_ranged : Ranged (stands_at r a)
  stands_ranged =
      record {
        near = near;
        few = few;
        samplerate = w.samplerate;
        bitrate = w.bitrate;
        mode = w.mode;
        bound = w.bound;
        mono = w.mono;
        place = w.place;
        large = w.large;
        small = w.small;
        known = w.known;
        first = w.first;
        time = w.time;
      }

-- before the first frame it is 0 s at every rate
first_time : (samplerate : ℕ) → samplerate < 3 → start_time_of 0 3 ≡ start_time_of 0 samplerate
unfolding start_time_of div of_int round units odd size
first_time zero l = refl
first_time (suc zero) l = refl
first_time (suc (suc zero)) l = refl
first_time (suc (suc (suc k))) l = absurd (let f : suc (suc (suc k)) < 3 = l in omega arith)

-- a header's sample rate is the old one, or there was none
pub same_start : (a : Audio) → Ranged a → (f : Format) (n : ℕ) → Good a.format f n
    → start_time_of a.frames a.format.samplerate ≡ start_time_of a.frames f.samplerate
same_start a w f n g = go (ℕ_discrete a.format.samplerate 3)
  where
    go : Dec (a.format.samplerate ≡ 3) → start_time_of a.frames a.format.samplerate ≡ start_time_of a.frames f.samplerate
    go (yes e) = rw (e, w.first e) (first_time f.samplerate g.samplerate)
    go (no e) = ap (start_time_of a.frames) (sym (g.same e).samplerate)

-- a header accepted
pub pends_ranged : (a : Audio) (r : Reader) → Ranged a → r.at.0 ≤ farthest_bit → a.frames * 16 ≤ r.at.0
    → (f : Format) (n : ℕ) → Good a.format f n → Ranged (pends r f n a)
unfolding on_time
pends_ranged a r w near few f n g =
    record {
      near = near;
      few = few;
      samplerate = omega arith;
      bitrate = omega arith;
      mode = omega arith;
      bound = g.bound;
      mono = g.mono;
      place = w.place;
      large = λ _. g.least;
      small = g.most;
      known = λ e. absurd (let l = g.samplerate in omega arith);
      first = λ e. absurd (let l = g.samplerate in omega arith);
      time = ap (are_same_bits a.time) (sym (same_start a w f n g)) ∙ w.time;
    }

-- a frame decoded: its format is the state's, but that the bound may be smaller
pub framed_to_ranged : (a : Audio) (r : Reader) (f : Format) (ring : ℕ) → Ranged a → r.at.0 ≤ farthest_bit → a.frames * 16 + 16 ≤ r.at.0
    → a.format.samplerate < 3 → SameFormat a.format f → f.bound ≤ a.format.bound → Place ring → Ranged (framed_to r f ring a)
framed_to_ranged a r f ring w near few known same cut place =
    let rate = same.samplerate in let index = same.bitrate in let mode = same.mode in
    let w1 = w.samplerate in let w2 = w.bitrate in let w3 = w.mode in let w4 = w.bound in
    record {
      near = near;
      few = omega arith;
      samplerate = omega arith;
      bitrate = omega arith;
      mode = omega arith;
      bound = omega arith;
      mono = λ h. let m = w.mono (sym mode ∙ h) in omega arith;
      place = place;
      large = λ some. absurd (some refl);
      small = omega arith;
      known = λ _. refl;
      first = λ h. absurd (omega arith);
      time = rw rate (start_on_time (a.frames + 1) a.format.samplerate);
    }
