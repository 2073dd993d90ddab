-- Two programs of reads that ask for the same fields, and what then holds of what they read: the tool to compare two definitions of
-- one format. Assumes nothing.
use Prim.Native.Nat.{ℕ, zero, suc, ◌+◌, ◌-◌, ◌^◌, ◌≤◌, ◌<◌}
use Rattle.std.specs.Prelude.{◌≡◌, refl, Bool, true, false, cond, List, [], ◌∷◌, length, get_or, set, replicate}
use Rattle.std.proofs.Common.{sym, ◌∙◌, add-zero, add-suc, length-set}
use Rattle.std.proofs.Math.Path.{ap, subst}
use native.Mathlib.Omega.{arith}
use Rattle.buffer.specs.Calls.{field_of}
use Rattle.buffer.specs.Laws.{field_small}
use Rattle.buffer.specs.declared.Reader.{Reader}
use Rattle.grammar.specs.Reads.{Reads, done, ask, ◌>>=◌, run}
use Rattle.side.specs.Bands.{bands, pair_of}
use Rattle.standard.specs.AudioData.{loop}

-- the same widths on the way, whatever is read, and R of the two values at the end
unfoldable pub Related : {A B : Type 0} → (A → B → Type 0) → Reads A → Reads B → Type 0
Related R (done a) (done b) = R a b
Related R (done a) (ask n g) = ⊥
Related R (ask m f) (done b) = ⊥
Related R (ask m f) (ask n g) = (m ≡ n) × ((v : ℕ) → v < 2 ^ m → Related R (f v) (g v))

-- so on any stream, from any place, both end at the same bit
pub record Matching {A B : Type 0} (R : A → B → Type 0) (m : Reads A) (n : Reads B) (s : List ℕ) (r : Reader) : Type 0 where
  pub next : (run m s r).next ≡ (run n s r).next
  pub value : R (run m s r).value (run n s r).value

module _ {A B : Type 0} (R : A → B → Type 0) where
  pub related_run : (m : Reads A) (n : Reads B) → Related R m n → (s : List ℕ) (r : Reader) → Matching R m n s r
  unfolding Related run
  related_run (done a) (done b) h s r = record { next = refl; value = h }
  related_run (done a) (ask n g) h s r = absurd h
  related_run (ask m f) (done b) h s r = absurd h
  related_run (ask m f) (ask n g) h s r =
      let v = (field_of s r m).value in
      let i = related_run (f v) (g v) (h.1 v (field_small s r m)) s (field_of s r m).next in
      let e : field_of s r m ≡ field_of s r n = ap (field_of s r) h.0 in
      record {
        next = i.next ∙ ap (λ x. (run (g x.value) s x.next).next) e;
        value = subst (λ x. R (run (f v) s (field_of s r m).next).value (run (g x.value) s x.next).value) e i.value;
      }

  pub related_cond : (t : Bool) (m m' : Reads A) (n n' : Reads B) → (t ≡ true → Related R m n) → (t ≡ false → Related R m' n')
      → Related R (cond t m m') (cond t n n')
  related_cond true m m' n n' f g = f refl
  related_cond false m m' n n' f g = g refl

pub related_bind : {A B C D : Type 0} (R : A → B → Type 0) (Q : C → D → Type 0) (m : Reads A) (n : Reads B) (f : A → Reads C) (g : B → Reads D)
    → Related R m n → ((a : A) (b : B) → R a b → Related Q (f a) (g b)) → Related Q (m >>= f) (n >>= g)
unfolding Related ◌>>=◌
related_bind R Q (done a) (done b) f g h k = k a b h
related_bind R Q (done a) (ask n y) f g h k = absurd h
related_bind R Q (ask m x) (done b) f g h k = absurd h
related_bind R Q (ask m x) (ask n y) f g h k = (h.0, λ v l. related_bind R Q (x v) (y v) f g (h.1 v l) k)

-- what follows may as well be said to follow the second part
pub related_assoc : {A B C D : Type 0} (Q : C → D → Type 0) (m : Reads A) (f : A → Reads B) (g : B → Reads C) (n : Reads D)
    → Related Q (m >>= λ a. f a >>= g) n → Related Q (m >>= f >>= g) n
unfolding Related ◌>>=◌
related_assoc Q (done a) f g n h = h
related_assoc Q (ask k x) f g (done d) h = h
related_assoc Q (ask k x) f g (ask j y) h = (h.0, λ v l. related_assoc Q (x v) f g (y v) (h.1 v l))

pub related_regroup : {A B C D : Type 0} (Q : D → C → Type 0) (m : Reads D) (n : Reads A) (f : A → Reads B) (g : B → Reads C)
    → Related Q m (n >>= f >>= g) → Related Q m (n >>= λ a. f a >>= g)
unfolding Related ◌>>=◌
related_regroup Q m (done a) f g h = h
related_regroup Q (done d) (ask k x) f g h = h
related_regroup Q (ask j y) (ask k x) f g h = (h.0, λ v l. related_regroup Q (y v) (x v) f g (h.1 v l))

pub related_done : {A B C : Type 0} (Q : B → C → Type 0) (a : A) (f : A → Reads B) (n : Reads C) → Related Q (f a) n → Related Q (done a >>= f) n
unfolding ◌>>=◌
related_done Q a f n h = h

-- and what is made of the value read last
pub related_made : {A B C : Type 0} (R : A → B → Type 0) (Q : A → C → Type 0) (h : B → C) (m : Reads A) (n : Reads B)
    → Related R m n → ((a : A) (b : B) → R a b → Q a (h b)) → Related Q m (n >>= λ b. done (h b))
unfolding Related ◌>>=◌
related_made R Q h (done a) (done b) r k = k a b r
related_made R Q h (done a) (ask n g) r k = r
related_made R Q h (ask m f) (done b) r k = r
related_made R Q h (ask m f) (ask n g) r k = (r.0, λ v l. related_made R Q h (f v) (g v) (r.1 v l) k)

made_first : {A B C : Type 0} (R : A → B → Type 0) (Q : C → B → Type 0) (h : A → C) (m : Reads A) (n : Reads B)
    → Related R m n → ((a : A) (b : B) → R a b → Q (h a) b) → Related Q (m >>= λ a. done (h a)) n
unfolding Related ◌>>=◌
made_first R Q h (done a) (done b) r k = k a b r
made_first R Q h (done a) (ask n g) r k = r
made_first R Q h (ask m f) (done b) r k = r
made_first R Q h (ask m f) (ask n g) r k = (r.0, λ v l. made_first R Q h (f v) (g v) (r.1 v l) k)

-- ---- loops: the port's over subbands, `bands`, against those that the standard lists

module _ {A B : Type 0} (P : ℕ → A → B → Type 0) (band : ℕ → A → Reads A) where
  pub related_below : (body : ℕ → B → Reads B) (limit : ℕ)
      → ((sb : ℕ) → sb < limit → (xs : A) (ys : B) → P sb xs ys → Related (P (suc sb)) (band sb xs) (body sb ys))
      → (n : ℕ) → n ≤ limit → (xs : A) (ys : B) → P 0 xs ys → Related (P n) (bands band n xs) (loop 0 n body ys)
  unfolding bands loop Related
  related_below body limit h zero l xs ys p = p
  related_below body limit h (suc n) l xs ys p =
      let e : 0 + n ≡ n = omega arith in
      related_bind (P n) (P (suc n)) (bands band n xs) (loop 0 n body ys) (band n) (body (0 + n))
      (related_below body limit h n (omega arith) xs ys p) (rw e (h n (omega arith)))

  -- one loop to the bound, another from the bound up
  module _ (low high : ℕ → B → Reads B) (bound limit : ℕ)
      (below : (sb : ℕ) → sb < bound → (xs : A) (ys : B) → P sb xs ys → Related (P (suc sb)) (band sb xs) (low sb ys))
      (above : (sb : ℕ) → bound ≤ sb → sb < limit → (xs : A) (ys : B) → P sb xs ys → Related (P (suc sb)) (band sb xs) (high sb ys)) (xs : A) (ys : B)
      (p : P 0 xs ys) where
    related_on : (n : ℕ) → bound + n ≤ limit → Related (P (bound + n)) (bands band (bound + n) xs) (loop 0 bound low ys >>= loop bound n high)
    unfolding bands loop
    related_on zero l =
        rw (add-zero bound)
        (related_made (P bound) (P bound) (λ y. y) (bands band bound xs) (loop 0 bound low ys) (related_below low bound below bound (omega arith) xs ys p)
        (λ _ _ q. q))
    related_on (suc n) l =
        rw (add-suc bound n)
        (related_regroup (P (suc (bound + n))) _ (loop 0 bound low ys) (loop bound n high) (high (bound + n))
        (related_bind (P (bound + n)) (P (suc (bound + n))) (bands band (bound + n) xs) (loop 0 bound low ys >>= loop bound n high)
        (band (bound + n)) (high (bound + n)) (related_on n (omega arith)) (above (bound + n) (omega arith) (omega arith))))

    pub related_both : bound ≤ limit → Related (P limit) (bands band limit xs) (loop 0 bound low ys >>= loop bound (limit - bound) high)
    related_both l =
        let e : bound + (limit - bound) ≡ limit = omega arith in
        rw e at (related_on (limit - bound) (omega arith))

-- a subband's two channels against the standard's loop over channels: both ..
pub related_two : {A B : Type 0} (M Q : A → B → Type 0) (own : Bool) (left right : A → Reads A) (copy : A → A) (one : ℕ → B → Reads B) (xs : A) (ys : B)
    → own ≡ true → Related M (left xs) (one 0 ys) → ((x : A) (y : B) → M x y → Related Q (right x) (one 1 y))
    → Related Q (pair_of own left right copy xs) (loop 0 2 one ys)
unfolding pair_of loop ◌>>=◌
related_two M Q own left right copy one xs ys e l r = rw e (related_bind M Q (left xs) (one 0 ys) right (one 1) l r)

-- .. or channel 0 alone, of which the port makes the other
pub related_one : {A B : Type 0} (M Q : A → B → Type 0) (own : Bool) (left right : A → Reads A) (copy : A → A) (n : Reads B) (xs : A)
    → own ≡ false → Related M (left xs) n → ((x : A) (y : B) → M x y → Q (copy x) y) → Related Q (pair_of own left right copy xs) n
unfolding pair_of
related_one M Q own left right copy n xs e l c = rw e (made_first M Q copy (left xs) n l c)

-- ---- two lists, entry by entry

pub record Twin {A B : Type 0} (a : A) (b : B) (R : ℕ → A → B → Type 0) (xs : List A) (ys : List B) : Type 0 where
  pub long : length xs ≡ length ys
  pub each : (i : ℕ) → R i (get_or xs i a) (get_or ys i b)

module _ {A B : Type 0} (a : A) (b : B) where
  pub twin_replicate : (R : ℕ → A → B → Type 0) → ((i : ℕ) → R i a b) → (n : ℕ) → Twin a b R (replicate n a) (replicate n b)
  twin_replicate R h zero = record { long = refl; each = h }
  twin_replicate R h (suc n) =
      let t = twin_replicate (λ i. R (suc i)) (λ i. h (suc i)) n in record { long = ap suc t.long; each = at t.each }
    where
      at : ((i : ℕ) → R (suc i) (get_or (replicate n a) i a) (get_or (replicate n b) i b))
          → (i : ℕ) → R i (get_or (replicate (suc n) a) i a) (get_or (replicate (suc n) b) i b)
      at e zero = h 0
      at e (suc i) = e i

  set_each : (R : ℕ → A → B → Type 0) (xs : List A) (ys : List B) (k : ℕ) (x : A) (y : B) → length xs ≡ length ys
      → ((i : ℕ) → R i (get_or xs i a) (get_or ys i b)) → R k x y → (i : ℕ) → R i (get_or (set xs k x) i a) (get_or (set ys k y) i b)
  set_each R [] [] k x y l e r i = e i
  set_each R [] (v ∷ ys) k x y l e r i = absurd (omega arith)
  set_each R (u ∷ xs) [] k x y l e r i = absurd (omega arith)
  set_each R (u ∷ xs) (v ∷ ys) zero x y l e r zero = r
  set_each R (u ∷ xs) (v ∷ ys) zero x y l e r (suc i) = e (suc i)
  set_each R (u ∷ xs) (v ∷ ys) (suc k) x y l e r zero = e 0
  set_each R (u ∷ xs) (v ∷ ys) (suc k) x y l e r (suc i) = set_each (λ j. R (suc j)) xs ys k x y (omega arith) (λ j. e (suc j)) r i

  pub twin_set : (R : ℕ → A → B → Type 0) (xs : List A) (ys : List B) → Twin a b R xs ys → (k : ℕ) (x : A) (y : B) → R k x y
      → Twin a b R (set xs k x) (set ys k y)
  twin_set R xs ys t k x y r =
      record { long = length-set xs k x ∙ t.long ∙ sym (length-set ys k y); each = set_each R xs ys k x y t.long t.each r }

  -- a store on one side only, where nothing is said of the place
  left_each : (R : ℕ → A → B → Type 0) (xs : List A) (ys : List B) (k : ℕ) (x : A) → ((i : ℕ) → R i (get_or xs i a) (get_or ys i b))
      → ((y : B) → R k x y) → (i : ℕ) → R i (get_or (set xs k x) i a) (get_or ys i b)
  left_each R [] ys k x e r i = e i
  left_each R (u ∷ xs) [] zero x e r zero = r b
  left_each R (u ∷ xs) [] zero x e r (suc i) = e (suc i)
  left_each R (u ∷ xs) [] (suc k) x e r zero = e 0
  left_each R (u ∷ xs) [] (suc k) x e r (suc i) = left_each (λ j. R (suc j)) xs [] k x (λ j. e (suc j)) r i
  left_each R (u ∷ xs) (v ∷ ys) zero x e r zero = r v
  left_each R (u ∷ xs) (v ∷ ys) zero x e r (suc i) = e (suc i)
  left_each R (u ∷ xs) (v ∷ ys) (suc k) x e r zero = e 0
  left_each R (u ∷ xs) (v ∷ ys) (suc k) x e r (suc i) = left_each (λ j. R (suc j)) xs ys k x (λ j. e (suc j)) r i

  pub twin_left : (R : ℕ → A → B → Type 0) (xs : List A) (ys : List B) → Twin a b R xs ys → (k : ℕ) (x : A) → ((y : B) → R k x y)
      → Twin a b R (set xs k x) ys
  twin_left R xs ys t k x r = record { long = length-set xs k x ∙ t.long; each = left_each R xs ys k x t.each r }
