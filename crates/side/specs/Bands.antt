-- How the fields of a frame go by subbands and channels. A place is a subband in the left channel, and 32 more in the right.
-- From the syntax of ISO/IEC 11172-3, 2.4.1.6, for Layer II, and 01, "From a header to codes".
-- Assumes nothing.
use Rattle.std.specs.Prelude.{ℕ, zero, suc, ◌+◌, Bool, cond, not, List, eqb, get_or}
use Rattle.grammar.specs.Reads.{Reads, done, ◌>>=◌}

-- the subbands below n, one after the other
unfoldable pub bands : {A : Type 0} → (ℕ → A → Reads A) → ℕ → A → Reads A
bands band zero xs = done xs
bands band (suc n) xs = bands band n xs >>= band n

-- a subband: the left channel, then the right where it has fields of its own, or else what is made of the left's
unfoldable pub pair_of : {A : Type 0} → Bool → (A → Reads A) → (A → Reads A) → (A → A) → A → Reads A
pair_of own left right copy xs = left xs >>= λ ys. cond own (right ys) (done (copy ys))

-- "per allocated subband and channel (mono: one channel)"
unfoldable pub channels_of : {A : Type 0} → Bool → (ℕ → A → Reads A) → ℕ → A → Reads A
channels_of mono one sb = pair_of (not mono) (one sb) (one (sb + 32)) (λ xs. xs)

abbrev pub allocated_of : {A : Type 0} → List ℕ → (ℕ → A → Reads A) → ℕ → A → Reads A
allocated_of quant one place xs = cond (eqb (get_or quant place 0) 0) (done xs) (one place xs)
