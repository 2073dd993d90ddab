-- The audio data of a Layer II frame, loop by loop and field by field as ISO/IEC 11172-3 lists them, 2.4.1.6: allocations, scfsi, scale
-- factors, and twelve granules of codes, with the standard's own tables (B.2a to B.2d, B.4). What a field means comes later; here it is
-- read. Nothing here is the port's. Assumes nothing.
use Rattle.std.specs.Prelude.{ℕ, zero, suc, ◌+◌, ◌-◌, cond, List, [], ◌∷◌, ◌++◌, eqb, get_or, set, replicate}
use Rattle.ground.specs.Stores.{three}
use Rattle.grammar.specs.Reads.{Reads, done, ask, ◌>>=◌}
use Rattle.tables.specs.Standard.{Table, row_of, sblimit, steps_of, Class, class, classes}
use Rattle.standard.specs.Header.{nch, bound, allocation_table}

-- for (i = first; i < first + count; i++)
unfoldable pub loop : {A : Type 0} → ℕ → ℕ → (ℕ → A → Reads A) → A → Reads A
loop first zero body xs = done xs
loop first (suc n) body xs = loop first n body xs >>= body (first + n)

-- where a list has what belongs to [ch][sb]
abbrev pub place : ℕ → ℕ → ℕ
place zero sb = sb
place (suc ch) sb = place ch sb + 32

-- if (allocation[ch][sb] != 0)
abbrev pub allocated : {A : Type 0} → List ℕ → ℕ → ℕ → (A → Reads A) → A → Reads A
allocated allocation ch sb read xs = cond (eqb (get_or allocation (place ch sb) 0) 0) (done xs) (read xs)

-- ---- allocation

-- allocation[ch][sb], of the nbal bits that Table B.2 says
unfoldable pub allocation : Table → ℕ → ℕ → List ℕ → Reads (List ℕ)
allocation t ch sb xs = ask (row_of t sb).nbal λ v. done (set xs (place ch sb) v)

-- from the bound up: allocation[0][sb], and allocation[1][sb] = allocation[0][sb]
unfoldable pub shared_allocation : Table → ℕ → List ℕ → Reads (List ℕ)
shared_allocation t sb xs = allocation t 0 sb xs >>= λ ys. done (set ys (place 1 sb) (get_or ys (place 0 sb) 0))

-- for sb below the bound, for ch; then for sb from the bound to sblimit
unfoldable pub allocations : Table → ℕ → ℕ → Reads (List ℕ)
allocations t channels bound =
    loop 0 bound (λ sb. loop 0 channels (λ ch. allocation t ch sb)) (replicate 64 0)
    >>= loop bound (sblimit t - bound) (shared_allocation t)

-- ---- scfsi and scale factors

-- scfsi[ch][sb]
unfoldable pub scfsi : ℕ → ℕ → List ℕ → Reads (List ℕ)
scfsi ch sb xs = ask 2 λ v. done (set xs (place ch sb) v)

-- scalefactor[ch][sb][p] for the three parts p of the frame; scfsi says which are transmitted, and for which parts each is valid
unfoldable pub scalefactors : ℕ → ℕ → ℕ → List ℕ → Reads (List ℕ)
scalefactors zero ch sb xs = ask 6 λ a. ask 6 λ b. ask 6 λ c. done (three (place ch sb) a b c xs)
scalefactors (suc zero) ch sb xs = ask 6 λ a. ask 6 λ b. done (three (place ch sb) a a b xs)
scalefactors (suc (suc zero)) ch sb xs = ask 6 λ a. done (three (place ch sb) a a a xs)
scalefactors (suc (suc (suc n))) ch sb xs = ask 6 λ a. ask 6 λ b. done (three (place ch sb) a b b xs)

-- for each subband, for each channel, where something is allocated
unfoldable pub each_allocated : {A : Type 0} → Table → ℕ → List ℕ → (ℕ → ℕ → A → Reads A) → A → Reads A
each_allocated t channels a read = loop 0 (sblimit t) (λ sb. loop 0 channels (λ ch. allocated a ch sb (read ch sb)))

-- ---- codes

-- samplecode[ch][sb][gr], which stands for three samples, or sample[ch][sb][s] three times
pub data Code : Type 0 where
  grouped : ℕ → Code
  single : ℕ → ℕ → ℕ → Code

abbrev pub none : Code
none = single 0 0 0

-- the class of quantisation in Table B.4 that has so many steps
unfoldable pub find : ℕ → List Class → Class
find steps [] = class 0 0 0
find steps (c ∷ cs) = cond (eqb c.steps steps) c (find steps cs)

unfoldable pub class_for : ℕ → Class
class_for steps = find steps classes

-- if (grouping[ch][sb]) one code for three samples, else one for each
unfoldable pub code : Class → ℕ → ℕ → List Code → Reads (List Code)
code c ch sb xs =
    cond (eqb c.samples 3) (ask c.bits λ v. done (set xs (place ch sb) (grouped v)))
    (ask c.bits λ x. ask c.bits λ y. ask c.bits λ z. done (set xs (place ch sb) (single x y z)))

-- the steps that a table has for a subband and an allocation: those of Table B.2, or of one that differs from it
abbrev pub Steps : Type 0
Steps = Table → ℕ → ℕ → ℕ

unfoldable pub code_at : Steps → Table → List ℕ → ℕ → ℕ → List Code → Reads (List Code)
code_at steps t a ch sb = allocated a ch sb (code (class_for (steps t sb (get_or a (place ch sb) 0))) ch sb)

-- a granule, in the same loops: below the bound each channel has codes, from the bound up those of channel 0 serve both
unfoldable pub granule : Steps → Table → ℕ → ℕ → List ℕ → Reads (List Code)
granule steps t channels bound a =
    loop 0 bound (λ sb. loop 0 channels (λ ch. code_at steps t a ch sb)) (replicate 64 none)
    >>= loop bound (sblimit t - bound) (λ sb. code_at steps t a 0 sb)

unfoldable pub granules : Steps → Table → ℕ → ℕ → List ℕ → ℕ → Reads (List (List Code))
granules steps t channels bound a count =
    loop 0 count (λ gr xs. granule steps t channels bound a >>= λ x. done (xs ++ (x ∷ []))) []

-- ---- the audio data

-- what they hold. A place with no scale factor has 63: Table B.1 ends at 62
pub record AudioFields : Type 0 where
  pub allocation : List ℕ
  pub scfsi : List ℕ
  pub scalefactor : List ℕ
  pub codes : List (List Code)

unfoldable pub after_allocations : Steps → Table → ℕ → ℕ → List ℕ → Reads AudioFields
after_allocations steps t channels bound a =
    each_allocated t channels a scfsi (replicate 64 0) >>= λ c.
    each_allocated t channels a (λ ch sb. scalefactors (get_or c (place ch sb) 0) ch sb) (replicate 192 63) >>= λ f.
    granules steps t channels bound a 12 >>= λ g. done (record { allocation = a; scfsi = c; scalefactor = f; codes = g })

unfoldable pub audio_data_by : Steps → Table → ℕ → ℕ → Reads AudioFields
audio_data_by steps t channels bound = allocations t channels bound >>= after_allocations steps t channels bound

-- by the header's mode, mode_extension, bitrate_index and sampling_frequency, over a table's steps
abbrev pub audio_data_over : Steps → ℕ → ℕ → ℕ → ℕ → Reads AudioFields
audio_data_over steps mode extension index frequency =
    let t = allocation_table mode index frequency in audio_data_by steps t (nch mode) (bound mode extension t)

-- the standard's: over the steps of Table B.2
abbrev pub audio_data : ℕ → ℕ → ℕ → ℕ → Reads AudioFields
audio_data = audio_data_over steps_of
