-- Where no allocation is the listed entry, the standard's audio data over the tables with that entry replaced are the standard's own.
-- proofs/Frames has the port's frame beside it. Assumes nothing.
use Prim.Native.Nat.{ℕ, zero, suc, ◌+◌, ◌-◌, ◌/◌, ◌≤◌, ◌<◌}
use Rattle.std.proofs.Math.Path.{◌≡◌, refl, sym, ap₂, subst}
use Rattle.std.proofs.Common.{ap, ◌∙◌, arith}
use Rattle.std.specs.Prelude.{false, ℤ, replicate}
use mathlib.Core.List.{List, [], ◌∷◌, ◌++◌}
use Rattle.std.proofs.Math.ListN.{get_or}
use Rattle.ground.specs.Tests.{by_test}
use Rattle.buffer.specs.declared.Reader.{Reader}
use Rattle.grammar.specs.Reads.{Reads, done, ask, ◌>>=◌, Taken, taken, run}
use Rattle.grammar.specs.Run.{run_bind}
use Rattle.tables.specs.Standard.{Table, steps_of, sblimit}
use Rattle.tables.specs.Differences.{differs_at}
use Rattle.standard.specs.Header.{joint_stereo, nch, bound, allocation_table}
use Rattle.standard.specs.AudioData.{loop, place, allocated, code, class_for, Steps, Code, none, code_at, granule, granules, each_allocated, scfsi, scalefactors, allocations, AudioFields, after_allocations, audio_data_by, audio_data_over, audio_data}
use Rattle.alike.specs.Related.{Related, related_run, related_bind}
use Rattle.alike.specs.Made.{placed, band, made, made_from, made_by01, samples_by01}
use Rattle.alike.specs.Replaced.{replaced, else_the_standards}

-- ---- where nothing listed is allocated, the standard's own reading

unfoldable pub Unlisted : Table → List ℕ → Type 0
Unlisted t a = (ch sb : ℕ) → sb < sblimit t → differs_at t sb (get_or a (place ch sb) 0) ≡ false

same : {A : Type 0} (m : Reads A) → Related ◌≡◌ m m
unfolding Related
same (done a) = refl
same (ask n k) = (refl, λ v _. same (k v))

same_bind : {A B : Type 0} (m n : Reads A) (f g : A → Reads B) → Related ◌≡◌ m n → ((a : A) → Related ◌≡◌ (f a) (g a))
    → Related ◌≡◌ (m >>= f) (n >>= g)
same_bind m n f g h k = related_bind ◌≡◌ ◌≡◌ m n f g h (λ a b e. subst (λ c. Related ◌≡◌ (f a) (g c)) e (k a))

same_loop : {A : Type 0} (first n : ℕ) (f g : ℕ → A → Reads A) → ((i : ℕ) → i < first + n → (xs : A) → Related ◌≡◌ (f i xs) (g i xs))
    → (xs : A) → Related ◌≡◌ (loop first n f xs) (loop first n g xs)
unfolding loop Related
same_loop first zero f g h xs = refl
same_loop first (suc n) f g h xs =
    same_bind (loop first n f xs) (loop first n g xs) (f (first + n)) (g (first + n)) (same_loop first n f g (λ i l. h i (omega arith)) xs)
    (h (first + n) (omega arith))

module _ (t : Table) (channels bound : ℕ) (within : bound ≤ sblimit t) (a : List ℕ) (clean : Unlisted t a) where
  same_code : (ch sb : ℕ) → sb < sblimit t → (xs : List Code) → Related ◌≡◌ (code_at replaced t a ch sb xs) (code_at steps_of t a ch sb xs)
  unfolding code_at Unlisted
  same_code ch sb l xs =
      let v = get_or a (place ch sb) 0 in
      subst (λ (n : ℕ). Related ◌≡◌ (allocated a ch sb (code (class_for (replaced t sb v)) ch sb) xs) (allocated a ch sb (code (class_for n) ch sb) xs))
      (else_the_standards t sb v (clean ch sb l)) (same _)

  same_granule : Related ◌≡◌ (granule replaced t channels bound a) (granule steps_of t channels bound a)
  unfolding granule
  same_granule =
      same_bind _ _ _ _
      (same_loop 0 bound _ _ (λ sb l. same_loop 0 channels _ _ (λ ch _. same_code ch sb (omega arith))) (replicate 64 none))
      (same_loop bound (sblimit t - bound) _ _ (λ sb l. same_code 0 sb (omega arith)))

  same_after : Related ◌≡◌ (after_allocations replaced t channels bound a) (after_allocations steps_of t channels bound a)
  unfolding after_allocations granules
  same_after =
      same_bind _ _ _ _ (same (each_allocated t channels a scfsi (replicate 64 0)))
      (λ c. same_bind _ _ _ _ (same (each_allocated t channels a (λ ch sb. scalefactors (get_or c (place ch sb) 0) ch sb) (replicate 192 63)))
      (λ f. same_bind _ _ _ _
      (same_loop 0 12 _ _ (λ gr _ xs. same_bind _ _ _ _ same_granule (λ x. same (done (xs ++ (x ∷ []))))) [])
      (λ g. same (done (record { allocation = a; scfsi = c; scalefactor = f; codes = g })))))

  -- and the samples made of it
  same_placed : (f : List ℕ) (part ch sb : ℕ) → sb < sblimit t → (c : Code) (xs : List ℤ)
      → placed replaced t channels bound a f part ch sb c xs ≡ placed steps_of t channels bound a f part ch sb c xs
  unfolding placed Unlisted
  same_placed f part ch sb l c xs = rw (else_the_standards t sb (get_or a (place ch sb) 0) (clean ch sb l))

  same_made : (f : List ℕ) (part : ℕ) (cs : List Code) (n : ℕ) → n ≤ sblimit t
      → made replaced t channels bound a f part cs n ≡ made steps_of t channels bound a f part cs n
  unfolding made band
  same_made f part cs zero l = refl
  same_made f part cs (suc n) l =
      rw (same_made f part cs n (omega arith), same_placed f part 0 n (omega arith), same_placed f part 1 n (omega arith))

  same_from : (f : List ℕ) (g : ℕ) (xs : List (List Code)) → made_from replaced t channels bound a f g xs ≡ made_from steps_of t channels bound a f g xs
  unfolding made_from
  same_from f g [] = refl
  same_from f g (cs ∷ xs) = rw (same_made f (g / 4) cs (sblimit t) (omega arith), same_from f (suc g) xs)

-- the allocations that are read, whatever the steps
reads_allocations : (steps : Steps) (t : Table) (channels bound : ℕ) (s : List ℕ) (r : Reader)
    → (run (audio_data_by steps t channels bound) s r).value.allocation ≡ (run (allocations t channels bound) s r).value
unfolding audio_data_by after_allocations run
reads_allocations steps t channels bound s r =
    ap (λ (z : Taken AudioFields). z.value.allocation)
    (run_bind (allocations t channels bound) (after_allocations steps t channels bound) s r
    ∙ run_bind _ _ s _ ∙ run_bind _ _ s _ ∙ run_bind _ _ s _)

module _ (t : Table) (channels bound : ℕ) (within : bound ≤ sblimit t) (s : List ℕ) (r : Reader)
    (clean : Unlisted t (run (audio_data_by steps_of t channels bound) s r).value.allocation) where
  same_reading : run (audio_data_by replaced t channels bound) s r ≡ run (audio_data_by steps_of t channels bound) s r
  unfolding audio_data_by
  same_reading =
      let a = run (allocations t channels bound) s r in
      let none = subst (Unlisted t) (reads_allocations steps_of t channels bound s r) clean in
      let m = related_run ◌≡◌ _ _ (same_after t channels bound within a.value none) s a.next in
      run_bind (allocations t channels bound) (after_allocations replaced t channels bound) s r
      ∙ ap₂ taken m.value m.next
      ∙ sym (run_bind (allocations t channels bound) (after_allocations steps_of t channels bound) s r)

  same_samples : let x = (run (audio_data_by steps_of t channels bound) s r).value in made_by01 replaced t channels bound x ≡ made_by01 steps_of t channels bound x
  unfolding made_by01
  same_samples =
      let x = (run (audio_data_by steps_of t channels bound) s r).value in same_from t channels bound within x.allocation clean x.scalefactor 0 x.codes

pub unlisted_is_the_standards : (mode extension index frequency : ℕ) (s : List ℕ) (r : Reader)
    → let x = run (audio_data mode extension index frequency) s r in Unlisted (allocation_table mode index frequency) x.value.allocation
    → (run (audio_data_over replaced mode extension index frequency) s r ≡ x)
    × (samples_by01 replaced mode extension index frequency x.value ≡ samples_by01 steps_of mode extension index frequency x.value)
unlisted_is_the_standards mode extension index frequency s r clean =
    let t = allocation_table mode index frequency in
    let b = bound mode extension t in
    let within : b ≤ sblimit t = by_test (λ (n : ℕ). n ≤ sblimit t) (joint_stereo mode) _ _ (λ _. omega arith) (λ _. omega arith) in
    (same_reading t (nch mode) b within s r clean, same_samples t (nch mode) b within s r clean)
