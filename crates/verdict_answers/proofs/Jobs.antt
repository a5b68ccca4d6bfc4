-- A search that is divided over machines answers what one machine would, for any division into jobs.
--     job_accepts       `job` tells bounds exactly where wires, size and number of jobs are within limits and the job is one of them
--     job-exactly       a job's answer is that of the range check from floor(i × N / j) up to, without, floor((i + 1) × N / j)
--     jobs_clean        every job of a size is clean exactly when no set of the size breaks
--     jobs_either       every job is clean, or a job finds a set and those before it are clean
--     jobs_first        then what is found first over the jobs is the first breaking set of the size, with its rank
--     verdict_clean     a verdict holds exactly when all jobs of all sizes up to the order are clean
--     verdict_first     else it shows what the jobs of the first size that is not clean find first
use Prim.Native.Nat.{ℕ, zero, suc, ◌≤◌, ◌<◌}
use native.Mathlib.Nat.{eq-or-lt_of_le, le_of_suc-le-suc, not-suc-le-zero, le_refl}
use native.Mathlib.Omega.{arith}
use mathlib.Core.Path.{◌≡◌, refl, sym, ◌∙◌, ap, ap₂, subst}
use mathlib.Core.Logic.{◌⊎◌, inl, inr, ◌↔◌}
use mathlib.Core.Bool.{Bool, true, false}
use mathlib.Core.List.{List, [], ◌∷◌, ◌++◌}
use Rattle.limits.specs.Limits.{max_wires, max_size}
use Rattle.basics.specs.Folds.{keep}
use Rattle.basics.specs.Told.{Lent, values}
use Rattle.basics.proofs.Folds.{keep_append}
use Rattle.records.specs.Layout.{wire_count}
use Rattle.table.proofs.Conditions.{accepted_exactly}
use Rattle.counts.specs.Counts.{binom}
use Rattle.revolving.specs.Order.{revolving, set_at, rank_of, is_set}
use Rattle.division.specs.Answers.{job_ranks}
use Rattle.revolving.proofs.Revolving.{revolving-length, set_at-is-set}
use Rattle.division.specs.Division.{start, visited, joined}
use Rattle.division.proofs.Division.{start-rises, start-within, jobs_joined}
use Rattle.division.proofs.Conditions.{job_settled}
use Rattle.division.proofs.Entries.{job-told}
use Rattle.breaking.specs.Breaking.{is_breaking}
use Rattle.search.specs.Search.{searched}
use Rattle.verdict_answers.specs.Answers.{notion_of, first_shown, first_ranked, verdict_of, range_check}
use Rattle.verdict_answers.specs.Jobs.{nothing, found, broken, Ordered, Asked, Divided, JobAnswers, AllClean, CleanBelow, FirstFound}
use Rattle.search.proofs.Keeping.{each_place, keep-none, none-keep}
use Rattle.verdict_answers.proofs.Accepting.{shown-nil, ranked-nil, ranked-set}
use Rattle.verdict_answers.proofs.Conditions.{verdict_answered, range_answered}
use Rattle.search.proofs.Sizes.{first_of_size}
use Rattle.verdict_answers.proofs.Watching.{of_size_lem, each_size, each-searched}

-- ---- lists joined

module _ (test : List ℕ → Bool) (g : ℕ → List (List ℕ)) where
  none-joined : (j : ℕ) → ((i : ℕ) → i < j → keep test (g i) ≡ []) → keep test (joined j g) ≡ []
  none-joined zero h = refl
  none-joined (suc j) h =
      keep_append test (joined j g) (g j)
      ∙ ap₂ {C = List (List ℕ)} ◌++◌ (none-joined j (λ i b. h i (omega arith))) (h j (omega arith))

  parts : (j : ℕ) → keep test (joined (suc j) g) ≡ keep test (joined j g) ++ keep test (g j)
  parts j = keep_append test (joined j g) (g j)

  none_of : (j : ℕ) → keep test (joined j g) ≡ [] → (i : ℕ) → i < j → keep test (g i) ≡ []
  none_of zero e i h = absurd (not-suc-le-zero h)
  none_of (suc j) e i h =
      let both = nil-parts (keep test (joined j g)) (keep test (g j)) (sym (parts j) ∙ e) in
      go (eq-or-lt_of_le (le_of_suc-le-suc h)) both (none_of j both.0 i)
    where
      nil-parts : (k l : List (List ℕ)) → k ++ l ≡ [] → (k ≡ []) × (l ≡ [])
      nil-parts [] l e = (refl, e)
      nil-parts (x ∷ k) l e = let z : ◌≡◌ {A = ℕ} 0 1 = cc in let w : ⊥ = omega (arith, z) in absurd w

      go : (i ≡ j) ⊎ (i < j) → (keep test (joined j g) ≡ []) × (keep test (g j) ≡ []) → (i < j → keep test (g i) ≡ []) → keep test (g i) ≡ []
      go (inl same) both ih = ap (λ (k : ℕ). keep test (g k)) same ∙ both.1
      go (inr less) both ih = ih less

  first-joined : (j i : ℕ) (s : List ℕ) (later : List (List ℕ)) → i < j → ((k : ℕ) → k < i → keep test (g k) ≡ []) → keep test (g i) ≡ s ∷ later
      → (rest : List (List ℕ)) × (keep test (joined j g) ≡ s ∷ rest)
  first-joined zero i s later h none e = absurd (not-suc-le-zero h)
  first-joined (suc j) i s later h none e = go (eq-or-lt_of_le (le_of_suc-le-suc h)) (first-joined j i s later)
    where
      go : (i ≡ j) ⊎ (i < j)
          → (i < j → ((k : ℕ) → k < i → keep test (g k) ≡ []) → keep test (g i) ≡ s ∷ later → (rest : List (List ℕ))
          × (keep test (joined j g) ≡ s ∷ rest))
          → (rest : List (List ℕ)) × (keep test (joined (suc j) g) ≡ s ∷ rest)
      go (inl same) ih = (
        later,
        parts j ∙ ap₂ {C = List (List ℕ)} ◌++◌ (none-joined j (λ k b. none k (omega arith)))
            (ap (λ (k : ℕ). keep test (g k)) (sym same) ∙ e),
      )
      go (inr less) ih =
          let r = ih less none e in
          (r.0 ++ keep test (g j), parts j ∙ ap {B = List (List ℕ)} (λ l. l ++ keep test (g j)) r.1)

-- `job` tells bounds exactly where wires, size and number of jobs are within limits and the job is one of them
pub job_accepts : (n size jobs job : ℕ)
    → ((l : List ℕ) × (job_ranks n size job jobs ≡ values l)) ↔ ((n ≤ max_wires) × (size ≤ max_size) × Divided jobs × (job < jobs))
job_accepts n size jobs job = (there, λ h. (_, job-told n size jobs h.0 h.1 h.2.some h.2.few job h.3))
  where
    there : (l : List ℕ) × (job_ranks n size job jobs ≡ values l) → (n ≤ max_wires) × (size ≤ max_size) × Divided jobs × (job < jobs)
    there told =
        let none = (job_settled n size job jobs).answered.0 told in
        let wires : max_wires < n → ⊥ = none.0 in
        let sizes : max_size < size → ⊥ = none.1.0 in
        let some : jobs ≡ 0 → ⊥ = λ e. none.1.1.0 (inl e) in
        let few : 65536 < jobs → ⊥ = λ h. none.1.1.0 (inr (inl h)) in
        let one : jobs ≤ job → ⊥ = λ h. none.1.1.0 (inr (inr h)) in
        (omega arith, omega arith, record { some = omega arith; few = omega arith }, omega arith)

-- ---- the answers of the jobs

module _ (table : List ℕ) (shares masks notion size jobs : ℕ) (buffer : List ℕ) (asked : Asked table shares masks notion size buffer)
    (divided : Divided jobs) where
  abbrev n : ℕ
  n = wire_count table

  abbrev test : List ℕ → Bool
  test = is_breaking (notion_of notion) table shares masks

  abbrev of_job : ℕ → List (List ℕ)
  of_job i = keep test (visited n size jobs i)

  wires : n ≤ max_wires
  wires = omega (arith, ((accepted_exactly table shares masks).0 asked.sound).short)

  abbrev bound : ℕ → ℕ
  bound i = start (binom n size) jobs i

  -- what a job's range check answers
  checked : (i : ℕ) → i < jobs → range_check table shares masks notion size (bound i) (bound (suc i)) buffer ≡ first_ranked n (of_job i) buffer
  checked i h =
      range_answered table shares masks notion size (bound i) (bound (suc i)) buffer asked (start-rises (binom n size) jobs i divided.some)
      (start-within (binom n size) jobs (suc i) divided.some h)

  told : (i : ℕ) → i < jobs → job_ranks n size i jobs ≡ values (bound i ∷ bound (suc i) ∷ [])
  told = job-told n size jobs wires asked.small divided.some divided.few

  -- a job's answer is that of the range check between its bounds
  pub job-exactly : (i : ℕ) → i < jobs → (answer : Lent) → JobAnswers table shares masks notion size jobs i buffer answer
      ↔ (range_check table shares masks notion size (bound i) (bound (suc i)) buffer ≡ answer)
  job-exactly i h answer = (there, λ e. record { from = bound i; to = bound (suc i); told = told i h; answers = e })
    where
      there : JobAnswers table shares masks notion size jobs i buffer answer
          → range_check table shares masks notion size (bound i) (bound (suc i)) buffer ≡ answer
      there j =
          let p = j.told in
          let q = told i h in
          let e : bound i ≡ j.from = cc in
          let f : bound (suc i) ≡ j.to = cc in
          ap₂ (λ (a b : ℕ). range_check table shares masks notion size a b buffer) e f ∙ j.answers

  job-answers : (i : ℕ) → i < jobs → (answer : Lent) → first_ranked n (of_job i) buffer ≡ answer
      → JobAnswers table shares masks notion size jobs i buffer answer
  job-answers i h answer e = (job-exactly i h answer).1 (checked i h ∙ e)

  answers-job : (i : ℕ) → i < jobs → (answer : Lent) → JobAnswers table shares masks notion size jobs i buffer answer
      → first_ranked n (of_job i) buffer ≡ answer
  answers-job i h answer j = sym (checked i h) ∙ (job-exactly i h answer).0 j

  clean-none : AllClean table shares masks notion size jobs buffer → keep test (revolving n size) ≡ []
  clean-none clean =
      ap (keep test) (sym (jobs_joined n size jobs divided.some))
      ∙ none-joined test (visited n size jobs) jobs (λ i h. ranked-nil buffer n (of_job i)
      (ap (λ (a : Lent). a.told) (answers-job i h (nothing buffer) (clean i h))))

  none-clean : keep test (revolving n size) ≡ [] → AllClean table shares masks notion size jobs buffer
  none-clean none i h =
      job-answers i h (nothing buffer)
      (ap (λ (l : List (List ℕ)). first_ranked n l buffer)
      (none_of test (visited n size jobs) jobs (ap (keep test) (jobs_joined n size jobs divided.some) ∙ none) i h))

  pub jobs_clean : AllClean table shares masks notion size jobs buffer ↔ ((s : List ℕ) → is_set n size s ≡ true → test s ≡ false)
  jobs_clean = (
    λ clean. of_size_lem n (λ s. test s ≡ false) size (keep-none test (revolving n size) (clean-none clean)),
    λ whole. none-clean
        (none-keep test (revolving n size)
        (each_place (λ s. test s ≡ false) (revolving n size) []
        (λ i h. whole (set_at n size i) (set_at-is-set n size i (omega (arith, revolving-length n size)))))),
  )

  pub jobs_first : (s : List ℕ) (rank : ℕ) → FirstFound table shares masks notion size jobs buffer s rank
      → (later : List (List ℕ)) × (keep test (revolving n size) ≡ s ∷ later) × (rank ≡ rank_of n s)
  jobs_first s rank f =
      let i = f.job in
      let shown = ranked-set buffer n (of_job i) s rank (answers-job i f.one (found s rank buffer) f.finds) in
      let r = first-joined test (visited n size jobs) jobs i s shown.0 f.one none shown.1 in
      (r.0, ap (keep test) (sym (jobs_joined n size jobs divided.some)) ∙ r.1, shown.2)
    where
      none : (k : ℕ) → k < f.job → keep test (visited n size jobs k) ≡ []
      none k h = ranked-nil buffer n (of_job k) (ap (λ (a : Lent). a.told) (answers-job k (omega (arith, f.one)) (nothing buffer) (f.before k h)))

  pub jobs_either : AllClean table shares masks notion size jobs buffer
      ⊎ ((s : List ℕ) × (rank : ℕ) × FirstFound table shares masks notion size jobs buffer s rank)
  jobs_either = up_to-job jobs (le_refl jobs)
    where
      Found : Type 0
      Found = (s : List ℕ) × (rank : ℕ) × FirstFound table shares masks notion size jobs buffer s rank

      Clean : ℕ → Type 0
      Clean j = (i : ℕ) → i < j → JobAnswers table shares masks notion size jobs i buffer (nothing buffer)

      next : (j : ℕ) → j < jobs → Clean j → (l : List (List ℕ)) → of_job j ≡ l → Clean (suc j) ⊎ Found
      next j h clean [] e = inl (λ i b. go i (eq-or-lt_of_le (le_of_suc-le-suc b)))
        where
          go : (i : ℕ) → (i ≡ j) ⊎ (i < j) → JobAnswers table shares masks notion size jobs i buffer (nothing buffer)
          go i (inl same) =
              subst (λ (k : ℕ). JobAnswers table shares masks notion size jobs k buffer (nothing buffer)) (sym same)
              (job-answers j h (nothing buffer) (ap (λ (l : List (List ℕ)). first_ranked n l buffer) e))
          go i (inr less) = clean i less
      next j h clean (s ∷ later) e = inr (
        s,
        rank_of n s,
        record {
          job = j;
          one = h;
          before = clean;
          finds = job-answers j h (found s (rank_of n s) buffer) (ap (λ (l : List (List ℕ)). first_ranked n l buffer) e);
        },
      )

      up_to-job : (j : ℕ) → j ≤ jobs → Clean j ⊎ Found
      up_to-job zero h = inl (λ i b. absurd (not-suc-le-zero b))
      up_to-job (suc j) h = go (up_to-job j (omega arith))
        where
          go : Clean j ⊎ Found → Clean (suc j) ⊎ Found
          go (inl clean) = next j h clean (of_job j) refl
          go (inr f) = inr f

-- ---- with the verdict

module _ (table : List ℕ) (shares masks notion order : ℕ) (buffer : List ℕ) (ordered : Ordered table shares masks notion order buffer)
    (jobs : ℕ → ℕ) (divided : (size : ℕ) → Divided (jobs size)) where
  abbrev tests : List ℕ → Bool
  tests = is_breaking (notion_of notion) table shares masks

  asked_size : (size : ℕ) → size ≤ order → Asked table shares masks notion size buffer
  asked_size size h =
      let most = ((accepted_exactly table shares masks).0 ordered.sound).high in
      record { sound = ordered.sound; known = ordered.known; small = omega (arith, most, ordered.high); room = omega (arith, ordered.room) }

  answered : verdict_of table shares masks notion order buffer ≡ first_shown (keep tests (searched (wire_count table) order)) buffer
  answered = verdict_answered table shares masks notion order buffer ordered

  below_none : (t : ℕ) → t ≤ order → CleanBelow table shares masks notion jobs buffer (suc t) → keep tests (searched (wire_count table) t) ≡ []
  below_none t h clean =
      none-keep tests (searched (wire_count table) t)
      (each-searched (wire_count table) (λ s. tests s ≡ false) t
      (λ k b s e. (jobs_clean table shares masks notion (suc k) (jobs (suc k)) buffer (asked_size (suc k) (omega arith)) (divided (suc k))).0
      (clean (suc k) (omega arith) (omega arith)) s e))

  pub verdict_clean : (verdict_of table shares masks notion order buffer ≡ nothing buffer) ↔ CleanBelow table shares masks notion jobs buffer
      (suc order)
  verdict_clean = (there, λ clean. answered ∙ ap (λ (l : List (List ℕ)). first_shown l buffer) (below_none order (le_refl order) clean))
    where
      there : verdict_of table shares masks notion order buffer ≡ nothing buffer → CleanBelow table shares masks notion jobs buffer (suc order)
      there e zero low h = absurd (not-suc-le-zero low)
      there e (suc k) low h =
          (jobs_clean table shares masks notion (suc k) (jobs (suc k)) buffer (asked_size (suc k) (omega arith)) (divided (suc k))).1
          (of_size_lem (wire_count table) (λ s. tests s ≡ false) (suc k)
          (each_size (wire_count table) (λ s. tests s ≡ false) order k (omega arith)
          (keep-none tests (searched (wire_count table) order) (shown-nil buffer (keep tests (searched (wire_count table) order))
          (ap (λ (a : Lent). a.told) (sym answered ∙ e))))))

  pub verdict_first : (size rank : ℕ) (set : List ℕ) → 1 ≤ size → size ≤ order → CleanBelow table shares masks notion jobs buffer size
      → FirstFound table shares masks notion size (jobs size) buffer set rank → verdict_of table shares masks notion order buffer ≡ broken set buffer
  verdict_first zero rank set low high clean f = absurd (not-suc-le-zero low)
  verdict_first (suc t) rank set low high clean f =
      let first = jobs_first table shares masks notion (suc t) (jobs (suc t)) buffer (asked_size (suc t) high) (divided (suc t)) set rank f in
      let r = first_of_size tests (wire_count table) t order set first.0 (below_none t (omega arith) clean) high first.1 in
      answered ∙ ap (λ (l : List (List ℕ)). first_shown l buffer) r.1
