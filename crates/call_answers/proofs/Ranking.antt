-- The paths of the functions on wire counts: what each tells, what a refusal leaves, and what its numbers mean.
--     sets_positive            a refusal's number is not 0, so status 0 is no refusal
--     count_gave, count-refused
--     set_gave, set-refused
--     rank_gave, rank-refused
--     job_gave, job-refused
use Prim.Native.Nat.{ℕ, ◌≤◌, ◌<◌}
use native.Mathlib.Omega.{arith}
use mathlib.Core.Path.{◌≡◌, refl, sym, ◌∙◌, ap}
use mathlib.Core.List.{List, [], ◌∷◌, ◌++◌}
use lib.ListN.{take, drop}
use Rattle.basics.specs.Told.{Lent, values, refusal}
use Rattle.basics.proofs.Conditions.{own_told}
use Rattle.sets.proofs.Conditions.{count_chain, set_chain, rank_chain, set_settled}
use Rattle.division.proofs.Conditions.{job_chain}
use Rattle.counts.specs.Counts.{binom}
use Rattle.sets.specs.declared.Refusal.{Refusal}
use Rattle.revolving.specs.Order.{set_at}
use Rattle.sets.specs.Answers.{refusal_number, set_count, set_from_rank, rank_from_set}
use Rattle.division.specs.Answers.{job_ranks}
use Rattle.revolving.proofs.Rising.{is_set-parts}
use Rattle.revolving.proofs.Revolving.{set_at-is-set}
use Rattle.verdict_answers.specs.Answers.{written}
use Rattle.verdict_answers.proofs.Accepting.{written_front, written-rest}
use Rattle.call_answers.specs.Calls.{got, lent_answered}
use Rattle.call_answers.specs.Meaning.{Kept, CountSays, SetSays, RankSays, JobSays}
use Rattle.call_answers.proofs.Answering.{Numbers, numbers_gave, numbers-refused, lent-refused, kept_0}

pub sets_positive : (why : Refusal) → 0 < refusal_number why
sets_positive Refusal.TooManyWires = omega arith
sets_positive Refusal.SizeTooLarge = omega arith
sets_positive Refusal.BufferTooShort = omega arith
sets_positive Refusal.RankTooLarge = omega arith
sets_positive Refusal.NoSuchJob = omega arith
sets_positive Refusal.NotASet = omega arith

not_0 : {A : Type 0} (why : Refusal) (status : ℕ) → status ≡ refusal_number why → status ≡ 0 → A
not_0 why status s zero = absurd (omega (arith, sets_positive why))

module _ (wires size before : ℕ) where
  pub count_gave : (sets : ℕ) → values (sets ∷ []) ≡ set_count wires size → Numbers (set_count wires size) (CountSays 0 sets wires size) 0 (sets ∷ []) (before ∷ [])
  count_gave sets tells =
      let same = own_told (count_chain wires size) (sets ∷ []) (sym tells) in
      numbers_gave _ _ _ _ tells (λ zero. cc)

  pub count-refused : (why : Refusal) (status : ℕ) → refusal (refusal_number why) ≡ set_count wires size → status ≡ refusal_number why
      → Numbers (set_count wires size) (CountSays status before wires size) status (before ∷ []) (before ∷ [])
  count-refused why status tells s = numbers-refused _ _ _ _ _ tells s (λ zero. not_0 why status s zero)

module _ (wires size job jobs from-before to-before : ℕ) where
  pub job_gave : (from to : ℕ) → values (from ∷ to ∷ []) ≡ job_ranks wires size job jobs
      → Numbers (job_ranks wires size job jobs) (JobSays 0 from to wires size job jobs) 0 (from ∷ to ∷ []) (from-before ∷ to-before ∷ [])
  job_gave from to tells =
      let same = own_told (job_chain wires size job jobs) (from ∷ to ∷ []) (sym tells) in
      numbers_gave _ _ _ _ tells (λ zero. (cc, cc))

  pub job-refused : (why : Refusal) (status : ℕ) → refusal (refusal_number why) ≡ job_ranks wires size job jobs → status ≡ refusal_number why
      → Numbers (job_ranks wires size job jobs) (JobSays status from-before to-before wires size job jobs) status (from-before ∷ to-before ∷ [])
      (from-before ∷ to-before ∷ [])
  job-refused why status tells s = numbers-refused _ _ _ _ _ tells s (λ zero. not_0 why status s zero)

module _ (wires : ℕ) (set : List ℕ) (before : ℕ) where
  pub rank_gave : (rank : ℕ) → values (rank ∷ []) ≡ rank_from_set wires set → Numbers (rank_from_set wires set) (RankSays 0 rank wires set) 0 (rank ∷ []) (before ∷ [])
  rank_gave rank tells =
      let same = own_told (rank_chain wires set) (rank ∷ []) (sym tells) in
      numbers_gave _ _ _ _ tells (λ zero. cc)

  pub rank-refused : (why : Refusal) (status : ℕ) → refusal (refusal_number why) ≡ rank_from_set wires set → status ≡ refusal_number why
      → Numbers (rank_from_set wires set) (RankSays status before wires set) status (before ∷ []) (before ∷ [])
  rank-refused why status tells s = numbers-refused _ _ _ _ _ tells s (λ zero. not_0 why status s zero)

-- ---- set from rank

module _ (wires size rank : ℕ) (buffer held : List ℕ) where
  abbrev lent : Lent
  lent = set_from_rank wires size rank buffer

  -- the set at a rank that is not refused has its size, so the buffer's first so many numbers are the set
  right : values [] ≡ lent.told → held ≡ lent.held → (take size held ≡ set_at wires size rank) × (drop size held ≡ drop size buffer)
  right told holds =
      let none = (set_settled wires size rank buffer).settles.answered.0 ([], sym told) in
      let counted : binom wires size ≤ rank → ⊥ = none.1.1.1.0 in
      let long = (is_set-parts wires size (set_at wires size rank) (set_at-is-set wires size rank (omega arith))).0 in
      let same : held ≡ written (set_at wires size rank) buffer =
      holds ∙ ap (λ (a : Lent). a.held) ((set_chain wires size rank buffer).none none)
      ∙ ap (λ (n : ℕ). set_at wires size rank ++ drop n buffer) (sym long) in
      (written_front buffer size held (set_at wires size rank) (sym long) same, written-rest buffer size held (set_at wires size rank) (sym long) same)

  kept : (number : ℕ) → refusal number ≡ lent.told → held ≡ lent.held → held ≡ buffer
  kept number told holds = holds ∙ (set_settled wires size rank buffer).kept number (sym told)

  abbrev SetPromise : ℕ → Type 0
  SetPromise status =
      (got status [] held ≡ lent_answered lent []) × (Kept status [] [] held buffer × SetSays status wires size rank buffer held)

  pub set_gave : record { told = values []; held = held } ≡ lent → SetPromise 0
  set_gave tells = (
    ap (λ (a : Lent). lent_answered a []) tells,
    (kept_0 _ _ _ _, λ zero. right (ap (λ (a : Lent). a.told) tells) (ap (λ (a : Lent). a.held) tells)),
  )

  pub set-refused : (why : Refusal) (status : ℕ) → record { told = refusal (refusal_number why); held = held } ≡ lent → status ≡ refusal_number why → SetPromise status
  set-refused why status tells s = (
    lent-refused [] lent _ status held tells s,
    (
      λ no. (refl, kept (refusal_number why) (ap (λ (a : Lent). a.told) tells) (ap (λ (a : Lent). a.held) tells)),
      λ zero. not_0 why status s zero,
    ),
  )
