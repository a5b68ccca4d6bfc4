-- The paths of the pool's C functions.
--     pool_holds, pool_broken, pool_uncovered, pool_refused     the pool
--     filing_odd, filing_done, filing_refused                   the writing of a report
use Prim.Native.Nat.{ℕ, ◌≤◌, ◌<◌}
use native.Mathlib.Omega.{arith}
use mathlib.Core.Path.{◌≡◌, refl, sym, ◌∙◌, ap, subst}
use mathlib.Core.Logic.{◌⊎◌, inl, inr}
use mathlib.Core.Bool.{Bool, true, false, cond}
use mathlib.Core.List.{List, [], ◌∷◌}
use borrow.Author.Tests.{lt-ltb, le-ltb}
use lib.Dec.{eqb}
use lib.ListN.{length}
use Rattle.std.specs.Prelude.{Result, Ok, Err}
use Rattle.basics.specs.Told.{Lent, values, refusal, turned_down}
use Rattle.basics.proofs.Conditions.{values-refusal}
use Rattle.filed_reports.specs.Bytes.{report_bytes, all_ones, bytes_of_report}
use Rattle.verdict_answers.specs.declared.Refusal as verdict-refusal
use Rattle.verdict_answers.specs.declared.Checked.{Checked}
use Rattle.call_answers.specs.Calls.{got, lent_answered}
use Rattle.call_answers.specs.Meaning.{Kept}
use Rattle.call_answers.proofs.Answering.{Numbers, numbers_gave, numbers-refused, kept_0, lent-refused}
use Rattle.call_answers.proofs.Judging.{verdict_positive}
use Rattle.pool_answers.specs.declared.Refusal.{Refusal}
use Rattle.pool_answers.specs.declared.Refusal.TheVariants.{Tests, Misfiled, FalseFind}
use Rattle.pool_answers.specs.declared.Outcome.{Outcome}
use Rattle.pool_answers.specs.Answers.{refusal_number, pool_told, pool_of, report_of, filed_report}
use Rattle.pool_answers.specs.Conditions.{Answered, CouldStand}
use Rattle.pool_answers.specs.Says.{PoolSays}
use Rattle.pool_answers.specs.Agrees.{PoolAgrees}
use Rattle.pool_answers.proofs.Filing.{Writes, Written, NotWritten, file_either, is-written, writes_stands}
use Rattle.pool_calls.specs.Calls.{checked_as, filed_call, PoolTells, FilingSays}

positive : (why : Refusal) → 0 < refusal_number why
positive (Tests why) = verdict_positive why
positive Misfiled = omega arith
positive FalseFind = omega arith

-- ---- the pool

module _ (table : List ℕ) (shares masks notion order : ℕ) (reports : List ℕ) (a k r : ℕ) where
  abbrev Promise : ℕ → ℕ → ℕ → ℕ → Type 0
  Promise status answer size rank =
      Numbers (pool_of table shares masks notion order reports) (PoolTells status answer size rank table shares masks notion order reports) status
      (answer ∷ size ∷ rank ∷ []) (a ∷ k ∷ r ∷ [])

  module _ (outcome : Outcome) (equation : pool_told (Ok outcome) ≡ pool_of table shares masks notion order reports)
      (says : PoolSays (Ok outcome) table shares masks notion order reports) (agrees : PoolAgrees (Ok outcome) table shares masks notion order reports) where
    told_as : (o : Outcome) → outcome ≡ o → pool_told (Ok o) ≡ pool_of table shares masks notion order reports
    told_as o e = ap (λ (x : Outcome). pool_told (Ok x)) (sym e) ∙ equation

    both : (o : Outcome) → outcome ≡ o → PoolSays (Ok o) table shares masks notion order reports × PoolAgrees (Ok o) table shares masks notion order reports
    both o e = (
      subst (λ (x : Outcome). PoolSays (Ok x) table shares masks notion order reports) e says,
      subst (λ (x : Outcome). PoolAgrees (Ok x) table shares masks notion order reports) e agrees,
    )

    pub pool_holds : outcome ≡ Outcome.Holds → Promise 0 1 k r
    pool_holds e = numbers_gave _ _ _ (1 ∷ []) (told_as Outcome.Holds e) (record {
      one = λ zero. inl refl;
      holds = λ zero same. both Outcome.Holds e;
      broken = λ zero same. absurd (omega (arith, same));
      uncovered = λ zero same. absurd (omega (arith, same));
    })

    pub pool_broken : (size rank : ℕ) → outcome ≡ Outcome.Broken size rank → Promise 0 2 size rank
    pool_broken size rank e = numbers_gave _ _ _ (2 ∷ size ∷ rank ∷ []) (told_as (Outcome.Broken size rank) e) (record {
      one = λ zero. inr (inl refl);
      holds = λ zero same. absurd (omega (arith, same));
      broken = λ zero same. both (Outcome.Broken size rank) e;
      uncovered = λ zero same. absurd (omega (arith, same));
    })

    pub pool_uncovered : (size rank : ℕ) → outcome ≡ Outcome.Uncovered size rank → Promise 0 3 size rank
    pool_uncovered size rank e = numbers_gave _ _ _ (3 ∷ size ∷ rank ∷ []) (told_as (Outcome.Uncovered size rank) e) (record {
      one = λ zero. inr (inr refl);
      holds = λ zero same. absurd (omega (arith, same));
      broken = λ zero same. absurd (omega (arith, same));
      uncovered = λ zero same. (both (Outcome.Uncovered size rank) e).0;
    })

  pub pool_refused : (why : Refusal) (status : ℕ) → pool_told (Err why) ≡ pool_of table shares masks notion order reports → status ≡ refusal_number why
      → Promise status a k r
  pool_refused why status e s =
      let some = positive why in
      numbers-refused _ _ _ _ _ e s (record {
        one = λ zero. absurd (omega (arith, some, s, zero));
        holds = λ zero. absurd (omega (arith, some, s, zero));
        broken = λ zero. absurd (omega (arith, some, s, zero));
        uncovered = λ zero. absurd (omega (arith, some, s, zero));
      })

-- ---- the writing of a report

module _ (notion size from to clean rank : ℕ) (buffer : List ℕ) where
  abbrev call : Lent
  call = filed_call notion size from to clean rank buffer

  abbrev checks : Result Checked verdict-refusal.Refusal
  checks = Ok (checked_as size clean rank)

  abbrev Filing : ℕ → List ℕ → Type 0
  Filing status held =
      (got status [] held ≡ lent_answered call []) × (Kept status [] [] held buffer × FilingSays status notion size from to clean rank buffer held)

  none-filed : (status : ℕ) → 0 < status → ((length buffer ≡ report_bytes) × ((clean ≤ 1) × CouldStand notion size from to checks) → ⊥)
      → FilingSays status notion size from to clean rank buffer buffer
  none-filed status some never = record {
    files-exactly = (λ zero. absurd (omega (arith, some, zero)), λ h. absurd (never h));
    written = λ zero. absurd (omega (arith, some, zero));
  }

  pub filing_odd : (status : ℕ) → 1 < clean → status ≡ 25 → Filing status buffer
  filing_odd status h s = (
    ap (λ (n : ℕ). got n [] buffer) s
        ∙ ap (λ (b : Bool). lent_answered (cond b (turned_down 25 buffer) (filed_report notion size from to checks buffer)) []) (sym (lt-ltb 1 clean h)),
    (λ fails. (refl, refl), none-filed status (omega (arith, s)) (λ x. omega (arith, h, x.1.0))),
  )

  module _ (few : clean ≤ 1) where
    own : filed_report notion size from to checks buffer ≡ call
    own = ap (λ (b : Bool). cond b (turned_down 25 buffer) (filed_report notion size from to checks buffer)) (sym (le-ltb 1 clean few))

    module _ (answer : Checked) (is : answer ≡ checked_as size clean rank) (held : List ℕ) where
      checked_is : filed_report notion size from to (Ok answer) buffer ≡ filed_report notion size from to checks buffer
      checked_is = ap (λ (x : Checked). filed_report notion size from to (Ok x) buffer) is

      found-is : (w : Writes notion size from to checks) → w.found ≡ cond (eqb clean 1) all_ones rank
      found-is w = go (eqb clean 1) refl
        where
          go : (b : Bool) → eqb clean 1 ≡ b → w.found ≡ cond b all_ones rank
          go true e = answered-clean w.found (subst (λ (x : Checked). Answered size from to (Ok x) w.found) (ap (λ (b : Bool). cond b Checked.Clean (Checked.Found size rank)) e) w.answered)
            where
              answered-clean : (i : ℕ) → Answered size from to (Ok Checked.Clean) i → i ≡ all_ones
              answered-clean i h = h
          go false e = answered-found w.found (subst (λ (x : Checked). Answered size from to (Ok x) w.found) (ap (λ (b : Bool). cond b Checked.Clean (Checked.Found size rank)) e) w.answered)
            where
              answered-found : (i : ℕ) → Answered size from to (Ok (Checked.Found size rank)) i → i ≡ rank
              answered-found i h = h.3

      pub filing_done : ◌≡◌ {A = Lent} (record { told = values []; held = held }) (filed_report notion size from to (Ok answer) buffer) → Filing 0 held
      filing_done equation =
          let wrote = equation ∙ checked_is in
          let w = is-written notion size from to checks buffer held (sym wrote) in (
            ap (λ (l : Lent). lent_answered l []) (wrote ∙ own),
            (
              kept_0 [] [] held buffer,
              record {
                files-exactly = (
                  λ zero. (long (sym wrote) (file_either notion size from to checks buffer), (few, (writes_stands notion size from to checks).0 w.0)),
                  λ h. refl,
                );
                written = λ zero. w.1 ∙ ap (λ (i : ℕ). bytes_of_report (report_of notion size from to i)) (found-is w.0);
              },
            ),
          )
        where
          long : filed_report notion size from to checks buffer ≡ record { told = values []; held = held }
              → Written notion size from to checks buffer ⊎ NotWritten notion size from to checks buffer
              → length buffer ≡ report_bytes
          long f (inl w) = w.1
          long f (inr n) = absurd (values-refusal [] 25 (ap (λ (l : Lent). l.told) (sym f ∙ n.1)))

      pub filing_refused : (why : Refusal) (status : ℕ)
          → ◌≡◌ {A = Lent} (record { told = refusal (refusal_number why); held = held }) (filed_report notion size from to (Ok answer) buffer)
          → status ≡ refusal_number why → Filing status held
      filing_refused why status equation s = go (file_either notion size from to checks buffer)
        where
          some : 0 < status
          some = let h = positive why in omega (arith, h, s)

          down : ◌≡◌ {A = Lent} (record { told = refusal (refusal_number why); held = held }) (filed_report notion size from to checks buffer)
          down = equation ∙ checked_is

          go : Written notion size from to checks buffer ⊎ NotWritten notion size from to checks buffer
              → Filing status held
          go (inl w) = absurd (values-refusal [] (refusal_number why) (ap (λ (l : Lent). l.told) (sym (down ∙ w.2))))
          go (inr n) =
              let same : held ≡ buffer = ap (λ (l : Lent). l.held) (down ∙ n.1) in (
                lent-refused [] call (refusal_number why) status held (down ∙ own) s,
                (
                  λ fails. (refl, same),
                  subst (λ (l : List ℕ). FilingSays status notion size from to clean rank buffer l) (sym same)
                      (none-filed status some (λ x. never n.0 x)),
                ),
              )
            where
              never : (length buffer ≡ report_bytes → ⊥) ⊎ (Writes notion size from to checks → ⊥)
                  → (length buffer ≡ report_bytes) × ((clean ≤ 1) × CouldStand notion size from to checks) → ⊥
              never (inl d) x = d x.0
              never (inr d) x = d ((writes_stands notion size from to checks).1 x.1.1)
