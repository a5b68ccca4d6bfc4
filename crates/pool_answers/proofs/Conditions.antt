-- Which call gets which number: each entry tells a refusal exactly when its condition is the first that holds, values exactly when none does.
--     pool_chain, pool_settled        the pool, for all arguments
--     pool_asked, pool_answered       values are told exactly where no test turns the call down, and which
use Prim.Native.Nat.{ℕ, ◌%◌, ◌≤◌, ◌<◌}
use native.Mathlib.Omega.{arith}
use mathlib.Core.Path.{◌≡◌, refl, sym, ◌∙◌, subst}
use mathlib.Core.Logic.Iff
use mathlib.Core.Logic.{◌↔◌, inl, inr, ⊎_elim}
use mathlib.Core.Bool.{Bool, true, false, true≢false}
use mathlib.Core.List.{List}
use lib.ListN.{length}
use Rattle.basics.specs.Told.{Told, values, refusal}
use Rattle.basics.specs.Conditions.{None, Settles}
use Rattle.basics.proofs.Conditions.{Chain, own, test, settles-told, not_both, not_least, not_less}
use Rattle.basics.proofs.Numbers.{alike}
use Rattle.records.specs.Layout.{wire_count}
use Rattle.counts.specs.Counts.{binom}
use Rattle.revolving.specs.Order.{set_at}
use Rattle.breaking.specs.Breaking.{is_breaking}
use Rattle.table.proofs.Conditions.{sound_none, none-sound, accepted_exactly}
use Rattle.filed_reports.specs.Bytes.{report_bytes, report_at}
use Rattle.filed_reports.proofs.Filed.{filed-exactly}
use Rattle.verdict_answers.specs.Answers.{notion_of}
use Rattle.verdict_answers.proofs.Conditions.{opened_chain}
use Rattle.pool_answers.specs.Answers.{pooled, pool_of}
use Rattle.pool_answers.specs.Conditions.{pool_conditions}
use Rattle.pool_answers.specs.Says.{Pooled}
use Rattle.pool_answers.proofs.Tests.{wrong_list_lem, false-finds}
use Rattle.pool_answers.proofs.Telling.{pooled-told}

module _ (table : List ℕ) (shares masks notion order : ℕ) (reports : List ℕ) where
  abbrev told : Told
  told = pooled (wire_count table) order reports

  pool_chain : Chain refusal told (pool_conditions table shares masks notion order reports) (pool_of table shares masks notion order reports)
  pool_chain =
      opened_chain table shares masks notion
      (test 15 (not_both (not_least 1 order) (not_less order shares))
      (test 25 (wrong_list_lem table notion order reports)
      (test 26 (false-finds table shares masks notion reports)
      (own refusal told))))

  pub pool_settled : Settles (pool_conditions table shares masks notion order reports) (pool_of table shares masks notion order reports)
  pool_settled =
      let v = pooled-told (wire_count table) order reports in
      settles-told (subst (λ (t : Told). Chain refusal t (pool_conditions table shares masks notion order reports) (pool_of table shares masks notion order reports))
      v.1 pool_chain)

  pool_none : None (pool_conditions table shares masks notion order reports) ↔ Pooled table shares masks notion order reports
  pool_none = (there, back)
    where
      there : None (pool_conditions table shares masks notion order reports) → Pooled table shares masks notion order reports
      there n =
          let s = none-sound table shares masks n in
          let low : order < 1 → ⊥ = λ h. s.1.1.0 (inl h) in
          let high : shares ≤ order → ⊥ = λ h. s.1.1.0 (inr h) in
          record {
            sound = (accepted_exactly table shares masks).1 s.0;
            known = s.1.0;
            low = omega arith;
            high = omega arith;
            whole = whole (λ d. s.1.1.1.0 (inl d)) (alike (length reports % report_bytes) 0);
            filed = λ i h. (filed-exactly (binom (wire_count table)) notion order (report_at reports i)).0 (λ m. s.1.1.1.0 (inr (i, h, m)));
            breaking = λ i h d. breaking
                (is_breaking (notion_of notion) table shares masks (set_at (wire_count table) (report_at reports i).size (report_at reports i).found))
                (λ e. s.1.1.1.1.0 (i, h, (d, e)));
          }
        where
          whole : ((length reports % report_bytes ≡ 0 → ⊥) → ⊥) → Dec (length reports % report_bytes ≡ 0) → length reports % report_bytes ≡ 0
          whole h (yes e) = e
          whole h (no d) = absurd (h d)

          breaking : (b : Bool) → (b ≡ false → ⊥) → b ≡ true
          breaking true h = refl
          breaking false h = absurd (h refl)

      back : Pooled table shares masks notion order reports → None (pool_conditions table shares masks notion order reports)
      back p = sound_none table shares masks ((accepted_exactly table shares masks).0 p.sound) (
        p.known,
        (
          ⊎_elim (λ h. omega (arith, h, p.low)) (λ h. omega (arith, h, p.high)),
          (
            ⊎_elim (λ d. d p.whole)
                (λ s. (filed-exactly (binom (wire_count table)) notion order (report_at reports s.0)).1 (p.filed s.0 s.1) s.2),
            (λ s. true≢false (sym (p.breaking s.0 s.1 s.2.0) ∙ s.2.1), tt),
          ),
        ),
      )

  pub pool_asked : ((l : List ℕ) × (pool_of table shares masks notion order reports ≡ values l)) ↔ Pooled table shares masks notion order reports
  pool_asked = Iff.trans pool_settled.answered pool_none

  pub pool_answered : Pooled table shares masks notion order reports → pool_of table shares masks notion order reports ≡ pooled (wire_count table) order reports
  pool_answered p = pool_chain.none (pool_none.1 p)
