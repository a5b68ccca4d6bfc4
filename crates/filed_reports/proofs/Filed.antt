-- The tests on reports decide what they say.
--     misfiled-exactly       the tests of 25 on a report
--     any-misfiled, filed-exactly      of all reports of a list; no report fails them exactly when each is filed as it should be
--     covers-exactly, covered-exactly     a report covers a rank; some report of a list does
--     finds-exactly, reported-exactly     a report finds a rank; some report of a list does
use Prim.Native.Nat.{ℕ, ◌≤◌, ◌<◌}
use native.Mathlib.Omega.{arith}
use mathlib.Core.Path.{◌≡◌}
use mathlib.Core.Logic.Iff
use mathlib.Core.Logic.{◌↔◌, inl, inr}
use mathlib.Core.Bool.{true}
use mathlib.Core.List.{List}
use Rattle.basics.specs.Conditions.{Some}
use Rattle.basics.proofs.Conditions.{less, least, equal, fails, both, one_of, not_both, not_least, not_less, some_decides}
use Rattle.basics.proofs.Numbers.{alike}
use Rattle.filed_reports.specs.declared.Report.{Report}
use Rattle.filed_reports.specs.Bytes.{all_ones, report_at, report_count}
use Rattle.filed_reports.specs.Filed.{misfiled, any_misfiled, covers, covered, finds, reported, Filed, Misfiled, Covers, Finds}

module _ (all : ℕ → ℕ) (notion order : ℕ) where
  pub misfiled-exactly : (r : Report) → (misfiled all notion order r ≡ true) ↔ Misfiled all notion order r
  misfiled-exactly r =
      one_of (fails (equal r.notion notion))
      (one_of (not_both (not_least 1 r.size) (not_least r.size order))
      (one_of (fails (equal r.filling 0))
      (one_of (not_both (not_least r.from r.to) (not_least r.to (all r.size)))
      (both (fails (equal r.found all_ones)) (not_both (not_least r.from r.found) (not_less r.found r.to))))))

  pub any-misfiled : (reports : List ℕ)
      → (any_misfiled all notion order reports ≡ true) ↔ Some (report_count reports) (λ i. Misfiled all notion order (report_at reports i))
  unfolding any_misfiled
  any-misfiled reports =
      some_decides (report_count reports) (λ i. misfiled all notion order (report_at reports i)) (λ i. misfiled-exactly (report_at reports i))

  pub filed-exactly : (r : Report) → (Misfiled all notion order r → ⊥) ↔ Filed all notion order r
  filed-exactly r = (there, back)
    where
      there : (Misfiled all notion order r → ⊥) → Filed all notion order r
      there right =
          let low : r.size < 1 → ⊥ = λ h. right (inr (inl (inl h))) in
          let high : order < r.size → ⊥ = λ h. right (inr (inl (inr h))) in
          let rises : r.to < r.from → ⊥ = λ h. right (inr (inr (inr (inl (inl h))))) in
          let ends : all r.size < r.to → ⊥ = λ h. right (inr (inr (inr (inl (inr h))))) in
          record {
            same = same (alike r.notion notion);
            low = omega arith;
            high = omega arith;
            blank = blank (alike r.filling 0);
            rises = omega arith;
            ends = omega arith;
            inside = λ f.
                let under : r.found < r.from → ⊥ = λ h. right (inr (inr (inr (inr (f, inl h))))) in
                let over : r.to ≤ r.found → ⊥ = λ h. right (inr (inr (inr (inr (f, inr h))))) in
                (omega arith, omega arith);
          }
        where
          same : Dec (r.notion ≡ notion) → r.notion ≡ notion
          same (yes e) = e
          same (no d) = absurd (right (inl d))

          blank : Dec (r.filling ≡ 0) → r.filling ≡ 0
          blank (yes e) = e
          blank (no d) = absurd (right (inr (inr (inl d))))

      back : Filed all notion order r → Misfiled all notion order r → ⊥
      back f (inl d) = d f.same
      back f (inr (inl (inl h))) = omega (arith, f.low)
      back f (inr (inl (inr h))) = omega (arith, f.high)
      back f (inr (inr (inl d))) = d f.blank
      back f (inr (inr (inr (inl (inl h))))) = omega (arith, f.rises)
      back f (inr (inr (inr (inl (inr h))))) = omega (arith, f.ends)
      back f (inr (inr (inr (inr (d, inl h))))) = omega (arith, (f.inside d).0)
      back f (inr (inr (inr (inr (d, inr h))))) = omega (arith, (f.inside d).1)

module _ (size rank : ℕ) where
  pub covers-exactly : (r : Report) → (covers r size rank ≡ true) ↔ Covers r size rank
  covers-exactly r =
      Iff.trans (both (equal r.size size) (both (least r.from rank) (less rank r.to))) (
        λ h. record { same = h.0; low = h.1.0; high = h.1.1 },
        λ c. (c.same, (c.low, c.high)),
      )

  pub finds-exactly : (r : Report) → (finds r size rank ≡ true) ↔ Finds r size rank
  finds-exactly r =
      Iff.trans (both (fails (equal r.found all_ones)) (both (equal r.size size) (equal r.found rank))) (
        λ h. record { found = h.0; same = h.1.0; here = h.1.1 },
        λ f. (f.found, (f.same, f.here)),
      )

  pub covered-exactly : (reports : List ℕ) → (covered reports size rank ≡ true) ↔ Some (report_count reports) (λ i. Covers (report_at reports i) size rank)
  unfolding covered
  covered-exactly reports =
      some_decides (report_count reports) (λ i. covers (report_at reports i) size rank) (λ i. covers-exactly (report_at reports i))

  pub reported-exactly : (reports : List ℕ) → (reported reports size rank ≡ true) ↔ Some (report_count reports) (λ i. Finds (report_at reports i) size rank)
  unfolding reported
  reported-exactly reports =
      some_decides (report_count reports) (λ i. finds (report_at reports i) size rank) (λ i. finds-exactly (report_at reports i))
