-- The tests of reports: what a report fails or passes, and all reports of a list.
--     says_no, other_notion .. ends-found      each way to fail
--     clean-filed, found-filed                 the two ways to pass
--     Passed, passed_none, passed_more, one_fails, all_pass     report after report
use Prim.Native.Nat.{ℕ, ◌+◌, ◌≤◌, ◌<◌}
use native.Mathlib.Omega.{arith}
use mathlib.Core.Path.{◌≡◌, refl, sym, ◌∙◌, ap}
use mathlib.Core.Logic.{inl, inr}
use mathlib.Core.Bool.{Bool, true, false, not}
use mathlib.Core.List.{List}
use borrow.Author.Tests.{not-true, not-false}
use Rattle.basics.specs.Folds.{some, up_to}
use Rattle.basics.proofs.Folds.{some_at, none_more}
use Rattle.filed_reports.specs.declared.Report.{Report}
use Rattle.filed_reports.specs.Bytes.{all_ones, report_at, report_count}
use Rattle.filed_reports.specs.Filed.{misfiled, any_misfiled, Filed, Misfiled}
use Rattle.filed_reports.proofs.Filed.{misfiled-exactly, filed-exactly}

module _ (all : ℕ → ℕ) (notion order : ℕ) (r : Report) where
  abbrev No : Type 0
  No = false ≡ not (misfiled all notion order r)

  says_no : Misfiled all notion order r → No
  says_no m = ap not (sym ((misfiled-exactly all notion order r).1 m))

  pub other_notion : (r.notion ≡ notion → ⊥) → No
  other_notion d = says_no (inl d)

  pub no_size : r.size < 1 → No
  no_size h = says_no (inr (inl (inl h)))

  pub large_size : order < r.size → No
  large_size h = says_no (inr (inl (inr h)))

  pub filled : (r.filling ≡ 0 → ⊥) → No
  filled d = says_no (inr (inr (inl d)))

  pub falls : r.to < r.from → No
  falls h = says_no (inr (inr (inr (inl (inl h)))))

  pub past_all : (n : ℕ) → n ≡ all r.size → n < r.to → No
  past_all n e h = says_no (inr (inr (inr (inl (inr (omega (arith, e, h)))))))

  pub found_below : (r.found ≡ all_ones → ⊥) → r.found < r.from → No
  found_below d h = says_no (inr (inr (inr (inr (d, inl h)))))

  pub found-above : (r.found ≡ all_ones → ⊥) → r.to ≤ r.found → No
  found-above d h = says_no (inr (inr (inr (inr (d, inr h)))))

  says_yes_lem : Filed all notion order r → true ≡ not (misfiled all notion order r)
  says_yes_lem f = go (misfiled all notion order r) refl
    where
      go : (b : Bool) → misfiled all notion order r ≡ b → true ≡ not b
      go true e = absurd ((filed-exactly all notion order r).1 f ((misfiled-exactly all notion order r).0 e))
      go false e = refl

  module _ (n : ℕ) (same : r.notion ≡ notion) (low : 1 ≤ r.size) (high : r.size ≤ order) (blank : r.filling ≡ 0) (rises : r.from ≤ r.to)
      (counted : n ≡ all r.size) (ends : r.to ≤ n) where
    passes : ((r.found ≡ all_ones → ⊥) → (r.from ≤ r.found) × (r.found < r.to)) → true ≡ not (misfiled all notion order r)
    passes inside =
        says_yes_lem (record { same = same; low = low; high = high; blank = blank; rises = rises; ends = omega (arith, counted, ends); inside = inside })

    pub clean-filed : r.found ≡ all_ones → true ≡ not (misfiled all notion order r)
    clean-filed e = passes (λ d. absurd (d e))

    pub found-filed : r.from ≤ r.found → r.found < r.to → true ≡ not (misfiled all notion order r)
    found-filed a b = passes (λ d. (a, b))

-- ---- all reports of a list

module _ (all : ℕ → ℕ) (notion order : ℕ) (reports : List ℕ) where
  abbrev wrong : ℕ → Bool
  wrong i = misfiled all notion order (report_at reports i)

  -- no report before one is misfiled
  pub record Passed (i : ℕ) : Type 0 where
    pub none : some wrong (up_to i) ≡ false

  pub passed_none : Passed 0
  unfolding up_to
  passed_none = record { none = refl }

  told : (i : ℕ) (r : Report) (b : Bool) → r ≡ report_at reports i → b ≡ not (misfiled all notion order r) → b ≡ not (wrong i)
  told i r b e f = f ∙ ap (λ (x : Report). not (misfiled all notion order x)) e

  pub passed_more : (i : ℕ) (r : Report) (b : Bool) → Passed i → r ≡ report_at reports i → b ≡ not (misfiled all notion order r) → b ≡ true → Passed (i + 1)
  passed_more i r b p e f g = record { none = none_more i wrong p.none (not-true (wrong i) (sym (told i r b e f) ∙ g)) }

  pub one_fails : (i : ℕ) (r : Report) (b : Bool) → i < report_count reports → r ≡ report_at reports i → b ≡ not (misfiled all notion order r) → b ≡ false
      → false ≡ not (any_misfiled all notion order reports)
  unfolding any_misfiled
  one_fails i r b h e f g = ap not (sym (some_at (report_count reports) i wrong h (not-false (wrong i) (sym (told i r b e f) ∙ g))))

  pub all_pass : (i : ℕ) → Passed i → i ≡ report_count reports → true ≡ not (any_misfiled all notion order reports)
  unfolding any_misfiled
  all_pass i p e = ap not (sym (ap (λ (k : ℕ). some wrong (up_to k)) (sym e) ∙ p.none))
