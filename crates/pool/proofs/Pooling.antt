-- The pool's answers, path by path.
--     promised                     the whole of the promise follows from its equation
--     Passed, bytes, order_small, findable     the first tests passed, and what the tests of the reports ask then
--     false_decided                the test over all bits of a record finds what the gadget's shares and masks give
--     find_false, found_first, first_missing, none_missing     the answers
use Prim.Native.Nat.{ℕ, ◌%◌, ◌≤◌, ◌<◌}
use native.Mathlib.Nat.{le_trans}
use native.Mathlib.Omega.{arith}
use mathlib.Core.Path.{◌≡◌, sym, ◌∙◌, ap, ap₂}
use mathlib.Core.Bool.{Bool, true, false, cond, not, ◌&&◌, ◌||◌, true≢false}
use mathlib.Core.List.{List}
use borrow.Author.Tests.{le-leb, lt-ltb, eq-eqb, not-true, not-false}
use lib.ListN.{length}
use Rattle.std.specs.Prelude.{Result, Ok}
use Rattle.limits.specs.Limits.{max_shares, max_masks, max_size, max_table_bytes}
use Rattle.basics.specs.Told.{Told, refusal}
use Rattle.basics.proofs.Folds.{fold-below}
use Rattle.basics.proofs.Numbers.{alike}
use Rattle.wires.specs.declared.Notion.{Notion}
use Rattle.records.specs.Layout.{wire_count}
use Rattle.counts.specs.Counts.{binom}
use Rattle.revolving.specs.Order.{set_at}
use Rattle.revolving.proofs.Revolving.{set_at-is-set}
use Rattle.breaking.specs.Breaking.{is_breaking}
use Rattle.filed_reports.specs.Bytes.{report_bytes, all_ones, report_at, report_count}
use Rattle.filed_reports.specs.Filed.{is_clean, any_misfiled, covered, reported, Filed}
use Rattle.filed_reports.specs.Places.{NoPlace, FirstPlace}
use Rattle.filed_reports.proofs.Filed.{any-misfiled, filed-exactly}
use Rattle.finds.specs.Finds.{false_find, any_false, Findable}
use Rattle.verdict_answers.specs.Answers.{wrong_order, notion_of}
use Rattle.opening.specs.Opening.{opened_told, opens}
use Rattle.opening.proofs.Admitting.{opened_for, short, opened-answer}
use Rattle.opening.proofs.Deciding.{decided}
use Rattle.pool_answers.specs.declared.Refusal.{Refusal}
use Rattle.pool_answers.specs.declared.Outcome.{Outcome}
use Rattle.pool_answers.specs.Answers.{holds_told, broken_told, uncovered_told, pool_told, wrong_list, pooled, pool_of}
use Rattle.pool_answers.specs.Says.{PoolSays}
use Rattle.pool_answers.specs.Agrees.{PoolAgrees}
use Rattle.pool_answers.proofs.Telling.{pooled-broken, pooled-uncovered, pooled-holds}
use Rattle.pool_answers.proofs.Saying.{pool_says}
use Rattle.pool_answers.proofs.Agreeing.{pool_agrees}

pub promised : (table : List ℕ) (shares masks notion order : ℕ) (reports : List ℕ) (answer : Result Outcome Refusal)
    → pool_told answer ≡ pool_of table shares masks notion order reports
    → (pool_told answer ≡ pool_of table shares masks notion order reports)
    × (PoolSays answer table shares masks notion order reports × PoolAgrees answer table shares masks notion order reports)
promised table shares masks notion order reports answer e =
    (e, (pool_says table shares masks notion order reports answer e, pool_agrees table shares masks notion order reports answer e))

-- the tests of a verdict passed
pub record Passed (table : List ℕ) (shares masks notion order : ℕ) (kind : Notion) : Type 0 where
  pub told : opened_told (Ok kind) ≡ opens table shares masks notion
  pub low : 1 ≤ order
  pub high : order < shares

module _ (table : List ℕ) (shares masks notion order : ℕ) (reports : List ℕ) (kind : Notion) (p : Passed table shares masks notion order kind) where
  pub bytes : length table ≤ max_table_bytes
  bytes = short table shares masks notion kind p.told

  order_small : order ≤ max_size
  order_small = omega (arith, p.high, (opened_for table shares masks notion kind p.told).sound.high)

  abbrev all : ℕ
  all = wire_count table

  abbrev misfiling : Bool
  misfiling = any_misfiled (binom all) notion order reports

  abbrev wide : List ℕ → Bool
  wide = is_breaking kind table max_shares max_masks

  abbrev narrow : List ℕ → Bool
  narrow = is_breaking (notion_of notion) table shares masks

  abbrev result : Told
  result = pool_of table shares masks notion order reports

  -- where the tests of a verdict passed, what the tests of the list tell
  of_list : cond (wrong_list table notion order reports) (refusal 25) (cond (any_false narrow all reports) (refusal 26) (pooled all order reports)) ≡ result
  of_list =
      let o = opened_for table shares masks notion kind p.told in
      ap (λ (b : Bool). cond b (refusal 15) (cond (wrong_list table notion order reports) (refusal 25) (cond (any_false narrow all reports) (refusal 26) (pooled all order reports))))
      (sym right)
      ∙ sym (opened-answer table shares masks notion refusal _ o.sound o.known)
    where
      right : wrong_order shares order ≡ false
      right = simp (le-leb 1 order p.low, lt-ltb order shares p.high)

  module _ (whole : length reports % report_bytes ≡ 0) where
    module _ (b : Bool) (tested : b ≡ not (any_misfiled (binom (wire_count table)) notion order reports)) (passes : b ≡ true) where
      pub none-misfiled : any_misfiled (binom (wire_count table)) notion order reports ≡ false
      none-misfiled = not-true misfiling (sym tested ∙ passes)

      filed : (i : ℕ) → i < report_count reports → Filed (binom all) notion order (report_at reports i)
      filed i h = (filed-exactly (binom all) notion order (report_at reports i)).0
          (λ m. true≢false (sym ((any-misfiled (binom all) notion order reports).1 (i, h, m)) ∙ none-misfiled))

      pub findable : Findable (wire_count table) reports
      findable = record {
        small = λ i h d. le_trans (filed i h).high order_small;
        counted = λ i h d. let f = filed i h in let inside = f.inside d in omega (arith, inside.1, f.ends);
      }

      false_decided : any_false wide all reports ≡ any_false narrow all reports
      unfolding any_false
      false_decided = fold-below ◌||◌ false (report_count reports) (λ i. false_find wide all (report_at reports i)) (λ i. false_find narrow all (report_at reports i)) same
        where
          same : (i : ℕ) → i < report_count reports → false_find wide all (report_at reports i) ≡ false_find narrow all (report_at reports i)
          same i h = go (alike (report_at reports i).found all_ones)
            where
              set : List ℕ
              set = set_at all (report_at reports i).size (report_at reports i).found

              go : Dec ((report_at reports i).found ≡ all_ones) → false_find wide all (report_at reports i) ≡ false_find narrow all (report_at reports i)
              go (yes e) =
                  ap (λ (x : Bool). not x && not (wide set)) (eq-eqb (report_at reports i).found all_ones e)
                  ∙ sym (ap (λ (x : Bool). not x && not (narrow set)) (eq-eqb (report_at reports i).found all_ones e))
              go (no d) = ap (λ (x : Bool). not (is_clean (report_at reports i)) && not x)
                  (decided table shares masks notion kind (opened_for table shares masks notion kind p.told) (report_at reports i).size set
                  (set_at-is-set all (report_at reports i).size (report_at reports i).found (findable.counted i h d)))

      module _ (c : Bool) (looked : c ≡ not (any_false (is_breaking kind table max_shares max_masks) (wire_count table) reports)) where
        by_finds : (d : Bool) → any_false wide all reports ≡ d → cond d (refusal 26) (pooled all order reports) ≡ result
        by_finds d e =
            ap (λ (x : Bool). cond x (refusal 26) (pooled all order reports)) (sym e ∙ false_decided)
            ∙ ap (λ (x : Bool). cond x (refusal 25) (cond (any_false narrow all reports) (refusal 26) (pooled all order reports))) (sym right) ∙ of_list
          where
            right : wrong_list table notion order reports ≡ false
            right = ap₂ (λ (x y : Bool). not x || y) (eq-eqb (length reports % report_bytes) 0 whole) none-misfiled

        pub find_false : c ≡ false → refusal 26 ≡ pool_of table shares masks notion order reports
        find_false f = by_finds true (not-false (any_false wide all reports) (sym looked ∙ f))

        module _ (break : c ≡ true) where
          answer : pooled all order reports ≡ result
          answer = by_finds false (not-true (any_false wide all reports) (sym looked ∙ break))

          pub found_first : (size rank : ℕ) → FirstPlace (binom (wire_count table)) (reported reports) order size rank
              → broken_told size rank ≡ pool_of table shares masks notion order reports
          found_first size rank first = sym (pooled-broken all order reports size rank first) ∙ answer

          module _ (none : NoPlace (binom (wire_count table)) (reported reports) order) where
            pub first_missing : (size rank : ℕ) → FirstPlace (binom (wire_count table)) (λ size rank. not (covered reports size rank)) order size rank
                → uncovered_told size rank ≡ pool_of table shares masks notion order reports
            first_missing size rank next = sym (pooled-uncovered all order reports none size rank next) ∙ answer

            pub none_missing : NoPlace (binom (wire_count table)) (λ size rank. not (covered reports size rank)) order
                → holds_told ≡ pool_of table shares masks notion order reports
            none_missing next = sym (pooled-holds all order reports none next) ∙ answer
