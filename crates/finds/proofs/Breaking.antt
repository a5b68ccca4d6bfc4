-- Whether each found rank of a list of reports is that of a set that passes the test.
--     set-asked, set_told_lem              the set that the code looks at is the one at the rank
--     small, counted                   what it asks for a found rank
--     Passed, passed_none, passed_clean, passed_found, one-false, none-false     report after report
use Prim.Native.Nat.{ℕ, ◌+◌, ◌-◌, ◌≤◌, ◌<◌}
use mathlib.Core.Path.{◌≡◌, refl, sym, ◌∙◌, ap, subst}
use mathlib.Core.Bool.{Bool, true, false, not, ◌&&◌}
use mathlib.Core.List.{List, ◌++◌, map}
use borrow.Author.Tests.{eq-eqb, ne_eqb}
use lib.ListN.{take}
use lib.Seq.{take_at}
use Rattle.limits.specs.Limits.{max_shares, max_masks, max_size}
use Rattle.basics.specs.Folds.{some, up_to}
use Rattle.basics.proofs.Folds.{some_at, none_more}
use Rattle.counts.specs.Counts.{binom}
use Rattle.revolving.specs.Order.{set_at, is_set}
use Rattle.revolving.proofs.Rising.{is_set-parts}
use Rattle.revolving.proofs.Revolving.{set_at-is-set}
use Rattle.wires.specs.declared.Notion.{Notion}
use Rattle.wires.specs.Wires.{breaks}
use Rattle.records.specs.Layout.{wire_at, wire_count, inside}
use Rattle.breaking.specs.Breaking.{is_breaking}
use Rattle.running.proofs.Inside.{is-set-inside, part}
use Rattle.filed_reports.specs.declared.Report.{Report}
use Rattle.filed_reports.specs.Bytes.{all_ones, report_at, report_count}
use Rattle.finds.specs.Finds.{false_find, any_false, Findable}

module _ (table : List ℕ) (size rank : ℕ) (held rest : List ℕ) (h : rank < binom (wire_count table) size)
    (e : held ≡ set_at (wire_count table) size rank ++ rest) where
  abbrev set : List ℕ
  set = set_at (wire_count table) size rank

  is-set : is_set (wire_count table) size set ≡ true
  is-set = set_at-is-set (wire_count table) size rank h

  looked : take (size - 0) held ≡ set
  looked =
      part size held ∙ ap (take size) e ∙ take_at set rest size (is_set-parts (wire_count table) size set is-set).0

  pub set-asked : inside table (take (size - 0) held) ≡ true
  set-asked = ap (inside table) looked ∙ is-set-inside table size set is-set

  pub set_told_lem : (notion : Notion) (b : Bool) → b ≡ breaks notion max_shares max_masks (map (wire_at table) (take (size - 0) held))
      → b ≡ is_breaking notion table max_shares max_masks (set_at (wire_count table) size rank)
  unfolding is_breaking
  set_told_lem notion b f = f ∙ ap (λ (l : List ℕ). breaks notion max_shares max_masks (map (wire_at table) l)) looked

-- what the code asks for a found rank
module _ (n : ℕ) (reports : List ℕ) (i : ℕ) (r : Report) (f : Findable n reports) (e : r ≡ report_at reports i) (h : i < report_count reports)
    (d : r.found ≡ all_ones → ⊥) where
  found_there : (report_at reports i).found ≡ all_ones → ⊥
  found_there z = d (ap (λ (x : Report). x.found) e ∙ z)

  pub small : r.size ≤ max_size
  small = subst (λ (x : Report). x.size ≤ max_size) (sym e) (f.small i h found_there)

  pub counted : r.found < binom n r.size
  counted = subst (λ (x : Report). x.found < binom n x.size) (sym e) (f.counted i h found_there)

module _ (test : List ℕ → Bool) (n : ℕ) (reports : List ℕ) where
  abbrev wrong : ℕ → Bool
  wrong i = false_find test n (report_at reports i)

  -- no report before one has a false find
  pub record Passed (i : ℕ) : Type 0 where
    pub none : some wrong (up_to i) ≡ false

  pub passed_none : Passed 0
  unfolding up_to
  passed_none = record { none = refl }

  of_report : (i : ℕ) (r : Report) → r ≡ report_at reports i → false_find test n r ≡ wrong i
  of_report i r e = ap (false_find test n) e

  pub passed_clean : (i : ℕ) (r : Report) → Passed i → r ≡ report_at reports i → r.found ≡ all_ones → Passed (i + 1)
  passed_clean i r p e clean = record { none = none_more i wrong p.none (sym (of_report i r e) ∙ fine) }
    where
      fine : false_find test n r ≡ false
      fine = ap (λ (b : Bool). not b && not (test (set_at n r.size r.found))) (eq-eqb r.found all_ones clean)

  module _ (i : ℕ) (r : Report) (b : Bool) (e : r ≡ report_at reports i) (d : r.found ≡ all_ones → ⊥) (f : b ≡ test (set_at n r.size r.found)) where
    found : (c : Bool) → b ≡ c → wrong i ≡ not c
    found c g =
        sym (of_report i r e)
        ∙ ap (λ (x : Bool). not x && not (test (set_at n r.size r.found))) (ne_eqb r.found all_ones d)
        ∙ ap not (sym f ∙ g)

    pub passed_found : Passed i → b ≡ true → Passed (i + 1)
    passed_found p g = record { none = none_more i wrong p.none (found true g) }

    pub one-false : i < report_count reports → b ≡ false → false ≡ not (any_false test n reports)
    unfolding any_false
    one-false h g = ap not (sym (some_at (report_count reports) i wrong h (found false g)))

  pub none-false : (i : ℕ) → Passed i → i ≡ report_count reports → true ≡ not (any_false test n reports)
  unfolding any_false
  none-false i p e = ap not (sym (ap (λ (k : ℕ). some wrong (up_to k)) (sym e) ∙ p.none))
