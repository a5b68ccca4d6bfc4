-- What the tests of a list of reports and of a found rank decide, in the words of the request.
--     wrong_list_lem, false-finds     the tests of a list of reports
--     between-exactly                 that of a found rank: it is what a range check answers
use Prim.Native.Nat.{ℕ}
use mathlib.Core.Path.{◌≡◌, refl, sym}
use mathlib.Core.Logic.Iff
use mathlib.Core.Logic.{◌↔◌}
use mathlib.Core.Bool.{Bool, true, false, not}
use mathlib.Core.List.{List}
use Rattle.std.specs.Prelude.{Ok}
use Rattle.basics.proofs.Conditions.{equal, less, least, fails, both, one_of, some_decides}
use Rattle.records.specs.Layout.{wire_count}
use Rattle.revolving.specs.Order.{set_at}
use Rattle.breaking.specs.Breaking.{is_breaking}
use Rattle.filed_reports.specs.Bytes.{all_ones, report_at, report_count}
use Rattle.filed_reports.proofs.Filed.{any-misfiled}
use Rattle.finds.specs.Finds.{false_find, any_false}
use Rattle.verdict_answers.specs.declared.Checked.{Checked}
use Rattle.verdict_answers.specs.Answers.{notion_of}
use Rattle.pool_answers.specs.Answers.{wrong_list, between}
use Rattle.pool_answers.specs.Conditions.{WrongList, FalseFinds, Answered}

false-exactly : (b : Bool) → (not b ≡ true) ↔ (b ≡ false)
false-exactly true = (λ e. sym e, λ e. sym e)
false-exactly false = (λ e. refl, λ e. refl)

pub wrong_list_lem : (table : List ℕ) (notion order : ℕ) (reports : List ℕ)
    → (wrong_list table notion order reports ≡ true) ↔ WrongList table notion order reports
wrong_list_lem table notion order reports = one_of (fails (equal _ 0)) (any-misfiled _ notion order reports)

pub false-finds : (table : List ℕ) (shares masks notion : ℕ) (reports : List ℕ)
    → (any_false (is_breaking (notion_of notion) table shares masks) (wire_count table) reports ≡ true) ↔ FalseFinds table shares masks notion reports
unfolding any_false
false-finds table shares masks notion reports =
    some_decides (report_count reports) (λ i. false_find (is_breaking (notion_of notion) table shares masks) (wire_count table) (report_at reports i))
    (λ i. both (fails (equal (report_at reports i).found all_ones))
    (false-exactly (is_breaking (notion_of notion) table shares masks (set_at (wire_count table) (report_at reports i).size (report_at reports i).found))))

pub between-exactly : (size from to k rank : ℕ) → (between size from to k rank ≡ true) ↔ Answered size from to (Ok (Checked.Found k rank)) rank
between-exactly size from to k rank =
    Iff.trans (both (equal k size) (both (least from rank) (less rank to))) (λ h. (h.0, h.1.0, h.1.1, refl), λ a. (a.0, (a.1, a.2)))
