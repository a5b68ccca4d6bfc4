-- The answers of the writing of a report, path by path.
--     notion_low, notion_high, not_taken, taken       of a report with its found rank
--     both_are                     what it answered, from its two patterns
--     wrong_length_lem, refused-answer, other_size, found-low, found-high, clean-filed, found-filed     of what a range check answered
--     promised                     the whole of the promise follows from its equation
use Prim.Native.Nat.{ℕ, ◌≤◌, ◌<◌}
use native.Mathlib.Omega.{arith}
use mathlib.Core.Path.{◌≡◌, sym, ◌∙◌, ap}
use mathlib.Core.Bool.{Bool, true, false, cond, not, ◌&&◌, true≢false, and-false}
use mathlib.Core.List.{List, []}
use borrow.Author.Tests.{eq-eqb, ne_eqb, le-leb, lt-leb, lt-ltb, le-ltb, not-true, not-false}
use lib.Dec.{eqb, leb, ltb}
use lib.ListN.{length}
use Rattle.std.specs.Prelude.{Result, Ok, Err}
use Rattle.limits.specs.Limits.{max_wires, max_size}
use Rattle.basics.specs.Told.{Lent, values, turned_down}
use Rattle.counts.specs.Counts.{binom}
use Rattle.filed_reports.specs.declared.Report.{Report}
use Rattle.filed_reports.specs.Bytes.{report_bytes, all_ones, bytes_of_report}
use Rattle.filed_reports.specs.Filed.{misfiled}
use Rattle.filed_reports.proofs.Filed.{misfiled-exactly, filed-exactly}
use Rattle.verdict_answers.specs.declared.Refusal.{Refusal}
use Rattle.verdict_answers.specs.declared.Checked.{Checked}
use Rattle.pool_answers.specs.declared.Refusal as pool-refusal
use Rattle.pool_answers.specs.Answers.{report_of, filing_told, filed_as, between, answer_filed, filed_report}
use Rattle.pool_answers.specs.Says.{FilingMeans}
use Rattle.pool_answers.proofs.Filing.{filed_yes, filed_no, filing_means}

module _ (notion size from to found : ℕ) (buffer : List ℕ) where
  abbrev r : Report
  r = report_of notion size from to found

  pub notion_low : notion < 1 → turned_down 25 buffer ≡ filed_as (report_of notion size from to found) buffer
  notion_low h = sym (filed_no r buffer (λ f. f.known (λ e. omega (arith, h, e), λ e. omega (arith, h, e))))

  pub notion_high : 2 < notion → turned_down 25 buffer ≡ filed_as (report_of notion size from to found) buffer
  notion_high h = sym (filed_no r buffer (λ f. f.known (λ e. omega (arith, h, e), λ e. omega (arith, h, e))))

  module _ (b : Bool) (tested : b ≡ not (misfiled (binom max_wires) notion max_size (report_of notion size from to found))) where
    pub not_taken : b ≡ false → turned_down 25 buffer ≡ filed_as (report_of notion size from to found) buffer
    not_taken e = sym (filed_no r buffer (λ f. (filed-exactly (binom max_wires) notion max_size r).1 f.filed
        ((misfiled-exactly (binom max_wires) notion max_size r).0 (not-false (misfiled (binom max_wires) notion max_size r) (sym tested ∙ e)))))

    pub taken : 1 ≤ notion → notion ≤ 2 → b ≡ true → (held : List ℕ) → held ≡ bytes_of_report (report_of notion size from to found)
        → ◌≡◌ {A = Lent} (record { told = values []; held = held }) (filed_as (report_of notion size from to found) buffer)
    taken low high e held wrote =
        ap (λ (l : List ℕ). record { told = values []; held = l }) wrote ∙ sym (filed_yes r buffer (record {
          known = λ w. other w;
          filed = (filed-exactly (binom max_wires) notion max_size r).0
              (λ m. true≢false (sym ((misfiled-exactly (binom max_wires) notion max_size r).1 m)
              ∙ not-true (misfiled (binom max_wires) notion max_size r) (sym tested ∙ e)));
        }))
      where
        other : (notion ≡ 1 → ⊥) × (notion ≡ 2 → ⊥) → ⊥
        other w = omega (arith, low, high, w.0, w.1)

-- ---- of what a range check answered

pub both_are : {answer : Result Checked Refusal} {x y : Checked} → answer ≡ Ok x → x ≡ y → answer ≡ Ok y
both_are e f = e ∙ ap {B = Result Checked Refusal} (λ (c : Checked). Ok c) f

module _ (notion size from to : ℕ) (answer : Result Checked Refusal) (buffer : List ℕ) where
  abbrev told : Lent
  told = filed_report notion size from to answer buffer

  pub wrong_length_lem : (length buffer ≡ report_bytes → ⊥) → turned_down 25 buffer ≡ filed_report notion size from to answer buffer
  wrong_length_lem d =
      sym (ap (λ (b : Bool). cond (not b) (turned_down 25 buffer) (answer_filed notion size from to answer buffer)) (ne_eqb (length buffer) report_bytes d))

  module _ (long : length buffer ≡ report_bytes) where
    rest : (a : Result Checked Refusal) → answer ≡ a → answer_filed notion size from to a buffer ≡ told
    rest a e =
        ap (λ (x : Result Checked Refusal). answer_filed notion size from to x buffer) (sym e)
        ∙ sym (ap (λ (b : Bool). cond (not b) (turned_down 25 buffer) (answer_filed notion size from to answer buffer)) (eq-eqb (length buffer) report_bytes long))

    pub refused-answer : (why : Refusal) → answer ≡ Err why → turned_down 25 buffer ≡ filed_report notion size from to answer buffer
    refused-answer why e = rest (Err why) e

    pub clean-filed : answer ≡ Ok Checked.Clean → (l : Lent) → l ≡ filed_as (report_of notion size from to all_ones) buffer
        → l ≡ filed_report notion size from to answer buffer
    clean-filed e l f = f ∙ rest (Ok Checked.Clean) e

    module _ (k rank : ℕ) (e : answer ≡ Ok (Checked.Found k rank)) where
      by : (b : Bool) → between size from to k rank ≡ b
          → cond (not b) (turned_down 25 buffer) (filed_as (report_of notion size from to rank) buffer) ≡ told
      by b f =
          ap (λ (x : Bool). cond (not x) (turned_down 25 buffer) (filed_as (report_of notion size from to rank) buffer)) (sym f)
          ∙ rest (Ok (Checked.Found k rank)) e

      pub other_size : (k ≡ size → ⊥) → turned_down 25 buffer ≡ filed_report notion size from to answer buffer
      other_size d = by false (ap (λ (b : Bool). b && (leb from rank && ltb rank to)) (ne_eqb k size d))

      pub found-low : rank < from → turned_down 25 buffer ≡ filed_report notion size from to answer buffer
      found-low h = by false (ap (λ (b : Bool). eqb k size && (b && ltb rank to)) (lt-leb from rank h) ∙ and-false (eqb k size))

      pub found-high : to ≤ rank → turned_down 25 buffer ≡ filed_report notion size from to answer buffer
      found-high h = by false (ap (λ (b : Bool). eqb k size && (leb from rank && b)) (le-ltb rank to h)
          ∙ ap (λ (b : Bool). eqb k size && b) (and-false (leb from rank)) ∙ and-false (eqb k size))

      pub found-filed : k ≡ size → from ≤ rank → rank < to → (l : Lent) → l ≡ filed_as (report_of notion size from to rank) buffer
          → l ≡ filed_report notion size from to answer buffer
      found-filed same low high l f =
          f ∙ by true (ap (λ (b : Bool). b && (leb from rank && ltb rank to)) (eq-eqb k size same)
          ∙ ap (λ (b : Bool). b && ltb rank to) (le-leb from rank low) ∙ lt-ltb rank to high)

-- ---- the whole of the promise

pub promised : (notion size from to : ℕ) (answer : Result Checked Refusal) (buffer : List ℕ) (told : Result (Unit {0}) pool-refusal.Refusal) (held : List ℕ)
    → filing_told told held ≡ filed_report notion size from to answer buffer
    → (filing_told told held ≡ filed_report notion size from to answer buffer) × FilingMeans told notion size from to answer buffer held
promised notion size from to answer buffer told held e = (e, filing_means notion size from to answer buffer told held e)
