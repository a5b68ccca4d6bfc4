-- What is filed, and that a pool takes it.
--     Writes                      a range check's answer with its found rank, and a report that the largest pool takes
--     filed-fits                  what is filed is read as it was written
--     Written, NotWritten, file_either, is-written     it is written, or nothing is
--     writes_only                 by one found rank
--     writes_stands               such a report exists exactly where the numbers could stand in some report
--     filing_settled              which call gets which number
--     filing_means                what the code's answer says
use Prim.Native.Nat.{ℕ, ◌^◌, ◌<◌}
use native.Mathlib.Nat.{le_refl, le_trans}
use native.Mathlib.Omega.{arith}
use mathlib.Core.Path.{◌≡◌, refl, sym, ◌∙◌, ap, subst}
use mathlib.Core.Logic.{◌↔◌, ◌⊎◌, inl, inr, ⊎_elim}
use mathlib.Core.Bool.{Bool, true, false, cond, not, ◌||◌, true≢false}
use mathlib.Core.List.{List, []}
use borrow.Author.Tests.{eq-eqb, ne_eqb}
use lib.Dec.{eqb}
use lib.ListN.{length}
use Rattle.std.specs.Prelude.{Result, Ok, Err}
use Rattle.basics.proofs.Tests.{failed}
use Rattle.limits.specs.Limits.{max_wires, max_size}
use Rattle.basics.specs.Told.{Lent, values, refusal, turned_down}
use Rattle.basics.specs.Conditions.{SettlesLent}
use Rattle.basics.proofs.Conditions.{equal, neither, one_of, values-refusal}
use Rattle.basics.proofs.Numbers.{alike}
use Rattle.counts.specs.Counts.{binom}
use Rattle.counts.proofs.Binomial.{largest, counts_fit, binom_wider}
use Rattle.filed_reports.specs.declared.Report.{Report}
use Rattle.filed_reports.specs.Bytes.{report_bytes, all_ones, report_at, bytes_of_report}
use Rattle.filed_reports.specs.Filed.{misfiled, Filed, Misfiled}
use Rattle.filed_reports.proofs.Bytes.{Fits, read-written}
use Rattle.filed_reports.proofs.Filed.{misfiled-exactly, filed-exactly}
use Rattle.verdict_answers.specs.declared.Checked.{Checked}
use Rattle.verdict_answers.specs.declared.Refusal as verdict-refusal
use Rattle.verdict_answers.specs.Answers.{wrong_notion}
use Rattle.verdict_answers.specs.Conditions.{WrongNotion}
use Rattle.pool_answers.specs.declared.Refusal.{Refusal}
use Rattle.pool_answers.specs.Answers.{refusal_number, report_of, written, filing_told, filed_as, between, answer_filed, filed_report}
use Rattle.pool_answers.specs.Conditions.{Answered, CouldStand, filing_conditions}
use Rattle.pool_answers.specs.Says.{FilingMeans}
use Rattle.pool_answers.proofs.Tests.{between-exactly}

-- ---- a report of which only the found rank is left open

wrong_notion_lem : (notion : ℕ) → (wrong_notion notion ≡ true) ↔ WrongNotion notion
wrong_notion_lem notion = neither (equal notion 1) (equal notion 2)

pub record Fileable (r : Report) : Type 0 where
  pub known : WrongNotion r.notion → ⊥
  pub filed : Filed (binom max_wires) r.notion max_size r

module _ (r : Report) where
  abbrev wrong : Bool
  wrong = wrong_notion r.notion || misfiled (binom max_wires) r.notion max_size r

  decides : (wrong ≡ true) ↔ (WrongNotion r.notion ⊎ Misfiled (binom max_wires) r.notion max_size r)
  decides = one_of (wrong_notion_lem r.notion) (misfiled-exactly (binom max_wires) r.notion max_size r)

  fileable_exactly : (wrong ≡ false) ↔ Fileable r
  fileable_exactly = (
    λ e. record {
      known = λ w. true≢false (sym (decides.1 (inl w)) ∙ e);
      filed = (filed-exactly (binom max_wires) r.notion max_size r).0 (λ m. true≢false (sym (decides.1 (inr m)) ∙ e));
    },
    λ f. failed wrong (λ t. ⊎_elim f.known ((filed-exactly (binom max_wires) r.notion max_size r).1 f.filed) (decides.0 t)),
  )

  pub filed_yes : (buffer : List ℕ) → Fileable r → filed_as r buffer ≡ written r
  filed_yes buffer f = ap (λ (b : Bool). cond b (turned_down 25 buffer) (written r)) (fileable_exactly.1 f)

  pub filed_no : (buffer : List ℕ) → (Fileable r → ⊥) → filed_as r buffer ≡ turned_down 25 buffer
  filed_no buffer n = go wrong refl
    where
      go : (b : Bool) → wrong ≡ b → cond b (turned_down 25 buffer) (written r) ≡ turned_down 25 buffer
      go true e = refl
      go false e = absurd (n (fileable_exactly.0 e))

  pub fileable_or_not : Dec (Fileable r)
  fileable_or_not = go wrong refl
    where
      go : (b : Bool) → wrong ≡ b → Dec (Fileable r)
      go true e = no (λ f. true≢false (sym e ∙ fileable_exactly.1 f))
      go false e = yes (fileable_exactly.0 e)

-- ---- it is read as it was written

pub filed-fits : (r : Report) → Fileable r → Fits r
filed-fits r f =
    let most : binom max_wires r.size < largest = counts_fit max_wires r.size (le_refl max_wires) f.filed.high in
    record {
      notion = notion (alike r.notion 1) (alike r.notion 2);
      size = omega (arith, f.filed.high);
      filling = let z = f.filed.blank in omega (arith, z);
      from = omega (arith, f.filed.rises, f.filed.ends, most);
      to = omega (arith, f.filed.ends, most);
      found = found most (alike r.found all_ones);
    }
  where
    notion : Dec (r.notion ≡ 1) → Dec (r.notion ≡ 2) → r.notion < 256
    notion (yes e) x = omega (arith, e)
    notion (no d) (yes e) = omega (arith, e)
    notion (no d) (no e) = absurd (f.known (d, e))

    found : binom max_wires r.size < largest → Dec (r.found ≡ all_ones) → r.found < 256 ^ 8
    found most (yes e) = omega (arith, e)
    found most (no d) = let inside = f.filed.inside d in omega (arith, inside.1, f.filed.ends, most)

-- ---- of an answer

module _ (notion size from to : ℕ) where
  pub record Writes (answer : Result Checked verdict-refusal.Refusal) : Type 0 where
    pub found : ℕ
    pub answered : Answered size from to answer found
    pub fileable : Fileable (report_of notion size from to found)

  -- the report is written, or nothing is
  abbrev Told : Result Checked verdict-refusal.Refusal → List ℕ → Lent → Type 0
  Told answer buffer told =
      ((w : Writes answer) × (told ≡ written (report_of notion size from to w.found))) ⊎ ((Writes answer → ⊥) × (told ≡ turned_down 25 buffer))

  file_told : (answer : Result Checked verdict-refusal.Refusal) (found : ℕ) (buffer : List ℕ) → Answered size from to answer found
      → ((w : Writes answer) → w.found ≡ found) → Told answer buffer (filed_as (report_of notion size from to found) buffer)
  file_told answer found buffer a only = go (fileable_or_not (report_of notion size from to found))
    where
      go : Dec (Fileable (report_of notion size from to found)) → Told answer buffer (filed_as (report_of notion size from to found) buffer)
      go (yes f) = inl (record { found = found; answered = a; fileable = f }, filed_yes (report_of notion size from to found) buffer f)
      go (no d) = inr (
        λ w. d (subst (λ (i : ℕ). Fileable (report_of notion size from to i)) (only w) w.fileable),
        filed_no (report_of notion size from to found) buffer d,
      )

  answer-told : (answer : Result Checked verdict-refusal.Refusal) (buffer : List ℕ) → Told answer buffer (answer_filed notion size from to answer buffer)
  answer-told (Ok Checked.Clean) buffer = file_told (Ok Checked.Clean) all_ones buffer refl (λ w. w.answered)
  answer-told (Ok (Checked.Found k rank)) buffer = go (between size from to k rank) refl
    where
      go : (b : Bool) → between size from to k rank ≡ b
          → Told (Ok (Checked.Found k rank)) buffer (cond (not b) (turned_down 25 buffer) (filed_as (report_of notion size from to rank) buffer))
      go true e = file_told (Ok (Checked.Found k rank)) rank buffer ((between-exactly size from to k rank).0 e) (λ w. w.answered.3)
      go false e = inr (
        λ w. let a = w.answered in true≢false (sym ((between-exactly size from to k rank).1 (a.0, a.1, a.2, refl)) ∙ e),
        refl,
      )
  answer-told (Err why) buffer = inr (λ w. w.answered, refl)

  abbrev pub Written : Result Checked verdict-refusal.Refusal → List ℕ → Type 0
  Written answer buffer = (w : Writes answer) × (length buffer ≡ report_bytes)
      × (filed_report notion size from to answer buffer ≡ written (report_of notion size from to w.found))

  abbrev pub NotWritten : Result Checked verdict-refusal.Refusal → List ℕ → Type 0
  NotWritten answer buffer =
      ((length buffer ≡ report_bytes → ⊥) ⊎ (Writes answer → ⊥)) × (filed_report notion size from to answer buffer ≡ turned_down 25 buffer)

  -- which of the two it is
  pub file_either : (answer : Result Checked verdict-refusal.Refusal) (buffer : List ℕ)
      → Written answer buffer ⊎ NotWritten answer buffer
  file_either answer buffer = go (alike (length buffer) report_bytes) (answer-told answer buffer)
    where
      long : (b : Bool) → eqb (length buffer) report_bytes ≡ b
          → filed_report notion size from to answer buffer ≡ cond (not b) (turned_down 25 buffer) (answer_filed notion size from to answer buffer)
      long b e = ap (λ (x : Bool). cond (not x) (turned_down 25 buffer) (answer_filed notion size from to answer buffer)) e

      go : Dec (length buffer ≡ report_bytes) → Told answer buffer (answer_filed notion size from to answer buffer)
          → Written answer buffer ⊎ NotWritten answer buffer
      go (no d) t = inr (inl d, long false (ne_eqb (length buffer) report_bytes d))
      go (yes e) (inl w) = inl (w.0, e, long true (eq-eqb (length buffer) report_bytes e) ∙ w.1)
      go (yes e) (inr n) = inr (inr n.0, long true (eq-eqb (length buffer) report_bytes e) ∙ n.1)

  pub is-written : (answer : Result Checked verdict-refusal.Refusal) (buffer bytes : List ℕ) → filed_report notion size from to answer buffer ≡ record { told = values []; held = bytes }
      → (w : Writes answer) × (bytes ≡ bytes_of_report (report_of notion size from to w.found))
  is-written answer buffer bytes e = go (file_either answer buffer)
    where
      go : Written answer buffer ⊎ NotWritten answer buffer
          → (w : Writes answer) × (bytes ≡ bytes_of_report (report_of notion size from to w.found))
      go (inl w) = (w.0, ap (λ (a : Lent). a.held) (sym e ∙ w.2))
      go (inr n) = absurd (values-refusal [] 25 (ap (λ (a : Lent). a.told) (sym e ∙ n.1)))

  -- a range check's answer has one found rank
  pub writes_only : (answer : Result Checked verdict-refusal.Refusal) (v w : Writes answer) → v.found ≡ w.found
  writes_only (Ok Checked.Clean) v w = v.answered ∙ sym w.answered
  writes_only (Ok (Checked.Found k rank)) v w = v.answered.3 ∙ sym w.answered.3
  writes_only (Err why) v w = absurd v.answered

  -- ---- where the numbers could stand in some report

  pub writes_stands : (answer : Result Checked verdict-refusal.Refusal) → Writes answer ↔ CouldStand notion size from to answer
  writes_stands answer = (
    λ w. record {
      found = w.found;
      answered = w.answered;
      wires = max_wires;
      few = le_refl max_wires;
      order = max_size;
      small = le_refl max_size;
      known = w.fileable.known;
      filed = w.fileable.filed;
    },
    λ s. record {
      found = s.found;
      answered = s.answered;
      fileable = record {
        known = s.known;
        filed = record {
          same = refl;
          low = s.filed.low;
          high = le_trans s.filed.high s.small;
          blank = refl;
          rises = s.filed.rises;
          ends = le_trans s.filed.ends (binom_wider s.wires max_wires size s.few);
          inside = s.filed.inside;
        };
      };
    },
  )

  pub filing_settled : (answer : Result Checked verdict-refusal.Refusal) (buffer : List ℕ)
      → SettlesLent (filing_conditions notion size from to answer buffer) buffer (filed_report notion size from to answer buffer)
  filing_settled answer buffer = go (file_either answer buffer)
    where
      Wrong : Type 0
      Wrong = (length buffer ≡ report_bytes → ⊥) ⊎ (CouldStand notion size from to answer → ⊥)

      go : Written answer buffer ⊎ NotWritten answer buffer
          → SettlesLent (filing_conditions notion size from to answer buffer) buffer (filed_report notion size from to answer buffer)
      go (inl w) =
          let told = ap (λ (a : Lent). a.told) w.2 in
          let right : Wrong → ⊥ = ⊎_elim (λ d. d w.1) (λ d. d ((writes_stands answer).0 w.0)) in record {
            settles = record {
              refused = λ k. (λ e. absurd (values-refusal [] k (sym told ∙ e)), ⊎_elim (λ f. absurd (right f.0)) (λ f. absurd f.1));
              answered = (λ t. (right, tt), λ none. ([], told));
            };
            kept = λ k e. absurd (values-refusal [] k (sym told ∙ e));
          }
      go (inr n) =
          let told = ap (λ (a : Lent). a.told) n.1 in
          let wrong : Wrong = ⊎_elim (λ d. inl d) (λ d. inr (λ s. d ((writes_stands answer).1 s))) n.0 in record {
            settles = record {
              refused = λ k. (
                λ e. let same = sym told ∙ e in let number : 25 ≡ k = cc in inl (wrong, number),
                ⊎_elim (λ f. told ∙ ap refusal f.1) (λ f. absurd f.1),
              );
              answered = (λ t. absurd (values-refusal t.0 25 (sym t.1 ∙ told)), λ none. absurd (none.0 wrong));
            };
            kept = λ k e. ap (λ (a : Lent). a.held) n.1;
          }

  -- what the code's answer says
  pub filing_means : (answer : Result Checked verdict-refusal.Refusal) (buffer : List ℕ) (told : Result (Unit {0}) Refusal) (held : List ℕ)
      → filing_told told held ≡ filed_report notion size from to answer buffer → FilingMeans told notion size from to answer buffer held
  filing_means answer buffer (Ok done) held e =
      let w = is-written answer buffer held (sym e) in
      let r = report_of notion size from to w.0.found in
      record {
        files-exactly = (λ same. (long (file_either answer buffer), (writes_stands answer).0 w.0), λ h. refl);
        written = λ same. (
          ap length w.1,
          (w.0.found, w.0.answered, ap (λ (l : List ℕ). report_at l 0) w.1 ∙ read-written r (filed-fits r w.0.fileable)),
        );
        refused = λ why same. let z : ◌≡◌ {A = ℕ} 0 1 = cc in absurd (absurd_one z);
      }
    where
      absurd_one : ◌≡◌ {A = ℕ} 0 1 → ⊥
      absurd_one z = omega (arith, z)

      long : Written answer buffer ⊎ NotWritten answer buffer → length buffer ≡ report_bytes
      long (inl w) = w.1
      long (inr n) = absurd (values-refusal [] 25 (ap (λ (a : Lent). a.told) (e ∙ n.1)))
  filing_means answer buffer (Err why) held e = go (file_either answer buffer)
    where
      absurd_one : ◌≡◌ {A = ℕ} 0 1 → ⊥
      absurd_one z = omega (arith, z)

      go : Written answer buffer ⊎ NotWritten answer buffer → FilingMeans (Err why) notion size from to answer buffer held
      go (inl w) = absurd (values-refusal [] (refusal_number why) (ap (λ (a : Lent). a.told) (sym w.2 ∙ sym e)))
      go (inr n) = record {
        files-exactly = (
          λ same. let z : ◌≡◌ {A = ℕ} 0 1 = cc in absurd (absurd_one z),
          λ h. absurd (⊎_elim (λ d. d h.0) (λ d. d ((writes_stands answer).1 h.1)) n.0),
        );
        written = λ same. let z : ◌≡◌ {A = ℕ} 0 1 = cc in absurd (absurd_one z);
        refused = λ other same. ap (λ (a : Lent). a.held) (e ∙ n.1);
      }
