-- From the one function to the other.
--     check_filed     what the range check for C wrote is read as what the range check told
--     check_pooled    so its report is filed, and a pool takes it
use Prim.Native.Nat.{ℕ, ◌≤◌, ◌<◌}
use native.Mathlib.Omega.{arith}
use mathlib.Core.Path.{◌≡◌, refl, sym, ◌∙◌, ap, ap₂}
use mathlib.Core.Logic.{inl, inr}
use mathlib.Core.Bool.{Bool, true, false, cond}
use mathlib.Core.List.{List, [], ◌∷◌}
use borrow.Author.Tests.{le-ltb}
use lib.Dec.{eqb}
use lib.ListN.{length, get_or}
use Rattle.std.specs.Prelude.{Ok, Err}
use Rattle.basics.specs.Folds.{keep}
use Rattle.basics.specs.Told.{Told, Lent, values, refusal, turned_down}
use Rattle.basics.specs.Conditions.{First}
use Rattle.filed_reports.specs.Bytes.{report_bytes, bytes_of_report}
use Rattle.records.specs.Layout.{wire_count}
use Rattle.revolving.specs.Order.{rank_of}
use Rattle.breaking.specs.Breaking.{is_breaking}
use Rattle.search.specs.Search.{stretch}
use Rattle.verdict_answers.specs.declared.Refusal as verdict-refusal
use Rattle.verdict_answers.specs.declared.Checked.{Checked}
use Rattle.verdict_answers.specs.Answers as verdict-answers
use Rattle.verdict_answers.specs.Answers.{notion_of, first_ranked, range_told, range_check}
use Rattle.verdict_answers.specs.Conditions.{range_conditions}
use Rattle.verdict_answers.proofs.Conditions.{range_asked, range_settled, range_answered}
use Rattle.verdict_answers.proofs.Finds.{range_finds}
use Rattle.call_answers.specs.Calls.{Called, got, answered, judged, lent_judged}
use Rattle.pool_answers.specs.Answers.{report_of, written, filed_report}
use Rattle.pool_answers.specs.Says.{Pooled}
use Rattle.pool_answers.specs.Agrees.{AllTrue}
use Rattle.pool_answers.proofs.Taking.{range_taken}
use Rattle.pool_calls.specs.Calls.{checked_as, filed_call}

-- `clean` and `rank`, as the range check for C writes them, are read as what the range check told
module _ (table : List ℕ) (shares masks notion size from to : ℕ) (buffer : List ℕ) where
  abbrev checked : Lent
  checked = range_check table shares masks notion size from to buffer

  abbrev Read : ℕ → ℕ → List ℕ → Type 0
  Read clean rank held = (clean ≤ 1) × (range_told (Ok (checked_as size clean rank)) held ≡ range_check table shares masks notion size from to buffer)

  not_0 : First (range_conditions table shares masks notion size from to buffer) 0 → ⊥
  not_0 (inl h) = omega (arith, h.1)
  not_0 (inr (p, inl h)) = omega (arith, h.1)
  not_0 (inr (p, inr (q, inl h))) = omega (arith, h.1)
  not_0 (inr (p, inr (q, inr (r, inl h)))) = omega (arith, h.1)
  not_0 (inr (p, inr (q, inr (r, inr (s, inl h))))) = omega (arith, h.1)
  not_0 (inr (p, inr (q, inr (r, inr (s, inr (t, inl h)))))) = omega (arith, h.1)
  not_0 (inr (p, inr (q, inr (r, inr (s, inr (t, inr (u, inl h))))))) = omega (arith, h.1)
  not_0 (inr (p, inr (q, inr (r, inr (s, inr (t, inr (u, inr h))))))) = h.1

  module _ (clean found rank : ℕ) (held before : List ℕ) (e : got 0 (clean ∷ found ∷ rank ∷ []) held ≡ lent_judged (range_check table shares masks notion size from to buffer) before) where
    abbrev sets : List (List ℕ)
    sets = keep (is_breaking (notion_of notion) table shares masks) (stretch (wire_count table) size from to)

    by_sets : (l : List (List ℕ)) → checked ≡ first_ranked (wire_count table) l buffer → Read clean rank held
    by_sets [] f =
        let g : got 0 (clean ∷ found ∷ rank ∷ []) held ≡ lent_judged (first_ranked (wire_count table) [] buffer) before =
        e ∙ ap (λ (a : Lent). lent_judged a before) f in
        let one : clean ≡ 1 = ap (λ (c : Called). get_or c.numbers 0 0) g in
        let same : held ≡ buffer = ap (λ (c : Called). c.buffer) g in (
          omega (arith, one),
          ap (λ (k : ℕ). range_told (Ok (checked_as size k rank)) held) one ∙ ap (λ (l : List ℕ). range_told (Ok Checked.Clean) l) same ∙ sym f,
        )
    by_sets (s ∷ later) f =
        let g : got 0 (clean ∷ found ∷ rank ∷ []) held ≡ lent_judged (first_ranked (wire_count table) (s ∷ later) buffer) before =
        e ∙ ap (λ (a : Lent). lent_judged a before) f in
        let zero : clean ≡ 0 = ap (λ (c : Called). get_or c.numbers 0 0) g in
        let place : rank ≡ rank_of (wire_count table) s = ap (λ (c : Called). get_or c.numbers 2 0) g in
        let shown : held ≡ verdict-answers.written s buffer = ap (λ (c : Called). c.buffer) g in
        let found : range_told (Ok (Checked.Found (length s) (rank_of (wire_count table) s))) (verdict-answers.written s buffer) ≡ checked = sym f in
        let long : length s ≡ size =
        ((range_finds table shares masks notion size from to buffer (verdict-answers.written s buffer) (Ok (Checked.Found (length s) (rank_of (wire_count table) s))) found
        ).found (length s) (rank_of (wire_count table) s) refl).0 in (
          omega (arith, zero),
          ap (λ (k : ℕ). range_told (Ok (checked_as size k rank)) held) zero
              ∙ ap₂ (λ (r : ℕ) (l : List ℕ). range_told (Ok (Checked.Found size r)) l) place shown
              ∙ ap (λ (k : ℕ). range_told (Ok (Checked.Found k (rank_of (wire_count table) s))) (verdict-answers.written s buffer)) (sym long) ∙ found,
        )

    pub check_filed : (clean ≤ 1) × (range_told (Ok (checked_as size clean rank)) held ≡ range_check table shares masks notion size from to buffer)
    check_filed = go checked.told refl
      where
        go : (told : Told) → checked.told ≡ told → Read clean rank held
        go (values l) f =
            let a = (range_asked table shares masks notion size from to buffer).0 (l, f) in
            by_sets sets (range_answered table shares masks notion size from to buffer a.0 a.1 a.2)
        go (refusal number) f =
            let g : got 0 (clean ∷ found ∷ rank ∷ []) held ≡ answered (judged (refusal number)) before checked.held =
            e ∙ ap (λ (t : Told). answered (judged t) before checked.held) f in
            let none : number ≡ 0 = sym (ap (λ (c : Called). c.status) g) in
            absurd (not_0 (((range_settled table shares masks notion size from to buffer).settles.refused 0).0 (f ∙ ap refusal none)))

    -- so the report of what it wrote is filed, and a pool takes it
    pub check_pooled : (order : ℕ) → 1 ≤ size → size ≤ order → order < shares → (lent : List ℕ) → length lent ≡ report_bytes
        → (i : ℕ) × (filed_call notion size from to clean rank lent ≡ written (report_of notion size from to i))
        × Pooled table shares masks notion order (bytes_of_report (report_of notion size from to i))
        × AllTrue table shares masks notion (bytes_of_report (report_of notion size from to i))
    check_pooled order low few high lent long =
        let c = check_filed in
        let t = range_taken table shares masks notion size from to buffer order low few high (Ok (checked_as size clean rank)) held c.1 (answers (eqb clean 1)) lent long in (
          t.0,
          ap (λ (b : Bool). cond b (turned_down 25 lent) (filed_report notion size from to (Ok (checked_as size clean rank)) lent)) (le-ltb 1 clean c.0) ∙ t.2,
          t.3,
          t.4,
        )
      where
        answers : (b : Bool) (why : verdict-refusal.Refusal) → (Ok (cond b Checked.Clean (Checked.Found size rank))) ≡ Err why → ⊥
        answers true why same = let z : ◌≡◌ {A = ℕ} 0 1 = cc in omega (arith, z)
        answers false why same = let z : ◌≡◌ {A = ℕ} 0 1 = cc in omega (arith, z)
