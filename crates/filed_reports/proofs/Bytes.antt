-- The bytes of a report.
--     report-written    the writes of a report, one after the other
--     Fits, read-written     numbers that fit their bytes are read as they were written
--     read_at           a report that stands in a list is the one that was written
--     reports_none, reports_more     the reports of a list, one after the other
--     report-bytes      two reports, to the byte
use Prim.Native.Nat.{ℕ, suc, ◌+◌, ◌*◌, ◌/◌, ◌^◌, ◌≤◌, ◌<◌}
use native.Mathlib.Omega.{arith}
use mathlib.Core.Path.{◌≡◌, refl, sym, ◌∙◌, ap}
use mathlib.Core.List.{List, [], ◌∷◌, ◌++◌, append-nil}
use lib.ListN.{length, take, drop, length-append, length-drop, take-append-drop}
use lib.Seq.{sets, sets-eq, drop-drop, drop-length, take-append-le, drop-append-le, drop-append-add}
use Rattle.records.specs.Words.{number, bytes_of}
use Rattle.record_words.proofs.Written.{written_after}
use Rattle.record_words.proofs.Encoding.{number-bytes}
use Rattle.filed_reports.specs.declared.Report.{Report}
use Rattle.filed_reports.specs.Bytes.{report_bytes, all_ones, report_from, report_at, report_count, bytes_of_report}

fields : {n n' s s' f f' a a' b b' d d' : ℕ} → n ≡ n' → s ≡ s' → f ≡ f' → a ≡ a' → b ≡ b' → d ≡ d'
    → ◌≡◌ {A = Report} (record { notion = n; size = s; filling = f; from = a; to = b; found = d })
    (record { notion = n'; size = s'; filling = f'; from = a'; to = b'; found = d' })
fields en es ef ea eb ed = cc

-- ---- writing

module _ (l₀ l₁ l₂ l₃ l₄ l₅ l₆ : List ℕ) (r : Report) where
  pub report-written : length l₀ ≡ report_bytes → l₁ ≡ sets l₀ 0 (bytes_of 1 r.notion) → l₂ ≡ sets l₁ 1 (bytes_of 1 r.size)
      → l₃ ≡ sets l₂ 2 (bytes_of 6 r.filling) → l₄ ≡ sets l₃ 8 (bytes_of 8 r.from) → l₅ ≡ sets l₄ 16 (bytes_of 8 r.to)
      → l₆ ≡ sets l₅ 24 (bytes_of 8 r.found) → l₆ ≡ bytes_of_report r
  report-written long e₁ e₂ e₃ e₄ e₅ e₆ =
      let n = bytes_of 1 r.notion in
      let s = bytes_of 1 r.size in
      let f = bytes_of 6 r.filling in
      let a = bytes_of 8 r.from in
      let b = bytes_of 8 r.to in
      let d = bytes_of 8 r.found in
      let two = written_after l₀ l₁ l₂ 0 1 n s e₁ e₂ refl in
      let three = written_after l₀ l₂ l₃ 0 2 (n ++ s) f two e₃ refl in
      let four = written_after l₀ l₃ l₄ 0 8 (n ++ s ++ f) a three e₄ refl in
      let five = written_after l₀ l₄ l₅ 0 16 (n ++ s ++ f ++ a) b four e₅ refl in
      let six = written_after l₀ l₅ l₆ 0 24 (n ++ s ++ f ++ a ++ b) d five e₆ refl in
      six ∙ sets-eq (bytes_of_report r) l₀ 0 (omega (arith, long))
      ∙ ap {B = List ℕ} (λ (l : List ℕ). bytes_of_report r ++ l) (ap (λ (k : ℕ). drop k l₀) (sym long) ∙ drop-length l₀)
      ∙ append-nil (bytes_of_report r)

-- ---- what is written is read

pub record Fits (r : Report) : Type 0 where
  pub notion : r.notion < 256
  pub size : r.size < 256
  pub filling : r.filling < 256 ^ 6
  pub from : r.from < 256 ^ 8
  pub to : r.to < 256 ^ 8
  pub found : r.found < 256 ^ 8

read_front : (r : Report) (rest : List ℕ) → Fits r → report_from 0 (bytes_of_report r ++ rest) ≡ r
read_front r rest h =
    fields (number-bytes 1 r.notion h.notion) (number-bytes 1 r.size h.size) (number-bytes 6 r.filling h.filling)
    (number-bytes 8 r.from h.from) (number-bytes 8 r.to h.to) (number-bytes 8 r.found h.found)

pub read-written : (r : Report) → Fits r → report_at (bytes_of_report r) 0 ≡ r
read-written r h = ap (report_from 0) (sym (append-nil (bytes_of_report r))) ∙ read_front r [] h

moved : (at : ℕ) (l : List ℕ) → report_from at l ≡ report_from 0 (drop at l)
moved at l = fields refl (place 1 1) (place 2 6) (place 8 8) (place 16 8) (place 24 8)
  where
    place : (k n : ℕ) → number (take n (drop (at + k) l)) ≡ number (take n (drop k (drop at l)))
    place k n = ap (λ (m : List ℕ). number (take n m)) (sym (drop-drop k at l))

pub read_at : (reports : List ℕ) (i : ℕ) (r : Report) → Fits r → take report_bytes (drop (report_bytes * i) reports) ≡ bytes_of_report r → report_at reports i ≡ r
read_at reports i r h e =
    let here = drop (report_bytes * i) reports in
    moved (report_bytes * i) reports
    ∙ ap (report_from 0) (sym (take-append-drop report_bytes here) ∙ ap {B = List ℕ} (λ (l : List ℕ). l ++ drop report_bytes here) e)
    ∙ read_front r (drop report_bytes here) h

-- ---- a list, report by report

pub reports_none : report_count [] ≡ 0
reports_none = refl

-- a list has one report more than what follows its first 32 bytes, that of these bytes, and then the others in their order
pub reports_more : (b l : List ℕ) → length b ≡ report_bytes
    → (report_count (b ++ l) ≡ suc (report_count l)) × (report_at (b ++ l) 0 ≡ report_from 0 b) × ((i : ℕ) → report_at (b ++ l) (suc i) ≡ report_at l i)
reports_more b l e = (
  ap (λ (n : ℕ). n / report_bytes) (length-append b l) ∙ omega (arith, e),
  fields (front 0 1 (omega arith)) (front 1 1 (omega arith)) (front 2 6 (omega arith)) (front 8 8 (omega arith)) (front 16 8 (omega arith))
      (front 24 8 (omega arith)),
  λ i. let at : report_bytes * suc i ≡ length b + report_bytes * i = omega (arith, e) in
      moved (report_bytes * suc i) (b ++ l)
      ∙ ap (report_from 0) (ap (λ (k : ℕ). drop k (b ++ l)) at ∙ drop-append-add b l (report_bytes * i)) ∙ sym (moved (report_bytes * i) l),
)
  where
    front : (k n : ℕ) → k + n ≤ report_bytes → number (take n (drop k (b ++ l))) ≡ number (take n (drop k b))
    front k n h =
        ap (λ (m : List ℕ). number (take n m)) (drop-append-le k b l (omega (arith, h, e)))
        ∙ ap number (take-append-le n (drop k b) l (omega (arith, h, e, length-drop k b)))

-- ---- to the byte, by running the definition: of NI, size 2, ranks 3 to 300, found at 259; of SNI, size 1, ranks 0 to 5, clean

pub report-bytes : (bytes_of_report (record { notion = 1; size = 2; filling = 0; from = 3; to = 300; found = 259 })
    ≡ 1 ∷ 2 ∷ 0 ∷ 0 ∷ 0 ∷ 0 ∷ 0 ∷ 0 ∷ 3 ∷ 0 ∷ 0 ∷ 0 ∷ 0 ∷ 0 ∷ 0 ∷ 0 ∷ 44 ∷ 1 ∷ 0 ∷ 0 ∷ 0 ∷ 0 ∷ 0 ∷ 0 ∷ 3 ∷ 1 ∷ 0 ∷ 0 ∷ 0 ∷ 0 ∷ 0 ∷ 0 ∷ [])
    × (bytes_of_report (record { notion = 2; size = 1; filling = 0; from = 0; to = 5; found = all_ones })
    ≡ 2 ∷ 1 ∷ 0 ∷ 0 ∷ 0 ∷ 0 ∷ 0 ∷ 0 ∷ 0 ∷ 0 ∷ 0 ∷ 0 ∷ 0 ∷ 0 ∷ 0 ∷ 0 ∷ 5 ∷ 0 ∷ 0 ∷ 0 ∷ 0 ∷ 0 ∷ 0 ∷ 0 ∷ 255 ∷ 255 ∷ 255 ∷ 255 ∷ 255 ∷ 255 ∷ 255 ∷ 255 ∷ [])
report-bytes = (refl, refl)
