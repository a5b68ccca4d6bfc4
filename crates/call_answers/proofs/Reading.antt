-- The paths of the operations on a text: what each tells, and what its numbers mean, from what the entry promises of the answer.
--     read_number              the numbers of reading's refusals
--     read_past, read_kept     nothing past the last record is written; a refused text leaves the table as it was
--     read_gave, read-refused
--     part_gave, part-refused
--     report_gave, report-refused
use Prim.Native.Nat.{ℕ, ◌+◌, ◌*◌, ◌≤◌, ◌<◌}
use native.Mathlib.Omega.{arith}
use mathlib.Core.Path.{◌≡◌, refl, sym, ◌∙◌, ap, ap₂}
use mathlib.Core.Bool.{Bool, true, false, cond}
use mathlib.Core.List.{List, [], ◌∷◌, ◌++◌}
use lib.ListN.{length, take, drop}
use lib.Seq.{drop-append_seam}
use Rattle.std.specs.Prelude.{Result, Ok, Err}
use Rattle.limits.specs.Limits.{record_bytes}
use Rattle.basics.specs.Told.{Lent, values, turned_down}
use Rattle.basics.specs.Conditions.{◌when◌, SettlesLent}
use Rattle.basics.proofs.Conditions.{Chain, own, test, settles-lent, less}
use Rattle.description.specs.declared.Refusal.{Refusal}
use Rattle.description.specs.Listing.{records_of}
use Rattle.description.specs.Run as run
use Rattle.description.specs.Run.{refusal_number}
use Rattle.description.proofs.Encoding.{length-records}
use Rattle.description.specs.declared.Fault.{Fault}
use Rattle.scratch_reader.specs.declared.Reading.{Reading as Figures}
use Rattle.reader.specs.declared.Part.{Part}
use Rattle.reader.specs.declared.PartRefusal.{PartRefusal}
use Rattle.reader.specs.Answers.{gives, refused, ReadLent, too_large, lent_reading, read_told, read_text, part_refusal_number, part_told, part_check}
use Rattle.reader.specs.Reads.{ReadsGrammar}
use Rattle.reader.proofs.Parts.{part-exactly, part-told}
use Rattle.report_text.specs.declared.Refusal as report-refusal
use Rattle.report_text.specs.Report as report
use Rattle.report_lines.specs.Report as report-lines
use Rattle.call_answers.specs.Calls.{got, lent_answered, lent_read}
use Rattle.call_answers.specs.Meaning.{Kept, ReadSays, PartSays, ReportSays}
use Rattle.verdict_answers.specs.Answers.{written}
use Rattle.verdict_answers.proofs.Accepting.{written_front, written-rest}
use Rattle.call_answers.proofs.Answering.{Numbers, numbers_gave, numbers-refused, lent-refused, kept_0}

-- a refusal of reading has a number from 1 to 10, so it is neither status 0 nor 16
pub read_number : (why : Refusal) → (0 < refusal_number why) × (refusal_number why ≤ 10)
read_number Refusal.TextTooLong = (omega arith, omega arith)
read_number Refusal.WrongOrderLine = (omega arith, omega arith)
read_number Refusal.WrongMasksLine = (omega arith, omega arith)
read_number Refusal.NoSuchSymbol = (omega arith, omega arith)
read_number Refusal.MaskNotDeclared = (omega arith, omega arith)
read_number Refusal.WrongParenthesis = (omega arith, omega arith)
read_number Refusal.Bar = (omega arith, omega arith)
read_number Refusal.NestedTooDeep = (omega arith, omega arith)
read_number Refusal.WrongLineCount = (omega arith, omega arith)
read_number Refusal.TooManyWires = (omega arith, omega arith)

-- a refusal's number is not 0, so status 0 is no refusal
report_positive : (why : report-refusal.Refusal) → 0 < report.refusal_number why
report_positive report-refusal.Refusal.BufferTooShort = omega arith

part_positive : (why : PartRefusal) → 0 < part_refusal_number why
part_positive PartRefusal.TableLength = omega arith
part_positive PartRefusal.NoSuchWire = omega arith
part_positive PartRefusal.OutsideTheText = omega arith

module _ (text table held : List ℕ) where
  -- the table as reading leaves it, whatever the text is
  module _ (f : Figures) where
    read_past : (r : run.Reading) → read_told (Ok f) held ≡ lent_reading text table r
        → drop (record_bytes * f.wires) held ≡ drop (record_bytes * f.wires) table
    read_past (run.turned_down why offset) e =
        let same : gives f.order f.shares f.masks f.wires ≡ refused (refusal_number why) offset = ap (λ (l : ReadLent). l.told) e in
        let z : ◌≡◌ {A = ℕ} 0 1 = cc in absurd (omega (arith, z))
    read_past (run.read o m ws) e = sized (too_large table (length ws)) e
      where
        sized : (b : Bool) → read_told (Ok f) held
            ≡ cond b (record { told = refused 10 (length text); held = table })
            (record { told = gives o (o + 1) m (length ws); held = records_of ws ++ drop (record_bytes * length ws) table })
            → drop (record_bytes * f.wires) held ≡ drop (record_bytes * f.wires) table
        sized true e =
            let same : gives f.order f.shares f.masks f.wires ≡ refused 10 (length text) = ap (λ (l : ReadLent). l.told) e in
            let z : ◌≡◌ {A = ℕ} 0 1 = cc in absurd (omega (arith, z))
        sized false e =
            let same : gives f.order f.shares f.masks f.wires ≡ gives o (o + 1) m (length ws) = ap (λ (l : ReadLent). l.told) e in
            let many : f.wires ≡ length ws = cc in
            let long : record_bytes * f.wires ≡ length (records_of ws) = omega (arith, many, length-records ws) in
            ap₂ {C = List ℕ} drop long (ap (λ (l : ReadLent). l.held) e)
            ∙ drop-append_seam (records_of ws) (drop (record_bytes * length ws) table)
            ∙ ap (λ (n : ℕ). drop (record_bytes * n) table) (sym many)

  read_kept : (fault : Fault) (r : run.Reading) → read_told (Err fault) held ≡ lent_reading text table r → held ≡ table
  read_kept fault (run.turned_down other place) e = ap (λ (l : ReadLent). l.held) e
  read_kept fault (run.read o m ws) e = sized (too_large table (length ws)) e
    where
      sized : (b : Bool) → read_told (Err fault) held
          ≡ cond b (record { told = refused 10 (length text); held = table })
          (record { told = gives o (o + 1) m (length ws); held = records_of ws ++ drop (record_bytes * length ws) table })
          → held ≡ table
      sized true e = ap (λ (l : ReadLent). l.held) e
      sized false e =
          let same : refused (refusal_number fault.why) fault.offset ≡ gives o (o + 1) m (length ws) = ap (λ (l : ReadLent). l.told) e in
          let z : ◌≡◌ {A = ℕ} 0 1 = cc in absurd (omega (arith, z))

  abbrev ReadPromise : ℕ → ℕ → ℕ → ℕ → ℕ → ℕ → List ℕ → ℕ → Type 0
  ReadPromise status order shares masks wires offset before offset-before =
      (got status (order ∷ shares ∷ masks ∷ wires ∷ offset ∷ []) held ≡ lent_read (read_text text table) before offset-before)
      × (Kept status (order ∷ shares ∷ masks ∷ wires ∷ []) before held table
      × ReadSays status order shares masks wires text table held)

  module _ (order-before shares-before masks-before wires-before offset-before : ℕ) where
    abbrev before : List ℕ
    before = order-before ∷ shares-before ∷ masks-before ∷ wires-before ∷ []

    pub read_gave : (r : Figures) → read_told (Ok r) held ≡ read_text text table → ReadsGrammar (Ok r) text (length table) held
        → ReadPromise 0 r.order r.shares r.masks r.wires offset-before before offset-before
    read_gave r tells reads = (
      ap (λ (a : ReadLent). lent_read a before offset-before) tells,
      (
        kept_0 _ _ _ _,
        record {
          read-exactly = (λ zero. reads.read-exactly.0 (λ fault f. let z : ◌≡◌ {A = ℕ} 0 1 = cc in omega (arith, z)), λ readable. refl);
          read-gives = λ zero. reads.read-gives r refl;
          past_kept = λ zero. read_past r (run.reading text) tells;
          read-passes = λ zero. reads.read-passes r refl;
        },
      ),
    )

    pub read-refused : (fault : Fault) → read_told (Err fault) held ≡ read_text text table → ReadsGrammar (Err fault) text (length table) held
        → (status : ℕ) → status ≡ refusal_number fault.why
        → ReadPromise status order-before shares-before masks-before wires-before fault.offset before offset-before
    read-refused fault tells reads status s =
        let positive = (read_number fault.why).0 in (
          ap (λ (n : ℕ). got n (order-before ∷ shares-before ∷ masks-before ∷ wires-before ∷ fault.offset ∷ []) held) s
              ∙ ap (λ (a : ReadLent). lent_read a before offset-before) tells,
          (
            λ no. (refl, read_kept fault (run.reading text) tells),
            record {
              read-exactly = (λ zero. absurd (omega arith), λ readable. absurd (reads.read-exactly.1 readable fault refl));
              read-gives = λ zero. absurd (omega arith);
              past_kept = λ zero. absurd (omega arith);
              read-passes = λ zero. absurd (omega arith);
            },
          ),
        )

-- ---- the text part

module _ (text table : List ℕ) (wire : ℕ) where
  abbrev PartPromise : ℕ → ℕ → ℕ → List ℕ → Type 0
  PartPromise status offset size before = Numbers (part_check text table wire) (PartSays status offset size text table wire) status (offset ∷ size ∷ []) before

  module _ (offset-before size-before : ℕ) where
    pub part_gave : (part : Part) → part_told (Ok part) ≡ part_check text table wire → PartPromise 0 part.offset part.length (offset-before ∷ size-before ∷ [])
    part_gave part tells =
        numbers_gave _ _ _ _ tells
        (record {
          inside = λ zero. ((part-exactly text table wire part.offset part.length).0 (sym tells)).inside;
          part = λ zero. sym ((part-told text table wire).1 part.offset part.length (sym tells));
        })

    pub part-refused : (why : PartRefusal) → part_told (Err why) ≡ part_check text table wire → (status : ℕ) → status ≡ part_refusal_number why
        → PartPromise status offset-before size-before (offset-before ∷ size-before ∷ [])
    part-refused why tells status s =
        let positive = part_positive why in
        numbers-refused _ _ _ _ _ tells s (record { inside = λ zero. absurd (omega arith); part = λ zero. absurd (omega arith) })

-- ---- the report

module _ (text buffer held : List ℕ) where
  abbrev wrote : Lent
  wrote = record { told = values (length (report-lines.report text) ∷ []); held = written (report-lines.report text) buffer }

  chain : Chain (λ n. turned_down n buffer) wrote (16 when (length buffer < length (report-lines.report text)) ∷ []) (report.report_text text buffer)
  chain = test 16 (less (length buffer) (length (report-lines.report text))) (own (λ n. turned_down n buffer) wrote)

  settled : SettlesLent (16 when (length buffer < length (report-lines.report text)) ∷ []) buffer (report.report_text text buffer)
  settled = settles-lent chain (length (report-lines.report text) ∷ []) refl

  right : (size : ℕ) → report.report_told (Ok size) held ≡ report.report_text text buffer
      → (take size held ≡ report-lines.report text) × (drop size held ≡ drop size buffer)
  right size e =
      let whole = e ∙ chain.none (settled.settles.answered.0 (size ∷ [], sym (ap (λ (a : Lent). a.told) e))) in
      let told = ap (λ (a : Lent). a.told) whole in
      let long : size ≡ length (report-lines.report text) = cc in
      let same : held ≡ written (report-lines.report text) buffer = ap (λ (a : Lent). a.held) whole in
      (written_front buffer size held (report-lines.report text) long same, written-rest buffer size held (report-lines.report text) long same)

  kept : (why : report-refusal.Refusal) → report.report_told (Err why) held ≡ report.report_text text buffer → held ≡ buffer
  kept why e = ap (λ (a : Lent). a.held) e ∙ settled.kept (report.refusal_number why) (sym (ap (λ (a : Lent). a.told) e))

  abbrev ReportPromise : ℕ → ℕ → ℕ → Type 0
  ReportPromise status size before =
      (got status (size ∷ []) held ≡ lent_answered (report.report_text text buffer) (before ∷ []))
      × (Kept status (size ∷ []) (before ∷ []) held buffer × ReportSays status size text buffer held)

  module _ (answer : Result ℕ report-refusal.Refusal) (told : report.report_told answer held ≡ report.report_text text buffer)
      (room : report.RoomEnough answer (length buffer)) (before : ℕ) where
    pub report_gave : (size : ℕ) → answer ≡ Ok size → ReportPromise 0 size before
    report_gave size e =
        let tells = ap (λ (a : Result ℕ report-refusal.Refusal). report.report_told a held) (sym e) ∙ told in (
          ap (λ (a : Lent). lent_answered a (before ∷ [])) tells,
          (
            kept_0 _ _ _ _,
            record { written = λ zero. right size tells; short = λ zero. room.short size e; enough = λ no. absurd (no refl) },
          ),
        )

    pub report-refused : (why : report-refusal.Refusal) (status : ℕ) → answer ≡ Err why → status ≡ report.refusal_number why
        → ReportPromise status before before
    report-refused why status e s =
        let positive = report_positive why in
        let tells = ap (λ (a : Result ℕ report-refusal.Refusal). report.report_told a held) (sym e) ∙ told in (
          lent-refused _ _ _ _ _ tells s,
          (
            λ no. (refl, kept why tells),
            record { written = λ zero. absurd (omega arith); short = λ zero. absurd (omega arith); enough = λ no. room.enough why e },
          ),
        )
