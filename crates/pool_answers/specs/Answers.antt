-- Each answer of `pool` and `filing` in the numbers of the requests, and what each entry answers (request No. 5).
--     refusal_number            the number of each refusal
--     pool_told, filing_told     what each answer of the code tells
--     holds_told, broken_told, uncovered_told     the three answers of a pool: 1; 2, size and rank; 3, size and rank
--     pooled                   what a pool answers where no test turns it down
--     wrong_list                the test 25 of a list of reports
--     pool_of                   what `pool` is to tell
--     report_of                 the report of a range check
--     written, filed_as         the report written, if it can stand in a list
--     between                   a found rank is one of that size and between the bounds
--     filed_report              what `filed_report` is to tell, and what the buffer is to hold
use Rattle.std.specs.Prelude.{ℕ, ◌%◌, Bool, cond, not, ◌&&◌, ◌||◌, List, [], ◌∷◌, ltb, leb, eqb, length, Result, Ok, Err}
use Rattle.limits.specs.Limits.{max_wires, max_size}
use Rattle.basics.specs.Told.{Told, Lent, values, refusal, turned_down}
use Rattle.records.specs.Layout.{wire_count}
use Rattle.counts.specs.Counts.{binom}
use Rattle.breaking.specs.Breaking.{is_breaking}
use Rattle.filed_reports.specs.declared.Report.{Report}
use Rattle.filed_reports.specs.Bytes.{report_bytes, all_ones, bytes_of_report}
use Rattle.filed_reports.specs.Filed.{misfiled, any_misfiled, covered, reported}
use Rattle.filed_reports.specs.Places.{first_place}
use Rattle.finds.specs.Finds.{any_false}
use Rattle.verdict_answers.specs.declared.Checked.{Checked}
use Rattle.verdict_answers.specs.declared.Refusal as verdict-refusal
use Rattle.verdict_answers.specs.Answers as verdict-answers
use Rattle.verdict_answers.specs.Answers.{wrong_notion, wrong_order, notion_of, opened}
use Rattle.pool_answers.specs.declared.Refusal.{Refusal}
use Rattle.pool_answers.specs.declared.Refusal.TheVariants.{Tests, Misfiled, FalseFind}
use Rattle.pool_answers.specs.declared.Outcome.{Outcome}

abbrev pub refusal_number : Refusal → ℕ
refusal_number (Tests why) = verdict-answers.refusal_number why
refusal_number Misfiled = 25
refusal_number FalseFind = 26

abbrev pub holds_told : Told
holds_told = values (1 ∷ [])

abbrev pub broken_told : ℕ → ℕ → Told
broken_told size rank = values (2 ∷ size ∷ rank ∷ [])

abbrev pub uncovered_told : ℕ → ℕ → Told
uncovered_told size rank = values (3 ∷ size ∷ rank ∷ [])

abbrev pub pool_told : Result Outcome Refusal → Told
pool_told (Ok Outcome.Holds) = holds_told
pool_told (Ok (Outcome.Broken size rank)) = broken_told size rank
pool_told (Ok (Outcome.Uncovered size rank)) = uncovered_told size rank
pool_told (Err why) = refusal (refusal_number why)

-- "broken with the smallest size and then lowest rank reported; else the first size, from 1 to the order, and rank that no report covers; else holds"
abbrev pub pooled : ℕ → ℕ → List ℕ → Told
pooled wires order reports =
    first_place (binom wires) (reported reports) broken_told order
    (first_place (binom wires) (λ size rank. not (covered reports size rank)) uncovered_told order
    holds_told)

-- 25, length no multiple of 32, or a report that is filed wrong
abbrev pub wrong_list : List ℕ → ℕ → ℕ → List ℕ → Bool
wrong_list table notion order reports =
    not (eqb (length reports % report_bytes) 0) || any_misfiled (binom (wire_count table)) notion order reports

abbrev pub pool_of : List ℕ → ℕ → ℕ → ℕ → ℕ → List ℕ → Told
pool_of table shares masks notion order reports =
    opened refusal table shares masks notion
    (cond (wrong_order shares order) (refusal 15)
    (cond (wrong_list table notion order reports) (refusal 25)
    (cond (any_false (is_breaking (notion_of notion) table shares masks) (wire_count table) reports) (refusal 26)
    (pooled (wire_count table) order reports))))

-- ---- a report that is written

abbrev pub report_of : ℕ → ℕ → ℕ → ℕ → ℕ → Report
report_of notion size from to found = record { notion = notion; size = size; filling = 0; from = from; to = to; found = found }

abbrev pub filing_told : Result (Unit {0}) Refusal → List ℕ → Lent
filing_told (Ok done) held = record { told = values []; held = held }
filing_told (Err why) held = record { told = refusal (refusal_number why); held = held }

abbrev pub written : Report → Lent
written r = record { told = values []; held = bytes_of_report r }

-- a pool takes it, of the largest table and at the largest order
abbrev pub filed_as : Report → List ℕ → Lent
filed_as r buffer = cond (wrong_notion r.notion || misfiled (binom max_wires) r.notion max_size r) (turned_down 25 buffer) (written r)

abbrev pub between : ℕ → ℕ → ℕ → ℕ → ℕ → Bool
between size from to k rank = eqb k size && (leb from rank && ltb rank to)

-- of what a range check answered: clean, or found at a rank of the size between the bounds
abbrev pub answer_filed : ℕ → ℕ → ℕ → ℕ → Result Checked verdict-refusal.Refusal → List ℕ → Lent
answer_filed notion size from to (Ok Checked.Clean) buffer = filed_as (report_of notion size from to all_ones) buffer
answer_filed notion size from to (Ok (Checked.Found k rank)) buffer =
    cond (not (between size from to k rank)) (turned_down 25 buffer) (filed_as (report_of notion size from to rank) buffer)
answer_filed notion size from to (Err why) buffer = turned_down 25 buffer

abbrev pub filed_report : ℕ → ℕ → ℕ → ℕ → Result Checked verdict-refusal.Refusal → List ℕ → Lent
filed_report notion size from to answer buffer =
    cond (not (eqb (length buffer) report_bytes)) (turned_down 25 buffer) (answer_filed notion size from to answer buffer)
