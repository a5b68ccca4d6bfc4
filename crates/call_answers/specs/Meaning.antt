-- What the numbers that a caller in C gets mean: what each entry promises beside its equation, in these numbers.
--     Kept              demand 1: with any other status than 0 nothing that is lent is altered
--     YesOrNo           with status 0 a number is 1 or 0
--     CountSays         how many sets there are
--     SetSays           the set at the rank stands at the buffer's start, and what lies past it is as it was
--     RankSays          at which rank the set stands
--     JobSays           the ranks of the job
--     FunctionSays      yes exactly when the outer wires' values always add up to the function
--     VerdictSays       demand 3: holds exactly when every set to watch has a choice of shares; when not, the set shown has none
--     VerdictShows      demand 2: which set is shown, and what the buffer then holds
--     RangeShows        the same for a range of ranks
--     DependenceSays    on how many shares a set depends, how many it is allowed, and whether a mask is left; whether it breaks the notion
--     ReadSays          a text is read exactly when it spells a description within the limits, into just that description's wires
--     PartSays          the part lies within the text, and is the one that the engine returns
--     CheckSizeSays     the figures are reading's and the numbers of sets the set count's; a text that reading turns down gets its number and offset
--     ReportSays        the report stands at the buffer's start; it is never longer than 512 bytes, and a buffer of as many is never refused
--     IswTextSays       the text of the order stands at the buffer's start, spells ISW, is read and computes the product; a buffer of 4,096 bytes is never too short
use Rattle.std.specs.Prelude.{ℕ, suc, ◌+◌, ◌*◌, ◌≤◌, ◌<◌, ◌≡◌, ◌↔◌, ◌⊎◌, true, false, List, [], map, eqb, length, take, drop}
use Rattle.limits.specs.Limits.{record_bytes, max_table_bytes}
use Rattle.basics.specs.Told.{values}
use Rattle.wires.specs.Function.{AddUpTo}
use Rattle.wires.specs.Dependence.{SetDepends}
use Rattle.records.specs.Layout.{wire_at, wire_count, wires}
use Rattle.counts.specs.Counts.{binom}
use Rattle.revolving.specs.Order.{set_at, rank_of}
use Rattle.division.specs.Division.{start}
use Rattle.table.specs.Answers.{table_check}
use Rattle.verdict_answers.specs.Answers.{notion_of}
use Rattle.breaking.specs.Breaking.{is_breaking}
use Rattle.verdict_answers.specs.Guarantee.{Watched, HasChoice, Shown}
use Rattle.verdict_answers.specs.First.{FirstBreaking, FirstInRange}
use Rattle.description.specs.Grammar.{Description, Spells}
use Rattle.reader.specs.Answers.{text_part}
use Rattle.reader.specs.Reads.{Readable, Given}
use Rattle.plan_text.specs.Says.{Figures, Refuses}
use Rattle.report_lines.specs.Report.{report, max_report}
use Rattle.description.specs.Run.{max_text}
use Rattle.isw_gadget.specs.Text.{isw_text}
use Rattle.isw_gadget.specs.Answers.{max_isw_order}
use Rattle.isw_gadget.specs.Says.{IswSpelled}
use Rattle.isw_gadget.specs.Reads.{ReadAsProduct}

-- the lent numbers and the buffer, after the call and before it
abbrev pub Kept : ℕ → List ℕ → List ℕ → List ℕ → List ℕ → Type 0
Kept status numbers before held buffer = (status ≡ 0 → ⊥) → (numbers ≡ before) × (held ≡ buffer)

abbrev pub YesOrNo : ℕ → ℕ → Type 0
YesOrNo status number = status ≡ 0 → (number ≡ 1) ⊎ (number ≡ 0)

-- ---- numbering

abbrev pub CountSays : ℕ → ℕ → ℕ → ℕ → Type 0
CountSays status sets wires size = status ≡ 0 → sets ≡ binom wires size

abbrev pub SetSays : ℕ → ℕ → ℕ → ℕ → List ℕ → List ℕ → Type 0
SetSays status wires size rank buffer held = status ≡ 0 → (take size held ≡ set_at wires size rank) × (drop size held ≡ drop size buffer)

abbrev pub RankSays : ℕ → ℕ → ℕ → List ℕ → Type 0
RankSays status rank wires set = status ≡ 0 → rank ≡ rank_of wires set

-- floor(job × sets / jobs) and floor((job + 1) × sets / jobs)
abbrev pub JobSays : ℕ → ℕ → ℕ → ℕ → ℕ → ℕ → ℕ → Type 0
JobSays status from to wires size job jobs =
    status ≡ 0 → (from ≡ start (binom wires size) jobs job) × (to ≡ start (binom wires size) jobs (suc job))

-- ---- tables

pub record FunctionSays (status yes : ℕ) (table : List ℕ) (shares masks function : ℕ) : Type 0 where
  pub either : YesOrNo status yes
  pub yes_exactly : status ≡ 0 → (yes ≡ 1) ↔ AddUpTo function shares masks (wires table)

-- no breaking set and no search in it: the words are those of `watcher`
pub record VerdictSays (status holds size : ℕ) (table : List ℕ) (shares masks notion order : ℕ) (held : List ℕ) : Type 0 where
  pub either : YesOrNo status holds
  pub holds-exactly : status ≡ 0
      → (holds ≡ 1) ↔ ((set : List ℕ) → Watched table order set → HasChoice table shares masks notion set)
  pub broken-shows : status ≡ 0 → holds ≡ 0 → Shown table shares masks notion order size held

pub record VerdictShows (status holds size : ℕ) (table : List ℕ) (shares masks notion order : ℕ) (buffer held : List ℕ) : Type 0 where
  pub none : status ≡ 0 → holds ≡ 1
      → (held ≡ buffer) × ((u : List ℕ) → Watched table order u → is_breaking (notion_of notion) table shares masks u ≡ false)
  pub first : status ≡ 0 → holds ≡ 0
      → (drop size held ≡ drop size buffer) × FirstBreaking table shares masks notion order (take size held)

pub record RangeShows (status clean found rank : ℕ) (table : List ℕ) (shares masks notion size from to : ℕ) (buffer held : List ℕ) : Type 0 where
  pub either : YesOrNo status clean
  pub none : status ≡ 0 → clean ≡ 1
      → (held ≡ buffer)
      × ((r : ℕ) → from ≤ r → r < to → is_breaking (notion_of notion) table shares masks (set_at (wire_count table) size r) ≡ false)
  pub first : status ≡ 0 → clean ≡ 0
      → (found ≡ size) × (drop size held ≡ drop size buffer) × FirstInRange table shares masks notion size from to (take size held) rank

pub record DependenceSays (status of_a of_b most masked : ℕ) (table : List ℕ) (shares masks notion : ℕ) (set : List ℕ) : Type 0 where
  pub either : YesOrNo status masked
  pub depends : status ≡ 0 → SetDepends (notion_of notion) shares masks (map (wire_at table) set) of_a of_b most (eqb masked 1)
  pub breaks-exactly : status ≡ 0
      → (is_breaking (notion_of notion) table shares masks set ≡ true) ↔ ((masked ≡ 0) × ((most < of_a) ⊎ (most < of_b)))

-- ---- texts

pub record ReadSays (status order shares masks wires : ℕ) (text table held : List ℕ) : Type 0 where
  pub read-exactly : (status ≡ 0) ↔ Readable text (length table)
  pub read-gives : status ≡ 0 → (d : Description) → Spells text d → Given text d order shares masks wires held
  -- nothing past the last record is written
  pub past_kept : status ≡ 0 → drop (record_bytes * wires) held ≡ drop (record_bytes * wires) table
  -- the tests of every operation on a table accept it
  pub read-passes : status ≡ 0 → table_check (take (record_bytes * wires) held) shares masks ≡ values []

pub record PartSays (status offset size : ℕ) (text table : List ℕ) (wire : ℕ) : Type 0 where
  pub inside : status ≡ 0 → offset + size ≤ length text
  pub part : status ≡ 0 → take size (drop offset text) ≡ text_part text table wire

-- 16 where the text can be read and the buffer has no room for its order's sizes
pub record CheckSizeSays (status order shares masks wires bytes offset offset-before : ℕ) (text buffer held : List ℕ) : Type 0 where
  pub figures : status ≡ 0 → Figures text held order shares masks wires bytes
  -- nothing past the order's sizes is written
  pub past_kept : status ≡ 0 → drop order held ≡ drop order buffer
  pub refuses : (status ≡ 0 → ⊥) → (status ≡ 16 → ⊥) → Refuses text status offset
  -- only a refusal of reading has a place in the text
  pub offset-kept : (status ≡ 0) ⊎ (status ≡ 16) → offset ≡ offset-before
  pub short-exactly : (status ≡ 16) ↔ ((r : Readable text max_table_bytes) × (length buffer < r.description.order))

pub record ReportSays (status size : ℕ) (text buffer held : List ℕ) : Type 0 where
  pub written : status ≡ 0 → (take size held ≡ report text) × (drop size held ≡ drop size buffer)
  pub short : status ≡ 0 → size ≤ max_report
  pub enough : (status ≡ 0 → ⊥) → length buffer < max_report

pub record IswTextSays (status size order : ℕ) (buffer held : List ℕ) : Type 0 where
  pub written : status ≡ 0 → (take size held ≡ isw_text order) × (drop size held ≡ drop size buffer)
  pub spelled : status ≡ 0 → IswSpelled order (take size held)
  pub reads : status ≡ 0 → ReadAsProduct order (take size held)
  pub enough : (status ≡ 0 → ⊥) → max_text ≤ length buffer → (order < 1) ⊎ (max_isw_order < order)
