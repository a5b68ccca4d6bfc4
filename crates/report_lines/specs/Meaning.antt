-- What a report says of a gadget, in the words of the grammar and of the watcher: no breaking set and no search in it, and no run over the bytes
-- but in what reading tells of a text that is turned down.
--     table_of, shares_of, masks_of     the wire table, shares and mask count of a description
--     Computes                       the outer wires add up to a function
--     NamesFunction                  which function is named, and what that says of the outer wires' values
--     ReportSays                     the four lines of the report on a text that spells a description; of the verdicts' what the line of a notion says of a
--                                    watcher, with the description's table and order
--     Refuses                        the one line of a text that is turned down, with the number and offset that reading tells
use Rattle.std.specs.Prelude.{ℕ, ◌+◌, ◌≡◌, ◌↔◌, ◌⊎◌, List, ◌++◌, map, length}
use Rattle.basics.specs.Quoted.{bytes}
use Rattle.wires.specs.Function.{AddUpTo}
use Rattle.description.specs.Listing.{records_of, wire_of}
use Rattle.description.specs.Grammar.{Description, wires_of, mask_count}
use Rattle.verdict_lines.specs.Meaning.{SaysNotion}
use Rattle.reader.specs.Answers.{refused, read_text}
use Rattle.figure_lines.specs.Figures.{order_line, refused_line}
use Rattle.report_lines.specs.Report.{empty_table, report}

abbrev pub table_of : Description → List ℕ
table_of d = records_of (wires_of d)

abbrev pub shares_of : Description → ℕ
shares_of d = d.order + 1

abbrev pub masks_of : Description → ℕ
masks_of d = mask_count d.names

-- the outer wires' values always add up to the function
abbrev pub Computes : Description → ℕ → Type 0
Computes d function = AddUpTo function (shares_of d) (masks_of d) (map wire_of (wires_of d))

-- product, sum and copy exactly where the outer wires add up to it, and other exactly where they add up to none of the three
pub record NamesFunction (d : Description) (line : List ℕ) : Type 0 where
  pub product : (line ≡ bytes "function product\n") ↔ Computes d 1
  pub sum : (line ≡ bytes "function sum\n") ↔ Computes d 2
  pub copy : (line ≡ bytes "function copy\n") ↔ Computes d 3
  pub other : (line ≡ bytes "function other\n") ↔ ((Computes d 1 → ⊥) × (Computes d 2 → ⊥) × (Computes d 3 → ⊥))
  pub named : (line ≡ bytes "function product\n")
      ⊎ ((line ≡ bytes "function sum\n") ⊎ ((line ≡ bytes "function copy\n") ⊎ (line ≡ bytes "function other\n")))

pub record ReportSays (text : List ℕ) (d : Description) : Type 0 where
  pub function : List ℕ
  pub ni : List ℕ
  pub sni : List ℕ
  pub lines : report text ≡ order_line d.order (shares_of d) (masks_of d) (length (wires_of d)) ++ (function ++ ni ++ sni)
  pub names : NamesFunction d function
  pub says_ni : SaysNotion (table_of d) (shares_of d) (masks_of d) 1 d.order ni
  pub says_sni : SaysNotion (table_of d) (shares_of d) (masks_of d) 2 d.order sni

-- number and offset are those that reading the text tells
pub record Refuses (text : List ℕ) : Type 0 where
  pub number : ℕ
  pub offset : ℕ
  pub told : (read_text text empty_table).told ≡ refused number offset
  pub line : report text ≡ refused_line number offset
