-- The lines of the report on a text (scope, "Report program and examples"), over what reading, the function check and the verdicts are to tell.
--     checked                       the line of the function and those of both notions
--     empty_table                    what is lent to the reading
--     reported, read_reported, report     the whole report
--     max_report                     a report is never longer than so many bytes
-- `order_line`, `function_line` and `refused_line`, the lines of a report in which there is no verdict, are passed on from `figure_lines`.
use Rattle.std.specs.Prelude.{ℕ, ◌*◌, List, ◌++◌, take, replicate}
use Rattle.limits.specs.Limits.{record_bytes, max_table_bytes}
use Rattle.reader.specs.Answers.{ReadTold, gives, refused, ReadLent, read_text}
use Rattle.verdict_lines.specs.Lines.{notion_line}
pub use Rattle.figure_lines.specs.Figures.{order_line, refused_line}
unfoldable pub use Rattle.figure_lines.specs.Figures.{function_line}

-- the function and both verdicts at the text's own order
unfoldable pub checked : List ℕ → ℕ → ℕ → ℕ → List ℕ
checked table order shares masks =
    function_line table shares masks ++ notion_line table shares masks 1 order ++ notion_line table shares masks 2 order

abbrev pub empty_table : List ℕ
empty_table = replicate max_table_bytes 0

-- the lines on what was read into a table
abbrev pub reported : ReadTold → List ℕ → List ℕ
reported (gives order shares masks wires) table =
    order_line order shares masks wires ++ checked (take (record_bytes * wires) table) order shares masks
reported (refused number offset) table = refused_line number offset

abbrev pub read_reported : ReadLent → List ℕ
read_reported lent = reported lent.told lent.held

unfoldable pub report : List ℕ → List ℕ
report text = read_reported (read_text text empty_table)

abbrev pub max_report : ℕ
max_report = 512
