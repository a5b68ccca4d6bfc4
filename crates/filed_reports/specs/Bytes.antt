-- How a report stands in a list of reports (request No. 5): 32 bytes, no header, notion, size, six zero bytes, then from, to and found rank, eight bytes
-- each, little-endian. The places of bytes stand as numbers here and nowhere above.
--     report_bytes       the bytes of a report
--     all_ones           the found rank of a report that is clean
--     report_from        the report that stands from a byte of a list on
--     report_at          a report of a list, by its number
--     report_count       how many reports a list has
--     bytes_of_report     the bytes of a report
use Rattle.std.specs.Prelude.{ℕ, ◌+◌, ◌-◌, ◌*◌, ◌/◌, ◌^◌, List, ◌++◌, length}
use Rattle.records.specs.Words.{bytes_of}
use Rattle.records.specs.Layout.{field}
use Rattle.filed_reports.specs.declared.Report.{Report}

abbrev pub report_bytes : ℕ
report_bytes = 32

-- "all ones bits when clean"
abbrev pub all_ones : ℕ
all_ones = 2 ^ 64 - 1

abbrev pub report_from : ℕ → List ℕ → Report
report_from at bytes = record {
  notion = field at 1 bytes;
  size = field (at + 1) 1 bytes;
  filling = field (at + 2) 6 bytes;
  from = field (at + 8) 8 bytes;
  to = field (at + 16) 8 bytes;
  found = field (at + 24) 8 bytes;
}

abbrev pub report_at : List ℕ → ℕ → Report
report_at reports i = report_from (report_bytes * i) reports

abbrev pub report_count : List ℕ → ℕ
report_count reports = length reports / report_bytes

abbrev pub bytes_of_report : Report → List ℕ
bytes_of_report r =
    bytes_of 1 r.notion ++ bytes_of 1 r.size ++ bytes_of 6 r.filling ++ bytes_of 8 r.from ++ bytes_of 8 r.to ++ bytes_of 8 r.found
