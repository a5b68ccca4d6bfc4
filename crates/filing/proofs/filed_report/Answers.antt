-- `filing::filed_report` meets its contract: by what the range check answered.
use Rattle.filing.proofs.Writing.{promised, both_are, wrong_length_lem, refused-answer, other_size, found-low, found-high, clean-filed, found-filed}
use Rattle.filing.proofs.filed_report.Goals as goal

pub returns-then-report-ne-REPORT_BYTES : goal.returns-then-report-ne-REPORT_BYTES
returns-then-report-ne-REPORT_BYTES c =
    let a = c.args in let all = promised a.notion a.size a.from a.to a.answer _ _ _ (wrong_length_lem a.notion a.size a.from a.to a.answer _ c.if-report-ne-REPORT_BYTES.true) in record { report_after = all.0; filing_means = all.1 }

pub returns-then-wires-size : goal.returns-then-wires-size
returns-then-wires-size c =
    let a = c.args in let all = promised a.notion a.size a.from a.to a.answer _ _ _ (other_size a.notion a.size a.from a.to a.answer _ c.if-report-ne-REPORT_BYTES.false _ _ (both_are c.in-Ok.is c.in-Found.is) c.if-wires-size.true) in record { report_after = all.0; filing_means = all.1 }

pub returns-then-rank-from : goal.returns-then-rank-from
returns-then-rank-from c =
    let a = c.args in let all = promised a.notion a.size a.from a.to a.answer _ _ _ (found-low a.notion a.size a.from a.to a.answer _ c.if-report-ne-REPORT_BYTES.false _ _ (both_are c.in-Ok.is c.in-Found.is) c.if-rank-from.true) in record { report_after = all.0; filing_means = all.1 }

pub returns-then-to-rank : goal.returns-then-to-rank
returns-then-to-rank c =
    let a = c.args in let all = promised a.notion a.size a.from a.to a.answer _ _ _ (found-high a.notion a.size a.from a.to a.answer _ c.if-report-ne-REPORT_BYTES.false _ _ (both_are c.in-Ok.is c.in-Found.is) c.if-to-rank.true) in record { report_after = all.0; filing_means = all.1 }

pub returns-in_default : goal.returns-in_default
returns-in_default c =
    let a = c.args in let all = promised a.notion a.size a.from a.to a.answer _ _ _ (refused-answer a.notion a.size a.from a.to a.answer _ c.if-report-ne-REPORT_BYTES.false _ c.in_default.is) in record { report_after = all.0; filing_means = all.1 }

pub returns-in-Clean : goal.returns-in-Clean
returns-in-Clean c =
    let a = c.args in let all = promised a.notion a.size a.from a.to a.answer _ _ _ (clean-filed a.notion a.size a.from a.to a.answer _ c.if-report-ne-REPORT_BYTES.false (both_are c.in-Ok.is c.in-Clean.is) _ c.file.ensures) in record { report_after = all.0; filing_means = all.1 }

pub returns-else-to-rank : goal.returns-else-to-rank
returns-else-to-rank c =
    let a = c.args in let all = promised a.notion a.size a.from a.to a.answer _ _ _ (found-filed a.notion a.size a.from a.to a.answer _ c.if-report-ne-REPORT_BYTES.false _ _ (both_are c.in-Ok.is c.in-Found.is) c.if-wires-size.false c.if-rank-from.false c.if-to-rank.false _ c.file-in-Found.ensures) in record { report_after = all.0; filing_means = all.1 }
