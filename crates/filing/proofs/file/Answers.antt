-- `filing::file` meets its contract: each refusal where its test is the first to fail, else the report.
use native.Mathlib.Omega.{arith}
use Rattle.filing.proofs.Writing.{notion_low, notion_high, not_taken, taken}
use Rattle.filing.proofs.file.Goals as goal

pub returns-then-notion-lt1 : goal.returns-then-notion-lt1
returns-then-notion-lt1 c =
    let a = c.args in
    notion_low a.notion a.size a.from a.to a.found _ c.if-notion-lt1.true

pub returns-then-notion-gt2 : goal.returns-then-notion-gt2
returns-then-notion-gt2 c =
    let a = c.args in
    notion_high a.notion a.size a.from a.to a.found _ c.if-notion-gt2.true

pub returns-then-not-is_filed : goal.returns-then-not-is_filed
returns-then-not-is_filed c =
    let a = c.args in
    not_taken a.notion a.size a.from a.to a.found _ _ c.is_filed.ensures (c.if-not-is_filed.true)

pub returns : goal.returns
returns c =
    let a = c.args in
    taken a.notion a.size a.from a.to a.found _ _ c.is_filed.ensures (omega (arith, c.if-notion-lt1.false)) (omega (arith, c.if-notion-gt2.false)) (c.if-not-is_filed.false) _ c.write_report.ensures
