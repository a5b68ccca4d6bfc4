-- `filed_tests::is_filed` meets its contract: each way to fail, and the two ways to pass.
use native.Mathlib.Omega.{arith}
use Rattle.counts.specs.Counts.{binom}
use Rattle.filed_tests.proofs.Testing.{other_notion, no_size, large_size, filled, falls, past_all, found_below, found-above, clean-filed, found-filed}
use Rattle.filed_tests.proofs.is_filed.Goals as goal

pub returns-then-report-notion : goal.returns-then-report-notion
returns-then-report-notion c =
    let a = c.args in
    other_notion (binom a.wires) a.notion a.order a.report c.if-report-notion.true

pub returns-then-report-lt1 : goal.returns-then-report-lt1
returns-then-report-lt1 c =
    let a = c.args in
    no_size (binom a.wires) a.notion a.order a.report c.if-report-lt1.true

pub returns-then-order-report : goal.returns-then-order-report
returns-then-order-report c =
    let a = c.args in
    large_size (binom a.wires) a.notion a.order a.report c.if-order-report.true

pub returns-then-report-ne0 : goal.returns-then-report-ne0
returns-then-report-ne0 c =
    let a = c.args in
    filled (binom a.wires) a.notion a.order a.report c.if-report-ne0.true

pub returns-then-report : goal.returns-then-report
returns-then-report c =
    let a = c.args in
    falls (binom a.wires) a.notion a.order a.report c.if-report.true

pub returns-then-count-report : goal.returns-then-count-report
returns-then-count-report c =
    let a = c.args in
    past_all (binom a.wires) a.notion a.order a.report _ c.count.ensures c.if-count-report.true

pub returns-then-report-eq-CLEAN : goal.returns-then-report-eq-CLEAN
returns-then-report-eq-CLEAN c =
    let a = c.args in
    clean-filed (binom a.wires) a.notion a.order a.report c.count.result c.if-report-notion.false (omega (arith, c.if-report-lt1.false)) (omega (arith, c.if-order-report.false)) c.if-report-ne0.false (omega (arith, c.if-report.false)) c.count.ensures (omega (arith, c.if-count-report.false)) c.if-report-eq-CLEAN.true

pub returns-then-report-2 : goal.returns-then-report-2
returns-then-report-2 c =
    let a = c.args in
    found_below (binom a.wires) a.notion a.order a.report c.if-report-eq-CLEAN.false c.if-report-2.true

pub returns-then-report-3 : goal.returns-then-report-3
returns-then-report-3 c =
    let a = c.args in
    found-above (binom a.wires) a.notion a.order a.report c.if-report-eq-CLEAN.false c.if-report-3.true

pub returns : goal.returns
returns c =
    let a = c.args in
    found-filed (binom a.wires) a.notion a.order a.report c.count.result c.if-report-notion.false (omega (arith, c.if-report-lt1.false)) (omega (arith, c.if-order-report.false)) c.if-report-ne0.false (omega (arith, c.if-report.false)) c.count.ensures (omega (arith, c.if-count-report.false)) (omega (arith, c.if-report-2.false)) (omega (arith, c.if-report-3.false))
