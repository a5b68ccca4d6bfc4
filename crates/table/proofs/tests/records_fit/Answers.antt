-- `table::tests::records_fit` meets its contract: no record before the present one is wrong.
use mathlib.Core.Path.{refl, sym, ◌∙◌, ap}
use mathlib.Core.Bool.{not}
use borrow.Author.Tests.{not-true, not-false}
use Rattle.basics.specs.Folds.{up_to}
use Rattle.basics.proofs.Folds.{some_at, none_more}
use Rattle.table.specs.Answers.{wrong_record}
use Rattle.records.specs.Layout.{record_at}
use Rattle.table.proofs.tests.records_fit.Goals as goal

pub loop-wire-init : goal.loop-wire-init
unfolding up_to
loop-wire-init c = refl

pub returns-then-not-record_fits : goal.returns-then-not-record_fits
returns-then-not-record_fits c =
    let a = c.args in
    sym
    (ap not
    (some_at _ _ (λ w. wrong_record a.shares a.masks (record_at a.table.now w)) c.loop-wire-test.true
    (not-false _ (sym c.record_fits.ensures ∙ c.if-not-record_fits.true))))

pub loop-wire-preserved : goal.loop-wire-preserved
loop-wire-preserved c =
    let a = c.args in
    none_more _ (λ w. wrong_record a.shares a.masks (record_at a.table.now w))
    c.loop-wire.invariant (not-true _ (sym c.record_fits.ensures ∙ c.if-not-record_fits.false))
