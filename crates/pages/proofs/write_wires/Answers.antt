-- `pages::write_wires` meets its contract: before each turn the numbers of the wires up to there are written.
use native.Mathlib.Omega.{arith}
use Prim.Native.Nat.{ℕ}
use mathlib.Core.Path.{refl, subst}
use mathlib.Core.List.{◌++◌}
use borrow.Author.Rules.{rules}
use Rattle.basics.specs.Quoted.{bytes}
use Rattle.pages.specs.Decimal.{decimal}
use Rattle.pages.specs.Page.{Wrote}
use Rattle.pages.proofs.Writing.{wrote_nothing, wires_more, wires-all}
use Rattle.pages.proofs.write_wires.Goals as goal

pub loop-wire-init : goal.loop-wire-init
loop-wire-init c =
    let a = c.args in (refl, search rules, wrote_nothing a.page.now a.at)

pub write_named-end-requires : goal.write_named-end-requires
write_named-end-requires c =
    let inv = c.loop-wire.invariant in omega (
      arith,
      inv.0,
      inv.1,
      c.loop-wire-test.true,
      c.requires,
    )

pub loop-wire-preserved : goal.loop-wire-preserved
loop-wire-preserved c =
    let a = c.args in
    let l = c.loop-wire in
    let more = c.write_named-end.ensures in (
      search rules,
      omega (arith, l.invariant.1, more.upper_bound),
      wires_more a.page.now a.at a.set.now l.page l.end l.wire-index _ _ (search rules) l.invariant.2
          (subst (λ (wire : ℕ). Wrote l.page l.end (bytes " " ++ decimal wire) c.write_named-end.new.page c.write_named-end.result) c.from.ensures more.wrote),
    )

pub returns : goal.returns
returns c =
    let a = c.args in
    let l = c.loop-wire in record { wrote = wires-all a.page.now a.at a.set.now l.page l.end l.wire-index (search rules) l.invariant.2; upper_bound = search rules }
