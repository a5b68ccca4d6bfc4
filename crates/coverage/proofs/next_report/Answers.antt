-- `coverage::next_report` meets its contract: by whether the pass goes backward.
use Prim.Native.Nat.{◌-◌}
use native.Mathlib.Omega.{arith}
use mathlib.Core.Path.{sym, ap}
use mathlib.Core.Bool.{Bool, cond}
use Rattle.coverage.proofs.next_report.Goals as goal

pub returns-then-backward : goal.returns-then-backward
returns-then-backward c =
    let a = c.args in
    (omega arith, ap (λ (b : Bool). cond b (a.count - 1 - a.turn) a.turn) (sym c.if-backward.true))

pub returns : goal.returns
returns c =
    let a = c.args in
    (omega arith, ap (λ (b : Bool). cond b (a.count - 1 - a.turn) a.turn) (sym c.if-backward.false))
