-- `revolving::unrank` meets its contract: before each turn the set that is left to write, with what the buffer holds past it, is the set
-- that was asked for with what the buffer held past that.
use Prim.Native.Nat.{◌+◌, ◌-◌}
use native.Mathlib.Omega.{arith}
use mathlib.Core.Path.{◌≡◌, refl}
use lib.ListN.{length-set}
use borrow.Author.Rules.{rules}
use Rattle.revolving.proofs.Unranking.{unrank_next, unrank_step, unrank_end}
use Rattle.revolving.proofs.unrank.Goals as goal

pub loop-place-init : goal.loop-place-init
loop-place-init c = (search rules, refl, search rules, refl)

pub loop-place-preserved : goal.loop-place-preserved
loop-place-preserved c =
    let l = c.loop-place in
    let wire = c.top_wire-wire.result in
    let some = c.loop-place-test.true in
    let e : l.place - 1 + 1 ≡ l.place = omega arith in
    let top = rw e at c.top_wire-wire.ensures in
    let count = rw e at c.count-sets.ensures in (
      omega (arith, top.0, l.invariant.0),
      simp length-set l.invariant.1,
      rw count (unrank_next l.n l.place l.r wire some top.0 top.1 top.2),
      rw count (unrank_step l.n l.place l.r wire l.set _ some (omega (arith, l.invariant.1, c.requires.wires_le_max_wires)) top.0 top.1 top.2 l.invariant.3),
    )

pub returns : goal.returns
returns c =
    let l = c.loop-place in
    unrank_end l.n l.place l.r l.set _ (omega arith) l.invariant.2 l.invariant.3
