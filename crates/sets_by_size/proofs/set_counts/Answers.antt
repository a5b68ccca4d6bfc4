-- `sets_by_size::set_counts` meets its contract: before each turn the numbers of the sizes so far stand in their places, and the rest is 0.
use Prim.Native.Nat.{ℕ, ◌<◌}
use native.Mathlib.Omega.{arith}
use mathlib.Core.Path.{◌≡◌, subst}
use Rattle.sets_by_size.proofs.Counting.{places, begun, begun_none, counted_more, counted_all}
use Rattle.sets_by_size.proofs.set_counts.Goals as goal

pub loop-i-init : goal.loop-i-init
loop-i-init c = begun_none c.args.wires c.args.order c.requires.1

pub loop-i-preserved : goal.loop-i-preserved
loop-i-preserved c =
    let l = c.loop-i in
    let inside : l.i < c.args.order = omega (arith, places c.args.order c.requires.1) in
    rw c.count.ensures (counted_more c.args.wires c.args.order l.place-items l.i inside l.invariant)

pub returns : goal.returns
returns c =
    let l = c.loop-i in
    let all : l.i ≡ c.args.order = omega (arith, places c.args.order c.requires.1) in
    counted_all c.args.wires c.args.order l.place-items (subst (λ (i : ℕ). l.place-items ≡ begun c.args.wires c.args.order i) all l.invariant)
