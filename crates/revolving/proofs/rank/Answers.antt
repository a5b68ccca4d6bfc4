-- `revolving::rank` meets its contract: before each turn r is the rank of the first i wires.
use Prim.Native.Nat.{ℕ}
use native.Mathlib.Omega.{arith}
use mathlib.Core.Path.{◌≡◌, subst}
use lib.ListN.{length}
use Rattle.revolving.proofs.Unranking.{Ranked, wire_inside, ranked-none, ranked-fits, ranked-next, ranked-all}
use Rattle.revolving.proofs.rank.Goals as goal

pub loop-i-init : goal.loop-i-init
loop-i-init c = ranked-none c.args.set.now

pub count-through-requires : goal.count-through-requires
count-through-requires c =
    let l = c.loop-i in
    let a = c.args in
    let pre = c.requires.n_le_max_wires in
    let inside = wire_inside a.n a.set.now l.i pre.2 (omega arith) in record { counts = c.requires.counts; n_le_max_wires = (omega arith, omega arith) }

pub overflow_sub-r : goal.overflow_sub-r
overflow_sub-r c =
    let l = c.loop-i in
    let fits = ranked-fits c.args.n c.args.set.now l.i c.requires.n_le_max_wires.2 (omega arith) l.r l.invariant in
    omega (arith, rw c.from.ensures at c.count-through.ensures)

pub overflow_sub-r-in-loop-i : goal.overflow_sub-r-in-loop-i
overflow_sub-r-in-loop-i c =
    let l = c.loop-i in
    let fits = ranked-fits c.args.n c.args.set.now l.i c.requires.n_le_max_wires.2 (omega arith) l.r l.invariant in
    omega (arith, rw c.from.ensures at c.count-through.ensures)

pub loop-i-preserved : goal.loop-i-preserved
loop-i-preserved c =
    let l = c.loop-i in
    rw (c.count-through.ensures, c.from.ensures) (ranked-next c.args.n c.args.set.now l.i c.requires.n_le_max_wires.2 (omega arith) l.r l.invariant)

pub returns : goal.returns
returns c =
    let l = c.loop-i in
    let whole : l.i ≡ length c.args.set.now = omega arith in
    ranked-all c.args.n c.args.set.now l.r c.requires.n_le_max_wires.2 (subst (λ (i : ℕ). Ranked c.args.set.now i l.r) whole l.invariant)
