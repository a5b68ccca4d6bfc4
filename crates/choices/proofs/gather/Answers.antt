-- `choices::gather` meets its contract: before each turn the chosen wires among the first ones stand at the set's start.
use Prim.Native.Nat.{ℕ, ◌-◌, ◌<◌, ◌≤◌}
use native.Mathlib.Omega.{arith}
use mathlib.Core.Path.{◌≡◌, sym, ◌∙◌}
use mathlib.Core.List.{List}
use lib.ListN.{length, take, get_or, length-take}
use lib.Seq.{get_or-take}
use borrow.Author.Rules.{rules}
use Rattle.choices.specs.Marks.{is_chosen}
use Rattle.choices.proofs.Marking.{read_chosen, read-not_chosen}
use Rattle.choices.proofs.Gathering.{none_gathered, gather_room, gather_more, gather_less, gather_all}
use Rattle.choices.proofs.gather.Goals as goal
use Rattle.choices.proofs.gather.Goals.{then-mark-eq-CHOSEN, else-mark-eq-CHOSEN}

-- as many marks as wires are looked at
looked : (marks : List ℕ) (n wires : ℕ) → length marks ≡ n → wires ≤ n → length (take (wires - 0) marks) ≡ wires
looked marks n wires e h = omega (arith, length-take (wires - 0) marks, e, h)

-- a mark among the first
front : (marks : List ℕ) (n wires wire : ℕ) → length marks ≡ n → wires ≤ n → wire < length (take (wires - 0) marks)
    → get_or (take (wires - 0) marks) wire 0 ≡ get_or marks wire 0
front marks n wires wire e h inside = get_or-take (wires - 0) marks wire 0 (omega (arith, inside, looked marks n wires e h))

room : (c : goal.Then-mark-eq-CHOSEN) → c.loop-wire.size < length c.loop-wire.set
room c =
    let marks = c.args.marks.now in
    let is = front marks _ _ _ c.told-marks c.requires.0 c.loop-wire-test.true in
    gather_room _ _ _ _ _ c.loop-wire.invariant c.args.wires (omega (arith, c.loop-wire-test.true, looked marks _ _ c.told-marks c.requires.0)) c.requires.1
    (read_chosen _ _ (sym is ∙ c.if-mark-eq-CHOSEN.true))

pub loop-wire-init : goal.loop-wire-init
loop-wire-init c = none_gathered (is_chosen c.args.marks.now) c.args.set.now

pub offset_bounds-set-size : goal.offset_bounds-set-size
offset_bounds-set-size c = let fits = room c in search rules

pub bounds-set-size : goal.bounds-set-size
bounds-set-size c = room c

pub overflow_add-size : goal.overflow_add-size
overflow_add-size c = let fits = room c in search rules

pub loop-wire-preserved : goal.loop-wire-preserved
loop-wire-preserved c =
    let marks = c.args.marks.now in
    let inside : c.loop-wire.wire < c.args.wires = omega (arith, c.loop-wire-test.true, looked marks _ _ c.told-marks c.requires.0) in
    let is = front marks _ _ _ c.told-marks c.requires.0 c.loop-wire-test.true in
    elim c.if-mark-eq-CHOSEN.branch [
      | then-mark-eq-CHOSEN w ↦
          let taken = read_chosen _ _ (sym is ∙ w.if-mark-eq-CHOSEN.true) in
          rw (w.set-is, w.size-is)
          (gather_more _ _ _ _ _ c.loop-wire.invariant (gather_room _ _ _ _ _ c.loop-wire.invariant c.args.wires inside c.requires.1 taken) taken)
      | else-mark-eq-CHOSEN w ↦
          rw (w.set-is, w.size-is)
          (gather_less _ _ _ _ _ c.loop-wire.invariant (read-not_chosen _ _ (λ e. w.if-mark-eq-CHOSEN.false (is ∙ e))))
    ]

pub returns : goal.returns
returns c = gather_all _ _ _ _ _ c.loop-wire.invariant _ (omega (arith, c.loop-wire-test.false, looked _ _ _ c.told-marks c.requires.0))
