-- Reading by itself gives the numbers 1 to 9: 10 is for what has been read.
--     Low, below-ten     a text that is turned down gets a number below 10
use Prim.Native.Nat.{ℕ, zero, suc, ◌+◌, ◌<◌}
use native.Mathlib.Omega.{arith}
use mathlib.Core.Bool.{Bool, true, false, cond}
use mathlib.Core.List.{List, [], ◌∷◌}
use lib.Dec.{ltb, eqb}
use lib.ListN.{length, drop}
use Rattle.description.specs.Bytes.{space, line_end, opening, closing, bar, word}
use Rattle.description.specs.Header.{order_line, masks_line}
use Rattle.description.specs.Symbols.{symbol_read}
use Rattle.description.specs.Run.{Around, State, Step, go, stop, Outcome, done, refused, Reading, read, turned_down, refusal_number, line_step, close_step, symbol_step, step, finish, run, start, listed, after_masks, after_order, reading, max_text, max_depth, second_at}
use Rattle.std.specs.Prelude.{Option, Some, None, Result, Ok, Err}
use Rattle.wires.specs.declared.Symbol.{Symbol}
use Rattle.description.specs.declared.SymbolFault.{SymbolFault}
use Rattle.description.specs.declared.Masks.{Masks}

-- what stops, or is refused, gets a number below 10
abbrev Stops : Step → Type 0
Stops (go pass s) = Unit {0}
Stops (stop why) = refusal_number why < 10

abbrev Ends : Outcome → Type 0
Ends (done s) = Unit {0}
Ends (refused why at) = refusal_number why < 10

abbrev pub Low : Reading → Type 0
Low (read order masks ws) = Unit {0}
Low (turned_down why offset) = refusal_number why < 10

either : {A : Type 0} (P : A → Type 0) (b : Bool) {x y : A} → P x → P y → P (cond b x y)
either P true p q = p
either P false p q = q

line_stops : (around : List Around) (s : State) → Stops (line_step around s)
line_stops [] s = tt
line_stops (g ∷ around) s = omega arith

close_stops : (at : ℕ) (around : List Around) (s : State) → Stops (close_step at around s)
close_stops at [] s = omega arith
close_stops at (g ∷ around) s = either Stops s.group.filled tt (omega arith)

symbol_stops : (at size : ℕ) (a : Result Symbol SymbolFault) (s : State) → Stops (symbol_step at size a s)
symbol_stops at size (Err SymbolFault.NoSuch) s = omega arith
symbol_stops at size (Err SymbolFault.NotDeclared) s = omega arith
symbol_stops at size (Ok symbol) s = tt

step_stops : (shares declared at : ℕ) (s : State) (c : ℕ) (l : List ℕ) → Stops (step shares declared at s c l)
step_stops shares declared at s c l =
    either Stops (eqb c space) tt
    (either Stops (eqb c line_end) (line_stops s.around s)
    (either Stops (eqb s.lines shares) (omega arith)
    (either Stops (eqb c opening) (either Stops (eqb (length s.around) max_depth) (omega arith) tt)
    (either Stops (eqb c bar) (omega arith)
    (either Stops (eqb c closing) (close_stops at s.around s)
    (symbol_stops at (length (word (c ∷ l))) (symbol_read shares declared (word (c ∷ l))) s))))))

finish-ends : (shares at : ℕ) (t : Step) → Stops t → Ends (finish shares at t)
finish-ends shares at (go pass s) low = either Ends (ltb s.lines shares) (omega arith) tt
finish-ends shares at (stop why) low = low

run_ends : (shares declared : ℕ) (l : List ℕ) (at pass : ℕ) (s : State) → Ends (run shares declared at pass s l)
unfolding run
run_ends shares declared [] at pass s = finish-ends shares at (line_step s.around s) (line_stops s.around s)
run_ends shares declared (c ∷ l) at (suc pass) s = run_ends shares declared l (at + 1) pass s
run_ends shares declared (c ∷ l) at zero s = by (step shares declared at s c l) (step_stops shares declared at s c l) (run_ends shares declared l (at + 1))
  where
    by : (t : Step) → Stops t → ((pass : ℕ) (s : State) → Ends (run shares declared (at + 1) pass s l))
        → Ends (elim t [ go pass t ↦ run shares declared (at + 1) pass t l | stop why ↦ refused why at ])
    by (go pass t) low later = later pass t
    by (stop why) low later = low

listed-low : (order masks : ℕ) (o : Outcome) → Ends o → Low (listed order masks o)
listed-low order masks (done s) low = tt
listed-low order masks (refused why at) low = low

masks-low : (text : List ℕ) (order : ℕ) (line : Option Masks) → Low (after_masks text order line)
masks-low text order None = omega arith
masks-low text order (Some m) =
    listed-low order m.count (run (order + 1) m.declared m.end 0 start (drop m.end text))
    (run_ends (order + 1) m.declared (drop m.end text) m.end 0 start)

order-low : (text : List ℕ) (line : Option ℕ) → Low (after_order text line)
order-low text None = omega arith
order-low text (Some order) = masks-low text order (masks_line second_at (drop second_at text))

pub below-ten : (text : List ℕ) → Low (reading text)
below-ten text = either Low (ltb max_text (length text)) (omega arith) (order-low text (order_line text))
