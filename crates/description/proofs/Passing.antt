-- The run at a byte of the text: where it goes on and in which state, or that it is refused.
--     at_space                   at a space
--     at_line_end, wrong_end     at a line end, with no parenthesis open, with one open
--     at_over                    at any other byte, when all output lines are done
--     at_opening, too_deep       at a parenthesis opened
--     at_closing, not_open, nothing-inside     at a parenthesis closed
--     at_bar                     at a bar
--     at_symbol, no_such, not_declared         at a byte of a symbol; `at_fault`: of a run of bytes that is none to take
--     open_at_end, few_at_end, done_at_end     at the text's end: a parenthesis still open, lines too few, neither
use Rattle.std.specs.Prelude.{Result, Ok, Err}
use Prim.Native.Nat.{ℕ, ◌+◌, ◌-◌, ◌≤◌, ◌<◌}
use native.Mathlib.Omega.{arith}
use mathlib.Core.Path.{◌≡◌, sym, ◌∙◌, ap}
use mathlib.Core.Bool.{Bool, true, false, cond}
use mathlib.Core.List.{List, [], ◌∷◌}
use borrow.Author.Tests.{lt-ltb, le-ltb}
use lib.Dec.{eqb, ltb}
use lib.ListN.{length, drop, get_or, length-drop}
use Rattle.description.specs.Bytes.{space, line_end, opening, closing, bar, parts, word}
use Rattle.description.specs.Symbols.{symbol_read}
use Rattle.description.specs.Run.{State, Around, done, refused, run_at, finish, max_depth, placed, took, opened, closed}
use Rattle.description.specs.Run.{go, stop, step, line_step, line_done, close_step, symbol_refusal, symbol_step}
use Rattle.wires.specs.declared.Symbol.{Symbol}
use Rattle.description.specs.declared.SymbolFault.{SymbolFault}
use Rattle.description.specs.declared.SymbolFault.TheVariants.{NoSuch, NotDeclared}
use Rattle.description.specs.declared.Refusal.TheVariants.{NoSuchSymbol, MaskNotDeclared, WrongParenthesis, Bar, NestedTooDeep, WrongLineCount}
use Rattle.description.proofs.Running.{drop_byte, run-go, run-stop, run_end}
use Rattle.description.proofs.Places.{word-inside}
use Rattle.description.proofs.Steps.{step-space, step_line, step_over, step_open, step-bar, step_close, step-symbol}

module _ (shares declared : ℕ) (text : List ℕ) (p : ℕ) (s : State) (inside : p < length text) where
  abbrev byte : ℕ
  byte = get_or text p 0

  abbrev rest : List ℕ
  rest = drop (p + 1) text

  next : (t : State) → step shares declared p s byte rest ≡ go 0 t → run_at shares declared text p s ≡ run_at shares declared text (p + 1) t
  next t e =
      let more : p + 1 + 0 ≡ p + 1 = omega arith in
      run-go shares declared text p s inside 0 t e (omega (arith, inside)) ∙ ap (λ (k : ℕ). run_at shares declared text k t) more

  pub at_space : byte ≡ space → run_at shares declared text p s ≡ run_at shares declared text (p + 1) s
  at_space e = next s (step-space shares declared p s byte rest e)

  pub at_line_end : byte ≡ line_end → s.around ≡ []
      → run_at shares declared text p s ≡ run_at shares declared text (p + 1) (cond s.group.filled (line_done s) s)
  at_line_end e f =
      next (cond s.group.filled (line_done s) s)
      (step_line shares declared p s byte rest e ∙ ap (λ around. line_step around s) f)

  pub wrong_end : (g : Around) (around : List Around) → byte ≡ line_end → s.around ≡ g ∷ around
      → run_at shares declared text p s ≡ refused WrongParenthesis p
  wrong_end g around e f =
      run-stop shares declared text p s inside WrongParenthesis
      (step_line shares declared p s byte rest e ∙ ap (λ around. line_step around s) f)

  pub at_over : eqb byte space ≡ false → eqb byte line_end ≡ false → eqb s.lines shares ≡ true
      → run_at shares declared text p s ≡ refused WrongLineCount p
  at_over a b h = run-stop shares declared text p s inside WrongLineCount (step_over shares declared p s byte rest a b h)

  module _ (fewer : eqb s.lines shares ≡ false) where
    opening-step : (deep : Bool) → byte ≡ opening → eqb (length s.around) max_depth ≡ deep
        → step shares declared p s byte rest ≡ cond deep (stop NestedTooDeep) (go 0 (opened p s))
    opening-step deep e h =
        step_open shares declared p s byte rest fewer e ∙ ap (λ (b : Bool). cond b (stop NestedTooDeep) (go 0 (opened p s))) h

    pub at_opening : byte ≡ opening → eqb (length s.around) max_depth ≡ false
        → run_at shares declared text p s ≡ run_at shares declared text (p + 1) (opened p s)
    at_opening e h = next (opened p s) (opening-step false e h)

    pub too_deep : byte ≡ opening → eqb (length s.around) max_depth ≡ true → run_at shares declared text p s ≡ refused NestedTooDeep p
    too_deep e h = run-stop shares declared text p s inside NestedTooDeep (opening-step true e h)

    closing-step : (g : Around) (around : List Around) (filled : Bool) → byte ≡ closing → s.around ≡ g ∷ around → s.group.filled ≡ filled
        → step shares declared p s byte rest ≡ cond filled (go 0 (closed p g around s)) (stop WrongParenthesis)
    closing-step g around filled e f h =
        step_close shares declared p s byte rest fewer e ∙ ap (λ around. close_step p around s) f
        ∙ ap (λ (b : Bool). cond b (go 0 (closed p g around s)) (stop WrongParenthesis)) h

    pub at_closing : (g : Around) (around : List Around) → byte ≡ closing → s.around ≡ g ∷ around → s.group.filled ≡ true
        → run_at shares declared text p s ≡ run_at shares declared text (p + 1) (closed p g around s)
    at_closing g around e f h = next (closed p g around s) (closing-step g around true e f h)

    pub nothing-inside : (g : Around) (around : List Around) → byte ≡ closing → s.around ≡ g ∷ around → s.group.filled ≡ false
        → run_at shares declared text p s ≡ refused WrongParenthesis p
    nothing-inside g around e f h = run-stop shares declared text p s inside WrongParenthesis (closing-step g around false e f h)

    pub not_open : byte ≡ closing → s.around ≡ [] → run_at shares declared text p s ≡ refused WrongParenthesis p
    not_open e f =
        run-stop shares declared text p s inside WrongParenthesis
        (step_close shares declared p s byte rest fewer e ∙ ap (λ around. close_step p around s) f)

    pub at_bar : byte ≡ bar → run_at shares declared text p s ≡ refused Bar p
    at_bar e = run-stop shares declared text p s inside Bar (step-bar shares declared p s byte rest fewer e)

    module _ (joined : parts byte ≡ false) where
      symbol-step : (answer : Result Symbol SymbolFault) → symbol_read shares declared (word (drop p text)) ≡ answer
          → step shares declared p s byte rest ≡ symbol_step p (length (word (drop p text))) answer s
      symbol-step answer e =
          step-symbol shares declared p s byte rest fewer joined
          ∙ ap (λ l. symbol_step p (length (word l)) (symbol_read shares declared (word l)) s) (sym (drop_byte text p inside))
          ∙ ap (λ (a : Result Symbol SymbolFault). symbol_step p (length (word (drop p text))) a s) e

      pub at_symbol : (u : Symbol) → symbol_read shares declared (word (drop p text)) ≡ Ok u → 0 < length (word (drop p text))
          → run_at shares declared text p s ≡ run_at shares declared text (p + length (word (drop p text))) (took (placed p u) s)
      at_symbol u e h =
          let size = length (word (drop p text)) in
          let within = word-inside (drop p text) in
          let left = length-drop p text in
          let more : p + 1 + (size - 1) ≡ p + size = omega (arith, h) in
          run-go shares declared text p s inside (size - 1) (took (placed p u) s) (symbol-step (Ok u) e)
          (omega (arith, inside, within, left, h))
          ∙ ap (λ (k : ℕ). run_at shares declared text k (took (placed p u) s)) more

      pub at_fault : (fault : SymbolFault) → symbol_read shares declared (word (drop p text)) ≡ Err fault
          → run_at shares declared text p s ≡ refused (symbol_refusal fault) p
      at_fault fault e = run-stop shares declared text p s inside (symbol_refusal fault) (symbol-step (Err fault) e)

      pub no_such : symbol_read shares declared (word (drop p text)) ≡ Err NoSuch → run_at shares declared text p s ≡ refused NoSuchSymbol p
      no_such e = at_fault NoSuch e

      pub not_declared : symbol_read shares declared (word (drop p text)) ≡ Err NotDeclared → run_at shares declared text p s ≡ refused MaskNotDeclared p
      not_declared e = at_fault NotDeclared e

-- the text's end is a line's end
module _ (shares declared : ℕ) (text : List ℕ) (p : ℕ) (s : State) (outside : length text ≤ p) where
  pub open_at_end : (g : Around) (around : List Around) → s.around ≡ g ∷ around → run_at shares declared text p s ≡ refused WrongParenthesis p
  open_at_end g around f = run_end shares declared text p s outside ∙ ap (λ around. finish shares p (line_step around s)) f

  abbrev ended-line : State
  ended-line = cond s.group.filled (line_done s) s

  closed-end : (few : Bool) → s.around ≡ [] → ltb ended-line.lines shares ≡ few
      → run_at shares declared text p s ≡ cond few (refused WrongLineCount p) (done ended-line)
  closed-end few f e =
      run_end shares declared text p s outside ∙ ap (λ around. finish shares p (line_step around s)) f
      ∙ ap (λ (b : Bool). cond b (refused WrongLineCount p) (done ended-line)) e

  pub few_at_end : s.around ≡ [] → ended-line.lines < shares → run_at shares declared text p s ≡ refused WrongLineCount p
  few_at_end f h = closed-end true f (lt-ltb ended-line.lines shares h)

  pub done_at_end : s.around ≡ [] → shares ≤ ended-line.lines → run_at shares declared text p s ≡ done ended-line
  done_at_end f h = closed-end false f (le-ltb ended-line.lines shares h)
