-- What is done at a byte, by the byte that it is.
--     Kind, kind_of_lem              a space, a line end, or another
--     Other, other_of            of the others: a parenthesis, a bar, or a byte of a symbol
--     step-space, step_line      at a space, at a line end
--     step_over                  at another byte when all output lines are done
--     step_open, step_close      at a parenthesis opened, closed
--     step-bar                   at a bar
--     step-symbol                at a byte of a symbol
use Prim.Native.Nat.{ℕ}
use mathlib.Core.Path.{◌≡◌, refl, ◌∙◌, ap}
use mathlib.Core.Bool.{Bool, true, false}
use mathlib.Core.List.{List, ◌∷◌}
use borrow.Author.Tests.{eqb-true}
use lib.Dec.{eqb}
use lib.ListN.{length}
use Rattle.description.specs.Bytes.{space, line_end, opening, closing, bar, parts, word}
use Rattle.description.specs.Symbols.{symbol_read}
use Rattle.description.specs.Run.{State, go, stop, step, line_step, open_step, close_step, symbol_step}
use Rattle.description.specs.declared.Refusal.TheVariants.{Bar, WrongLineCount}
use Rattle.description.proofs.Places.{joined_byte}

pub data Kind (c : ℕ) : Type 0 where
  is-space : c ≡ space → Kind c
  is-line-end : c ≡ line_end → Kind c
  is-other : eqb c space ≡ false → eqb c line_end ≡ false → Kind c

pub kind_of_lem : (c : ℕ) → Kind c
kind_of_lem c = go (eqb c space) refl (eqb c line_end) refl
  where
    go : (a : Bool) → eqb c space ≡ a → (b : Bool) → eqb c line_end ≡ b → Kind c
    go true e b f = is-space (eqb-true c space e)
    go false e true f = is-line-end (eqb-true c line_end f)
    go false e false f = is-other e f

pub data Other (c : ℕ) : Type 0 where
  is-opening : c ≡ opening → Other c
  is-bar : c ≡ bar → Other c
  is-closing : c ≡ closing → Other c
  is-joined : parts c ≡ false → Other c

pub other_of : (c : ℕ) → eqb c space ≡ false → eqb c line_end ≡ false → Other c
other_of c a b = go (eqb c opening) refl (eqb c closing) refl (eqb c bar) refl
  where
    go : (x : Bool) → eqb c opening ≡ x → (y : Bool) → eqb c closing ≡ y → (z : Bool) → eqb c bar ≡ z → Other c
    go true e y f z g = is-opening (eqb-true c opening e)
    go false e true f z g = is-closing (eqb-true c closing f)
    go false e false f true g = is-bar (eqb-true c bar g)
    go false e false f false g = is-joined (simp (a, b, e, f, g))

module _ (shares declared at : ℕ) (s : State) (c : ℕ) (l : List ℕ) where
  pub step-space : c ≡ space → step shares declared at s c l ≡ go 0 s
  step-space e = ap (λ (b : ℕ). step shares declared at s b l) e

  pub step_line : c ≡ line_end → step shares declared at s c l ≡ line_step s.around s
  step_line e = ap (λ (b : ℕ). step shares declared at s b l) e

  pub step_over : eqb c space ≡ false → eqb c line_end ≡ false → eqb s.lines shares ≡ true → step shares declared at s c l ≡ stop WrongLineCount
  step_over a b h = simp (a, b, h) refl

  module _ (h : eqb s.lines shares ≡ false) where
    pub step_open : c ≡ opening → step shares declared at s c l ≡ open_step at s
    step_open e = ap (λ (b : ℕ). step shares declared at s b l) e ∙ simp h

    pub step-bar : c ≡ bar → step shares declared at s c l ≡ stop Bar
    step-bar e = ap (λ (b : ℕ). step shares declared at s b l) e ∙ simp h

    pub step_close : c ≡ closing → step shares declared at s c l ≡ close_step at s.around s
    step_close e = ap (λ (b : ℕ). step shares declared at s b l) e ∙ simp h

    pub step-symbol : parts c ≡ false
        → step shares declared at s c l ≡ symbol_step at (length (word (c ∷ l))) (symbol_read shares declared (word (c ∷ l))) s
    step-symbol e = let apart = joined_byte c e in simp (apart.0, apart.4, h, apart.1, apart.3, apart.2)
