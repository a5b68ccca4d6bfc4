-- The two header lines, by what the tests on them say.
--     order-word, order-short, order-low, order-high, order_tail      a wrong first line: other bytes, no digit, one below 1, one above the highest order,
--                                                                     more after it
--     order_is                                                        the order of the first line
--     masks-word                                                      a wrong second line: other bytes
--     masks-none, masks-some                                          the second line where no name stands in it, and where one has to
use Rattle.std.specs.Prelude.{Some, None}
use Prim.Native.Nat.{ℕ, ◌+◌, ◌-◌, ◌≤◌, ◌<◌}
use native.Mathlib.Omega.{arith}
use mathlib.Core.Path.{◌≡◌, refl, sym, ◌∙◌, ap}
use mathlib.Core.Bool.{Bool, true, false, cond, and-true}
use mathlib.Core.List.{List, [], ◌∷◌}
use borrow.Author.Tests.{lt-leb, le-leb}
use lib.Dec.{eqb, leb}
use lib.ListN.{length, take, drop, get_or, drop_of_length-le}
use lib.Seq.{drop-drop}
use Rattle.limits.specs.Limits.{max_order}
use Rattle.description.specs.Bytes.{order_word, masks_word, figure, ended, same}
use Rattle.description.specs.Header.{order_digit, order_line, closed, names_from, bracket_here, masks_line}
use Rattle.description.proofs.Running.{drop_byte}
use Rattle.tokens.proofs.Runs.{stands_at}

module _ (text : List ℕ) where
  pub order-word : stands_at text 0 order_word ≡ false → order_line text ≡ None
  unfolding order_line
  order-word e = ap (λ (b : Bool). cond b (order_digit (drop 8 text)) None) e

  module _ (e : stands_at text 0 order_word ≡ true) where
    then_digit : order_line text ≡ order_digit (drop 8 text)
    unfolding order_line
    then_digit = ap (λ (b : Bool). cond b (order_digit (drop 8 text)) None) e

    pub order-short : length text < 9 → order_line text ≡ None
    order-short h = then_digit ∙ ap order_digit (drop_of_length-le text {i = 8} (omega arith))

    module _ (inside : 9 ≤ length text) where
      digit_there : order_line text ≡ order_digit (get_or text 8 0 ∷ drop 9 text)
      digit_there = then_digit ∙ ap order_digit (drop_byte text 8 inside)

      pub order-low : get_or text 8 0 < figure 1 → order_line text ≡ None
      order-low h = digit_there ∙ simp (lt-leb (figure 1) (get_or text 8 0) h)

      module _ (low : figure 1 ≤ get_or text 8 0) (v : ℕ) (w : v ≡ get_or text 8 0 - 48) where
        pub order-high : max_order < v → order_line text ≡ None
        order-high h =
            digit_there ∙ simp (le-leb (figure 1) (get_or text 8 0) low, lt-leb (get_or text 8 0) (figure max_order) (omega (arith, low, w, h)))

        module _ (high : v ≤ max_order) where
          most : leb (get_or text 8 0) (figure max_order) ≡ true
          most = le-leb (get_or text 8 0) (figure max_order) (omega (arith, low, w, high))

          pub order_tail : ended (drop 9 text) ≡ false → order_line text ≡ None
          order_tail t = digit_there ∙ simp (le-leb (figure 1) (get_or text 8 0) low, most, t)

          pub order_is : ended (drop 9 text) ≡ true → order_line text ≡ Some v
          order_is t = digit_there ∙ simp (le-leb (figure 1) (get_or text 8 0) low, most, t, w)

-- ---- the second line

bracket-stands : (l : List ℕ) → bracket_here l ≡ same (take 1 l) (93 ∷ [])
bracket-stands [] = refl
bracket-stands (c ∷ l) = sym (and-true (eqb c 93))

module _ (text : List ℕ) (at : ℕ) where
  pub masks-word : stands_at text at masks_word ≡ false → masks_line at (drop at text) ≡ None
  unfolding masks_line
  masks-word e = simp e

  module _ (e : stands_at text at masks_word ≡ true) where
    then_names : (b : Bool) → stands_at text (at + 9) (93 ∷ []) ≡ b
        → masks_line at (drop at text)
        ≡ cond b (closed 0 0 (at + 9) (drop (at + 9) text)) (names_from 0 0 (at + 9) 0 (drop (at + 9) text))
    unfolding masks_line
    then_names b s =
        ap
        (λ (b : Bool).
        cond b
        (cond (bracket_here (drop 9 (drop at text))) (closed 0 0 (at + 9) (drop 9 (drop at text)))
        (names_from 0 0 (at + 9) 0 (drop 9 (drop at text))))
        None)
        e
        ∙ ap (λ (l : List ℕ). cond (bracket_here l) (closed 0 0 (at + 9) l) (names_from 0 0 (at + 9) 0 l)) (drop-drop 9 at text)
        ∙ ap
        (λ (b : Bool). cond b (closed 0 0 (at + 9) (drop (at + 9) text)) (names_from 0 0 (at + 9) 0 (drop (at + 9) text)))
        (bracket-stands (drop (at + 9) text) ∙ s)

    pub masks-none : stands_at text (at + 9) (93 ∷ []) ≡ true → masks_line at (drop at text) ≡ closed 0 0 (at + 9) (drop (at + 9) text)
    masks-none s = then_names true s

    pub masks-some : stands_at text (at + 9) (93 ∷ []) ≡ false → masks_line at (drop at text) ≡ names_from 0 0 (at + 9) 0 (drop (at + 9) text)
    masks-some s = then_names false s
