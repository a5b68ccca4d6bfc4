-- The line of the function, by what its check told.
--     Named, wrote_product, wrote_sum, wrote_last           the function's name, by what the function check says to each
use Prim.Native.Nat.{ℕ}
use mathlib.Core.Path.{◌≡◌, sym, subst}
use mathlib.Core.Bool.{Bool, true, false, cond}
use mathlib.Core.List.{List, ◌++◌}
use Rattle.basics.specs.Quoted.{bytes}
use Rattle.table.specs.Answers.{function_check}
use Rattle.pages.specs.Page.{Wrote}
use Rattle.figure_lines.specs.Figures.{says_yes, function_line}

module _ (page : List ℕ) (at : ℕ) (after : List ℕ) (end : ℕ) where
  -- whether the function is the product, the sum, a copy
  abbrev pub Named : Bool → Bool → Bool → Type 0
  Named product sum copy =
      Wrote page at
      (bytes "function " ++ cond product (bytes "product") (cond sum (bytes "sum") (cond copy (bytes "copy") (bytes "other"))) ++ bytes "\n")
      after end

  module _ (table : List ℕ) (shares masks : ℕ) where
    abbrev says : ℕ → Bool
    says function = says_yes (function_check table shares masks function)

    abbrev Line : Type 0
    Line = Wrote page at (function_line table shares masks) after end

    pub wrote_product : says 1 ≡ true → Wrote page at (bytes "function product\n") after end → Line
    unfolding function_line
    wrote_product e w = subst (λ (b : Bool). Named b (says 2) (says 3)) (sym e) w

    pub wrote_sum : says 1 ≡ false → says 2 ≡ true → Wrote page at (bytes "function sum\n") after end → Line
    unfolding function_line
    wrote_sum e f w = subst (λ (b : Bool). Named b (says 2) (says 3)) (sym e) (subst (λ (b : Bool). Named false b (says 3)) (sym f) w)

    pub wrote_last : (c : Bool) → says 1 ≡ false → says 2 ≡ false → says 3 ≡ c → Named false false c → Line
    unfolding function_line
    wrote_last c e f g w =
        subst (λ (b : Bool). Named b (says 2) (says 3)) (sym e)
        (subst (λ (b : Bool). Named false b (says 3)) (sym f) (subst (λ (b : Bool). Named false false b) (sym g) w))
