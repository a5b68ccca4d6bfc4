-- What the set dependence tells, as it is written.
--     wrote_operands                               the operands that are named
--     told_operands                                which operands are named, by what is told
use Prim.Native.Nat.{ℕ}
use mathlib.Core.Path.{◌≡◌, sym, subst}
use mathlib.Core.Bool.{Bool}
use mathlib.Core.List.{List}
use Rattle.basics.specs.Told.{Told}
use Rattle.pages.specs.Page.{Wrote}
use Rattle.operand_words.specs.Operands.{operands_named, operands}

module _ (page : List ℕ) (at : ℕ) (after : List ℕ) (end : ℕ) where
  pub wrote_operands : (a b x y : Bool) → a ≡ x → b ≡ y → Wrote page at (operands_named x y) after end → Wrote page at (operands_named a b) after end
  wrote_operands a b x y e f w =
      subst (λ (k : Bool). Wrote page at (operands_named k b) after end) (sym e)
      (subst (λ (k : Bool). Wrote page at (operands_named x k) after end) (sym f) w)

-- the operands by what is told of the set's dependence
pub told_operands : (page : List ℕ) (at : ℕ) (after : List ℕ) (end : ℕ) (of told : Told) → of ≡ told → Wrote page at (operands of) after end
    → Wrote page at (operands told) after end
told_operands page at after end of told e w = subst (λ (t : Told). Wrote page at (operands t) after end) e w
