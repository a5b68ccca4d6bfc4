-- Bytes written to a page, one run after the other.
--     Wrote           the bytes stand on the page after what stood before the place, the next place is given, and from there on all is as it was
--     wire_numbers     the numbers of wires, a space before each
use Rattle.std.specs.Prelude.{ℕ, ◌+◌, ◌≡◌, List, [], ◌++◌, length, take, drop}
use Rattle.basics.specs.Folds.{fold}
use Rattle.basics.specs.Quoted.{bytes}
use Rattle.pages.specs.Decimal.{decimal}

pub record Wrote (before : List ℕ) (at : ℕ) (more after : List ℕ) (end : ℕ) : Type 0 where
  pub end_is : end ≡ at + length more
  pub stands : take end after ≡ take at before ++ more
  pub rest : drop end after ≡ drop end before  -- what lies past them is as it was

abbrev pub wire_numbers : List ℕ → List ℕ
wire_numbers = fold ◌++◌ [] (λ wire. bytes " " ++ decimal wire)
