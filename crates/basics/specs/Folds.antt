-- Sums without carry, tests and counts over a list.
--     fold _*_ e f l    f x * (f y * … e) for the elements x, y, … of l
--     parity f l        the sum without carry of the bits f x
--     some f l          whether f x for some x of l
--     every f l         whether f x for every x of l
--     count f l         for how many places of l the test f passes
--     one_if b           1 where the test passes, else 0
--     keep f l          the elements x of l with f x, in their order
--     up_to n            0, 1, …, n - 1
use Rattle.std.specs.Prelude.{ℕ, zero, suc, ◌+◌, Bool, true, false, cond, ◌&&◌, ◌||◌, List, [], ◌∷◌, map}
use Rattle.std.specs.Bool.{xor}

module _ {A B : Type 0} where
  abbrev pub fold : (B → B → B) → B → (A → B) → List A → B
  fold op e f [] = e
  fold op e f (x ∷ l) = op (f x) (fold op e f l)

-- once or not at all
abbrev pub one_if : Bool → ℕ
one_if b = cond b 1 0

module _ {A : Type 0} where
  abbrev pub parity : (A → Bool) → List A → Bool
  parity = fold xor false

  abbrev pub some : (A → Bool) → List A → Bool
  some = fold ◌||◌ false

  abbrev pub every : (A → Bool) → List A → Bool
  every = fold ◌&&◌ true

  abbrev pub count : (A → Bool) → List A → ℕ
  count f = fold ◌+◌ 0 (λ x. one_if (f x))

  abbrev pub keep : (A → Bool) → List A → List A
  keep f [] = []
  keep f (x ∷ l) = cond (f x) (x ∷ keep f l) (keep f l)

unfoldable pub up_to : ℕ → List ℕ
up_to zero = []
up_to (suc n) = 0 ∷ map suc (up_to n)
