-- How the step finds the place that moves. Below its highest wire x a set has one of the sets out of x wires, and these stand in reverse, so
-- directions alternate from place to place: to the next set at the highest place, to the one before at the place below it, and so on.
--     is_odd k             whether a size is odd: the lowest wire's direction is then that of the highest
--     head n l            the first of a list, or n where there is none
--     limit n s i         the wire of s at place i, or n where there is none: what the wires before that place stay below
--     room n s            how many steps in a row move the lowest wire alone, by one each: up where the size is odd, down where it is even
--     Blocked d n s j     the wires at the places 0 to j can not go on in direction d: they are the last set (d, to the next) or the first
--                         (not d, to the one before) of their size below their limit
use Rattle.std.specs.Prelude.{ℕ, ◌+◌, ◌-◌, ◌%◌, ◌≡◌, Bool, true, false, cond, List, [], ◌∷◌, ◌++◌, eqb, length, get_or, take, drop}
use Rattle.basics.specs.Folds.{up_to}

abbrev pub is_odd : ℕ → Bool
is_odd k = eqb (k % 2) 1

abbrev pub head : ℕ → List ℕ → ℕ
head n [] = n
head n (x ∷ l) = x

abbrev pub limit : ℕ → List ℕ → ℕ → ℕ
limit n s i = head n (drop i s)

unfoldable pub room : ℕ → List ℕ → ℕ
room n s = cond (is_odd (length s)) (limit n s 1 - 1 - get_or s 0 0) (get_or s 0 0)

unfoldable pub Blocked : Bool → ℕ → List ℕ → ℕ → Type 0
Blocked true n s j = (y : ℕ) × (limit n s (j + 1) ≡ y + 1) × (take (j + 1) s ≡ up_to j ++ (y ∷ []))
Blocked false n s j = take (j + 1) s ≡ up_to (j + 1)
