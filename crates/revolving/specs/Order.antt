-- The published order of the sets of wires (scope, "Numbering and dividing"). A set is written as the list of its wires, rising.
--     revolving n k   the sets of k out of n wires in revolving-door order (a Gray code of the combinations)
--     set_at n k r     the set at rank r
--     rising s        each wire is below the next
--     below n s       each wire is one of a table of n
--     is_set n k s     s is a set of k out of n wires
--     same s t        the two lists are equal
--     place_of s l     the first place at which s stands in l
--     rank_of n s      the rank of s among the sets of its size out of n wires
--     times_in s l     at how many places of l the list s stands
use Rattle.std.specs.Prelude.{ℕ, zero, suc, ◌+◌, Bool, true, false, cond, ◌&&◌, List, [], ◌∷◌, ◌++◌, map, reverse, ltb, eqb, length, get_or}

-- first those without wire n in their order, then those with it, in the reverse order of their other k wires
unfoldable pub revolving : ℕ → ℕ → List (List ℕ)
revolving n zero = [] ∷ []
revolving zero (suc k) = []
revolving (suc n) (suc k) = revolving n (suc k) ++ map (λ s. s ++ (n ∷ [])) (reverse (revolving n k))

-- ranks start at 0
abbrev pub set_at : ℕ → ℕ → ℕ → List ℕ
set_at n k r = get_or (revolving n k) r []

abbrev pub rising : List ℕ → Bool
rising [] = true
rising (x ∷ []) = true
rising (x ∷ y ∷ s) = ltb x y && rising (y ∷ s)

abbrev pub below : ℕ → List ℕ → Bool
below n [] = true
below n (x ∷ s) = ltb x n && below n s

abbrev pub is_set : ℕ → ℕ → List ℕ → Bool
is_set n k s = eqb (length s) k && (rising s && below n s)

abbrev pub same : List ℕ → List ℕ → Bool
same [] [] = true
same [] (y ∷ t) = false
same (x ∷ s) [] = false
same (x ∷ s) (y ∷ t) = eqb x y && same s t

abbrev pub place_of : List ℕ → List (List ℕ) → ℕ
place_of s [] = 0
place_of s (t ∷ l) = cond (same s t) 0 (suc (place_of s l))

abbrev pub rank_of : ℕ → List ℕ → ℕ
rank_of n s = place_of s (revolving n (length s))

abbrev pub times_in : List ℕ → List (List ℕ) → ℕ
times_in s [] = 0
times_in s (t ∷ l) = cond (same s t) 1 0 + times_in s l
