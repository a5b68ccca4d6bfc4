-- Digits of shares after a letter.
--     is_product n w     whether w is a letter and two digits of shares below n
--     is_share n w       whether w is a letter and one digit of a share below n
use Rattle.std.specs.Prelude.{ℕ, Bool, false, ◌&&◌, List, [], ◌∷◌}
use Rattle.description.specs.Symbols.{share_digit}

abbrev pub is_product : ℕ → List ℕ → Bool
is_product n [] = false
is_product n (c ∷ []) = false
is_product n (c ∷ i ∷ []) = false
is_product n (c ∷ i ∷ j ∷ []) = share_digit n i && share_digit n j
is_product n (c ∷ i ∷ j ∷ k ∷ l) = false

abbrev pub is_share : ℕ → List ℕ → Bool
is_share n [] = false
is_share n (c ∷ []) = false
is_share n (c ∷ i ∷ []) = share_digit n i
is_share n (c ∷ i ∷ j ∷ l) = false
