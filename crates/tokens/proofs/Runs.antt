-- Runs of bytes of a text, from a place on.
--     place_or_end               the place of the first byte that passes a test, or the end
--     word_position              a symbol's size, by the first byte that parts
--     stands_at                  whether these bytes stand in the text at a place
--     same_bytes                 two runs of bytes are the same where the library's test says so
--     stands-fits                bytes that stand there are within the text
use Rattle.std.specs.Prelude.{Some, None, position, unwrap_or}
use Rattle.std.specs.List.{position_or_len}
use Rattle.std.proofs.lemmas.List.Sums.{prefix_len-le-length}
use Prim.Native.Nat.{ℕ, ◌+◌, ◌≤◌}
use native.Mathlib.Omega.{arith}
use mathlib.Core.Path.{◌≡◌, refl, sym, ◌∙◌, ap₂}
use mathlib.Core.Bool.{Bool, true, false, cond, not, ◌&&◌, false≢true}
use mathlib.Core.List.{List, [], ◌∷◌}
use borrow.Author.Tests.{eq-eqb, ne_eqb, eqb-true, eqb-false, ltb-false}
use lib.Dec.{eqb, ltb}
use lib.Pointwise.{pointwise}
use lib.ListN.{length, take, drop, length-drop}
use Rattle.basics.proofs.Tests.{and_right}
use Rattle.description.specs.Bytes.{parts, word, same}

-- a symbol's bytes are those before the first that parts
word-before : (l : List ℕ) → position_or_len parts l ≡ length (word l)
word-before [] = refl
word-before (c ∷ l) = go (parts c) (word-before l)
  where
    go : (b : Bool) → position_or_len parts l ≡ length (word l) → cond (not b) (1 + position_or_len parts l) 0 ≡ length (cond b [] (c ∷ word l))
    go true e = refl
    go false e = omega (arith, e)

-- the place of the first byte that passes a test, or the bytes' end
pub place_or_end : (p : ℕ → Bool) (l : List ℕ) → unwrap_or (position p l) (length l) ≡ position_or_len p l
place_or_end p l = go (ltb (position_or_len p l) (length l)) refl
  where
    go : (b : Bool) → ltb (position_or_len p l) (length l) ≡ b
        → unwrap_or (cond b (Some (position_or_len p l)) None) (length l) ≡ position_or_len p l
    go true e = refl
    go false e = omega (arith, ltb-false _ _ e, prefix_len-le-length (λ c. not (p c)) l)

pub word_position : (l : List ℕ) → unwrap_or (position parts l) (length l) ≡ length (word l)
word_position l = place_or_end parts l ∙ word-before l

abbrev pub stands_at : List ℕ → ℕ → List ℕ → Bool
stands_at text at w = same (take (length w) (drop at text)) w

-- the library's test of a slice's first bytes is that of two runs of bytes
pub same_bytes : (k l : List ℕ) → pointwise eqb l k ≡ same k l
same_bytes [] [] = refl
same_bytes [] (d ∷ l) = refl
same_bytes (c ∷ k) [] = refl
same_bytes (c ∷ k) (d ∷ l) = ap₂ ◌&&◌ (eqb_swap d c) (same_bytes k l)
  where
    eqb_swap : (d c : ℕ) → eqb d c ≡ eqb c d
    eqb_swap d c = go (eqb c d) refl
      where
        go : (b : Bool) → eqb c d ≡ b → eqb d c ≡ b
        go true e = eq-eqb d c (sym (eqb-true c d e))
        go false e = ne_eqb d c (λ f. eqb-false c d e (sym f))

pub stands-fits : (text w : List ℕ) (at : ℕ) → at ≤ length text → stands_at text at w ≡ true → at + length w ≤ length text
stands-fits text w at h e = omega (arith, h, length-drop at text, fits (drop at text) w e)
  where
    fits : (l w : List ℕ) → same (take (length w) l) w ≡ true → length w ≤ length l
    fits l [] e = omega arith
    fits [] (d ∷ w) e = absurd (false≢true e)
    fits (c ∷ l) (d ∷ w) e = omega (arith, fits l w (and_right (eqb c d) (same (take (length w) l) w) e))
