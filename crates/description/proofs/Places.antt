-- Bytes at places of a text, and the longest run of bytes that belong together.
--     same_bytes                 runs of bytes that are the same are equal
--     byte_inside, byte_at       a byte of the text: its place is inside, and it is found there
--     at_byte                    what is found at a place inside is the byte there
--     bytes_inside, bytes_rest   a run of bytes of the text: it ends inside, and the text goes on after it
--     rest-bytes                 a run of bytes with which the text goes on is a run of its bytes
--     word-rest, word_after      the longest run begins the bytes, and none follows it
--     word-inside                it is no longer than the bytes
--     word-joined                a byte that parts begins no run
--     joined_byte                a byte that does not part is none of those that do
use Prim.Native.Nat.{ℕ, suc, ◌+◌, ◌-◌, ◌≤◌, ◌<◌, zero-le, suc-le-suc, min}
use native.Mathlib.Omega.{arith}
use mathlib.Core.Path.{◌≡◌, refl, sym, ◌∙◌, ap, ap₂}
use mathlib.Core.Bool.{Bool, true, false, cond, ◌||◌, false≢true}
use mathlib.Core.List.{List, [], ◌∷◌, ◌++◌}
use borrow.Author.Tests.{eqb-true}
use lib.Dec.{eqb}
use lib.ListN.{length, take, drop, get_or, length-take, length-drop, take-append-drop}
use lib.Seq.{drop-drop, take-append_seam}
use Rattle.basics.proofs.Tests.{and_left, and_right, or-none}
use Rattle.description.specs.Bytes.{space, line_end, opening, closing, bar, parts, word, same}
use Rattle.description.specs.Grammar.{Byte, Bytes}
use Rattle.description.proofs.Running.{drop_byte}

pub same_bytes : (k l : List ℕ) → same k l ≡ true → k ≡ l
same_bytes [] [] e = refl
same_bytes [] (d ∷ l) e = absurd (false≢true e)
same_bytes (c ∷ k) [] e = absurd (false≢true e)
same_bytes (c ∷ k) (d ∷ l) e =
    ap₂ {C = List ℕ} (λ x xs. x ∷ xs) (eqb-true c d (and_left (eqb c d) (same k l) e)) (same_bytes k l (and_right (eqb c d) (same k l) e))

module _ (text : List ℕ) (p : ℕ) where
  pub bytes_inside : (w : List ℕ) → Bytes text p w → 0 < length w → p + length w ≤ length text
  bytes_inside w e h =
      let size : min (length w) (length text - p) ≡ length w =
      ap (λ (k : ℕ). min (length w) k) (sym (length-drop p text)) ∙ sym (length-take (length w) (drop p text)) ∙ ap length e in
      omega (arith, size, h)

  pub bytes_rest : (w : List ℕ) → Bytes text p w → drop p text ≡ w ++ drop (p + length w) text
  bytes_rest w e =
      sym (take-append-drop (length w) (drop p text)) ∙ ap (λ l. l ++ drop (length w) (drop p text)) e
      ∙ ap (λ l. w ++ l) (drop-drop (length w) p text)

  pub rest-bytes : (w l : List ℕ) → drop p text ≡ w ++ l → Bytes text p w
  rest-bytes w l e = ap (take (length w)) e ∙ take-append_seam w l

  pub byte_inside : (c : ℕ) → Byte text p c → p < length text
  byte_inside c e = let h = bytes_inside (c ∷ []) e (omega arith) in omega (arith, h)

  pub byte_at : (c : ℕ) → Byte text p c → get_or text p 0 ≡ c
  byte_at c e =
      let f : get_or text p 0 ∷ drop (p + 1) text ≡ c ∷ drop (p + 1) text =
      sym (drop_byte text p (byte_inside c e)) ∙ bytes_rest (c ∷ []) e in
      ap (λ l. get_or l 0 0) f

  pub at_byte : (c : ℕ) → p < length text → get_or text p 0 ≡ c → Byte text p c
  at_byte c h e = rest-bytes (c ∷ []) (drop (p + 1) text) (drop_byte text p h ∙ ap {B = List ℕ} (λ (b : ℕ). b ∷ drop (p + 1) text) e)

-- ---- the longest run

pub word-rest : (l : List ℕ) → l ≡ word l ++ drop (length (word l)) l
word-rest [] = refl
word-rest (c ∷ l) = go (parts c) (word-rest l)
  where
    go : (b : Bool) → l ≡ word l ++ drop (length (word l)) l
        → c ∷ l ≡ cond b [] (c ∷ word l) ++ drop (length (cond b [] (c ∷ word l))) (c ∷ l)
    go true e = refl
    go false e = ap {B = List ℕ} (λ m. c ∷ m) e

pub word_after : (l : List ℕ) → word (drop (length (word l)) l) ≡ []
word_after [] = refl
word_after (c ∷ l) = go (parts c) refl (word_after l)
  where
    go : (b : Bool) → parts c ≡ b → word (drop (length (word l)) l) ≡ [] → word (drop (length (cond b [] (c ∷ word l))) (c ∷ l)) ≡ []
    go true e h = ap (λ (b : Bool). cond b [] (c ∷ word l)) e
    go false e h = h

pub word-inside : (l : List ℕ) → length (word l) ≤ length l
word-inside [] = zero-le
word-inside (c ∷ l) = go (parts c) (word-inside l)
  where
    go : (b : Bool) → length (word l) ≤ length l → length (cond b [] (c ∷ word l)) ≤ suc (length l)
    go true h = zero-le
    go false h = suc-le-suc h

pub word-joined : (c : ℕ) (l : List ℕ) → 0 < length (word (c ∷ l)) → parts c ≡ false
word-joined c l h = go (parts c) h
  where
    go : (b : Bool) → 0 < length (cond b [] (c ∷ word l)) → b ≡ false
    go true h = absurd (omega (arith, h))
    go false h = refl

pub joined_byte : (c : ℕ) → parts c ≡ false
    → (eqb c space ≡ false) × (eqb c opening ≡ false) × (eqb c closing ≡ false) × (eqb c bar ≡ false) × (eqb c line_end ≡ false)
joined_byte c e =
    let four = or-none (eqb c space || eqb c opening || eqb c closing || eqb c bar) (eqb c line_end) e in
    let three = or-none (eqb c space || eqb c opening || eqb c closing) (eqb c bar) four.0 in
    let two = or-none (eqb c space || eqb c opening) (eqb c closing) three.0 in
    let one = or-none (eqb c space) (eqb c opening) two.0 in
    (one.0, one.1, two.1, three.1, four.1)
