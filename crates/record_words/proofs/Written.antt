-- Bytes written into a table, and the records that they are.
--     sets-append            two runs of bytes, one after the other
--     written_after          bytes written after others
--     take-sets              of the first n bytes, those written
--     sets_right             bytes written into the second of two lists
--     bytes-start, bytes_more, bytes-all       before each byte is written, the bytes still to be written
--     sum-written, place_written, record_written, outer-written      the writes of a record, one after the other
use Prim.Native.Nat.{ℕ, suc, ◌+◌, ◌-◌, ◌/◌, ◌%◌, ◌≤◌, ◌<◌}
use native.Mathlib.Nat.{zero-add, suc-add}
use native.Mathlib.Omega.{arith}
use mathlib.Core.Path.{◌≡◌, refl, sym, ◌∙◌, ap, ap₂}
use mathlib.Core.Bool.{Bool}
use mathlib.Core.List.{List, [], ◌∷◌, ◌++◌}
use lib.ListN.{length, take, set}
use lib.Seq.{sets, take-set-lt}
use Rattle.basics.specs.Folds.{one_if}
use Rattle.records.specs.declared.sums.Sum.{Sum}
use Rattle.records.specs.Words.{bytes_of}
use Rattle.records.specs.Layout.{outer_at}
use Rattle.record_words.specs.Writing.{sum_bytes, place_bytes, record_of, outer_bytes}

sets-append : (l : List ℕ) (i : ℕ) (vs ws : List ℕ) → sets l i (vs ++ ws) ≡ sets (sets l i vs) (i + length vs) ws
sets-append l i [] ws = let e : i ≡ i + 0 = omega arith in ap (λ (k : ℕ). sets l k ws) e
sets-append l i (v ∷ vs) ws =
    let e : suc i + length vs ≡ i + suc (length vs) = omega arith in
    sets-append (set l i v) (suc i) vs ws ∙ ap (λ (k : ℕ). sets (sets (set l i v) (suc i) vs) k ws) e

pub written_after : (l m k : List ℕ) (i j : ℕ) (vs ws : List ℕ) → m ≡ sets l i vs → k ≡ sets m j ws → j ≡ i + length vs → k ≡ sets l i (vs ++ ws)
written_after l m k i j vs ws e f g = f ∙ ap₂ (λ (x : List ℕ) (y : ℕ). sets x y ws) e g ∙ sym (sets-append l i vs ws)

pub take-sets : (n : ℕ) (l : List ℕ) (i : ℕ) (vs : List ℕ) → i + length vs ≤ n → take n (sets l i vs) ≡ sets (take n l) i vs
take-sets n l i [] h = refl
take-sets n l i (v ∷ vs) h =
    take-sets n (set l i v) (suc i) vs (omega (arith, h))
    ∙ ap (λ (m : List ℕ). sets m (suc i) vs) (take-set-lt n l i v (omega (arith, h)))

pub sets_right : (l m : List ℕ) (i j : ℕ) (vs : List ℕ) → j ≡ length l + i → sets (l ++ m) j vs ≡ l ++ sets m i vs
sets_right l m i j [] e = refl
sets_right l m i j (v ∷ vs) e =
    ap (λ (x : List ℕ). sets x (suc j) vs) (ap (λ (k : ℕ). set (l ++ m) k v) e ∙ set_append_right l m i v)
    ∙ sets_right l (set m i v) (suc i) (suc j) vs (omega (arith, e))
  where
    set_append_right : (l m : List ℕ) (i v : ℕ) → set (l ++ m) (length l + i) v ≡ l ++ set m i v
    set_append_right [] m i v = ap (λ (k : ℕ). set m k v) (zero-add i)
    set_append_right (x ∷ l) m i v = ap (λ (k : ℕ). set (x ∷ (l ++ m)) k v) (suc-add (length l) i)
        ∙ ap {B = List ℕ} (λ r. x ∷ r) (set_append_right l m i v)

module _ (table₀ : List ℕ) (at size number : ℕ) where
  pub bytes-start : sets table₀ at (bytes_of size number) ≡ sets table₀ (at + 0) (bytes_of (size - 0) number)
  bytes-start =
      let e : at ≡ at + 0 = omega arith in
      let f : size ≡ size - 0 = omega arith in
      ap₂ (λ (i n : ℕ). sets table₀ i (bytes_of n number)) e f

  pub bytes_more : (table : List ℕ) (rest i : ℕ) → i < size
      → sets table₀ at (bytes_of size number) ≡ sets table (at + i) (bytes_of (size - i) rest)
      → sets table₀ at (bytes_of size number) ≡ sets (set table (at + i) (rest % 256)) (at + (i + 1)) (bytes_of (size - (i + 1)) (rest / 256))
  bytes_more table rest i h e =
      let f : size - i ≡ suc (size - (i + 1)) = omega (arith, h) in
      let g : suc (at + i) ≡ at + (i + 1) = omega arith in
      e ∙ ap (λ (n : ℕ). sets table (at + i) (bytes_of n rest)) f
      ∙ ap (λ (k : ℕ). sets (set table (at + i) (rest % 256)) k (bytes_of (size - (i + 1)) (rest / 256))) g

  pub bytes-all : (table : List ℕ) (rest i : ℕ) → size ≤ i → sets table₀ at (bytes_of size number) ≡ sets table (at + i) (bytes_of (size - i) rest)
      → table ≡ sets table₀ at (bytes_of size number)
  bytes-all table rest i h e =
      let f : size - i ≡ 0 = omega (arith, h) in sym (e ∙ ap (λ (n : ℕ). sets table (at + i) (bytes_of n rest)) f)

-- ---- the bytes of a record

module _ (l₀ l₁ l₂ l₃ l₄ : List ℕ) (at : ℕ) where
  pub sum-written : (s : Sum) (a b : ℕ) → a ≡ s.shares_a → b ≡ s.shares_b → l₁ ≡ sets l₀ at (bytes_of 8 s.products)
      → l₂ ≡ sets l₁ (at + 8) (bytes_of 8 s.masks) → l₃ ≡ sets l₂ (at + 16) (bytes_of 1 a) → l₄ ≡ sets l₃ (at + 17) (bytes_of 1 b)
      → l₄ ≡ sets l₀ at (sum_bytes s)
  sum-written s a b ea eb e₁ e₂ e₃ e₄ =
      let p = bytes_of 8 s.products in
      let m = bytes_of 8 s.masks in
      let two = written_after l₀ l₁ l₂ at (at + 8) p m e₁ e₂ refl in
      let three = written_after l₀ l₂ l₃ at (at + 16) (p ++ m) (bytes_of 1 s.shares_a) two
      (e₃ ∙ ap (λ (x : ℕ). sets l₂ (at + 16) (bytes_of 1 x)) ea) refl in
      written_after l₀ l₃ l₄ at (at + 17) (p ++ m ++ bytes_of 1 s.shares_a) (bytes_of 1 s.shares_b) three
      (e₄ ∙ ap (λ (x : ℕ). sets l₃ (at + 17) (bytes_of 1 x)) eb) refl

  pub place_written : (outer : Bool) (line offset size o : ℕ) → o ≡ one_if outer → l₁ ≡ sets l₀ (at + outer_at) (bytes_of 1 o)
      → l₂ ≡ sets l₁ (at + 19) (bytes_of 1 line) → l₃ ≡ sets l₂ (at + 20) (bytes_of 2 offset)
      → l₄ ≡ sets l₃ (at + 22) (bytes_of 2 size) → l₄ ≡ sets l₀ (at + outer_at) (place_bytes outer line offset size)
  place_written outer line offset size o eo e₁ e₂ e₃ e₄ =
      let b = bytes_of 1 (one_if outer) in
      let n = bytes_of 1 line in
      let one = e₁ ∙ ap (λ (x : ℕ). sets l₀ (at + outer_at) (bytes_of 1 x)) eo in
      let two = written_after l₀ l₁ l₂ (at + outer_at) (at + 19) b n one e₂ (omega arith) in
      let three = written_after l₀ l₂ l₃ (at + outer_at) (at + 20) (b ++ n) (bytes_of 2 offset) two e₃ (omega arith) in
      written_after l₀ l₃ l₄ (at + outer_at) (at + 22) (b ++ n ++ bytes_of 2 offset) (bytes_of 2 size) three e₄ (omega arith)

module _ (l₀ l₁ l₂ : List ℕ) (at : ℕ) where
  pub record_written : (s : Sum) (outer : Bool) (line offset size : ℕ) → l₁ ≡ sets l₀ at (sum_bytes s)
      → l₂ ≡ sets l₁ (at + outer_at) (place_bytes outer line offset size) → l₂ ≡ sets l₀ at (record_of s outer line offset size)
  record_written s outer line offset size e f =
      written_after l₀ l₁ l₂ at (at + outer_at) (sum_bytes s) (place_bytes outer line offset size) e f refl

  pub outer-written : (line : ℕ) → l₁ ≡ sets l₀ (at + outer_at) (bytes_of 1 1) → l₂ ≡ sets l₁ (at + 19) (bytes_of 1 line)
      → l₂ ≡ sets l₀ (at + outer_at) (outer_bytes line)
  outer-written line e f = written_after l₀ l₁ l₂ (at + outer_at) (at + 19) (bytes_of 1 1) (bytes_of 1 line) e f (omega arith)
