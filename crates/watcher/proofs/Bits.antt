-- Lists of bits, as choices from a list: the bits name the elements that are taken.
--     add l d                     the two lists added bit by bit without carry
--     pick l v                    the elements of v that the bits l choose
--     single k                    the list whose bit k alone is set, as its last
--     add_none, bit-add, rest-add      nothing added; a bit of the sum; the sum without its first bit
--     single_bit, single_length   the bits of that list, and its length
--     pick_none, pick_first       what is chosen from the empty list; from a longer one, by the first bit
--     pick_map                    chosen from a mapped list
--     pick_nothing, pick_all      bits that are all 0 choose nothing, bits that are all 1 everything
--     pick_size                   what is chosen is shorter, or everything
--     parity-first, parity-add    sums over chosen elements are added where the choices are
--     bits_first                  all lists of n + 1 bits: those that begin with 0, those that begin with 1
--     bits_cong                   functions that are equal on lists of n bits
--     bits_some, bits_where       what holds of some list of n bits
--     bits_count                  a test that passes on the list of n zeros counts
--     bits_shift                  one list added to all lists of n bits gives all lists of n bits
use Prim.Native.Nat.{ℕ, zero, suc, ◌+◌, ◌≤◌, ◌<◌}
use native.Mathlib.Nat.{not-suc-le-zero, le_of_suc-le-suc, zero-add, add_comm, add_assoc, suc_inj, suc-ne-zero}
use native.Mathlib.Omega.{arith}
use mathlib.Core.Path.{◌≡◌, refl, sym, ◌∙◌, ap, ap₂}
use mathlib.Core.Logic.{◌⊎◌, inl, inr}
use mathlib.Core.Bool.{Bool, true, false, cond, ◌&&◌, ◌||◌, xor, or_assoc, or-false}
use mathlib.Core.List.{List, [], ◌∷◌, map}
use lib.ListN.{length, get_or, drop, replicate, length-replicate}
use lib.Dec.{eqb, eqb-zero-suc, eqb-suc-zero, eqb-suc-suc}
use Rattle.basics.specs.Folds.{fold, parity, some, count}
use Rattle.basics.proofs.Tests.{or_left, or_right, or_cases, xor-false, false-xor, xor_two, and_xor}
use Rattle.basics.proofs.Folds.{fold_cong, fold-map, fold-append}
use Rattle.watcher.specs.Watcher.{bit_lists}
use Rattle.watcher.proofs.Counting.{sum, count-some}

abbrev pub add : List Bool → List Bool → List Bool
add [] d = d
add (b ∷ l) [] = b ∷ l
add (b ∷ l) (c ∷ d) = xor b c ∷ add l d

abbrev pub single : ℕ → List Bool
single zero = true ∷ []
single (suc k) = false ∷ single k

pub add_none : (l : List Bool) → add l [] ≡ l
add_none [] = refl
add_none (b ∷ l) = refl

pub bit-add : (l d : List Bool) (k : ℕ) → get_or (add l d) k false ≡ xor (get_or l k false) (get_or d k false)
bit-add [] d k = sym (false-xor (get_or d k false))
bit-add (b ∷ l) [] k = sym (xor-false (get_or (b ∷ l) k false))
bit-add (b ∷ l) (c ∷ d) zero = refl
bit-add (b ∷ l) (c ∷ d) (suc k) = bit-add l d k

pub rest-add : (l d : List Bool) → drop 1 (add l d) ≡ add (drop 1 l) (drop 1 d)
rest-add [] d = refl
rest-add (b ∷ l) [] = sym (add_none l)
rest-add (b ∷ l) (c ∷ d) = refl

pub single_bit : (k i : ℕ) → get_or (single k) i false ≡ eqb i k
single_bit zero zero = refl
single_bit zero (suc i) = sym (eqb-suc-zero i)
single_bit (suc k) zero = sym (eqb-zero-suc k)
single_bit (suc k) (suc i) = single_bit k i ∙ sym (eqb-suc-suc i k)

pub single_length : (k : ℕ) → length (single k) ≡ suc k
single_length zero = refl
single_length (suc k) = ap suc (single_length k)

module _ {A : Type 0} where
  abbrev pub pick : List Bool → List A → List A
  pick [] v = []
  pick (b ∷ l) [] = []
  pick (b ∷ l) (x ∷ v) = cond b (x ∷ pick l v) (pick l v)

module _ {A : Type 0} where
  pub pick_none : (l : List Bool) → pick {A = A} l [] ≡ []
  pick_none [] = refl
  pick_none (b ∷ l) = refl

  pub pick_first : (l : List Bool) (x : A) (v : List A) → pick l (x ∷ v) ≡ cond (get_or l 0 false) (x ∷ pick (drop 1 l) v) (pick (drop 1 l) v)
  pick_first [] x v = refl
  pick_first (b ∷ l) x v = refl

  pub pick_nothing : (n : ℕ) (v : List A) → pick (replicate n false) v ≡ []
  pick_nothing zero v = refl
  pick_nothing (suc n) [] = refl
  pick_nothing (suc n) (x ∷ v) = pick_nothing n v

  pub pick_all : (v : List A) → pick (replicate (length v) true) v ≡ v
  pick_all [] = refl
  pick_all (x ∷ v) = ap {B = List A} (λ u. x ∷ u) (pick_all v)

  pub pick_size : (l : List Bool) (v : List A) → (length (pick l v) < length v) ⊎ (pick l v ≡ v)
  pick_size [] [] = inr refl
  pick_size [] (x ∷ v) = inl (omega arith)
  pick_size (b ∷ l) [] = inr refl
  pick_size (b ∷ l) (x ∷ v) = go b (pick_size l v)
    where
      go : (b : Bool) → (length (pick l v) < length v) ⊎ (pick l v ≡ v)
          → (length (cond b (x ∷ pick l v) (pick l v)) < suc (length v)) ⊎ (cond b (x ∷ pick l v) (pick l v) ≡ x ∷ v)
      go true (inl less) = inl (omega (arith, less))
      go true (inr e) = inr (ap {B = List A} (λ u. x ∷ u) e)
      go false (inl less) = inl (omega (arith, less))
      go false (inr e) = inl (omega (arith, ap length e))

  pub pick_map : {B : Type 0} (f : A → B) (l : List Bool) (v : List A) → map f (pick l v) ≡ pick l (map f v)
  pick_map f [] v = refl
  pick_map f (b ∷ l) [] = refl
  pick_map {B} f (b ∷ l) (x ∷ v) = go b (pick_map f l v)
    where
      go : (b : Bool) → map f (pick l v) ≡ pick l (map f v) → map f (cond b (x ∷ pick l v) (pick l v)) ≡ pick (b ∷ l) (f x ∷ map f v)
      go true e = ap {B = List B} (λ k. f x ∷ k) e
      go false e = e

  pub parity-first : (f : A → Bool) (b : Bool) (l : List Bool) (x : A) (v : List A)
      → parity f (pick (b ∷ l) (x ∷ v)) ≡ xor (b && f x) (parity f (pick l v))
  parity-first f true l x v = refl
  parity-first f false l x v = sym (false-xor (parity f (pick l v)))

  pub parity-add : (f : A → Bool) (l d : List Bool) (v : List A)
      → parity f (pick (add l d) v) ≡ xor (parity f (pick l v)) (parity f (pick d v))
  parity-add f [] d v = sym (false-xor (parity f (pick d v)))
  parity-add f (b ∷ l) [] v = sym (xor-false (parity f (pick (b ∷ l) v)))
  parity-add f (b ∷ l) (c ∷ d) [] = sym (xor-false false)
  parity-add f (b ∷ l) (c ∷ d) (x ∷ v) =
      let p = parity f (pick l v) in
      let q = parity f (pick d v) in
      parity-first f (xor b c) (add l d) x v ∙ ap₂ xor (and_xor b c (f x)) (parity-add f l d v) ∙ xor_two (b && f x) (c && f x) p q
      ∙ ap₂ xor (sym (parity-first f b l x v)) (sym (parity-first f c d x v))

module _ {B : Type 0} (op : B → B → B) (e : B) (unit : (x : B) → op e x ≡ x) (assoc : (x y z : B) → op (op x y) z ≡ op x (op y z)) where
  pub bits_first : (n : ℕ) (f : List Bool → B)
      → fold op e f (bit_lists (suc n)) ≡ op (fold op e (λ l. f (false ∷ l)) (bit_lists n)) (fold op e (λ l. f (true ∷ l)) (bit_lists n))
  unfolding bit_lists
  bits_first n f =
      fold-append op e unit assoc f (map (λ l. false ∷ l) (bit_lists n)) (map (λ l. true ∷ l) (bit_lists n))
      ∙ ap₂ op (fold-map op e (λ l. false ∷ l) f (bit_lists n)) (fold-map op e (λ l. true ∷ l) f (bit_lists n))

  pub bits_cong : (n : ℕ) (f g : List Bool → B) → ((l : List Bool) → length l ≡ n → f l ≡ g l) → fold op e f (bit_lists n) ≡ fold op e g (bit_lists n)
  unfolding bit_lists
  bits_cong zero f g h = ap (λ (x : B). op x e) (h [] refl)
  bits_cong (suc n) f g h =
      bits_first n f
      ∙ ap₂ op (bits_cong n (λ l. f (false ∷ l)) (λ l. g (false ∷ l)) (λ l k. h (false ∷ l) (ap suc k)))
      (bits_cong n (λ l. f (true ∷ l)) (λ l. g (true ∷ l)) (λ l k. h (true ∷ l) (ap suc k)))
      ∙ sym (bits_first n g)

-- what passes on a list of n bits passes on some one of them all
pub bits_some : (n : ℕ) (f : List Bool → Bool) (l : List Bool) → length l ≡ n → f l ≡ true → some f (bit_lists n) ≡ true
unfolding bit_lists
bits_some zero f [] h p = or_left (f []) false p
bits_some zero f (b ∷ l) h p = absurd (suc-ne-zero (length l) h)
bits_some (suc n) f [] h p = absurd (suc-ne-zero n (sym h))
bits_some (suc n) f (b ∷ l) h p = bits_first ◌||◌ false (λ b. refl) or_assoc n f ∙ go b (bits_some n (λ l. f (b ∷ l)) l (suc_inj h) p)
  where
    begins : Bool → Bool
    begins b = some (λ l. f (b ∷ l)) (bit_lists n)

    go : (b : Bool) → begins b ≡ true → (begins false || begins true) ≡ true
    go false e = or_left (begins false) (begins true) e
    go true e = or_right (begins false) (begins true) e

pub bits_where : (n : ℕ) (f : List Bool → Bool) → some f (bit_lists n) ≡ true → (l : List Bool) × (length l ≡ n) × (f l ≡ true)
unfolding bit_lists
bits_where zero f p = ([], refl, sym (or-false (f [])) ∙ p)
bits_where (suc n) f p =
    go (λ b. bits_where n (λ l. f (b ∷ l))) (or_cases (begins false) (begins true) (sym (bits_first ◌||◌ false (λ b. refl) or_assoc n f) ∙ p))
  where
    begins : Bool → Bool
    begins b = some (λ l. f (b ∷ l)) (bit_lists n)

    Found : (n : ℕ) (f : List Bool → Bool) → Type 0
    Found n f = (l : List Bool) × (length l ≡ n) × (f l ≡ true)

    longer : (b : Bool) → Found n (λ l. f (b ∷ l)) → Found (suc n) f
    longer b w = (b ∷ w.0, ap suc w.1, w.2)

    go : ((b : Bool) → begins b ≡ true → Found n (λ l. f (b ∷ l))) → (begins false ≡ true) ⊎ (begins true ≡ true) → Found (suc n) f
    go ih (inl q) = longer false (ih false q)
    go ih (inr q) = longer true (ih true q)

pub bits_count : (n : ℕ) (f : List Bool → Bool) → f (replicate n false) ≡ true → 1 ≤ count f (bit_lists n)
bits_count n f e = count-some f (bit_lists n) (bits_some n f (replicate n false) (length-replicate n false) e)

pub bits_shift : (n : ℕ) (f : List Bool → ℕ) (d : List Bool) → length d ≤ n → sum (λ l. f (add l d)) (bit_lists n) ≡ sum f (bit_lists n)
unfolding bit_lists xor
bits_shift n f [] h = fold_cong ◌+◌ 0 (λ l. f (add l [])) f (bit_lists n) (λ l. ap f (add_none l))
bits_shift zero f (c ∷ d) h = absurd (not-suc-le-zero h)
bits_shift (suc n) f (false ∷ d) h =
    bits_first ◌+◌ 0 zero-add add_assoc n (λ l. f (add l (false ∷ d)))
    ∙ ap₂ ◌+◌ (bits_shift n (λ l. f (false ∷ l)) d (le_of_suc-le-suc h)) (bits_shift n (λ l. f (true ∷ l)) d (le_of_suc-le-suc h))
    ∙ sym (bits_first ◌+◌ 0 zero-add add_assoc n f)
bits_shift (suc n) f (true ∷ d) h =
    bits_first ◌+◌ 0 zero-add add_assoc n (λ l. f (add l (true ∷ d)))
    ∙ ap₂ ◌+◌ (bits_shift n (λ l. f (true ∷ l)) d (le_of_suc-le-suc h)) (bits_shift n (λ l. f (false ∷ l)) d (le_of_suc-le-suc h))
    ∙ add_comm (sum (λ l. f (true ∷ l)) (bit_lists n)) (sum (λ l. f (false ∷ l)) (bit_lists n)) ∙ sym (bits_first ◌+◌ 0 zero-add add_assoc n f)
