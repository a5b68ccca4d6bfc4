-- What a wire computes, and which sets of wires break a notion (scope, "What a watcher sees" and "Breaking sets"), for any number of
-- shares and masks. A wire is what the field calls a probe, an inner one an internal and an outer one an output probe; a breaking set is an attack set.
--     Terms                    the products, shares and masks that a record names
--     names t s                whether terms name a symbol
--     Wire                     these terms, and whether the wire is an outer one
--     Input                    a bit for each share of a and of b
--     value n m x r t          the value of terms under input x and mask setting r, for n shares and m masks
--     none, plus, total        no terms; the terms of two records, of all wires of a list, added bit by bit without carry
--     SumOfValues              the value of terms is the sum of the values of wires, whatever the input and the mask setting
--     swap, swap_input          terms and input with the two operands exchanged
--     flip_a, flip_b             the input with one share of a, of b, changed
--     depends_a, depends_b       whether terms depend on a share
--     count_a, count_b           on how many shares of an operand they depend
--     masked                   whether a mask is left in them
--     pays, allowed            the wires that pay for a share under a notion, and how many of a set do
--     exceeds                  whether terms depend on more shares of a than are allowed; of b by exchanging the operands
--     sum_breaks                whether a sum breaks, where so many shares are allowed
--     breaks                   whether the set breaks the notion
--     beyond                   whether a bit is set for a share or mask that is none of those given
use Rattle.std.specs.Prelude.{ℕ, ◌≡◌, Bool, true, false, ◌&&◌, ◌||◌, not, List, ltb, leb, eqb}
use Rattle.std.specs.Bool.{xor}
use Rattle.basics.specs.Folds.{fold, parity, some, count, up_to}
use Rattle.wires.specs.declared.Notion.{Notion}
use Rattle.wires.specs.declared.Notion.TheVariants.{Ni, Sni}
use Rattle.wires.specs.declared.Symbol.{Symbol}
use Rattle.wires.specs.declared.Symbol.TheVariants.{Product, ShareA, ShareB, Mask}

pub record Terms : Type 0 where
  pub product : ℕ → ℕ → Bool
  pub share_a : ℕ → Bool
  pub share_b : ℕ → Bool
  pub mask : ℕ → Bool

abbrev pub names : Terms → Symbol → Bool
names t (Product i j) = t.product i j
names t (ShareA i) = t.share_a i
names t (ShareB j) = t.share_b j
names t (Mask k) = t.mask k

pub record Wire : Type 0 where
  pub terms : Terms
  pub outer : Bool

pub record Input : Type 0 where
  pub of_a : ℕ → Bool
  pub of_b : ℕ → Bool

-- the sum, without carry, of what the record names: for a product bit the product of its two shares, for a single bit that share, for a
-- mask bit that mask
unfoldable pub value : ℕ → ℕ → Input → (ℕ → Bool) → Terms → Bool
value n m x r t =
    xor (parity (λ i. parity (λ j. t.product i j && (x.of_a i && x.of_b j)) (up_to n)) (up_to n))
    (xor (parity (λ i. t.share_a i && x.of_a i) (up_to n))
    (xor (parity (λ j. t.share_b j && x.of_b j) (up_to n))
    (parity (λ k. t.mask k && r k) (up_to m))))

abbrev pub none : Terms
none = record { product = λ i j. false; share_a = λ i. false; share_b = λ j. false; mask = λ k. false }

abbrev pub plus : Terms → Terms → Terms
plus t u = record {
  product = λ i j. xor (t.product i j) (u.product i j);
  share_a = λ i. xor (t.share_a i) (u.share_a i);
  share_b = λ j. xor (t.share_b j) (u.share_b j);
  mask = λ k. xor (t.mask k) (u.mask k);
}

abbrev pub total : List Wire → Terms
total = fold plus none (λ w. w.terms)

abbrev pub SumOfValues : Terms → List Wire → Type 0
SumOfValues t s = (n m : ℕ) (x : Input) (r : ℕ → Bool) → value n m x r t ≡ parity (λ w. value n m x r w.terms) s

abbrev pub swap : Terms → Terms
swap t = record { product = λ i j. t.product j i; share_a = t.share_b; share_b = t.share_a; mask = t.mask }

abbrev pub swap_input : Input → Input
swap_input x = record { of_a = x.of_b; of_b = x.of_a }

abbrev pub flip_a : ℕ → Input → Input
flip_a i x = record { of_a = λ k. xor (x.of_a k) (eqb k i); of_b = x.of_b }

abbrev pub flip_b : ℕ → Input → Input
flip_b j x = swap_input (flip_a j (swap_input x))

-- its product bits with that i, or its single bit for it, are not all 0
abbrev pub depends_a : ℕ → Terms → ℕ → Bool
depends_a n t i = some (t.product i) (up_to n) || t.share_a i

-- for b likewise by j
abbrev pub depends_b : ℕ → Terms → ℕ → Bool
depends_b n t = depends_a n (swap t)

unfoldable pub count_a : ℕ → Terms → ℕ
count_a n t = count (depends_a n t) (up_to n)

abbrev pub count_b : ℕ → Terms → ℕ
count_b n t = count_a n (swap t)

unfoldable pub masked : ℕ → Terms → Bool
masked m t = some t.mask (up_to m)

-- under NI every wire pays for a share, under SNI an inner one does
abbrev pub pays : Notion → Wire → Bool
pays Ni w = true
pays Sni w = not w.outer

abbrev pub allowed : Notion → List Wire → ℕ
allowed notion = count (pays notion)

abbrev pub exceeds : ℕ → ℕ → Terms → Bool
exceeds n most t = ltb most (count_a n t)

-- terms without a mask that depend on more shares of a, or on more shares of b, than are allowed
abbrev pub sum_breaks : ℕ → ℕ → ℕ → Terms → Bool
sum_breaks n m most t = not (masked m t) && (exceeds n most t || exceeds n most (swap t))

-- its sum has no mask and depends on more shares of a, or on more shares of b, than wires of the set pay for
unfoldable pub breaks : Notion → ℕ → ℕ → List Wire → Bool
breaks notion n m s = sum_breaks n m (allowed notion s) (total s)

-- of the records that hold up to limit shares and mask_limit masks: a bit beyond n shares or m masks
unfoldable pub beyond : ℕ → ℕ → ℕ → ℕ → Terms → Bool
beyond limit mask_limit n m t =
    some (λ i. some (λ j. t.product i j && (leb n i || leb n j)) (up_to limit)) (up_to limit)
    || some (λ i. t.share_a i && leb n i) (up_to limit)
    || some (λ j. t.share_b j && leb n j) (up_to limit)
    || some (λ k. t.mask k && leb m k) (up_to mask_limit)
