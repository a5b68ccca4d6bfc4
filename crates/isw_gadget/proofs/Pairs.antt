-- Pairs are numbered 0, 1, .. without a gap or a repeat, in lexicographic order.
--     pairs_half          twice their number is d (d + 1)
--     pair_below          a pair's number is below how many there are
--     pair_in_row, pair_in_rows, pair_rising     numbers rise with the second share of a pair, with the first, and so in lexicographic order
--     pairs_compare       one pair comes before the other, or they are the same
--     PairOf, pair_onto   every number below that is a pair's
--     pairs_numbered      so they are numbered in their order
--     numbers-once, numbers_agree     no number is given twice, and there is one way to number them so
use Prim.Native.Nat.{ℕ, zero, suc, ◌+◌, ◌*◌, ◌-◌, ◌≤◌, ◌<◌, suc-le-suc}
use native.Mathlib.Nat.{le_of_suc-le-suc, not-suc-le-zero, zero-lt-suc}
use native.Mathlib.Omega.{arith}
use mathlib.Core.Path.{◌≡◌, refl, sym, ap, ap₂}
use mathlib.Core.Bool.{Bool, true, false}
use borrow.Author.Tests.{ltb-true, ltb-false}
use lib.Dec.{ltb}
use mathlib.Core.Logic.{◌⊎◌, inl, inr}
use Rattle.isw_gadget.specs.Pairs.{pairs, pair_number, Pair, Before, Numbers}

pub pair_below : (d i j : ℕ) → i < j → j ≤ d → pair_number d i j < pairs d
pair_below d i zero h l = absurd (not-suc-le-zero h)
pair_below zero i (suc j) h l = absurd (not-suc-le-zero l)
pair_below (suc d) zero (suc j) h l = omega (arith, l)
pair_below (suc d) (suc i) (suc j) h l = let ih = pair_below d i j (le_of_suc-le-suc h) (le_of_suc-le-suc l) in omega (arith, ih)

pub pair_in_row : (d i j k : ℕ) → i < j → j < k → k ≤ d → pair_number d i j < pair_number d i k
pair_in_row d i zero k h r l = absurd (not-suc-le-zero h)
pair_in_row d i (suc j) zero h r l = absurd (not-suc-le-zero r)
pair_in_row zero i (suc j) (suc k) h r l = absurd (not-suc-le-zero l)
pair_in_row (suc d) zero (suc j) (suc k) h r l = le_of_suc-le-suc r
pair_in_row (suc d) (suc i) (suc j) (suc k) h r l =
    let ih = pair_in_row d i j k (le_of_suc-le-suc h) (le_of_suc-le-suc r) (le_of_suc-le-suc l) in omega (arith, ih)

pub pair_in_rows : (d i j k m : ℕ) → i < k → i < j → j ≤ d → k < m → m ≤ d → pair_number d i j < pair_number d k m
pair_in_rows d i zero k m r h l g n = absurd (not-suc-le-zero h)
pair_in_rows d i (suc j) k zero r h l g n = absurd (not-suc-le-zero g)
pair_in_rows d i (suc j) zero (suc m) r h l g n = absurd (not-suc-le-zero r)
pair_in_rows zero i (suc j) (suc k) (suc m) r h l g n = absurd (not-suc-le-zero l)
pair_in_rows (suc d) zero (suc j) (suc k) (suc m) r h l g n = omega (arith, l)
pair_in_rows (suc d) (suc i) (suc j) (suc k) (suc m) r h l g n =
    let ih = pair_in_rows d i j k m (le_of_suc-le-suc r) (le_of_suc-le-suc h) (le_of_suc-le-suc l) (le_of_suc-le-suc g) (le_of_suc-le-suc n) in
    omega (arith, ih)

pub record PairOf (d number : ℕ) : Type 0 where
  pub first : ℕ
  pub second : ℕ
  pub ordered : first < second
  pub within : second ≤ d
  pub numbered : pair_number d first second ≡ number

pub pair_onto : (d number : ℕ) → number < pairs d → PairOf d number
pair_onto zero number h = absurd (not-suc-le-zero h)
pair_onto (suc d) number h = go (ltb number (suc d)) refl (pair_onto d)
  where
    go : (low : Bool) → ltb number (suc d) ≡ low → ((k : ℕ) → k < pairs d → PairOf d k) → PairOf (suc d) number
    go true e ih =
        record { first = 0; second = suc number; ordered = zero-lt-suc number; within = ltb-true number (suc d) e; numbered = refl }
    go false e ih =
        let high = ltb-false number (suc d) e in
        let rest = ih (number - suc d) (omega (arith, h, high)) in
        let same = rest.numbered in
        record {
          first = suc rest.first;
          second = suc rest.second;
          ordered = suc-le-suc rest.ordered;
          within = suc-le-suc rest.within;
          numbered = omega (arith, same, high);
        }

-- one pair comes before the other, or they are the same
pairs_compare : (i j k m : ℕ) → Before i j k m ⊎ (((i ≡ k) × (j ≡ m)) ⊎ Before k m i j)
pairs_compare i j k m = by_first (ltb i k) refl (ltb k i) refl
  where
    by_second : i ≡ k → (a : Bool) → ltb j m ≡ a → (b : Bool) → ltb m j ≡ b → Before i j k m ⊎ (((i ≡ k) × (j ≡ m)) ⊎ Before k m i j)
    by_second e true f b g = inl (inr (e, ltb-true j m f))
    by_second e false f true g = inr (inr (inr (sym e, ltb-true m j g)))
    by_second e false f false g =
        let low = ltb-false j m f in
        let high = ltb-false m j g in
        inr (inl (e, omega (arith, low, high)))

    by_first : (a : Bool) → ltb i k ≡ a → (b : Bool) → ltb k i ≡ b → Before i j k m ⊎ (((i ≡ k) × (j ≡ m)) ⊎ Before k m i j)
    by_first true f b g = inl (inl (ltb-true i k f))
    by_first false f true g = inr (inr (inl (ltb-true k i g)))
    by_first false f false g =
        let low = ltb-false i k f in
        let high = ltb-false k i g in
        by_second (omega (arith, low, high)) (ltb j m) refl (ltb m j) refl

pub pair_rising : (d i j k m : ℕ) → Pair d i j → Pair d k m → Before i j k m → pair_number d i j < pair_number d k m
pair_rising d i j k m p q (inl h) = pair_in_rows d i j k m h p.0 p.1 q.0 q.1
pair_rising d i j k m p q (inr h) =
    let row = pair_in_row d i j m p.0 h.1 q.1 in
    let moved = ap (λ (x : ℕ). pair_number d x m) h.0 in
    omega (arith, row, moved)

pub pairs_half : (d : ℕ) → 2 * pairs d ≡ d * (d + 1)
pairs_half zero = refl
pairs_half (suc d) =
    let ih = pairs_half d in
    let more : suc d * (suc d + 1) ≡ d * (d + 1) + (d + 1) + (d + 1) = omega arith in
    omega (arith, ih, more)

pub pairs_numbered : (d : ℕ) → Numbers d (pair_number d)
pairs_numbered d = record {
  below = λ i j p. pair_below d i j p.0 p.1;
  rising = pair_rising d;
  onto = λ n h. let p = pair_onto d n h in (p.first, p.second, (p.ordered, p.within), p.numbered);
}

-- numbers that rise are given once
pub numbers-once : (d : ℕ) (f : ℕ → ℕ → ℕ) → Numbers d f → (i j k m : ℕ) → Pair d i j → Pair d k m → f i j ≡ f k m → (i ≡ k) × (j ≡ m)
numbers-once d f n i j k m p q e = go (pairs_compare i j k m)
  where
    go : Before i j k m ⊎ (((i ≡ k) × (j ≡ m)) ⊎ Before k m i j) → (i ≡ k) × (j ≡ m)
    go (inl b) = let apart = n.rising i j k m p q b in absurd (omega (arith, apart, e))
    go (inr (inl same)) = same
    go (inr (inr b)) = let apart = n.rising k m i j q p b in absurd (omega (arith, apart, e))

-- no number is higher: the pair with the number before it comes before, and so has a lower number in either way
module _ (d : ℕ) (f g : ℕ → ℕ → ℕ) (p : Numbers d f) (q : Numbers d g) where
  by_before : (i j v k m : ℕ) → f i j ≡ suc v → f k m ≡ v → Pair d i j → Pair d k m → (g k m < g i j → f k m ≤ g k m)
      → Before k m i j ⊎ (((k ≡ i) × (m ≡ j)) ⊎ Before i j k m) → f i j ≤ g i j
  by_before i j v k m e r h l ih (inl b) =
      let lower = q.rising k m i j l h b in
      let most = ih lower in
      omega (arith, e, r, lower, most)
  by_before i j v k m e r h l ih (inr (inl same)) =
      let moved : f k m ≡ f i j = ap₂ f same.0 same.1 in absurd (omega (arith, e, r, moved))
  by_before i j v k m e r h l ih (inr (inr b)) = let higher = p.rising i j k m h l b in absurd (omega (arith, e, r, higher))

  by_number : (i j v : ℕ) → f i j ≡ v → Pair d i j → ((k m : ℕ) → Pair d k m → g k m < g i j → f k m ≤ g k m) → f i j ≤ g i j
  by_number i j zero e h ih = omega (arith, e)
  by_number i j (suc v) e h ih =
      let few = p.below i j h in
      let o = p.onto v (omega (arith, few, e)) in
      let k = o.0 in
      let m = o.1 in
      by_before i j v k m e o.3 h o.2 (ih k m o.2) (pairs_compare k m i j)

  not-higher : (n i j : ℕ) → Pair d i j → g i j < n → f i j ≤ g i j
  not-higher zero i j h l = absurd (not-suc-le-zero l)
  not-higher (suc n) i j h l = by_number i j (f i j) refl h (λ k m b r. not-higher n k m b (omega (arith, l, r)))

pub numbers_agree : (d : ℕ) (f g : ℕ → ℕ → ℕ) → Numbers d f → Numbers d g → (i j : ℕ) → Pair d i j → f i j ≡ g i j
numbers_agree d f g p q i j h =
    let one = not-higher d f g p q (suc (g i j)) i j h (omega arith) in
    let other = not-higher d g f q p (suc (f i j)) i j h (omega arith) in
    omega (arith, one, other)
