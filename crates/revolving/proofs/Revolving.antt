-- The revolving-door order, for every number of wires and every size.
--     revolving-length    the list has binom n k sets
--     revolving-once      every set of k out of n wires stands in it exactly once, and nothing else does
--     set_at-is-set, rank_of-set, set_of_rank  rank and set are inverse, both ways
--     every-rank          what holds at every rank holds of every set, and the other way round
--     rank_unique         the rank at which a set stands is its rank
--     set_at_wider        more wires continue the list
--     set_at-step         the set at a rank, from its highest wire and the rank of the rest
use Prim.Native.Nat.{ℕ, zero, suc, ◌+◌, ◌-◌, ◌≤◌, ◌<◌}
use native.Mathlib.Nat.{add-zero, zero-add, not-suc-le-zero, le_of_suc-le-suc, eq-or-lt_of_le}
use native.Mathlib.Decide.{dec_lt}
use native.Mathlib.Omega.{arith}
use mathlib.Core.Path.{◌≡◌, refl, sym, ◌∙◌, ap, ap₂, subst}
use mathlib.Core.Logic.{◌⊎◌, inl, inr, ◌↔◌}
use mathlib.Core.Bool.{Bool, true, false, cond, ◌&&◌, and-false, and-true}
use mathlib.Core.List.{List, [], ◌∷◌, ◌++◌, map, reverse}
use borrow.Author.Tests.{lt-ltb, le-ltb, eq-eqb, ne_eqb}
use lib.Dec.{ltb, eqb, eqb-zero-suc, eqb-suc-zero, leb-suc-zero}
use lib.ListN.{length, get_or, length-append, length-reverse, length-map, get_or-append}
use Rattle.basics.specs.Folds.{one_if}
use Rattle.counts.specs.Counts.{binom}
use Rattle.counts.proofs.Lists.{get_d_second}
use Rattle.counts.proofs.Binomial.{binom-zero, binom-none, binom-suc, binom_wider}
use Rattle.revolving.specs.Order.{revolving, set_at, rising, below, is_set, rank_of, place_of, times_in}
use Rattle.revolving.proofs.Lists.{get_d_map, get_d_reverse, ends-or-empty, times_append, times_reverse, times_snoc, times_empty, times_at, place_in, place_at}
use Rattle.revolving.proofs.Rising.{is_set_snoc, is_set-parts}

-- the sets with wire n
abbrev pub with_last : ℕ → List (List ℕ) → List (List ℕ)
with_last n l = map (λ s. s ++ (n ∷ [])) (reverse l)

revolving-zero : (n : ℕ) → revolving n 0 ≡ [] ∷ []
unfolding revolving
revolving-zero zero = refl
revolving-zero (suc n) = refl

revolving-none : (k : ℕ) → revolving 0 (suc k) ≡ []
unfolding revolving
revolving-none k = refl

revolving-suc : (n k : ℕ) → revolving (suc n) (suc k) ≡ revolving n (suc k) ++ with_last n (revolving n k)
unfolding revolving
revolving-suc n k = refl

pub set_at-none : (n : ℕ) → set_at n 0 0 ≡ []
set_at-none n = ap (λ (l : List (List ℕ)). get_or l 0 []) (revolving-zero n)

pub revolving-length : (n k : ℕ) → length (revolving n k) ≡ binom n k
revolving-length n zero = ap length (revolving-zero n) ∙ sym (binom-zero n)
revolving-length zero (suc k) = ap length (revolving-none k) ∙ sym (binom-none k)
revolving-length (suc n) (suc k) =
    ap length (revolving-suc n k)
    ∙ length-append (revolving n (suc k)) (with_last n (revolving n k))
    ∙ ap₂ (λ (a b : ℕ). a + b) (revolving-length n (suc k))
    (length-map (reverse (revolving n k)) (λ s. s ++ (n ∷ [])) ∙ length-reverse (revolving n k) ∙ revolving-length n k)
    ∙ sym (binom-suc n k)

none_of_none : (k : ℕ) (s : List ℕ) → one_if (is_set 0 (suc k) s) ≡ 0
none_of_none k [] = ap (λ (b : Bool). one_if (b && true)) (eqb-zero-suc k)
none_of_none k (x ∷ s) =
    ap (λ (b : Bool). one_if (eqb (length (x ∷ s)) (suc k) && (rising (x ∷ s) && (b && below 0 s)))) (leb-suc-zero x)
    ∙ ap (λ (b : Bool). one_if (eqb (length (x ∷ s)) (suc k) && b)) (and-false (rising (x ∷ s)))
    ∙ ap one_if (and-false (eqb (length (x ∷ s)) (suc k)))

-- a last wire is below n, or n, or neither
last_wire : (P : ℕ → Bool) (x n : ℕ) → one_if (P x && ltb x n) + cond (eqb x n) (one_if (P n)) 0 ≡ one_if (P x && ltb x (suc n))
last_wire P x n = go (dec_lt x n) (dec_lt n x)
  where
    go : Dec (x < n) → Dec (n < x) → one_if (P x && ltb x n) + cond (eqb x n) (one_if (P n)) 0 ≡ one_if (P x && ltb x (suc n))
    go (yes p) d = rw (lt-ltb x n p, ne_eqb x n (omega arith), lt-ltb x (suc n) (omega arith)) (add-zero (one_if (P x && true)))
    go (no p) (yes q) =
        rw (le-ltb x n (omega arith), ne_eqb x n (omega arith), le-ltb x (suc n) (omega arith)) (add-zero (one_if (P x && false)))
    go (no p) (no q) =
        let e : x ≡ n = omega arith in
        rw (le-ltb x n (omega arith), eq-eqb x n e, lt-ltb x (suc n) (omega arith), e, and-false (P n), and-true (P n)) (zero-add (one_if (P n)))

module _ (n k : ℕ) (front : (s : List ℕ) → times_in s (revolving n (suc k)) ≡ one_if (is_set n (suc k) s))
    (back : (s : List ℕ) → times_in s (revolving n k) ≡ one_if (is_set n k s)) where
  once_last : (t : List ℕ) (x : ℕ) → times_in (t ++ (x ∷ [])) (revolving n (suc k)) + times_in (t ++ (x ∷ [])) (with_last n (revolving n k)) ≡ one_if (is_set (suc n) (suc k) (t ++ (x ∷ [])))
  once_last t x =
      ap₂ (λ (a b : ℕ). a + b)
      (front (t ++ (x ∷ [])) ∙ ap one_if (is_set_snoc n k t x))
      (times_snoc t x n (reverse (revolving n k)) ∙ ap (λ (m : ℕ). cond (eqb x n) m 0) (times_reverse t (revolving n k) ∙ back t))
      ∙ last_wire (λ m. is_set m k t) x n
      ∙ ap one_if (sym (is_set_snoc (suc n) k t x))

  once-empty : times_in [] (revolving n (suc k)) + times_in [] (with_last n (revolving n k)) ≡ one_if (is_set (suc n) (suc k) [])
  once-empty =
      ap₂ (λ (a b : ℕ). a + b) (front []) (times_empty n (reverse (revolving n k)))
      ∙ ap (λ (b : Bool). one_if (b && true) + 0) (eqb-zero-suc k)
      ∙ sym (ap (λ (b : Bool). one_if (b && true)) (eqb-zero-suc k))

  once-step : (s : List ℕ) → times_in s (revolving n (suc k)) + times_in s (with_last n (revolving n k)) ≡ one_if (is_set (suc n) (suc k) s)
  once-step s = go (ends-or-empty s)
    where
      go : (s ≡ []) ⊎ ((t : List ℕ) × (x : ℕ) × (s ≡ t ++ (x ∷ []))) →
          times_in s (revolving n (suc k)) + times_in s (with_last n (revolving n k)) ≡ one_if (is_set (suc n) (suc k) s)
      go (inl e) = rw e once-empty
      go (inr p) = rw p.2 (once_last p.0 p.1)

pub revolving-once : (n k : ℕ) (s : List ℕ) → times_in s (revolving n k) ≡ one_if (is_set n k s)
revolving-once n zero [] = ap (times_in []) (revolving-zero n)
revolving-once n zero (x ∷ s) =
    ap (times_in (x ∷ s)) (revolving-zero n)
    ∙ sym (ap (λ (b : Bool). one_if (b && (rising (x ∷ s) && below n (x ∷ s)))) (eqb-suc-zero (length s)))
revolving-once zero (suc k) s = ap (times_in s) (revolving-none k) ∙ sym (none_of_none k s)
revolving-once (suc n) (suc k) s =
    ap (times_in s) (revolving-suc n k)
    ∙ times_append s (revolving n (suc k)) (with_last n (revolving n k))
    ∙ once-step n k (revolving-once n (suc k)) (revolving-once n k) s

one-true : (b : Bool) → 1 ≤ one_if b → b ≡ true
one-true true h = refl
one-true false h = absurd (not-suc-le-zero h)

at_most_one : (b : Bool) → one_if b ≤ 1
at_most_one true = omega arith
at_most_one false = omega arith

pub set_at-is-set : (n k r : ℕ) → r < binom n k → is_set n k (set_at n k r) ≡ true
set_at-is-set n k r h =
    let p : r < length (revolving n k) = omega (arith, revolving-length n k) in
    one-true (is_set n k (set_at n k r)) (omega (arith, times_at (revolving n k) r p, revolving-once n k (set_at n k r)))

pub rank_of-set : (n k r : ℕ) → r < binom n k → rank_of n (set_at n k r) ≡ r
rank_of-set n k r h =
    let p : r < length (revolving n k) = omega (arith, revolving-length n k) in
    ap (λ (m : ℕ). place_of (set_at n k r) (revolving n m)) (is_set-parts n k (set_at n k r) (set_at-is-set n k r h)).0
    ∙ place_at (revolving n k) r p (omega (arith, revolving-once n k (set_at n k r), at_most_one (is_set n k (set_at n k r))))

pub set_of_rank : (n k : ℕ) (s : List ℕ) → is_set n k s ≡ true → (rank_of n s < binom n k) × (set_at n k (rank_of n s) ≡ s)
set_of_rank n k s e =
    let long : length s ≡ k = (is_set-parts n k s e).0 in
    let stands : 1 ≤ times_in s (revolving n k) = omega (arith, revolving-once n k s, ap one_if e) in
    let there = place_in s (revolving n k) stands in
    let place : rank_of n s ≡ place_of s (revolving n k) = ap (λ (m : ℕ). place_of s (revolving n m)) long in
    (omega (arith, place, there.0, revolving-length n k), ap (set_at n k) place ∙ there.1)

pub rank_unique : (n k r : ℕ) (s : List ℕ) → r < binom n k → set_at n k r ≡ s → rank_of n s ≡ r
rank_unique n k r s h e = ap (rank_of n) (sym e) ∙ rank_of-set n k r h

pub every-rank : (n k : ℕ) (P : List ℕ → Type 0) → ((r : ℕ) → r < binom n k → P (set_at n k r)) ↔ ((s : List ℕ) → is_set n k s ≡ true → P s)
every-rank n k P = (
  (λ all s e. subst P (set_of_rank n k s e).1 (all (rank_of n s) (set_of_rank n k s e).0)),
  (λ all r h. all (set_at n k r) (set_at-is-set n k r h)),
)

-- the first half of the list, and the second
set_at-first : (n k r : ℕ) → r < binom n (suc k) → set_at (suc n) (suc k) r ≡ set_at n (suc k) r
set_at-first n k r h =
    ap (λ (l : List (List ℕ)). get_or l r []) (revolving-suc n k)
    ∙ get_or-append (revolving n (suc k)) (with_last n (revolving n k)) [] r (omega (arith, revolving-length n (suc k)))

set_at_second : (n k q r : ℕ) → q < binom n k → r + suc q ≡ binom (suc n) (suc k) → set_at (suc n) (suc k) r ≡ set_at n k q ++ (n ∷ [])
set_at_second n k q r h e =
    let both = binom-suc n k in
    let i = r - binom n (suc k) in
    let p : length (revolving n (suc k)) + i ≡ r = omega (arith, both, revolving-length n (suc k)) in
    let b : i < length (reverse (revolving n k)) = omega (arith, both, length-reverse (revolving n k), revolving-length n k) in
    let c : i + suc q ≡ length (revolving n k) = omega (arith, both, revolving-length n k) in
    ap (λ (l : List (List ℕ)). get_or l r []) (revolving-suc n k)
    ∙ get_d_second (revolving n (suc k)) (with_last n (revolving n k)) r i [] p
    ∙ get_d_map (λ s. s ++ (n ∷ [])) (reverse (revolving n k)) i [] [] b
    ∙ ap (λ (s : List ℕ). s ++ (n ∷ [])) (get_d_reverse (revolving n k) i q [] c)

-- the list for more wires begins with the list for fewer
pub set_at_wider : (m n k r : ℕ) → m ≤ n → r < binom m k → set_at n k r ≡ set_at m k r
set_at_wider m n zero r h b = ap (λ (l : List (List ℕ)). get_or l r []) (revolving-zero n ∙ sym (revolving-zero m))
set_at_wider m zero (suc k) r h b = let e : m ≡ 0 = omega arith in ap (λ (i : ℕ). set_at i (suc k) r) (sym e)
set_at_wider m (suc n) (suc k) r h b = go (eq-or-lt_of_le h) (set_at_wider m n (suc k) r)
  where
    go : (m ≡ suc n) ⊎ (m < suc n) → (m ≤ n → r < binom m (suc k) → set_at n (suc k) r ≡ set_at m (suc k) r) → set_at (suc n) (suc k) r ≡ set_at m (suc k) r
    go (inl e) ih = ap (λ (i : ℕ). set_at i (suc k) r) (sym e)
    go (inr p) ih =
        let q : m ≤ n = le_of_suc-le-suc p in
        set_at-first n k r (omega (arith, binom_wider m n (suc k) q)) ∙ ih q b

-- the highest wire x, and the other k wires at rank q of the sets out of x wires: the ranks are counted from the two ends
pub set_at-step : (n k x q r : ℕ) → x < n → q < binom x k → r + suc q ≡ binom (suc x) (suc k) → set_at n (suc k) r ≡ set_at x k q ++ (x ∷ [])
set_at-step n k x q r h b e = set_at_wider (suc x) n (suc k) r h (omega arith) ∙ set_at_second x k q r b e
