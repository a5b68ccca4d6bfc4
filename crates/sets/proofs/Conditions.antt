-- Which call gets which number: each entry of `sets` tells a refusal exactly when its condition is the first that holds, values exactly when none does.
--     rising_fails, below_fails                 the tests of a set decide
--     count_chain, set_chain, rank_chain     the entries' tests, and their own answers
--     count_settled, set_settled, rank_settled     the entries, for all arguments
use Prim.Native.Nat.{ℕ, zero, suc, ◌≤◌, ◌<◌, suc-le-suc}
use native.Mathlib.Nat.{le_of_suc-le-suc, not-suc-le-zero}
use native.Mathlib.Omega.{arith}
use mathlib.Core.Path.{◌≡◌, refl}
use mathlib.Core.Logic.{◌↔◌, ◌⊎◌, inl, inr}
use mathlib.Core.Bool.{Bool, true, false, ◌&&◌, true≢false}
use mathlib.Core.List.{List, [], ◌∷◌, ◌++◌}
use borrow.Author.Tests.{ltb-false, le-ltb}
use lib.Dec.{ltb}
use lib.ListN.{length, drop, get_or}
use Rattle.limits.specs.Limits.{max_wires, max_size}
use Rattle.basics.specs.Told.{Lent, values, refusal, turned_down}
use Rattle.basics.specs.Conditions.{Settles, SettlesLent}
use Rattle.basics.proofs.Conditions.{Chain, own, test, settles-told, settles-lent, less, least, not_both}
use Rattle.counts.specs.Counts.{binom}
use Rattle.revolving.specs.Order.{set_at, rank_of, rising, below}
use Rattle.sets.specs.Answers.{set_count, set_from_rank, rank_from_set}
use Rattle.sets.specs.Conditions.{count_conditions, set_conditions, Falls, Beyond, rank_conditions}

and_fails : (a b : Bool) → (a && b) ≡ false → (a ≡ false) ⊎ (b ≡ false)
and_fails true b e = inr e
and_fails false b e = inl refl

and-false_left : (a b : Bool) → a ≡ false → (a && b) ≡ false
and-false_left true b e = absurd (true≢false e)
and-false_left false b e = refl

and-false_right : (a b : Bool) → b ≡ false → (a && b) ≡ false
and-false_right true b e = e
and-false_right false b e = refl

-- ---- the tests of a set

falls : (s : List ℕ) → rising s ≡ false → Falls s
falls [] e = absurd (true≢false e)
falls (x ∷ []) e = absurd (true≢false e)
falls (x ∷ y ∷ s) e = go (and_fails (ltb x y) (rising (y ∷ s)) e) (falls (y ∷ s))
  where
    go : (ltb x y ≡ false) ⊎ (rising (y ∷ s) ≡ false) → (rising (y ∷ s) ≡ false → Falls (y ∷ s)) → Falls (x ∷ y ∷ s)
    go (inl f) ih = (0, omega arith, (omega arith, ltb-false x y f))
    go (inr f) ih = let r = ih f in (suc r.0, suc-le-suc r.1, (suc-le-suc r.2.0, r.2.1))

not-rising : (s : List ℕ) (i : ℕ) → suc i < length s → get_or s (suc i) 0 ≤ get_or s i 0 → rising s ≡ false
not-rising [] i h l = absurd (not-suc-le-zero h)
not-rising (x ∷ []) i h l = absurd (not-suc-le-zero (le_of_suc-le-suc h))
not-rising (x ∷ y ∷ s) zero h l = and-false_left (ltb x y) (rising (y ∷ s)) (le-ltb x y l)
not-rising (x ∷ y ∷ s) (suc i) h l = and-false_right (ltb x y) (rising (y ∷ s)) (not-rising (y ∷ s) i (le_of_suc-le-suc h) l)

pub rising_fails : (s : List ℕ) → (rising s ≡ false) ↔ Falls s
rising_fails s = (falls s, λ f. not-rising s f.0 f.2.0 f.2.1)

goes-beyond : (n : ℕ) (s : List ℕ) → below n s ≡ false → Beyond n s
goes-beyond n [] e = absurd (true≢false e)
goes-beyond n (x ∷ s) e = go (and_fails (ltb x n) (below n s) e) (goes-beyond n s)
  where
    go : (ltb x n ≡ false) ⊎ (below n s ≡ false) → (below n s ≡ false → Beyond n s) → Beyond n (x ∷ s)
    go (inl f) ih = (0, omega arith, ltb-false x n f)
    go (inr f) ih = let r = ih f in (suc r.0, suc-le-suc r.1, r.2)

not-below : (n : ℕ) (s : List ℕ) (i : ℕ) → i < length s → n ≤ get_or s i 0 → below n s ≡ false
not-below n [] i h l = absurd (not-suc-le-zero h)
not-below n (x ∷ s) zero h l = and-false_left (ltb x n) (below n s) (le-ltb x n l)
not-below n (x ∷ s) (suc i) h l = and-false_right (ltb x n) (below n s) (not-below n s i (le_of_suc-le-suc h) l)

pub below_fails : (n : ℕ) (s : List ℕ) → (below n s ≡ false) ↔ Beyond n s
below_fails n s = (goes-beyond n s, λ b. not-below n s b.0 b.1 b.2)

-- ---- the entries

module _ (wires size : ℕ) where
  pub count_chain : Chain refusal (values (binom wires size ∷ [])) (count_conditions wires size) (set_count wires size)
  count_chain = test 12 (less max_wires wires) (test 17 (less max_size size) (own refusal (values (binom wires size ∷ []))))

  pub count_settled : Settles (count_conditions wires size) (set_count wires size)
  count_settled = settles-told count_chain

  module _ (rank : ℕ) (buffer : List ℕ) where
    abbrev pub written : Lent
    written = record { told = values []; held = set_at wires size rank ++ drop size buffer }

    pub set_chain : Chain (λ n. turned_down n buffer) written (set_conditions wires size rank buffer) (set_from_rank wires size rank buffer)
    set_chain =
        test 12 (less max_wires wires)
        (test 17 (less max_size size)
        (test 16 (less (length buffer) size)
        (test 18 (least (binom wires size) rank)
        (own (λ n. turned_down n buffer) written))))

    pub set_settled : SettlesLent (set_conditions wires size rank buffer) buffer (set_from_rank wires size rank buffer)
    set_settled = settles-lent set_chain [] refl

module _ (wires : ℕ) (set : List ℕ) where
  pub rank_chain : Chain refusal (values (rank_of wires set ∷ [])) (rank_conditions wires set) (rank_from_set wires set)
  rank_chain =
      test 12 (less max_wires wires)
      (test 17 (less max_size (length set))
      (test 21 (not_both (rising_fails set) (below_fails wires set))
      (own refusal (values (rank_of wires set ∷ [])))))

  pub rank_settled : Settles (rank_conditions wires set) (rank_from_set wires set)
  rank_settled = settles-told rank_chain
