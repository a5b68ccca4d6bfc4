-- The first place, told by a definition that computes.
--     first-rank-none, first-rank-is       the least number that passes
--     rank-either                          there is none, or there is a least one
--     no_place_is, first_place-is          what is told of the first place
--     place_either                         there is none, or there is one
use Prim.Native.Nat.{ℕ, zero, suc, ◌≤◌, ◌<◌, suc-le-suc}
use native.Mathlib.Nat.{eq-or-lt_of_le, le_of_suc-le-suc, not-suc-le-zero}
use native.Mathlib.Omega.{arith}
use mathlib.Core.Path.{◌≡◌, refl, sym, ◌∙◌, ap, subst}
use mathlib.Core.Logic.{◌⊎◌, inl, inr}
use mathlib.Core.Bool.{Bool, true, false, cond, true≢false}
use borrow.Author.Tests.{lt-ltb, le-ltb}
use lib.Dec.{ltb}
use Rattle.basics.proofs.Tests.{failed}
use Rattle.filed_reports.specs.Places.{first_rank, of_size, first_place, NoPlace, FirstPlace}

pub first-rank-none : (n : ℕ) (passes : ℕ → Bool) → ((i : ℕ) → i < n → passes i ≡ true → ⊥) → first_rank n passes ≡ n
unfolding first_rank
first-rank-none zero passes none = refl
first-rank-none (suc n) passes none =
    ap (λ (b : Bool). cond b 0 (suc (first_rank n (λ i. passes (suc i))))) (failed (passes 0) (none 0 (omega arith)))
    ∙ ap suc (first-rank-none n (λ i. passes (suc i)) (λ i h. none (suc i) (suc-le-suc h)))

pub first-rank-is : (n r : ℕ) (passes : ℕ → Bool) → r < n → passes r ≡ true → ((i : ℕ) → i < r → passes i ≡ true → ⊥) → first_rank n passes ≡ r
unfolding first_rank
first-rank-is zero r passes h here before = absurd (not-suc-le-zero h)
first-rank-is (suc n) zero passes h here before = ap (λ (b : Bool). cond b 0 (suc (first_rank n (λ i. passes (suc i))))) here
first-rank-is (suc n) (suc r) passes h here before =
    ap (λ (b : Bool). cond b 0 (suc (first_rank n (λ i. passes (suc i))))) (failed (passes 0) (before 0 (omega arith)))
    ∙ ap suc (first-rank-is n r (λ i. passes (suc i)) (le_of_suc-le-suc h) here (λ i l. before (suc i) (suc-le-suc l)))

abbrev Least : ℕ → (ℕ → Bool) → Type 0
Least n passes = (r : ℕ) × (r < n) × (passes r ≡ true) × ((i : ℕ) → i < r → passes i ≡ true → ⊥)

pub rank-either : (n : ℕ) (passes : ℕ → Bool) → ((i : ℕ) → i < n → passes i ≡ true → ⊥) ⊎ Least n passes
rank-either zero passes = inl (λ i h e. not-suc-le-zero h)
rank-either (suc n) passes = go (rank-either n passes)
  where
    last : ((i : ℕ) → i < n → passes i ≡ true → ⊥) → (b : Bool) → passes n ≡ b → ((i : ℕ) → i < suc n → passes i ≡ true → ⊥) ⊎ Least (suc n) passes
    last none true e = inr (n, omega arith, e, none)
    last none false e = inl (λ i h f. at i f (eq-or-lt_of_le (le_of_suc-le-suc h)))
      where
        at : (i : ℕ) → passes i ≡ true → (i ≡ n) ⊎ (i < n) → ⊥
        at i f (inl same) = true≢false (sym f ∙ ap passes same ∙ e)
        at i f (inr less) = none i less f

    go : ((i : ℕ) → i < n → passes i ≡ true → ⊥) ⊎ Least n passes → ((i : ℕ) → i < suc n → passes i ≡ true → ⊥) ⊎ Least (suc n) passes
    go (inl none) = last none (passes n) refl
    go (inr l) = inr (l.0, omega (arith, l.1), l.2, l.3)

module _ (all : ℕ → ℕ) (passes : ℕ → ℕ → Bool) where
  none_below : (t : ℕ) → NoPlace all passes (suc t) → NoPlace all passes t
  none_below t none = record { nowhere = λ size rank low high. none.nowhere size rank low (omega (arith, high)) }

  first_below : (t size rank : ℕ) → FirstPlace all passes (suc t) size rank → size ≤ t → FirstPlace all passes t size rank
  first_below t size rank f h =
      record { low = f.low; high = h; counted = f.counted; here = f.here; smaller = f.smaller; before = f.before }

  first_above : (t size rank : ℕ) → FirstPlace all passes t size rank → FirstPlace all passes (suc t) size rank
  first_above t size rank f =
      record { low = f.low; high = omega (arith, f.high); counted = f.counted; here = f.here; smaller = f.smaller; before = f.before }

  module _ {A : Type 0} (tell : ℕ → ℕ → A) where
    tells : (size rank : ℕ) (none : A) → rank < all size → first_rank (all size) (passes size) ≡ rank → of_size all passes tell size none ≡ tell size rank
    tells size rank none h e =
        ap (λ (r : ℕ). cond (ltb r (all size)) (tell size r) none) e ∙ ap (λ (b : Bool). cond b (tell size rank) none) (lt-ltb rank (all size) h)

    passed_over : (size : ℕ) (none : A) → first_rank (all size) (passes size) ≡ all size → of_size all passes tell size none ≡ none
    passed_over size none e =
        ap (λ (r : ℕ). cond (ltb r (all size)) (tell size r) none) e
        ∙ ap (λ (b : Bool). cond b (tell size (all size)) none) (le-ltb (all size) (all size) (omega arith))

    pub no_place_is : (order : ℕ) (none : A) → NoPlace all passes order → first_place all passes tell order none ≡ none
    no_place_is zero none p = refl
    no_place_is (suc t) none p =
        no_place_is t (of_size all passes tell (suc t) none) (none_below t p)
        ∙ passed_over (suc t) none (first-rank-none (all (suc t)) (passes (suc t)) (λ i h. p.nowhere (suc t) i (omega arith) (omega arith) h))

    pub first_place-is : (order size rank : ℕ) (none : A) → FirstPlace all passes order size rank
        → first_place all passes tell order none ≡ tell size rank
    first_place-is zero size rank none f = let z : ⊥ = omega (arith, f.low, f.high) in absurd z
    first_place-is (suc t) size rank none f = go (eq-or-lt_of_le f.high) (first_place-is t size rank (of_size all passes tell (suc t) none))
      where
        go : (size ≡ suc t) ⊎ (size < suc t)
            → (FirstPlace all passes t size rank → first_place all passes tell t (of_size all passes tell (suc t) none) ≡ tell size rank)
            → first_place all passes tell t (of_size all passes tell (suc t) none) ≡ tell size rank
        go (inl same) ih =
            no_place_is t (of_size all passes tell (suc t) none)
            (record { nowhere = λ k r low high. f.smaller k r low (omega (arith, same, high)) })
            ∙ ap (λ (k : ℕ). of_size all passes tell k none) (sym same)
            ∙ tells size rank none f.counted (first-rank-is (all size) rank (passes size) f.counted f.here f.before)
        go (inr less) ih = ih (first_below t size rank f (le_of_suc-le-suc less))

  pub place_either : (order : ℕ) → NoPlace all passes order ⊎ ((size rank : ℕ) × FirstPlace all passes order size rank)
  place_either zero = inl (record { nowhere = λ size rank low high. let z : ⊥ = omega (arith, low, high) in absurd z })
  place_either (suc t) = go (place_either t)
    where
      last : NoPlace all passes t → ((i : ℕ) → i < all (suc t) → passes (suc t) i ≡ true → ⊥) ⊎ Least (all (suc t)) (passes (suc t))
          → NoPlace all passes (suc t) ⊎ ((size rank : ℕ) × FirstPlace all passes (suc t) size rank)
      last none (inl clean) = inl (record { nowhere = λ size rank low high. at size rank low (eq-or-lt_of_le high) })
        where
          at : (size rank : ℕ) → 1 ≤ size → (size ≡ suc t) ⊎ (size < suc t) → rank < all size → passes size rank ≡ true → ⊥
          at size rank low (inl same) = subst (λ (k : ℕ). rank < all k → passes k rank ≡ true → ⊥) (sym same) (clean rank)
          at size rank low (inr less) = none.nowhere size rank low (le_of_suc-le-suc less)
      last none (inr l) = inr (
        suc t,
        l.0,
        record {
          low = omega arith;
          high = omega arith;
          counted = l.1;
          here = l.2;
          smaller = λ k r low high. none.nowhere k r low (le_of_suc-le-suc high);
          before = l.3;
        },
      )

      go : NoPlace all passes t ⊎ ((size rank : ℕ) × FirstPlace all passes t size rank)
          → NoPlace all passes (suc t) ⊎ ((size rank : ℕ) × FirstPlace all passes (suc t) size rank)
      go (inl none) = last none (rank-either (all (suc t)) (passes (suc t)))
      go (inr f) = inr (f.0, f.1, first_above t f.0 f.1 f.2)
