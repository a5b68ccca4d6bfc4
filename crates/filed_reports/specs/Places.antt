-- The first place, a size and a rank of it, at which something is so: the smallest size, and then the lowest rank. The number of sets of each size is an
-- argument: `all k`.
--     first_rank              the least number below n that passes, or n
--     first_place             what is told of the first place of the sizes from 1 to the order, and what else where there is none
--     NoPlace, FirstPlace    there is none; which one it is
--     PlaceIs                the code's place is the first one; it has none where there is none
use Rattle.std.specs.Prelude.{ℕ, zero, suc, ◌≤◌, ◌<◌, ◌≡◌, Bool, true, cond, ltb, Option, None, Some}
use Rattle.filed_reports.specs.declared.Place.{Place}

unfoldable pub first_rank : ℕ → (ℕ → Bool) → ℕ
first_rank zero passes = 0
first_rank (suc n) passes = cond (passes 0) 0 (suc (first_rank n (λ i. passes (suc i))))

module _ {A : Type 0} (all : ℕ → ℕ) (passes : ℕ → ℕ → Bool) (tell : ℕ → ℕ → A) where
  abbrev pub of_size : ℕ → A → A
  of_size size none = cond (ltb (first_rank (all size) (passes size)) (all size)) (tell size (first_rank (all size) (passes size))) none

  -- of the sizes up to t, else of size t + 1
  abbrev pub first_place : ℕ → A → A
  first_place zero none = none
  first_place (suc t) none = first_place t (of_size (suc t) none)

pub record NoPlace (all : ℕ → ℕ) (passes : ℕ → ℕ → Bool) (order : ℕ) : Type 0 where
  pub nowhere : (size rank : ℕ) → 1 ≤ size → size ≤ order → rank < all size → passes size rank ≡ true → ⊥

pub record FirstPlace (all : ℕ → ℕ) (passes : ℕ → ℕ → Bool) (order size rank : ℕ) : Type 0 where
  pub low : 1 ≤ size
  pub high : size ≤ order
  pub counted : rank < all size
  pub here : passes size rank ≡ true
  pub smaller : (k r : ℕ) → 1 ≤ k → k < size → r < all k → passes k r ≡ true → ⊥
  pub before : (r : ℕ) → r < rank → passes size r ≡ true → ⊥

abbrev pub PlaceIs : (ℕ → ℕ) → (ℕ → ℕ → Bool) → ℕ → Option Place → Type 0
PlaceIs all passes order None = NoPlace all passes order
PlaceIs all passes order (Some place) = FirstPlace all passes order place.size place.rank
