-- What the counts of a set mean: its values' sum changes with just the shares that are counted, and with a mask exactly where one is left.
--     sum_is            the sum of the values of wires is the value of their sum
--     by_sum            what a change of the input does to the value of their sum, for a share of either operand
--     mask-exactly      a mask is left exactly when the value changes with some mask
--     set-depends       the counts of a set, and what the notion allows it
--     number-once       there is one number of those that are as a property says
--     depends-once      and so one answer to what a set depends on
use Prim.Native.Nat.{ℕ, ◌+◌, ◌<◌}
use mathlib.Core.Path.{◌≡◌, refl, sym, ◌∙◌, ap}
use mathlib.Core.Logic.{◌↔◌}
use mathlib.Core.Bool.{Bool, true, false, xor}
use mathlib.Core.List.{List}
use lib.Dec.{eqb}
use Rattle.basics.specs.Folds.{one_if}
use Rattle.basics.proofs.Tests.{bool_ext, xor-false}
use Rattle.basics.proofs.Folds.{fold-below, some_where, some_at}
use Rattle.wires.specs.declared.Notion.{Notion}
use Rattle.wires.specs.declared.Notion.TheVariants.{Ni, Sni}
use Rattle.wires.specs.Wires.{Wire, Input, value, total, flip_a, flip_b, depends_a, depends_b, count_a, count_b, masked, allowed}
use Rattle.wires.specs.Dependence.{sum_shown, Changes, ChangesWithA, ChangesWithB, ChangesWithMask, NumberOf, SetDepends}
use Rattle.wires.proofs.Value.{value-total, value_shift}
use Rattle.wires.proofs.Dependence.{parity-one, changed, depends-exactly, depends-exactly_b}
use Rattle.wires.proofs.Breaks.{allowed-ni}

module _ (n m : ℕ) (v : List Wire) where
  pub sum_is : (x : Input) (r : ℕ → Bool) → sum_shown n m x r v ≡ value n m x r (total v)
  sum_is x r = sym (value-total n m x r v)

  -- the sum changes where the value of the total does
  apart : (x y : Input) (r s : ℕ → Bool) → (value n m x r (total v) ≡ value n m y s (total v) → ⊥) ↔ (sum_shown n m x r v ≡ sum_shown n m y s v → ⊥)
  apart x y r s = (λ h e. h (sym (sum_is x r) ∙ e ∙ sum_is y s), λ h e. h (sum_is x r ∙ e ∙ sym (sum_is y s)))

  -- what the value of the total says of a change of the input, the sum of the values says
  by_sum : {D : Type 0} (input : Input → Input) → D ↔ ((x : Input) × (r : ℕ → Bool) × (value n m x r (total v) ≡ value n m (input x) r (total v) → ⊥))
      → D ↔ Changes n m v input (λ r. r)
  by_sum input exactly = (
    λ d. let w = exactly.0 d in (w.0, w.1, (apart w.0 (input w.0) w.1 w.1).0 w.2),
    λ c. exactly.1 (c.0, c.1, (apart c.0 (input c.0) c.1 c.1).1 c.2),
  )

  abbrev with_mask : (ℕ → Bool) → ℕ → ℕ → Bool
  with_mask r k i = xor (r i) (eqb i k)

  shifted : (x : Input) (r : ℕ → Bool) (k : ℕ) → k < m → value n m x (with_mask r k) (total v) ≡ xor (value n m x r (total v)) ((total v).mask k)
  shifted x r k below =
      value_shift n m x r (λ i. eqb i k) (total v) ∙ ap (xor (value n m x r (total v))) (parity-one m k (total v).mask below)

  pub mask-exactly : (masked m (total v) ≡ true) ↔ ((k : ℕ) × (k < m) × ChangesWithMask n m v k)
  unfolding masked
  mask-exactly = (there, λ w. some_at m w.0 (total v).mask w.1 (back w.0 w.1 w.2 ((total v).mask w.0) refl))
    where
      zeros : Input
      zeros = record { of_a = λ i. false; of_b = λ j. false }

      there : masked m (total v) ≡ true → (k : ℕ) × (k < m) × ChangesWithMask n m v k
      there e =
          let w = some_where m (total v).mask e in
          let r : ℕ → Bool = λ i. false in (
            w.0,
            w.1,
            (
              zeros,
              r,
              (apart zeros zeros r (with_mask r w.0)).0
                  (λ same. changed (value n m zeros r (total v)) (same ∙ shifted zeros r w.0 w.1 ∙ ap (xor (value n m zeros r (total v))) w.2)),
            ),
          )

      back : (k : ℕ) → k < m → ChangesWithMask n m v k → (b : Bool) → (total v).mask k ≡ b → b ≡ true
      back k below c true e = refl
      back k below c false e =
          absurd ((apart c.0 c.0 c.1 (with_mask c.1 k)).1 c.2
          (sym (shifted c.0 c.1 k below ∙ ap (xor (value n m c.0 c.1 (total v))) e ∙ xor-false (value n m c.0 c.1 (total v)))))

  pub set-depends : (notion : Notion) → SetDepends notion n m v (count_a n (total v)) (count_b n (total v)) (allowed notion v) (masked m (total v))
  unfolding count_a
  set-depends notion = record {
    shares_of_a = record { test = depends_a n (total v); exactly = λ i below. by_sum (flip_a i) (depends-exactly n m i (total v) below); counted = refl };
    shares_of_b = record { test = depends_b n (total v); exactly = λ j below. by_sum (flip_b j) (depends-exactly_b n m j (total v) below); counted = refl };
    mask_left = mask-exactly;
    allowed-ni = λ e. ap (λ (k : Notion). allowed k v) e ∙ allowed-ni v;
    allowed-sni = λ e. ap (λ (k : Notion). allowed k v) e;
  }

pub number-once : (n : ℕ) (P : ℕ → Type 0) (a b : ℕ) → NumberOf n P a → NumberOf n P b → a ≡ b
number-once n P a b x y =
    x.counted
    ∙ fold-below ◌+◌ 0 n (λ i. one_if (x.test i)) (λ i. one_if (y.test i))
    (λ i below. ap one_if (bool_ext (x.test i) (y.test i) (λ e. (y.exactly i below).1 ((x.exactly i below).0 e))
    (λ e. (x.exactly i below).1 ((y.exactly i below).0 e))))
    ∙ sym y.counted

module _ (n m : ℕ) (v : List Wire) (a b k c d l : ℕ) (x y : Bool) where
  pub depends-once : (notion : Notion) → SetDepends notion n m v a b k x → SetDepends notion n m v c d l y → (a ≡ c) × (b ≡ d) × (k ≡ l) × (x ≡ y)
  depends-once notion p q = (
    number-once n (ChangesWithA n m v) a c p.shares_of_a q.shares_of_a,
    number-once n (ChangesWithB n m v) b d p.shares_of_b q.shares_of_b,
    paid notion p q,
    bool_ext x y (λ e. q.mask_left.1 (p.mask_left.0 e)) (λ e. p.mask_left.1 (q.mask_left.0 e)),
  )
    where
      paid : (notion : Notion) → SetDepends notion n m v a b k x → SetDepends notion n m v c d l y → k ≡ l
      paid Ni p q = p.allowed-ni refl ∙ sym (q.allowed-ni refl)
      paid Sni p q = p.allowed-sni refl ∙ sym (q.allowed-sni refl)
