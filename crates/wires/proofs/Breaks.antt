-- What the breaking test says.
--     allowed-ni, allowed-sni      how many wires pay: all of them; the inner ones
--     Breaks                       a set breaks a notion, as a statement
--     breaks-exactly               the test passes exactly when it does
--     breaks-counts                and so by the counts: no mask is left, and one of them is above what is allowed
--     swap_wire, breaks-swap        with the operands exchanged in every wire the test says the same
--     empty-breaks-nothing         the empty set breaks nothing
use Prim.Native.Nat.{ℕ, suc, ◌+◌, ◌<◌}
use native.Mathlib.Nat.{zero-add}
use native.Mathlib.Omega.{arith}
use mathlib.Core.Path.{◌≡◌, refl, sym, ◌∙◌, ap, ap₂}
use mathlib.Core.Logic.{◌↔◌, ◌⊎◌, inl, inr}
use mathlib.Core.Bool.{Bool, true, false, cond, not, ◌&&◌, ◌||◌, or_comm}
use mathlib.Core.List.{List, [], ◌∷◌, map}
use borrow.Author.Tests.{ltb-true, lt-ltb, not-true}
use lib.Dec.{ltb}
use lib.ListN.{length}
use Rattle.basics.specs.Folds.{some, one_if, up_to}
use Rattle.basics.proofs.Tests.{and_left, and_right, and_both, or_left, or_right, or_cases}
use Rattle.basics.proofs.Folds.{fold-map, fold_hom, fold_unit, count-all, none_below, never}
use Rattle.wires.specs.declared.Notion.{Notion}
use Rattle.wires.specs.declared.Notion.TheVariants.{Ni, Sni}
use Rattle.wires.specs.Wires.{Terms, Wire, none, plus, total, swap, count_a, count_b, masked, allowed, breaks}

pub allowed-ni : (s : List Wire) → allowed Ni s ≡ length s
allowed-ni s = count-all s

pub allowed-sni : (w : Wire) (s : List Wire) → allowed Sni (w ∷ s) ≡ cond w.outer (allowed Sni s) (suc (allowed Sni s))
allowed-sni w s = go w.outer
  where
    go : (b : Bool) → one_if (not b) + allowed Sni s ≡ cond b (allowed Sni s) (suc (allowed Sni s))
    go true = zero-add (allowed Sni s)
    go false = omega arith

-- its sum has no mask, and depends on more shares of a, or on more shares of b, than wires of the set pay for
pub record Breaks (notion : Notion) (n m : ℕ) (s : List Wire) : Type 0 where
  pub unmasked : (k : ℕ) → k < m → (total s).mask k ≡ false
  pub exceeds : (allowed notion s < count_a n (total s)) ⊎ (allowed notion s < count_b n (total s))

module _ (notion : Notion) (n m : ℕ) (s : List Wire) where
  abbrev a : Bool
  a = ltb (allowed notion s) (count_a n (total s))

  abbrev b : Bool
  b = ltb (allowed notion s) (count_b n (total s))

  pub breaks-exactly : (breaks notion n m s ≡ true) ↔ Breaks notion n m s
  unfolding breaks masked
  breaks-exactly = (there, back)
    where
      there : breaks notion n m s ≡ true → Breaks notion n m s
      there e =
          let free = not-true (masked m (total s)) (and_left (not (masked m (total s))) (a || b) e) in
          record { unmasked = λ k h. never m k (total s).mask free h; exceeds = go (or_cases a b (and_right (not (masked m (total s))) (a || b) e)) }
        where
          go : (a ≡ true) ⊎ (b ≡ true) → (allowed notion s < count_a n (total s)) ⊎ (allowed notion s < count_b n (total s))
          go (inl p) = inl (ltb-true (allowed notion s) (count_a n (total s)) p)
          go (inr p) = inr (ltb-true (allowed notion s) (count_b n (total s)) p)

      back : Breaks notion n m s → breaks notion n m s ≡ true
      back h = and_both (not (masked m (total s))) (a || b) (ap not (none_below m (total s).mask h.unmasked)) (go h.exceeds)
        where
          go : (allowed notion s < count_a n (total s)) ⊎ (allowed notion s < count_b n (total s)) → (a || b) ≡ true
          go (inl p) = or_left a b (lt-ltb (allowed notion s) (count_a n (total s)) p)
          go (inr p) = or_right a b (lt-ltb (allowed notion s) (count_b n (total s)) p)

  pub breaks-counts : (breaks notion n m s ≡ true)
      ↔ ((masked m (total s) ≡ false) × ((allowed notion s < count_a n (total s)) ⊎ (allowed notion s < count_b n (total s))))
  unfolding masked
  breaks-counts = (
    λ e. let h = breaks-exactly.0 e in (none_below m (total s).mask h.unmasked, h.exceeds),
    λ h. breaks-exactly.1 (record { unmasked = λ k below. never m k (total s).mask h.0 below; exceeds = h.1 }),
  )

abbrev pub swap_wire : Wire → Wire
swap_wire w = record { terms = swap w.terms; outer = w.outer }

pub breaks-swap : (notion : Notion) (n m : ℕ) (s : List Wire) → breaks notion n m (map swap_wire s) ≡ breaks notion n m s
unfolding breaks masked
breaks-swap notion n m s =
    ap₂ (λ (k : ℕ) (t : Terms). not (masked m t) && (ltb k (count_a n t) || ltb k (count_b n t))) (paid notion) sums
    ∙ ap (λ (z : Bool). not (masked m (total s)) && z)
    (or_comm (ltb (allowed notion s) (count_b n (total s))) (ltb (allowed notion s) (count_a n (total s))))
  where
    sums : total (map swap_wire s) ≡ swap (total s)
    sums = fold-map plus none swap_wire (λ w. w.terms) s ∙ sym (fold_hom plus none plus none swap refl (λ t u. refl) (λ w. w.terms) s)

    paid : (notion : Notion) → allowed notion (map swap_wire s) ≡ allowed notion s
    paid Ni = fold-map ◌+◌ 0 swap_wire (λ w. 1) s
    paid Sni = fold-map ◌+◌ 0 swap_wire (λ w. one_if (not w.outer)) s

pub empty-breaks-nothing : (notion : Notion) (n m : ℕ) → breaks notion n m [] ≡ false
unfolding breaks count_a
empty-breaks-nothing notion n m =
    ap (λ (b : Bool). not (masked m none) && b) (ap₂ (λ (x y : ℕ). ltb 0 x || ltb 0 y) (nothing n) (nothing n)) ∙ last (masked m none)
  where
    nothing : (n : ℕ) → count_a n none ≡ 0
    nothing n =
        fold_unit ◌+◌ 0 zero-add (λ i. one_if (some (λ j. false) (up_to n) || false)) (up_to n)
        (λ i. ap (λ (b : Bool). one_if (b || false)) (fold_unit ◌||◌ false (λ x. refl) (λ j. false) (up_to n) (λ j. refl)))

    last : (b : Bool) → (not b && false) ≡ false
    last true = refl
    last false = refl
