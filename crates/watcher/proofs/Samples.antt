-- Small gadgets of two shares, by running the definitions and a short argument: which sets admit a choice of shares, and from how many settings
-- patterns come.
--     masked-once, masked_choice      a secret under a mask: each pattern from one setting; no share need be chosen
--     mask-watched                    with the mask watched on an outer wire: no choice under SNI, one under NI
--     agreement_on_both               a secret of a, of b, in the clear: no choice
--     outer-pays-nothing              an outer share alone: no choice under SNI, one under NI
--     by_a, by_b                      a secret of a, of b, in the clear: which operand leaks
--     product-watched                 a product alone: a share of each operand
--     broken-inside                   a set that does not break, with a part that does: no choice
--     empty-set                       nothing watched, nothing chosen
--     one_wire_counted, two_wires_counted, twice_counted, clear_counted     from how many settings patterns come
use Prim.Native.Nat.{ℕ, ◌+◌, ◌≤◌, ◌<◌, zero-le}
use native.Mathlib.Nat.{le_refl, le_of_eq, zero-add, suc_inj, suc-ne-zero}
use native.Mathlib.Omega.{arith}
use mathlib.Core.Path.{◌≡◌, refl, sym, ◌∙◌, ap, ap₂}
use mathlib.Core.Bool.{Bool, true, false, not, ◌&&◌, beq, xor}
use mathlib.Core.List.{List, [], ◌∷◌}
use lib.ListN.{length}
use lib.Dec.{eqb, lit<}
use Rattle.basics.specs.Folds.{some, one_if, count, up_to}
use Rattle.basics.proofs.Tests.{or_left, or_right}
use Rattle.basics.proofs.Folds.{fold_cong, fold_unit}
use Rattle.wires.specs.declared.Notion.{Notion}
use Rattle.wires.specs.declared.Notion.TheVariants.{Ni, Sni}
use Rattle.wires.specs.Wires.{Terms, Wire, Input, value, plus, swap, depends_a, depends_b, count_a, masked, allowed, breaks}
use Rattle.wires.proofs.Value.{value-plus, value_agree}
use Rattle.wires.proofs.Breaks.{empty-breaks-nothing}
use Rattle.wires.proofs.Units.{just_product, just_share, just_mask, value_of_share, value_of_mask}
use Rattle.watcher.specs.Watcher.{bit_lists, mask_of, shown, equal, comes, ChoiceWithin, Choice, ChoiceByA, ChoiceByB}
use Rattle.watcher.proofs.Bits.{pick}
use Rattle.watcher.proofs.Choice.{choice_exactly, no_choice, leaks_a, leaks_b}

abbrev inner : Terms → Wire
inner t = record { terms = t; outer = false }

abbrev outer_wire_lem : Terms → Wire
outer_wire_lem t = record { terms = t; outer = true }

-- both shares of a, the secret bit
abbrev secret : Terms
secret = plus (just_share 0) (just_share 1)

abbrev hidden : Wire
hidden = inner (plus secret (just_mask 0))

abbrev NoneChosen : Notion → ℕ → ℕ → List Wire → Type 0
NoneChosen notion n m v = (c : Choice notion n m v) × ((i : ℕ) → (c.chosen_a i ≡ false) × (c.chosen_b i ≡ false))

-- whether some wire of a list depends on a share, by a's test of dependence or by b's
abbrev needs : (Terms → ℕ → Bool) → List Wire → ℕ → Bool
needs depends v i = some (λ w. depends w.terms i) v

-- the shares on which the wires depend, one by one, serve as the choice where they are few enough
own_shares : (most_a most_b n m : ℕ) (v : List Wire) → count (needs (depends_a n) v) (up_to n) ≤ most_a
    → count (needs (depends_b n) v) (up_to n) ≤ most_b → ChoiceWithin most_a most_b n m v
unfolding comes
own_shares most_a most_b n m v a b = record {
  chosen_a = needs (depends_a n) v;
  chosen_b = needs (depends_b n) v;
  few_a = a;
  few_b = b;
  blind = λ x y agree p e. fold_cong ◌+◌ 0 (λ r. one_if (equal (shown n m x r v) p)) (λ r. one_if (equal (shown n m y r v) p)) (bit_lists m)
      (λ r. ap (λ q. one_if (equal q p)) (alike x y r v agree.on_a agree.on_b));
}
  where
    alike : (x y : Input) (r : List Bool) (u : List Wire) → ((i : ℕ) → i < n → needs (depends_a n) u i ≡ true → x.of_a i ≡ y.of_a i)
        → ((j : ℕ) → j < n → needs (depends_b n) u j ≡ true → x.of_b j ≡ y.of_b j) → shown n m x r u ≡ shown n m y r u
    alike x y r [] a b = refl
    alike x y r (w ∷ u) a b =
        ap₂ {C = List Bool} ◌∷◌
        (value_agree n m x y (mask_of r) w.terms (λ i h d. a i h (or_left (depends_a n w.terms i) (needs (depends_a n) u i) d))
        (λ j h d. b j h (or_left (depends_b n w.terms j) (needs (depends_b n) u j) d)))
        (alike x y r u (λ i h d. a i h (or_right (depends_a n w.terms i) (needs (depends_a n) u i) d))
        (λ j h d. b j h (or_right (depends_b n w.terms j) (needs (depends_b n) u j) d)))

-- a secret under a mask: every pattern comes from one setting, whatever the input
pub masked-once : (x : Input) (b : Bool) → comes 2 1 x (hidden ∷ []) (b ∷ []) ≡ 1
unfolding comes bit_lists xor
masked-once x b =
    ap₂ (λ (c d : Bool). one_if (not (xor c b) && true) + (one_if (not (xor d b) && true) + 0)) (worth false) (worth true)
    ∙ go (xor (x.of_a 0) (x.of_a 1)) b
  where
    worth : (r : Bool) → value 2 1 x (mask_of (r ∷ [])) hidden.terms ≡ xor (xor (x.of_a 0) (x.of_a 1)) r
    worth r =
        value-plus 2 1 x (mask_of (r ∷ [])) secret (just_mask 0)
        ∙ ap₂ xor
        (value-plus 2 1 x (mask_of (r ∷ [])) (just_share 0) (just_share 1)
        ∙ ap₂ xor (value_of_share 2 1 x (mask_of (r ∷ [])) 0 (lit< tt)) (value_of_share 2 1 x (mask_of (r ∷ [])) 1 (lit< tt)))
        (value_of_mask 2 1 x (mask_of (r ∷ [])) 0 (lit< tt))

    go : (s b : Bool) → one_if (not (xor (xor s false) b) && true) + (one_if (not (xor (xor s true) b) && true) + 0) ≡ 1
    go true true = refl
    go true false = refl
    go false true = refl
    go false false = refl

-- so it is blind with no share chosen
pub masked_choice : NoneChosen Sni 2 1 (hidden ∷ [])
unfolding up_to
masked_choice = (
  record {
    chosen_a = λ i. false;
    chosen_b = λ j. false;
    few_a = zero-le;
    few_b = zero-le;
    blind = λ x y agree p e. once x p e ∙ sym (once y p e);
  },
  λ i. (refl, refl),
)
  where
    once : (x : Input) (p : List Bool) → length p ≡ 1 → comes 2 1 x (hidden ∷ []) p ≡ 1
    once x [] e = absurd (suc-ne-zero 0 (sym e))
    once x (b ∷ []) e = masked-once x b
    once x (b ∷ c ∷ p) e = absurd (suc-ne-zero (length p) (suc_inj e))

-- with the mask watched too, on an outer wire that does not pay under SNI, one share of each operand is not enough; the two shares of NI are
pub mask-watched : let v = hidden ∷ outer_wire_lem (just_mask 0) ∷ [] in
    (allowed Sni v ≡ 1) × (Choice Sni 2 1 v → ⊥) × (allowed Ni v ≡ 2) × Choice Ni 2 1 v
unfolding breaks count_a masked up_to xor
mask-watched =
    let v = hidden ∷ outer_wire_lem (just_mask 0) ∷ [] in (refl, no_choice Sni 2 1 v refl, refl, own_shares 2 2 2 1 v (le_refl 2) zero-le)

-- the one smaller part of a single wire is the empty set
part : (w : Wire) (n m : ℕ) (l : List Bool) → length (pick l (w ∷ [])) < 1 → breaks Ni n m (pick l (w ∷ [])) ≡ false
part w n m l less = go (pick l (w ∷ [])) less
  where
    go : (s : List Wire) → length s < 1 → breaks Ni n m s ≡ false
    go [] h = empty-breaks-nothing Ni n m
    go (w ∷ s) h = let z : ⊥ = omega (arith, h) in absurd z

-- a secret in the clear admits no choice of one share, be it a's or b's
pub agreement_on_both : (Choice Ni 2 0 (inner secret ∷ []) → ⊥) × (Choice Ni 2 0 (inner (swap secret) ∷ []) → ⊥)
unfolding breaks count_a masked up_to xor
agreement_on_both = (no_choice Ni 2 0 (inner secret ∷ []) refl, no_choice Ni 2 0 (inner (swap secret) ∷ []) refl)

-- the secret of a leaks by a alone: all shares of b do not help, all of a do; and the other way round
pub by_a : let v = inner secret ∷ [] in (ChoiceByA Ni 2 0 v → ⊥) × ChoiceByB Ni 2 0 v
unfolding breaks count_a masked up_to xor
by_a = let v = inner secret ∷ [] in ((leaks_a Ni 2 0 v refl (part (inner secret) 2 0)).0 (lit< tt), own_shares 2 1 2 0 v (le_refl 2) zero-le)

pub by_b : let v = inner (swap secret) ∷ [] in (ChoiceByB Ni 2 0 v → ⊥) × ChoiceByA Ni 2 0 v
unfolding breaks count_a masked up_to xor
by_b = let v = inner (swap secret) ∷ [] in ((leaks_b Ni 2 0 v refl (part (inner (swap secret)) 2 0)).0 (lit< tt), own_shares 1 2 2 0 v zero-le (le_refl 2))

-- an outer wire pays for its share under NI and not under SNI
pub outer-pays-nothing : let v = outer_wire_lem (just_share 0) ∷ [] in (Choice Sni 2 0 v → ⊥) × Choice Ni 2 0 v
unfolding breaks count_a masked up_to xor
outer-pays-nothing = let v = outer_wire_lem (just_share 0) ∷ [] in (no_choice Sni 2 0 v refl, own_shares 1 1 2 0 v (le_refl 1) zero-le)

-- one inner wire pays for a share of a and one of b
pub product-watched : Choice Sni 2 0 (inner (just_product 0 1) ∷ [])
unfolding up_to
product-watched = own_shares 1 1 2 0 (inner (just_product 0 1) ∷ []) (le_refl 1) (le_refl 1)

-- the secret, and an outer mask beside it that hides nothing: the set does not break, and still shows the secret
pub broken-inside : let v = inner secret ∷ outer_wire_lem (just_mask 0) ∷ [] in (breaks Sni 2 1 v ≡ false) × (Choice Sni 2 1 v → ⊥)
unfolding breaks count_a masked bit_lists up_to xor
broken-inside =
    let v = inner secret ∷ outer_wire_lem (just_mask 0) ∷ [] in
    (refl, λ c. let two : ◌≤◌ 2 1 = ((choice_exactly 1 1 2 1 v).0 c).0 in omega (arith, two))

-- nothing watched, nothing chosen
pub empty-set : (notion : Notion) (n m : ℕ) → NoneChosen notion n m []
unfolding comes
empty-set notion n m = (
  record {
    chosen_a = λ i. false;
    chosen_b = λ j. false;
    few_a = few;
    few_b = few;
    blind = λ x y agree p e. refl;
  },
  λ i. (refl, refl),
)
  where
    few : count (λ i. false) (up_to n) ≤ 0
    few = le_of_eq (fold_unit ◌+◌ 0 zero-add (λ i. 0) (up_to n) (λ i. refl))

-- of the four settings of two masks, two make the sum of the masks 1 and two make it 0
pub one_wire_counted : (x : Input) (b : Bool) → comes 2 2 x (inner (plus (just_mask 0) (just_mask 1)) ∷ []) (b ∷ []) ≡ 2
unfolding comes bit_lists value up_to xor
one_wire_counted x true = refl
one_wire_counted x false = refl

-- with one of the masks watched beside their sum, each setting shows a pattern of its own
pub two_wires_counted : (x : Input) (b c : Bool)
    → comes 2 2 x (inner (just_mask 0) ∷ inner (plus (just_mask 0) (just_mask 1)) ∷ []) (b ∷ c ∷ []) ≡ 1
unfolding comes bit_lists value up_to xor
two_wires_counted x true true = refl
two_wires_counted x true false = refl
two_wires_counted x false true = refl
two_wires_counted x false false = refl

-- a mask watched twice shows the same bit twice
pub twice_counted : (x : Input) (b c : Bool) → comes 2 1 x (inner (just_mask 0) ∷ inner (just_mask 0) ∷ []) (b ∷ c ∷ []) ≡ one_if (beq b c)
unfolding comes bit_lists value up_to xor
twice_counted x true true = refl
twice_counted x true false = refl
twice_counted x false true = refl
twice_counted x false false = refl

-- with no masks there is one setting, and it shows the share as it is, here 1
pub clear_counted : let x : Input = record { of_a = λ i. eqb i 0; of_b = λ j. false } in
    (comes 2 0 x (inner (just_share 0) ∷ []) (true ∷ []) ≡ 1) × (comes 2 0 x (inner (just_share 0) ∷ []) (false ∷ []) ≡ 0)
unfolding comes bit_lists value up_to xor
clear_counted = (refl, refl)
