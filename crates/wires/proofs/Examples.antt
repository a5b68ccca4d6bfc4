-- Examples on two shares and one mask, proved by running the definitions.
--     of_products, of_share, of_mask     terms with two rows of products, with one share of a, with the mask
use Prim.Native.Nat.{ℕ, ◌*◌, ◌+◌}
use mathlib.Core.Path.{◌≡◌, refl}
use mathlib.Core.Bool.{Bool, true, false, xor}
use mathlib.Core.List.{List, [], ◌∷◌}
use lib.Dec.{eqb}
use lib.ListN.{get_or}
use Rattle.basics.specs.Folds.{some, up_to}
use Rattle.wires.specs.declared.Notion.TheVariants.{Ni, Sni}
use Rattle.wires.specs.Wires.{Terms, Wire, Input, value, none, plus, swap, count_a, count_b, masked, allowed, breaks}

-- the bits of s00, s01, s10 and s11 in their order
abbrev of_products : List Bool → Terms
of_products bits = record { product = λ i j. get_or bits (2 * i + j) false; share_a = λ i. false; share_b = λ j. false; mask = λ k. false }

abbrev of_share : ℕ → Terms
of_share i = record { product = λ i j. false; share_a = λ k. eqb k i; share_b = λ j. false; mask = λ k. false }

abbrev of_mask : Terms
of_mask = record { product = λ i j. false; share_a = λ i. false; share_b = λ j. false; mask = λ k. true }

abbrev inner : Terms → Wire
inner t = record { terms = t; outer = false }

abbrev outer_wire_lem : Terms → Wire
outer_wire_lem t = record { terms = t; outer = true }

abbrev of_bits : List Bool → List Bool → Input
of_bits a b = record { of_a = λ i. get_or a i false; of_b = λ j. get_or b j false }

-- s01 + r0 where a0 = b1 = 1: 1 with the mask 0, and 0 with the mask 1
pub masked-product : let t = plus (of_products (false ∷ true ∷ [])) of_mask in let x = of_bits (true ∷ false ∷ []) (false ∷ true ∷ []) in
    (value 2 1 x (λ k. false) t ≡ true) × (value 2 1 x (λ k. true) t ≡ false)
unfolding value xor up_to
masked-product = (refl, refl)

-- s00 + s01 has one row and two columns
pub rows_and_columns : (count_a 2 (of_products (true ∷ true ∷ [])) ≡ 1) × (count_b 2 (of_products (true ∷ true ∷ [])) ≡ 2)
unfolding count_a up_to
rows_and_columns = (refl, refl)

-- an outer wire pays under NI and not under SNI
pub who_pays : (allowed Ni (outer_wire_lem of_mask ∷ inner of_mask ∷ []) ≡ 2) × (allowed Sni (outer_wire_lem of_mask ∷ inner of_mask ∷ []) ≡ 1)
who_pays = (refl, refl)

-- s00 alone: one share of a and one of b, so one inner wire pays for it and an outer one does not
pub product_alone : (breaks Ni 2 1 (inner (of_products (true ∷ [])) ∷ []) ≡ false) × (breaks Sni 2 1 (inner (of_products (true ∷ [])) ∷ []) ≡ false)
    × (breaks Ni 2 1 (outer_wire_lem (of_products (true ∷ [])) ∷ []) ≡ false) × (breaks Sni 2 1 (outer_wire_lem (of_products (true ∷ [])) ∷ []) ≡ true)
unfolding breaks count_a masked up_to xor
product_alone = (refl, refl, refl, refl)

-- both shares of a: a break, unless the mask is left, and again one where a second wire takes the mask away and does not pay
pub mask_taken_away : let secret = plus (of_share 0) (of_share 1) in (breaks Ni 2 1 (inner secret ∷ []) ≡ true)
    × (breaks Ni 2 1 (inner (plus secret of_mask) ∷ []) ≡ false)
    × (breaks Ni 2 1 (inner (plus secret of_mask) ∷ outer_wire_lem of_mask ∷ []) ≡ false)
    × (breaks Sni 2 1 (inner (plus secret of_mask) ∷ outer_wire_lem of_mask ∷ []) ≡ true)
unfolding breaks count_a masked up_to xor
mask_taken_away = (refl, refl, refl, refl)

-- both shares of b
pub both_of_b : let secret = swap (plus (of_share 0) (of_share 1)) in
    (breaks Ni 2 1 (inner secret ∷ []) ≡ true) × (breaks Sni 2 1 (outer_wire_lem secret ∷ []) ≡ true)
    × (breaks Ni 2 1 (inner secret ∷ inner none ∷ []) ≡ false)
unfolding breaks count_a masked up_to xor
both_of_b = (refl, refl, refl)

-- three shares under two masks: the three wires together show all of a, and break where one of them does not pay
abbrev under : ℕ → List ℕ → Terms
under i masks = record { product = λ i j. false; share_a = λ k. eqb k i; share_b = λ j. false; mask = λ k. some (eqb k) masks }

pub three_wires : let x = under 0 (0 ∷ []) in let y = under 1 (0 ∷ 1 ∷ []) in let z = under 2 (1 ∷ []) in
    (breaks Ni 3 2 (inner x ∷ inner y ∷ inner z ∷ []) ≡ false) × (breaks Sni 3 2 (outer_wire_lem x ∷ inner y ∷ inner z ∷ []) ≡ true)
    × (breaks Sni 3 2 (outer_wire_lem x ∷ outer_wire_lem y ∷ []) ≡ false) × (count_a 3 (plus x (plus y z)) ≡ 3)
unfolding breaks count_a masked up_to xor
three_wires = (refl, refl, refl, refl)
