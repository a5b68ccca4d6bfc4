-- Examples, proved by running the definitions.
--     order_1, order_2, order_3     the texts of the first orders; order 1 is text A of the scope
--     masks_of_7                    at order 7 the masks of the first and of the last pair
--     lengths, wire_counts          how long the seven texts are, and how many wires they have
--     told_by_length, told_by_order      what is told of buffers and orders
use Prim.Native.Nat.{◌^◌}
use mathlib.Core.Path.{◌≡◌, refl}
use mathlib.Core.List.{[], ◌∷◌, ◌++◌, map}
use lib.ListN.{length, replicate}
use Rattle.basics.specs.Told.{values, turned_down}
use Rattle.basics.specs.Folds.{up_to}
use Rattle.basics.specs.Quoted.{bytes}
use Rattle.description.proofs.Samples.{text_a}
use Rattle.isw_gadget.specs.Pairs.{pairs, pair_number}
use Rattle.isw_gadget.specs.Text.{isw_text, line_text}
use Rattle.isw_gadget.specs.Answers.{isw_written}
use Rattle.isw_gadget.specs.Reads.{isw_wires}

pub order_1 : (isw_text 1 ≡ text_a) × (text_a ≡ bytes "ORDER = 1\nMASKS = [r0]\ns00 r0\ns11 ((r0 s01) s10)\n")
unfolding isw_text up_to
order_1 = (refl, refl)

pub order_2 : isw_text 2 ≡ bytes "ORDER = 2\nMASKS = [r0, r1, r2]\ns00 r0 r1\ns11 ((r0 s01) s10) r2\ns22 ((r1 s02) s20) ((r2 s12) s21)\n"
unfolding isw_text up_to
order_2 = refl

-- line 2 of order 3 has shares below and above its own; line 3 the masks r2, r4 and r5
pub order_3 :
    (line_text 3 2 ≡ bytes "s22 ((r1 s02) s20) ((r3 s12) s21) r5\n")
    × (line_text 3 3 ≡ bytes "s33 ((r2 s03) s30) ((r4 s13) s31) ((r5 s23) s32)\n")
unfolding up_to
order_3 = (refl, refl)

pub masks_of_7 : (pair_number 7 0 1 ≡ 0) × (pair_number 7 0 7 ≡ 6) × (pair_number 7 1 2 ≡ 7) × (pair_number 7 6 7 ≡ 27) × (pairs 7 ≡ 28)
masks_of_7 = (refl, refl, refl, refl, refl)

pub lengths : map (λ d. length (isw_text d)) (1 ∷ 2 ∷ 3 ∷ 4 ∷ 5 ∷ 6 ∷ 7 ∷ []) ≡ 49 ∷ 97 ∷ 167 ∷ 259 ∷ 388 ∷ 542 ∷ 721 ∷ []
unfolding isw_text up_to
lengths = refl

pub wire_counts : map isw_wires (1 ∷ 2 ∷ 3 ∷ 4 ∷ 5 ∷ 6 ∷ 7 ∷ []) ≡ 9 ∷ 24 ∷ 46 ∷ 75 ∷ 111 ∷ 154 ∷ 204 ∷ []
wire_counts = refl

-- a byte short, just long enough, a byte more, which is left as it was
pub told_by_length :
    (isw_written 1 (replicate 48 7) ≡ turned_down 24 (replicate 48 7))
    × (isw_written 1 (replicate 49 7) ≡ record { told = values (49 ∷ []); held = isw_text 1 })
    × (isw_written 1 (replicate 50 7) ≡ record { told = values (49 ∷ []); held = isw_text 1 ++ (7 ∷ []) })
unfolding isw_text up_to
told_by_length = (refl, refl, refl)

-- 23 before 24
pub told_by_order :
    (isw_written 0 [] ≡ turned_down 23 []) × (isw_written 8 (replicate 4096 7) ≡ turned_down 23 (replicate 4096 7)) × (isw_written (2 ^ 64) [] ≡ turned_down 23 [])
    × (isw_written 7 [] ≡ turned_down 24 [])
unfolding isw_text up_to
told_by_order = (refl, refl, refl, refl)
