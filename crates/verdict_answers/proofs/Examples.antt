-- Examples, proved by running the definitions: the scope's texts A, B and C, a break that takes two wires, and the refusals on both sides
-- of their limits.
--     texts, two_wires, three_wires, ranges, dependences, empty_table_lem     what is told
--     verdict_refusals, range_refusals, set_refusals     and which refusals
--     numbers     every answer in numbers
--     rank-refused, later-refused     what demand 2's clauses turn away
--     holds-refused, wire_0_refused, broken-refused     what demand 3's clause alone turns away
--     pair     a table in which no wire breaks by itself, and wires 1 and 2 together do
use Prim.Native.Nat.{ℕ, ◌≤◌, ◌<◌}
use native.Mathlib.Nat.{le_refl}
use native.Mathlib.Omega.{arith}
use mathlib.Core.Path.{◌≡◌, refl}
use mathlib.Core.Logic.{inl, inr}
use mathlib.Core.Bool.{true, false, xor}
use mathlib.Core.List.{List, [], ◌∷◌, ◌++◌, map}
use lib.ListN.{take}
use Rattle.std.specs.Prelude.{Ok, Err}
use Rattle.basics.specs.Folds.{up_to}
use Rattle.basics.specs.Told.{Lent, values, refusal}
use Rattle.wires.specs.declared.Notion.TheVariants.{Ni}
use Rattle.wires.specs.Wires.{count_a, masked, breaks, beyond}
use Rattle.watcher.proofs.Choice.{no_choice}
use Rattle.records.specs.Words.{bit}
use Rattle.records.specs.Layout.{wire_at}
use Rattle.counts.specs.Counts.{binom}
use Rattle.revolving.specs.Order.{revolving}
use Rattle.division.specs.Answers.{job_told}
use Rattle.table.specs.declared.Refusal.TheVariants.{SharesOrMasks, TableLength, RecordOutOfRange}
use Rattle.table.proofs.Examples.{record8, table_a, table_b, table_c}
use Rattle.verdict_answers.specs.declared.Refusal.{Refusal}
use Rattle.verdict_answers.specs.declared.Refusal.TheVariants.{Table, NoSuchNotion, OrderOutOfRange, BufferTooShort, SizeTooLarge, RanksOutOfRange, NotASet}
use Rattle.verdict_answers.specs.declared.Checked.{Checked}
use Rattle.verdict_answers.specs.declared.Judged.{Judged}
use Rattle.breaking.specs.Breaking.{is_breaking}
use Rattle.search.specs.Search.{searched}
use Rattle.verdict_answers.specs.Answers.{refusal_number, verdict_told, range_told, dependence_told, verdict_of, range_check, set_dependence}
use Rattle.verdict_answers.specs.First.{NotAfter, VerdictFinds, RangeFinds}
use Rattle.verdict_answers.specs.Guarantee.{Guarantee}
use Rattle.verdict_answers.proofs.Watching.{all_choose}

-- an answer with values, and a buffer of three numbers
abbrev gives : List ℕ → ℕ → ℕ → ℕ → Lent
gives v x y z = record { told = values v; held = x ∷ y ∷ z ∷ [] }

abbrev turns : ℕ → Lent
turns number = record { told = refusal number; held = 9 ∷ 9 ∷ 9 ∷ [] }

abbrev room : List ℕ
room = 9 ∷ 9 ∷ 9 ∷ []

-- text A holds NI and SNI; text B breaks both with wire 6; text C holds NI and breaks SNI with wire 2
pub texts : (map (λ notion. verdict_of table_a 2 1 notion 1 room) (1 ∷ 2 ∷ []) ≡ gives [] 9 9 9 ∷ gives [] 9 9 9 ∷ [])
    × (map (λ notion. verdict_of table_b 2 1 notion 1 room) (1 ∷ 2 ∷ []) ≡ gives (1 ∷ []) 6 9 9 ∷ gives (1 ∷ []) 6 9 9 ∷ [])
    × (map (λ notion. verdict_of table_c 2 0 notion 1 room) (1 ∷ 2 ∷ []) ≡ gives [] 9 9 9 ∷ gives (1 ∷ []) 2 9 9 ∷ [])
unfolding searched is_breaking revolving breaks count_a masked beyond bit up_to xor
texts = (refl, refl, refl)

-- of three shares: a0; a0 + r0; a1 + a2 + r0; r0 on an outer wire
abbrev pub pair : List ℕ
pair = record8 0 0 0 1 0 0 0 ++ record8 0 0 1 1 0 0 0 ++ record8 0 0 1 6 0 0 0 ++ record8 0 0 1 0 0 1 0

-- wires 1 and 2 are the first pair that breaks NI at order 2; at order 1 it holds; under SNI wires 2 and 3 break too, but later
pub two_wires : (map (λ order. verdict_of pair 3 1 1 order room) (1 ∷ 2 ∷ []) ≡ gives [] 9 9 9 ∷ gives (2 ∷ []) 1 2 9 ∷ [])
    × (map (λ order. verdict_of pair 3 1 2 order room) (1 ∷ 2 ∷ []) ≡ gives [] 9 9 9 ∷ gives (2 ∷ []) 1 2 9 ∷ [])
unfolding searched is_breaking revolving breaks count_a masked beyond bit up_to xor
two_wires = (refl, refl)

-- the ranks of its pairs from 0 on: the find at rank 1, with its size and rank; none before it; under SNI the next at rank 3, under NI none
pub ranges : (range_check pair 3 1 1 2 0 6 room ≡ gives (2 ∷ 1 ∷ []) 1 2 9) × (range_check pair 3 1 1 2 1 2 room ≡ gives (2 ∷ 1 ∷ []) 1 2 9)
    × (range_check pair 3 1 1 2 0 1 room ≡ gives [] 9 9 9) × (range_check pair 3 1 1 2 1 1 room ≡ gives [] 9 9 9)
    × (range_check pair 3 1 1 2 2 6 room ≡ gives [] 9 9 9) × (range_check pair 3 1 2 2 2 6 room ≡ gives (2 ∷ 3 ∷ []) 2 3 9)
    × (range_check pair 3 1 1 0 0 1 room ≡ gives [] 9 9 9)
unfolding is_breaking revolving binom breaks count_a masked beyond bit up_to xor
ranges = (refl, refl, refl, refl, refl, refl, refl)

-- of four shares: a0 + r0; a1 + r0 + r1; a2 + a3 + r1; a1 + r0 + r1 again, outer
abbrev chain : List ℕ
chain = record8 0 0 1 1 0 0 0 ++ record8 0 0 3 2 0 0 0 ++ record8 0 0 2 12 0 0 0 ++ record8 0 0 3 2 0 1 0

-- three wires show all of a, and no two do; wires 0, 2 and 3 show it too, at a later rank
pub three_wires : (map (λ order. verdict_of chain 4 2 1 order room) (1 ∷ 2 ∷ 3 ∷ []) ≡ gives [] 9 9 9 ∷ gives [] 9 9 9 ∷ gives (3 ∷ []) 0 1 2 ∷ [])
    × (range_check chain 4 2 1 3 0 4 room ≡ gives (3 ∷ 0 ∷ []) 0 1 2) × (range_check chain 4 2 1 3 1 4 room ≡ gives (3 ∷ 1 ∷ []) 0 2 3)
unfolding searched is_breaking revolving binom breaks count_a masked beyond bit up_to xor
three_wires = (refl, refl, refl)

-- 14, 15 and 16 of a verdict, on both sides, and which comes first
pub verdict_refusals : (map (λ notion. verdict_of pair 3 1 notion 9 []) (0 ∷ 3 ∷ [])
    ≡ record { told = refusal 14; held = [] } ∷ record { told = refusal 14; held = [] } ∷ [])
    × (map (λ order. verdict_of pair 3 1 1 order room) (0 ∷ 3 ∷ []) ≡ turns 15 ∷ turns 15 ∷ [])
    × (verdict_of pair 3 1 1 9 [] ≡ record { told = refusal 15; held = [] })
    × (verdict_of pair 3 1 1 2 (9 ∷ []) ≡ record { told = refusal 16; held = 9 ∷ [] })
    × (verdict_of pair 3 1 1 2 (9 ∷ 9 ∷ []) ≡ record { told = values (2 ∷ []); held = 1 ∷ 2 ∷ [] })
    × (verdict_of pair 1 65 0 0 room ≡ turns 11) × (verdict_of (0 ∷ []) 2 0 0 0 room ≡ turns 12) × (verdict_of pair 2 1 0 0 room ≡ turns 13)
unfolding searched is_breaking revolving breaks count_a masked beyond bit up_to xor
verdict_refusals = (refl, refl, refl, refl, refl, refl, refl, refl)

-- 14, 17, 16 and 18 of a range check, on both sides, and which comes first
pub range_refusals : (range_check pair 3 1 3 8 1 0 room ≡ turns 14) × (range_check pair 3 1 2 8 1 0 [] ≡ record { told = refusal 17; held = [] })
    × (range_check pair 3 1 2 7 1 0 room ≡ turns 16) × (range_check pair 3 1 2 3 1 0 room ≡ turns 18) × (range_check pair 3 1 2 3 0 5 room ≡ turns 18)
    × (range_check pair 3 1 1 3 4 4 room ≡ gives [] 9 9 9) × (range_check pair 3 1 1 3 5 5 room ≡ turns 18)
    × (range_check pair 1 65 3 8 1 0 room ≡ turns 11) × (range_check (0 ∷ []) 2 0 3 8 1 0 room ≡ turns 12)
    × (range_check pair 2 1 3 8 1 0 room ≡ turns 13)
    × (range_check pair 3 2 1 3 0 4 room ≡ gives [] 9 9 9) × (range_check pair 3 0 1 3 0 4 room ≡ turns 13)
unfolding is_breaking revolving binom breaks count_a masked beyond bit up_to xor
range_refusals = (refl, refl, refl, refl, refl, refl, refl, refl, refl, refl, refl, refl)

-- text B's wire 6 depends on two shares of each operand and pays for one; text C's outer wire 2 on one of each, for which it pays under NI alone; wires 1
-- and 2 of the pair on three of a, wire 1 on one with the mask left, and with wire 0 the share cancels; wires 2 and 3, the last one outer; no wire
pub dependences : (map (λ notion. set_dependence table_b 2 1 notion (6 ∷ [])) (1 ∷ 2 ∷ []) ≡ values (2 ∷ 2 ∷ 1 ∷ 0 ∷ []) ∷ values (2 ∷ 2 ∷ 1 ∷ 0 ∷ []) ∷ [])
    × (map (λ notion. set_dependence table_c 2 0 notion (2 ∷ [])) (1 ∷ 2 ∷ []) ≡ values (1 ∷ 1 ∷ 1 ∷ 0 ∷ []) ∷ values (1 ∷ 1 ∷ 0 ∷ 0 ∷ []) ∷ [])
    × (map (set_dependence pair 3 1 1) ((1 ∷ 2 ∷ []) ∷ (1 ∷ []) ∷ (0 ∷ 1 ∷ []) ∷ [])
    ≡ values (3 ∷ 0 ∷ 2 ∷ 0 ∷ []) ∷ values (1 ∷ 0 ∷ 1 ∷ 1 ∷ []) ∷ values (0 ∷ 0 ∷ 2 ∷ 1 ∷ []) ∷ [])
    × (map (λ notion. set_dependence pair 3 1 notion (2 ∷ 3 ∷ [])) (1 ∷ 2 ∷ []) ≡ values (2 ∷ 0 ∷ 2 ∷ 0 ∷ []) ∷ values (2 ∷ 0 ∷ 1 ∷ 0 ∷ []) ∷ [])
    × (set_dependence pair 3 1 2 [] ≡ values (0 ∷ 0 ∷ 0 ∷ 0 ∷ []))
unfolding count_a masked beyond bit up_to xor
dependences = (refl, refl, refl, refl, refl)

-- 14, 17 and 21 of a set, on both sides, and which comes first
pub set_refusals : let eight : List ℕ = 9 ∷ 9 ∷ 9 ∷ 9 ∷ 9 ∷ 9 ∷ 9 ∷ 9 ∷ [] in (map (λ notion. set_dependence pair 3 1 notion eight) (0 ∷ 3 ∷ []) ≡ refusal 14 ∷ refusal 14 ∷ [])
    × (set_dependence pair 3 1 1 eight ≡ refusal 17) × (set_dependence pair 3 1 1 (0 ∷ 1 ∷ 2 ∷ 3 ∷ 4 ∷ 5 ∷ 6 ∷ []) ≡ refusal 21)
    × (map (set_dependence pair 3 1 1) ((3 ∷ []) ∷ (4 ∷ []) ∷ (1 ∷ 1 ∷ []) ∷ (2 ∷ 1 ∷ []) ∷ [])
    ≡ values (0 ∷ 0 ∷ 1 ∷ 1 ∷ []) ∷ refusal 21 ∷ refusal 21 ∷ refusal 21 ∷ [])
    × (set_dependence pair 1 65 0 eight ≡ refusal 11) × (set_dependence (0 ∷ []) 2 0 0 eight ≡ refusal 12) × (set_dependence pair 2 1 0 eight ≡ refusal 13)
unfolding count_a masked beyond bit up_to xor
set_refusals = (refl, refl, refl, refl, refl, refl, refl)

-- an empty table holds, at every order of 8 shares, and has no set of size 1
pub empty_table_lem : (verdict_of [] 8 64 2 7 (9 ∷ 9 ∷ 9 ∷ 9 ∷ 9 ∷ 9 ∷ 9 ∷ []) ≡ record { told = values []; held = 9 ∷ 9 ∷ 9 ∷ 9 ∷ 9 ∷ 9 ∷ 9 ∷ [] })
    × (range_check [] 8 64 2 1 0 0 room ≡ gives [] 9 9 9) × (range_check [] 8 64 2 1 0 1 room ≡ turns 18)
unfolding searched is_breaking revolving binom breaks count_a masked beyond bit up_to xor
empty_table_lem = (refl, refl, refl)

-- ---- answers in numbers

-- the number of every refusal, and what every answer tells; a buffer longer than the largest set is told whole
pub numbers : (map refusal_number (Table SharesOrMasks ∷ Table TableLength ∷ Table RecordOutOfRange ∷ NoSuchNotion ∷ OrderOutOfRange ∷ BufferTooShort
    ∷ SizeTooLarge ∷ RanksOutOfRange ∷ NotASet ∷ []) ≡ 11 ∷ 12 ∷ 13 ∷ 14 ∷ 15 ∷ 16 ∷ 17 ∷ 18 ∷ 21 ∷ [])
    × ((why : Refusal) (held : List ℕ) → verdict_told (Err why) held ≡ record { told = refusal (refusal_number why); held = held })
    × ((held : List ℕ) → verdict_told (Ok Judged.Holds) held ≡ record { told = values []; held = held })
    × ((size : ℕ) (held : List ℕ) → verdict_told (Ok (Judged.Broken size)) held ≡ record { told = values (size ∷ []); held = held })
    × ((why : Refusal) (held : List ℕ) → range_told (Err why) held ≡ record { told = refusal (refusal_number why); held = held })
    × ((held : List ℕ) → range_told (Ok Checked.Clean) held ≡ record { told = values []; held = held })
    × ((size rank : ℕ) (held : List ℕ) → range_told (Ok (Checked.Found size rank)) held ≡ record { told = values (size ∷ rank ∷ []); held = held })
    × ((why : Refusal) → dependence_told (Err why) ≡ refusal (refusal_number why))
    × ((of_a of_b most : ℕ) → dependence_told (Ok (record { of_a = of_a; of_b = of_b; allowed = most; masked = true })) ≡ values (of_a ∷ of_b ∷ most ∷ 1 ∷ []))
    × ((of_a of_b most : ℕ) → dependence_told (Ok (record { of_a = of_a; of_b = of_b; allowed = most; masked = false })) ≡ values (of_a ∷ of_b ∷ most ∷ 0 ∷ []))
    × ((from to : ℕ) → job_told (Ok (record { from = from; to = to })) ≡ values (from ∷ to ∷ []))
numbers = (
  refl,
  λ why held. refl,
  λ held. refl,
  λ size held. refl,
  λ why held. refl,
  λ held. refl,
  λ size rank held. refl,
  λ why. refl,
  λ of_a of_b most. refl,
  λ of_a of_b most. refl,
  λ from to. refl,
)

-- a rank that is one too high, and a breaking set that is not the first, are not what the clauses of demand 2 let pass
pub rank-refused : RangeFinds (Ok (Checked.Found 2 2)) pair 3 1 1 2 0 6 room (1 ∷ 2 ∷ 9 ∷ []) → ⊥
unfolding revolving
rank-refused g = let e = (g.found 2 2 refl).2.stands in let z : ◌≡◌ {A = ℕ} 0 1 = cc in omega (arith, z)

pub later-refused : VerdictFinds (Ok (Judged.Broken 2)) pair 3 1 2 2 room (2 ∷ 3 ∷ 9 ∷ []) → ⊥
unfolding is_breaking revolving breaks count_a masked bit up_to xor
later-refused g =
    go ((g.broken 2 refl).1.first (1 ∷ 2 ∷ []) (record { distinct = refl; within = refl; few = le_refl 2 }) refl)
  where
    go : NotAfter 4 (2 ∷ 3 ∷ []) (1 ∷ 2 ∷ []) → ⊥
    go (inl h) = let less : ◌<◌ 2 2 = h in omega (arith, less)
    go (inr h) = let late : ◌≤◌ 3 1 = h.1 in omega (arith, late)

-- ---- demand 3's clause by itself

-- it refuses holds for `pair` at order 2: the answer of a program that waves pairs through, or answers before it looks at a set
pub holds-refused : (held : List ℕ) → Guarantee (Ok Judged.Holds) pair 3 1 1 2 held → ⊥
unfolding breaks count_a masked bit up_to xor
holds-refused held g =
    no_choice Ni 3 1 (map (wire_at pair) (1 ∷ 2 ∷ [])) refl
    ((g.holds-exactly apart).0 refl (1 ∷ 2 ∷ []) (record { distinct = refl; within = refl; few = le_refl 2 }))
  where
    apart : (why : Refusal) → (Ok Judged.Holds) ≡ Err why → ⊥
    apart why e = let z : ◌≡◌ {A = ℕ} 0 1 = cc in omega (arith, z)

-- it refuses wire 0 as the set shown
pub wire_0_refused : Guarantee (Ok (Judged.Broken 1)) pair 3 1 1 2 (0 ∷ 9 ∷ 9 ∷ []) → ⊥
unfolding searched is_breaking revolving breaks count_a masked bit up_to xor
wire_0_refused g =
    (g.broken-shows 1 refl).no_choice (all_choose pair 3 1 1 1 refl (0 ∷ []) (record { distinct = refl; within = refl; few = le_refl 1 }))

-- and every set for text A, which holds
pub broken-refused : (size : ℕ) (held : List ℕ) → Guarantee (Ok (Judged.Broken size)) table_a 2 1 1 1 held → ⊥
unfolding searched is_breaking revolving breaks count_a masked bit up_to xor
broken-refused size held g =
    let shown = g.broken-shows size refl in shown.no_choice (all_choose table_a 2 1 1 1 refl (take size held) shown.watched)
