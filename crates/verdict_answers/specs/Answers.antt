-- Each answer of `verdict` in the scope's own numbers, and what each entry answers (scope, "Numbering and dividing" and "What each operation
-- turns down").
--     refusal_number              the scope's number of each refusal
--     verdict_told, range_told     what each answer of the code tells, with what the lent buffer then holds
--     dependence_told             the same, where nothing is lent
--     wrong_notion, wrong_order    the tests 14 and 15
--     notion_of                   the notion of a number: 1 NI, 2 SNI
--     opened                     the tests of a table and of the notion, then what the operation itself answers
--     written                    a set at the start of a buffer
--     first_shown, first_ranked    the answer that shows the first of a list of sets, without its rank and with it
--     verdict_of, range_check      what each entry is to tell, and what the buffer is to hold
--     depended, set_dependence    on how many shares a set depends, and what the entry is to tell
use Rattle.std.specs.Prelude.{ℕ, Bool, cond, not, ◌&&◌, ◌||◌, List, [], ◌∷◌, ◌++◌, map, ltb, leb, eqb, length, drop, Result, Ok, Err}
use Rattle.limits.specs.Limits.{max_size}
use Rattle.basics.specs.Folds.{one_if}
use Rattle.basics.specs.Told.{Told, Lent, values, refusal, turned_down}
use Rattle.wires.specs.declared.Notion.{Notion}
use Rattle.wires.specs.declared.Notion.TheVariants.{Ni, Sni}
use Rattle.wires.specs.Wires.{Wire, total, count_a, count_b, masked, allowed}
use Rattle.records.specs.Layout.{wire_at, wire_count}
use Rattle.table.specs.Answers as table-answers
use Rattle.counts.specs.Counts.{binom}
use Rattle.revolving.specs.Order.{rank_of, rising, below}
use Rattle.verdict_answers.specs.declared.Refusal.{Refusal}
use Rattle.verdict_answers.specs.declared.Refusal.TheVariants.{Table, NoSuchNotion, OrderOutOfRange, BufferTooShort, SizeTooLarge, RanksOutOfRange, NotASet}
use Rattle.verdict_answers.specs.declared.Judged.{Judged}
use Rattle.verdict_answers.specs.declared.Checked.{Checked}
use Rattle.verdict_answers.specs.declared.DependsOn.{DependsOn}
use Rattle.search.specs.Search.{searched, stretch, breaking_sets}

abbrev pub refusal_number : Refusal → ℕ
refusal_number (Table why) = table-answers.refusal_number why
refusal_number NoSuchNotion = 14
refusal_number OrderOutOfRange = 15
refusal_number BufferTooShort = 16
refusal_number SizeTooLarge = 17
refusal_number RanksOutOfRange = 18
refusal_number NotASet = 21

-- holds has no value; broken has the set's size
abbrev pub verdict_told : Result Judged Refusal → List ℕ → Lent
verdict_told (Ok Judged.Holds) held = record { told = values []; held = held }
verdict_told (Ok (Judged.Broken size)) held = record { told = values (size ∷ []); held = held }
verdict_told (Err why) held = record { told = refusal (refusal_number why); held = held }

-- clean has no value; found has the set's size and its rank
abbrev pub range_told : Result Checked Refusal → List ℕ → Lent
range_told (Ok Checked.Clean) held = record { told = values []; held = held }
range_told (Ok (Checked.Found size rank)) held = record { told = values (size ∷ rank ∷ []); held = held }
range_told (Err why) held = record { told = refusal (refusal_number why); held = held }

-- the counts of a and of b, what the notion allows, and 1 where a mask is left, else 0
abbrev pub dependence_told : Result DependsOn Refusal → Told
dependence_told (Ok on) = values (on.of_a ∷ on.of_b ∷ on.allowed ∷ one_if on.masked ∷ [])
dependence_told (Err why) = refusal (refusal_number why)

-- 14, notion not 1 (NI) or 2 (SNI)
abbrev pub wrong_notion : ℕ → Bool
wrong_notion notion = not (eqb notion 1 || eqb notion 2)

-- 15, order not 1 to shares − 1
abbrev pub wrong_order : ℕ → ℕ → Bool
wrong_order shares order = not (leb 1 order && ltb order shares)

abbrev pub notion_of : ℕ → Notion
notion_of notion = cond (eqb notion 1) Ni Sni

-- every operation on a table first makes these tests, in this order
abbrev pub opened : {A : Type 0} → (ℕ → A) → List ℕ → ℕ → ℕ → ℕ → A → A
opened refuse table shares masks notion answer = table-answers.tested refuse table shares masks (cond (wrong_notion notion) (refuse 14) answer)

-- what lies past the set is as it was
abbrev pub written : List ℕ → List ℕ → List ℕ
written set buffer = set ++ drop (length set) buffer

-- the first breaking set in rising size and rank, its size told; where there is none, nothing is written
abbrev pub first_shown : List (List ℕ) → List ℕ → Lent
first_shown [] buffer = record { told = values []; held = buffer }
first_shown (set ∷ later) buffer = record { told = values (length set ∷ []); held = written set buffer }

abbrev pub verdict_of : List ℕ → ℕ → ℕ → ℕ → ℕ → List ℕ → Lent
verdict_of table shares masks notion order buffer =
    opened (λ number. turned_down number buffer) table shares masks notion
    (cond (wrong_order shares order) (turned_down 15 buffer)
    (cond (ltb (length buffer) order) (turned_down 16 buffer)
    (first_shown (breaking_sets (notion_of notion) table shares masks (searched (wire_count table) order)) buffer)))

-- the first breaking set of one size within the ranks, its size and rank told; where there is none, nothing is written
abbrev pub first_ranked : ℕ → List (List ℕ) → List ℕ → Lent
first_ranked wires [] buffer = record { told = values []; held = buffer }
first_ranked wires (set ∷ later) buffer = record { told = values (length set ∷ rank_of wires set ∷ []); held = written set buffer }

abbrev pub range_check : List ℕ → ℕ → ℕ → ℕ → ℕ → ℕ → ℕ → List ℕ → Lent
range_check table shares masks notion size from to buffer =
    opened (λ number. turned_down number buffer) table shares masks notion
    (cond (ltb max_size size) (turned_down 17 buffer)
    (cond (ltb (length buffer) size) (turned_down 16 buffer)
    (cond (not (leb from to && leb to (binom (wire_count table) size))) (turned_down 18 buffer)
    (first_ranked (wire_count table) (breaking_sets (notion_of notion) table shares masks (stretch (wire_count table) size from to)) buffer))))

-- of the sum of the set's records
abbrev pub depended : Notion → ℕ → ℕ → List Wire → Told
depended notion n m v = values (count_a n (total v) ∷ count_b n (total v) ∷ allowed notion v ∷ one_if (masked m (total v)) ∷ [])

abbrev pub set_dependence : List ℕ → ℕ → ℕ → ℕ → List ℕ → Told
set_dependence table shares masks notion set =
    opened refusal table shares masks notion
    (cond (ltb max_size (length set)) (refusal 17)
    (cond (not (rising set && below (wire_count table) set)) (refusal 21)
    (depended (notion_of notion) shares masks (map (wire_at table) set))))
