-- What is told of the text of an order (request No. 2): its length, or the number of a refusal, and what the lent buffer then holds.
--     max_isw_order      the highest order that is written
--     refusal_number    the number of each refusal
--     isw_told          what the code's answer tells
--     isw_written       what the entry is to tell, and what the buffer is to hold
--     isw_conditions    what it turns down, in the order in which it is tested
use Rattle.std.specs.Prelude.{Result, Ok, Err, ℕ, ◌<◌, ◌⊎◌, cond, ◌||◌, List, [], ◌∷◌, ◌++◌, ltb, length, drop}
use Rattle.basics.specs.Told.{Lent, values, refusal, turned_down}
use Rattle.basics.specs.Conditions.{Condition, ◌when◌}
use Rattle.isw_gadget.specs.Text.{isw_text}
use Rattle.isw_gadget.specs.declared.Refusal.{Refusal}

abbrev pub max_isw_order : ℕ
max_isw_order = 7

abbrev pub refusal_number : Refusal → ℕ
refusal_number Refusal.OrderOutOfRange = 23
refusal_number Refusal.TextDoesNotFit = 24

abbrev pub isw_told : Result ℕ Refusal → List ℕ → Lent
isw_told (Ok size) held = record { told = values (size ∷ []); held = held }
isw_told (Err why) held = record { told = refusal (refusal_number why); held = held }

-- the text stands at the buffer's start, and what lies past it is as it was; a refusal alters nothing
abbrev pub isw_written : ℕ → List ℕ → Lent
isw_written order buffer =
    cond (ltb order 1 || ltb max_isw_order order) (turned_down 23 buffer)
    (cond (ltb (length buffer) (length (isw_text order))) (turned_down 24 buffer)
    (record { told = values (length (isw_text order) ∷ []); held = isw_text order ++ drop (length (isw_text order)) buffer }))

-- "23 when the order is outside 1 to 7. 24, tested after it, when the text does not fit the lent buffer."
abbrev pub isw_conditions : ℕ → List ℕ → List Condition
isw_conditions order buffer =
    23 when ((order < 1) ⊎ (max_isw_order < order))
    ∷ 24 when (length buffer < length (isw_text order))
    ∷ []
