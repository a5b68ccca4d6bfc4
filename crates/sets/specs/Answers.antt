-- Each answer of `sets` in the scope's own numbers, and what each entry answers (scope, "Numbering and dividing" and
-- "What each operation turns down").
--     refusal_number       the scope's number of each refusal
--     count_told, set_told, rank_told            what each answer of the code tells
--     set_count, set_from_rank, rank_from_set      what each entry is to tell
use Rattle.std.specs.Prelude.{ℕ, cond, ◌&&◌, not, ⊤, List, [], ◌∷◌, ◌++◌, ltb, leb, length, drop, Result, Ok, Err}
use Rattle.limits.specs.Limits.{max_wires, max_size}
use Rattle.basics.specs.Told.{Told, Lent, values, refusal, turned_down}
use Rattle.counts.specs.Counts.{binom}
use Rattle.revolving.specs.Order.{set_at, rank_of, rising, below}
use Rattle.sets.specs.declared.Refusal.{Refusal}
use Rattle.sets.specs.declared.Refusal.TheVariants.{TooManyWires, SizeTooLarge, BufferTooShort, RankTooLarge, NoSuchJob, NotASet}

abbrev pub refusal_number : Refusal → ℕ
refusal_number TooManyWires = 12
refusal_number SizeTooLarge = 17
refusal_number BufferTooShort = 16
refusal_number RankTooLarge = 18
refusal_number NoSuchJob = 19
refusal_number NotASet = 21

abbrev pub count_told : Result ℕ Refusal → Told
count_told (Ok sets) = values (sets ∷ [])
count_told (Err why) = refusal (refusal_number why)

abbrev pub set_told : Result ⊤ Refusal → List ℕ → Lent
set_told (Ok _) held = record { told = values []; held = held }
set_told (Err why) held = record { told = refusal (refusal_number why); held = held }

abbrev pub rank_told : Result ℕ Refusal → Told
rank_told (Ok rank) = values (rank ∷ [])
rank_told (Err why) = refusal (refusal_number why)

-- a size above the wires has count 0
abbrev pub set_count : ℕ → ℕ → Told
set_count wires size =
    cond (ltb max_wires wires) (refusal 12)
    (cond (ltb max_size size) (refusal 17)
    (values (binom wires size ∷ [])))

-- the set stands at the buffer's start, and what lies past it is as it was
abbrev pub set_from_rank : ℕ → ℕ → ℕ → List ℕ → Lent
set_from_rank wires size rank buffer =
    cond (ltb max_wires wires) (turned_down 12 buffer)
    (cond (ltb max_size size) (turned_down 17 buffer)
    (cond (ltb (length buffer) size) (turned_down 16 buffer)
    (cond (leb (binom wires size) rank) (turned_down 18 buffer)
    (record { told = values []; held = set_at wires size rank ++ drop size buffer }))))

abbrev pub rank_from_set : ℕ → List ℕ → Told
rank_from_set wires set =
    cond (ltb max_wires wires) (refusal 12)
    (cond (ltb max_size (length set)) (refusal 17)
    (cond (not (rising set && below wires set)) (refusal 21)
    (values (rank_of wires set ∷ []))))
