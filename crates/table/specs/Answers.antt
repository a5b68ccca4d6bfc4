-- Each answer of `table` in the scope's own numbers, and what each entry answers (scope, "What each operation turns down").
--     refusal_number                 the scope's number of each refusal
--     table_told, function_told       what each answer of the code tells
--     wrong_shares, wrong_length, wrong_record     the three tests of a table
--     tested                        the three tests, then what the operation itself answers
--     table_check, function_check     what each entry is to tell
--     FunctionMeans                 what yes and no say of the values of the outer wires
use Rattle.std.specs.Prelude.{ℕ, ◌%◌, ◌≡◌, Bool, true, false, cond, not, ◌&&◌, ◌||◌, List, [], ◌∷◌, ltb, leb, eqb, length, Result, Ok, Err}
use Rattle.limits.specs.Limits.{min_shares, max_shares, max_masks, record_bytes, max_table_bytes}
use Rattle.basics.specs.Folds.{some, one_if, up_to}
use Rattle.basics.specs.Told.{Told, values, refusal}
use Rattle.wires.specs.Wires.{beyond}
use Rattle.wires.specs.Function.{AddUpTo, computes}
use Rattle.records.specs.Layout.{decode, kind_of, record_at, wire_count, wires}
use Rattle.table.specs.declared.Refusal.{Refusal}
use Rattle.table.specs.declared.Refusal.TheVariants.{SharesOrMasks, TableLength, RecordOutOfRange, NoSuchFunction}

abbrev pub refusal_number : Refusal → ℕ
refusal_number SharesOrMasks = 11
refusal_number TableLength = 12
refusal_number RecordOutOfRange = 13
refusal_number NoSuchFunction = 20

abbrev pub table_told : Result (Unit {0}) Refusal → Told
table_told (Ok done) = values []
table_told (Err why) = refusal (refusal_number why)

-- yes is 1, no is 0
abbrev pub function_told : Result Bool Refusal → Told
function_told (Ok true) = values (1 ∷ [])
function_told (Ok false) = values (0 ∷ [])
function_told (Err why) = refusal (refusal_number why)

-- 11, shares not 2 to 8 or masks over 64
abbrev pub wrong_shares : ℕ → ℕ → Bool
wrong_shares shares masks = ltb shares min_shares || ltb max_shares shares || ltb max_masks masks

-- 12, length no multiple of 24 or over 12,288
abbrev pub wrong_length : List ℕ → Bool
wrong_length table = not (eqb (length table % record_bytes) 0) || ltb max_table_bytes (length table)

-- 13, a record with a bit beyond shares or masks, or byte 18 over 1
abbrev pub wrong_record : ℕ → ℕ → List ℕ → Bool
wrong_record shares masks r = beyond max_shares max_masks shares masks (decode r).terms || ltb 1 (kind_of r)

-- every operation on a table first makes these tests, in this order
abbrev pub tested : {A : Type 0} → (ℕ → A) → List ℕ → ℕ → ℕ → A → A
tested refuse table shares masks answer =
    cond (wrong_shares shares masks) (refuse 11)
    (cond (wrong_length table) (refuse 12)
    (cond (some (λ wire. wrong_record shares masks (record_at table wire)) (up_to (wire_count table))) (refuse 13)
    answer))

abbrev pub table_check : List ℕ → ℕ → ℕ → Told
table_check table shares masks = tested refusal table shares masks (values [])

abbrev pub function_check : List ℕ → ℕ → ℕ → ℕ → Told
function_check table shares masks function =
    tested refusal table shares masks
    (cond (not (leb 1 function && leb function 3)) (refusal 20)
    (values (one_if (computes function shares masks (wires table)) ∷ [])))

-- yes: for every input and every mask setting the outer wires' values add up to the function; no: not for every one
pub record FunctionMeans (answer : Result Bool Refusal) (table : List ℕ) (shares masks function : ℕ) : Type 0 where
  pub yes_means : answer ≡ Ok true → AddUpTo function shares masks (wires table)
  pub no_means : answer ≡ Ok false → AddUpTo function shares masks (wires table) → ⊥
