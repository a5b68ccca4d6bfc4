-- What reading and the function check are to tell of the text of order d (request No. 2).
--     isw_wires d       how many wires it has
--     ReadAsProduct    it is read without refusal into every table that is long enough, and computes the product
--     IswSays          what an answer says of the lent buffer
use Rattle.std.specs.Prelude.{Result, Ok, Err, ℕ, ◌+◌, ◌*◌, ◌≤◌, ◌<◌, ◌≡◌, ◌⊎◌, List, [], ◌∷◌, length, take, drop}
use Rattle.limits.specs.Limits.{record_bytes}
use Rattle.basics.specs.Told.{values}
use Rattle.wires.specs.Function.{AddUpTo}
use Rattle.records.specs.Layout.{wires}
use Rattle.table.specs.Answers.{function_check}
use Rattle.description.specs.Run.{max_text}
use Rattle.reader.specs.Answers.{gives, read_text}
use Rattle.isw_gadget.specs.Pairs.{pairs}
use Rattle.isw_gadget.specs.Text.{isw_text}
use Rattle.isw_gadget.specs.Says.{IswSpelled}
use Rattle.isw_gadget.specs.Answers.{max_isw_order}
use Rattle.isw_gadget.specs.declared.Refusal.{Refusal}

-- five for each pair of shares, and one for each product
abbrev pub isw_wires : ℕ → ℕ
isw_wires d = 5 * pairs d + (d + 1) * (d + 1)

-- "every text written is read without refusal into a table long enough and computes the product"
pub record ReadAsProduct (d : ℕ) (text : List ℕ) : Type 0 where
  pub read : (table : List ℕ) → record_bytes * isw_wires d ≤ length table → (read_text text table).told ≡ gives d (d + 1) (pairs d) (isw_wires d)
  pub product : (table : List ℕ) → record_bytes * isw_wires d ≤ length table
      → function_check (take (record_bytes * isw_wires d) (read_text text table).held) (d + 1) (pairs d) 1 ≡ values (1 ∷ [])
  -- 1 is the product: on values, for every input and every mask setting
  pub adds_up : (table : List ℕ) → record_bytes * isw_wires d ≤ length table
      → AddUpTo 1 (d + 1) (pairs d) (wires (take (record_bytes * isw_wires d) (read_text text table).held))

-- what an answer says, in the words of the request
pub record IswSays (answer : Result ℕ Refusal) (order : ℕ) (buffer held : List ℕ) : Type 0 where
  -- "the text's length is given; nothing past it is written"
  pub stands : (size : ℕ) → answer ≡ Ok size → (take size held ≡ isw_text order) × (drop size held ≡ drop size buffer)
  pub fits : (size : ℕ) → answer ≡ Ok size → size ≤ length held
  pub spelled : (size : ℕ) → answer ≡ Ok size → IswSpelled order (take size held)
  pub reads : (size : ℕ) → answer ≡ Ok size → ReadAsProduct order (take size held)
  pub kept : (why : Refusal) → answer ≡ Err why → held ≡ buffer
  -- a buffer for the longest text of all is never too short
  pub enough : (why : Refusal) → answer ≡ Err why → max_text ≤ length buffer → (order < 1) ⊎ (max_isw_order < order)
