-- The paths of the function that writes ISW: what each tells, and what its numbers mean, from what the entry promises of the answer.
--     isw_gave, isw_refused
--     isw_read, isw_computes, isw_once, isw_room     what a caller has of it: the text is read, computes the product, and is the one that the request describes
use Prim.Native.Nat.{ℕ, ◌+◌, ◌*◌, ◌≤◌, ◌<◌}
use native.Mathlib.Omega.{arith}
use mathlib.Core.Path.{◌≡◌, refl, sym, ◌∙◌, ap}
use mathlib.Core.Logic.{⊎_elim}
use mathlib.Core.List.{List, [], ◌∷◌}
use lib.ListN.{length, take, drop}
use Rattle.std.specs.Prelude.{Result, Ok, Err}
use Rattle.limits.specs.Limits.{record_bytes}
use Rattle.basics.specs.Told.{Told, Lent}
use Rattle.table.specs.Answers.{function_check}
use Rattle.description.specs.Run.{max_text}
use Rattle.reader.specs.Answers.{ReadTold, read_text}
use Rattle.isw_gadget.specs.Pairs.{pairs}
use Rattle.isw_gadget.specs.Says.{IswSpelled}
use Rattle.isw_gadget.specs.declared.Refusal.{Refusal}
use Rattle.isw_gadget.specs.Answers.{max_isw_order, refusal_number, isw_told, isw_written}
use Rattle.isw_gadget.specs.Reads.{isw_wires, IswSays}
use Rattle.isw_gadget.proofs.Exactly.{spelled-once}
use Rattle.call_answers.specs.Calls.{got, answered, lent_answered, read_answered, lent_read}
use Rattle.call_answers.specs.Meaning.{Kept, IswTextSays}
use Rattle.call_answers.proofs.Answering.{lent-refused, kept_0}

-- a refusal's number is not 0, so status 0 is no refusal
positive : (why : Refusal) → 0 < refusal_number why
positive Refusal.OrderOutOfRange = omega arith
positive Refusal.TextDoesNotFit = omega arith

module _ (order : ℕ) (buffer held : List ℕ) where
  abbrev IswPromise : ℕ → ℕ → ℕ → Type 0
  IswPromise status size before =
      (got status (size ∷ []) held ≡ lent_answered (isw_written order buffer) (before ∷ []))
      × (Kept status (size ∷ []) (before ∷ []) held buffer × IswTextSays status size order buffer held)

  module _ (answer : Result ℕ Refusal) (told : isw_told answer held ≡ isw_written order buffer) (says : IswSays answer order buffer held) (before : ℕ) where
    pub isw_gave : (size : ℕ) → answer ≡ Ok size → IswPromise 0 size before
    isw_gave size e = (
      ap (λ (a : Lent). lent_answered a (before ∷ [])) (ap (λ (a : Result ℕ Refusal). isw_told a held) (sym e) ∙ told),
      (
        kept_0 _ _ _ _,
        record { written = λ zero. says.stands size e; spelled = λ zero. says.spelled size e; reads = λ zero. says.reads size e; enough = λ no. absurd (no refl) },
      ),
    )

    pub isw_refused : (why : Refusal) (status : ℕ) → answer ≡ Err why → status ≡ refusal_number why → IswPromise status before before
    isw_refused why status e s =
        let number = positive why in (
          lent-refused _ _ _ _ _ (ap (λ (a : Result ℕ Refusal). isw_told a held) (sym e) ∙ told) s,
          (
            λ no. (refl, says.kept why e),
            record { written = λ zero. absurd (omega arith); spelled = λ zero. absurd (omega arith); reads = λ zero. absurd (omega arith); enough = λ no. says.enough why e },
          ),
        )

-- ---- what a caller in C has of it

module _ (size order : ℕ) (buffer held : List ℕ) (says : IswTextSays 0 size order buffer held) where
  -- the text that was written is read with status 0, whatever table of so many bytes is lent
  pub isw_read : (table numbers : List ℕ) (offset : ℕ) → record_bytes * isw_wires order ≤ length table
      → lent_read (read_text (take size held) table) numbers offset
      ≡ got 0 (order ∷ (order + 1) ∷ pairs order ∷ isw_wires order ∷ offset ∷ []) (read_text (take size held) table).held
  isw_read table numbers offset room =
      ap (λ (t : ReadTold). read_answered t numbers offset (read_text (take size held) table).held) ((says.reads refl).read table room)

  -- and the function check then writes yes for the product
  pub isw_computes : (table : List ℕ) (before : ℕ) → record_bytes * isw_wires order ≤ length table
      → answered (function_check (take (record_bytes * isw_wires order) (read_text (take size held) table).held) (order + 1) (pairs order) 1) (before ∷ []) []
      ≡ got 0 (1 ∷ []) []
  isw_computes table before room = ap (λ (t : Told). answered t (before ∷ []) []) ((says.reads refl).product table room)

  -- it is the one text of which the request's words are true, at the buffer's start
  pub isw_once : (text : List ℕ) → IswSpelled order text → (take size held ≡ text) × (drop size held ≡ drop size buffer)
  isw_once text s = (spelled-once order (take size held) text (says.spelled refl) s, (says.written refl).1)

-- with room for the longest text of all, any other status than 0 is for the order
pub isw_room : (status size order : ℕ) (buffer held : List ℕ) → IswTextSays status size order buffer held → (status ≡ 0 → ⊥) → max_text ≤ length buffer
    → 1 ≤ order → max_isw_order < order
isw_room status size order buffer held says fails room low = ⊎_elim (λ h. absurd (omega (arith, h, low))) (λ h. h) (says.enough fails room)
