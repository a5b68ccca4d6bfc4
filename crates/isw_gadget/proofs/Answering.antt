-- What is told of the text of an order: which call gets which number, and what an answer says.
--     isw_chain                        the conditions are tested in their order
--     isw_settled                      a refusal is told exactly when its condition is the first that holds, a length exactly when none does
--     isw_numbers                      the numbers of the refusals
--     answer_says                      whatever tells what the entry is to tell says what the request asks for
--     says_read, says_product, says_once     what a caller has of it: reading and the function check tell this, and there is one such text
use Prim.Native.Nat.{ℕ, ◌+◌, ◌*◌, ◌≤◌, ◌<◌}
use native.Mathlib.Omega.{arith}
use mathlib.Core.Path.{◌≡◌, refl, sym, ◌∙◌, ap, ap₂, subst}
use mathlib.Core.Logic.{◌⊎◌, inl, inr}
use mathlib.Core.List.{List, [], ◌∷◌}
use lib.ListN.{length, length-append, take, drop}
use lib.Seq.{take-append_seam, drop-append_seam}
use Rattle.std.specs.Prelude.{Result, Ok, Err}
use Rattle.limits.specs.Limits.{record_bytes}
use Rattle.basics.specs.Told.{Lent, values, turned_down}
use Rattle.basics.specs.Conditions.{SettlesLent, First, None}
use Rattle.basics.proofs.Conditions.{Chain, own, test, settles-lent, less, one_of}
use Rattle.wires.specs.Function.{AddUpTo}
use Rattle.records.specs.Layout.{wires}
use Rattle.table.specs.Answers.{function_check}
use Rattle.description.specs.Run.{max_text}
use Rattle.reader.specs.Answers.{gives, read_text}
use Rattle.isw_gadget.specs.Pairs.{pairs}
use Rattle.isw_gadget.specs.Text.{isw_text}
use Rattle.isw_gadget.specs.Says.{IswSpelled}
use Rattle.isw_gadget.specs.Answers.{max_isw_order, refusal_number, isw_told, isw_written, isw_conditions}
use Rattle.isw_gadget.specs.Reads.{isw_wires, ReadAsProduct, IswSays}
use Rattle.isw_gadget.specs.declared.Refusal.{Refusal}
use Rattle.isw_gadget.proofs.Reading.{written-fits, isw_reads}
use Rattle.isw_gadget.proofs.Exactly.{isw_spelled, spelled-once}

pub isw_numbers : (refusal_number Refusal.OrderOutOfRange ≡ 23) × (refusal_number Refusal.TextDoesNotFit ≡ 24)
isw_numbers = (refl, refl)

module _ (order : ℕ) (buffer : List ℕ) where
  -- the conditions are tested in their order; what is shown where none holds is read off the definition
  abbrev pub isw_chain : (shown : Lent) × Chain (λ n. turned_down n buffer) shown (isw_conditions order buffer) (isw_written order buffer)
  isw_chain = (
    _,
    test 23 (one_of (less order 1) (less max_isw_order order))
        (test 24 (less (length buffer) (length (isw_text order)))
        (own (λ n. turned_down n buffer) _)),
  )

  abbrev shown : Lent
  shown = isw_chain.0

  pub isw_settled : SettlesLent (isw_conditions order buffer) buffer (isw_written order buffer)
  isw_settled = settles-lent isw_chain.1 (length (isw_text order) ∷ []) refl

  -- ---- what an answer says

  module _ (answer : Result ℕ Refusal) (held : List ℕ) (e : isw_told answer held ≡ isw_written order buffer) where
    -- a length is told: no condition holds, and the text stands in the buffer
    written_none : (size : ℕ) → answer ≡ Ok size → None (isw_conditions order buffer)
    written_none size f =
        isw_settled.settles.answered.0
        (size ∷ [], ap (λ (l : Lent). l.told) (sym e) ∙ ap (λ (a : Result ℕ Refusal). (isw_told a held).told) f)

    written-shown : (size : ℕ) → answer ≡ Ok size → (size ≡ length (isw_text order)) × (held ≡ shown.held)
    written-shown size f =
        let same : isw_told (Ok size) held ≡ shown =
        ap (λ (a : Result ℕ Refusal). isw_told a held) (sym f) ∙ e ∙ isw_chain.1.none (written_none size f) in
        (first-value same, ap (λ (l : Lent). l.held) same)
      where
        first-value : isw_told (Ok size) held ≡ shown → size ≡ length (isw_text order)
        first-value same = let t : values (size ∷ []) ≡ values (length (isw_text order) ∷ []) = ap (λ (l : Lent). l.told) same in cc

    text_stands : (size : ℕ) → answer ≡ Ok size → (take size held ≡ isw_text order) × (drop size held ≡ drop size buffer)
    text_stands size f =
        let s = written-shown size f in (
          ap₂ (λ (k : ℕ) (l : List ℕ). take k l) s.0 s.1 ∙ take-append_seam (isw_text order) (drop (length (isw_text order)) buffer),
          ap₂ (λ (k : ℕ) (l : List ℕ). drop k l) s.0 s.1 ∙ drop-append_seam (isw_text order) (drop (length (isw_text order)) buffer)
              ∙ ap (λ (k : ℕ). drop k buffer) (sym s.0),
        )

    text_fits : (size : ℕ) → answer ≡ Ok size → size ≤ length held
    text_fits size f =
        let s = written-shown size f in
        let long = s.0 in
        let all = ap length s.1 ∙ length-append (isw_text order) (drop (length (isw_text order)) buffer) in
        omega (arith, long, all)

    order-written : (size : ℕ) → answer ≡ Ok size → (1 ≤ order) × (order ≤ max_isw_order)
    order-written size f =
        let none = written_none size f in
        let low : order < 1 → ⊥ = λ h. none.0 (inl h) in
        let high : max_isw_order < order → ⊥ = λ h. none.0 (inr h) in
        (omega arith, omega arith)

    refused-first : (why : Refusal) → answer ≡ Err why → First (isw_conditions order buffer) (refusal_number why)
    refused-first why f =
        (isw_settled.settles.refused (refusal_number why)).0
        (ap (λ (l : Lent). l.told) (sym e) ∙ ap (λ (a : Result ℕ Refusal). (isw_told a held).told) f)

    -- the text of an order that is written fits a buffer for the longest text
    room-enough : (n : ℕ) → First (isw_conditions order buffer) n → max_text ≤ length buffer → (order < 1) ⊎ (max_isw_order < order)
    room-enough n (inl h) room = h.0
    room-enough n (inr (right, inl h)) room =
        let low : order < 1 → ⊥ = λ l. right (inl l) in
        let high : max_isw_order < order → ⊥ = λ l. right (inr l) in
        let short = (written-fits order (omega arith) (omega arith)).short in
        let long = h.0 in
        absurd (omega (arith, short, long, room))
    room-enough n (inr (right, inr h)) room = absurd h.1

    pub answer_says : IswSays answer order buffer held
    answer_says = record {
      stands = text_stands;
      fits = text_fits;
      spelled = λ size f.
          let o = order-written size f in
          subst (IswSpelled order) (sym (text_stands size f).0) (isw_spelled order (written-fits order o.0 o.1));
      reads = λ size f.
          let o = order-written size f in
          subst (ReadAsProduct order) (sym (text_stands size f).0) (isw_reads order (written-fits order o.0 o.1));
      kept = λ why f.
          ap (λ (a : Result ℕ Refusal). (isw_told a held).held) (sym f) ∙ ap (λ (l : Lent). l.held) e
          ∙ isw_settled.kept (refusal_number why) (ap (λ (l : Lent). l.told) (sym e) ∙ ap (λ (a : Result ℕ Refusal). (isw_told a held).told) f);
      enough = λ why f. room-enough (refusal_number why) (refused-first why f);
    }

-- ---- what a caller has of it, whatever the answer says it by

module _ (answer : Result ℕ Refusal) (order : ℕ) (buffer held : List ℕ) (says : IswSays answer order buffer held) (size : ℕ) (e : answer ≡ Ok size)
  where
    -- reading tells this, whatever table of so many bytes is lent, and the function check then says yes to the product
    pub says_read : (table : List ℕ) → record_bytes * isw_wires order ≤ length table
        → ((read_text (take size held) table).told ≡ gives order (order + 1) (pairs order) (isw_wires order))
        × (function_check (take (record_bytes * isw_wires order) (read_text (take size held) table).held) (order + 1) (pairs order) 1 ≡ values (1 ∷ []))
    says_read table room = ((says.reads size e).read table room, (says.reads size e).product table room)

    -- the outer wires' values add up to the product of the operands
    pub says_product : (table : List ℕ) → record_bytes * isw_wires order ≤ length table
        → AddUpTo 1 (order + 1) (pairs order) (wires (take (record_bytes * isw_wires order) (read_text (take size held) table).held))
    says_product table room = (says.reads size e).adds_up table room

    -- there is one text of which the request's words are true
    pub says_once : (text : List ℕ) → IswSpelled order text → take size held ≡ text
    says_once text s = spelled-once order (take size held) text (says.spelled size e) s
