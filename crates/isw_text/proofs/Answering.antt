-- The entry's answers, each with the whole of its promise.
--     Promise                          both promises of the entry
--     order_wrong                      an order that is not written
--     text_short, text_written         a buffer that is too short, and one that is not
use Prim.Native.Nat.{ℕ, ◌≤◌, ◌<◌}
use native.Mathlib.Omega.{arith}
use mathlib.Core.Path.{◌≡◌, refl, sym, ◌∙◌, ap₂}
use mathlib.Core.Logic.{◌⊎◌, inl, inr, ⊎_elim}
use mathlib.Core.List.{List}
use lib.ListN.{length}
use Rattle.std.specs.Prelude.{Result, Ok, Err}
use Rattle.pages.specs.Page.{Wrote}
use Rattle.pages.proofs.Writing.{copied, copied_start}
use Rattle.isw_gadget.specs.Text.{isw_text}
use Rattle.isw_gadget.specs.Answers.{max_isw_order, isw_told, isw_written}
use Rattle.isw_gadget.specs.Reads.{IswSays}
use Rattle.isw_gadget.specs.declared.Refusal.{Refusal}
use Rattle.isw_gadget.proofs.Answering.{isw_chain, answer_says}

abbrev pub Promise : Result ℕ Refusal → ℕ → List ℕ → List ℕ → Type 0
Promise answer order buffer held = (isw_told answer held ≡ isw_written order buffer) × IswSays answer order buffer held

module _ (order : ℕ) (buffer : List ℕ) where
  promised : (answer : Result ℕ Refusal) (held : List ℕ) → isw_told answer held ≡ isw_written order buffer → Promise answer order buffer held
  promised answer held e = (e, answer_says order buffer answer held e)

  pub order_wrong : (order < 1) ⊎ (max_isw_order < order) → Promise (Err Refusal.OrderOutOfRange) order buffer buffer
  order_wrong h = promised (Err Refusal.OrderOutOfRange) buffer (sym ((isw_chain order buffer).1.first 23 (inl (h, refl))))

  module _ (low : 1 ≤ order) (high : order ≤ max_isw_order) (blank page : List ℕ) (end : ℕ) (wrote : Wrote blank 0 (isw_text order) page end) where
    right_order : (order < 1) ⊎ (max_isw_order < order) → ⊥
    right_order = ⊎_elim (λ h. omega (arith, low, h)) (λ h. omega (arith, high, h))

    pub text_short : length buffer < end → Promise (Err Refusal.TextDoesNotFit) order buffer buffer
    text_short h =
        let size = wrote.end_is in
        promised (Err Refusal.TextDoesNotFit) buffer
        (sym ((isw_chain order buffer).1.first 24 (inr (right_order, inl (omega (arith, h, size), refl)))))

    pub text_written : (held : List ℕ) → end ≤ length buffer → held ≡ copied page end buffer → Promise (Ok end) order buffer held
    text_written held h e =
        let c = copied_start blank (isw_text order) page end buffer held wrote e in
        let size = c.0 in
        promised (Ok end) held
        (ap₂ (λ (n : ℕ) (l : List ℕ). isw_told (Ok n) l) size c.1
        ∙ sym ((isw_chain order buffer).1.none (right_order, (λ short. omega (arith, h, size, short), tt))))
