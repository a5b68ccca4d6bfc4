-- What is told of an answer, put into a status and the lent numbers.
--     lent-refused                       a refusal where a buffer is lent
--     kept_0, kept-refused               status 0 is no refusal; with any other the numbers and the buffer are as they were
--     Numbers                            what a function promises that is lent no buffer: the equation, what a refusal leaves, what its numbers say
--     numbers_gave, numbers-refused      its two paths: values, and a refusal
use Prim.Native.Nat.{ℕ, ◌<◌}
use native.Mathlib.Omega.{arith}
use mathlib.Core.Path.{◌≡◌, refl, ◌∙◌, ap}
use mathlib.Core.List.{List, []}
use Rattle.basics.specs.Told.{Told, Lent, values, refusal}
use Rattle.verdict_answers.specs.Answers.{written}
use Rattle.call_answers.specs.Calls.{got, answered, lent_answered}
use Rattle.call_answers.specs.Meaning.{Kept}

module _ (numbers : List ℕ) (lent : Lent) (number status : ℕ) (held : List ℕ) (e : record { told = refusal number; held = held } ≡ lent)
    (s : status ≡ number) where
  pub lent-refused : got status numbers held ≡ lent_answered lent numbers
  lent-refused = ap (λ (n : ℕ). got n numbers held) s ∙ ap (λ (a : Lent). lent_answered a numbers) e

pub kept_0 : (numbers before held buffer : List ℕ) → Kept 0 numbers before held buffer
kept_0 numbers before held buffer fails = absurd (fails refl)

-- "all refusals leave lent memory unaltered": what a caller has of it
pub kept-refused : (status : ℕ) (numbers before held buffer : List ℕ) → Kept status numbers before held buffer → 0 < status
    → (numbers ≡ before) × (held ≡ buffer)
kept-refused status numbers before held buffer kept some = kept (λ zero. omega (arith, zero, some))

abbrev pub Numbers : Told → Type 0 → ℕ → List ℕ → List ℕ → Type 0
Numbers told says status numbers before = (got status numbers [] ≡ answered told before []) × (Kept status numbers before [] [] × says)

module _ (says : Type 0) (told : Told) (before : List ℕ) where
  pub numbers_gave : (l : List ℕ) → values l ≡ told → says → Numbers told says 0 (written l before) before
  numbers_gave l e means = (ap (λ (t : Told). answered t before []) e, (kept_0 (written l before) before [] [], means))

  pub numbers-refused : (number status : ℕ) → refusal number ≡ told → status ≡ number → says → Numbers told says status before before
  numbers-refused number status e s means = (
    ap (λ (n : ℕ). got n before []) s ∙ ap (λ (t : Told). answered t before []) e,
    (λ fails. (refl, refl), means),
  )
