-- Laws of the run: what a byte's step makes of it, and what the text's end does.
--     drop_byte             the bytes from a place on: the byte there, and the rest
--     run_passed            bytes that are passed over
--     run-go, run-stop      a step that goes on, that stops
--     run_end               the text's end
use Prim.Native.Nat.{ℕ, zero, suc, ◌+◌, ◌≤◌, ◌<◌}
use native.Mathlib.Nat.{not-suc-le-zero, le_of_suc-le-suc}
use native.Mathlib.Omega.{arith}
use mathlib.Core.Path.{◌≡◌, ◌∙◌, ap}
use mathlib.Core.List.{List, [], ◌∷◌}
use lib.ListN.{length, drop, get_or, length-drop, drop_of_length-le}
use lib.Seq.{drop-cons, drop-drop}
use Rattle.description.specs.Run.{State, Step, go, stop, refused, step, line_step, finish, run, run_at}
use Rattle.description.specs.declared.Refusal.{Refusal}

pub drop_byte : (l : List ℕ) (at : ℕ) → at < length l → drop at l ≡ get_or l at 0 ∷ drop (at + 1) l
drop_byte l at h = let e : suc at ≡ at + 1 = omega arith in drop-cons l at 0 h ∙ ap (λ (k : ℕ). get_or l at 0 ∷ drop k l) e

module _ (shares declared : ℕ) where
  pub run_passed : (at pass : ℕ) (s : State) (l : List ℕ) → pass ≤ length l
      → run shares declared at pass s l ≡ run shares declared (at + pass) 0 s (drop pass l)
  unfolding run
  run_passed at zero s l h = let e : at ≡ at + 0 = omega arith in ap (λ (k : ℕ). run shares declared k 0 s l) e
  run_passed at (suc pass) s [] h = absurd (not-suc-le-zero h)
  run_passed at (suc pass) s (c ∷ l) h =
      let e : at + 1 + pass ≡ at + suc pass = omega arith in
      run_passed (at + 1) pass s l (le_of_suc-le-suc h) ∙ ap (λ (k : ℕ). run shares declared k 0 s (drop pass l)) e

  module _ (text : List ℕ) (at : ℕ) (s : State) (inside : at < length text) where
    pub run-go : (pass : ℕ) (t : State) → step shares declared at s (get_or text at 0) (drop (at + 1) text) ≡ go pass t
        → at + 1 + pass ≤ length text → run_at shares declared text at s ≡ run_at shares declared text (at + 1 + pass) t
    unfolding run
    run-go pass t e h =
        let room : pass ≤ length (drop (at + 1) text) = omega (arith, h, length-drop (at + 1) text) in
        ap (λ l. run shares declared at 0 s l) (drop_byte text at inside)
        ∙ ap
        (λ (x : Step).
        elim x [ go pass t ↦ run shares declared (at + 1) pass t (drop (at + 1) text) | stop why ↦ refused why at ])
        e
        ∙ run_passed (at + 1) pass t (drop (at + 1) text) room ∙ ap (λ l. run shares declared (at + 1 + pass) 0 t l) (drop-drop pass (at + 1) text)

    pub run-stop : (why : Refusal) → step shares declared at s (get_or text at 0) (drop (at + 1) text) ≡ stop why
        → run_at shares declared text at s ≡ refused why at
    unfolding run
    run-stop why e =
        ap (λ l. run shares declared at 0 s l) (drop_byte text at inside)
        ∙ ap
        (λ (x : Step).
        elim x [ go pass t ↦ run shares declared (at + 1) pass t (drop (at + 1) text) | stop why ↦ refused why at ])
        e

  pub run_end : (text : List ℕ) (at : ℕ) (s : State) → length text ≤ at
      → run_at shares declared text at s ≡ finish shares at (line_step s.around s)
  unfolding run
  run_end text at s h = ap (λ l. run shares declared at 0 s l) (drop_of_length-le text h)
