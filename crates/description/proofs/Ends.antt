-- Where the run is done, at the text's end and at a line's end: what the rest of the text spells.
--     Sound             what the run's states keep to: the number of output lines, and of parentheses open
--     From              the rest of the text, from a state at a place on
--     Later             what the places after one have been shown to have
--     turned_down_lem       a run that is done is not refused
--     at_end            the text's end
--     at_line           a line end
use Prim.Native.Nat.{ℕ, ◌+◌, ◌-◌, ◌≤◌, ◌<◌}
use native.Mathlib.Omega.{arith}
use mathlib.Core.Path.{◌≡◌, refl, sym, ◌∙◌, ap, subst}
use mathlib.Core.Bool.{Bool, true, false, cond, ◌||◌, false≢true, or-false}
use mathlib.Core.List.{List, [], ◌∷◌}
use borrow.Author.Tests.{ltb-false}
use lib.Dec.{ltb}
use lib.ListN.{length, get_or}
use Rattle.basics.specs.Folds.{one_if}
use Rattle.description.specs.Bytes.{line_end}
use Rattle.description.specs.Run.{State, Around, Outcome, done, refused, go, finish, line_step, line_done, run_at, max_depth}
use Rattle.description.specs.declared.Refusal.{Refusal}
use Rattle.description.specs.declared.Refusal.TheVariants.{WrongLineCount}
use Rattle.description.proofs.Running.{run_end}
use Rattle.description.proofs.Places.{at_byte}
use Rattle.description.proofs.Passing.{at_line_end, wrong_end}
use Rattle.description.proofs.Finding.{read_none, text_end, more_lines, LineRest, Rest, line-found}

pub turned_down_lem : {o : Outcome} {t : State} {why : Refusal} {at : ℕ} → o ≡ done t → o ≡ refused why at → ⊥
turned_down_lem {t = t} {why = why} {at = at} e f =
    let both : done t ≡ refused why at = sym e ∙ f in
    let z : ◌≡◌ {A = ℕ} 0 1 = cc in
    omega (arith, z)

pub record Sound (shares : ℕ) (s : State) : Type 0 where
  pub lines-within : s.lines ≤ shares
  pub in_line : s.group.filled ≡ true → s.lines < shares
  pub few_open : length s.around ≤ max_depth

abbrev pub From : List ℕ → ℕ → List ℕ → ℕ → State → Type 0
From text shares names p s = Rest text shares names s.around s.group.filled s.lines p

abbrev pub Later : List ℕ → ℕ → ℕ → List ℕ → State → ℕ → Type 0
Later text shares declared names t p =
    (q : ℕ) → p < q → q ≤ length text → (s : State) → Sound shares s → run_at shares declared text q s ≡ done t → From text shares names q s

module _ (text : List ℕ) (shares declared : ℕ) (names : List ℕ) (t : State) (p : ℕ) (s : State) (sound : Sound shares s)
    (run : run_at shares declared text p s ≡ done t) where
  all_lines : (x : State) → finish shares p (go 0 x) ≡ done t → shares ≤ x.lines
  all_lines x e = by (ltb x.lines shares) refl e
    where
      by : (b : Bool) → ltb x.lines shares ≡ b → cond b (refused WrongLineCount p) (done x) ≡ done t → shares ≤ x.lines
      by true f e = absurd (turned_down_lem e refl)
      by false f e = ltb-false x.lines shares f

  pub at_end : p ≡ length text → From text shares names p s
  at_end e = by s.around s.group.filled refl refl
    where
      ends : finish shares p (line_step s.around s) ≡ done t
      ends = sym (run_end shares declared text p s (omega (arith, e))) ∙ run

      by : (around : List Around) (filled : Bool) → s.around ≡ around → s.group.filled ≡ filled
          → Rest text shares names around filled s.lines p
      by [] filled f h = record {
        till = p;
        here = read_none text shares names 0 p (omega arith);
        lines = [];
        after = text_end e;
        count = counts filled h (ap (λ around. finish shares p (line_step around s)) (sym f) ∙ ends);
        shallow = refl;
        allowed = refl;
      }
        where
          counts : (filled : Bool) → s.group.filled ≡ filled → finish shares p (line_step [] s) ≡ done t
              → s.lines + (one_if (filled || false) + 0) ≡ shares
          counts true h k =
              let full = all_lines (line_done s) (ap (λ (b : Bool). finish shares p (go 0 (cond b (line_done s) s))) (sym h) ∙ k) in
              let room = sound.in_line h in
              omega (arith, full, room)
          counts false h k =
              let full = all_lines s (ap (λ (b : Bool). finish shares p (go 0 (cond b (line_done s) s))) (sym h) ∙ k) in
              let room = sound.lines-within in
              omega (arith, full, room)
      by (g ∷ around) filled f h =
          absurd (turned_down_lem ends (ap (λ around. finish shares p (line_step around s)) f))

  pub at_line : (inside : p < length text) → Later text shares declared names t p → get_or text p 0 ≡ line_end → From text shares names p s
  at_line inside later e = by s.around s.group.filled refl refl
    where
      before-line : (filled : Bool) (n : ℕ) → n ≡ s.lines + one_if filled → LineRest text shares names false (p + 1) n
          → LineRest text shares names filled p s.lines
      before-line filled n h r =
          let counts = r.count in
          let left : n + (shares - n) ≡ shares = omega (arith, counts) in
          let found = line-found text shares names (p + 1) n (shares - n) left r in
          let size = found.count in
          let this : one_if (filled || false) ≡ one_if filled = ap one_if (or-false filled) in
          record {
            till = p;
            here = read_none text shares names 0 p (omega arith);
            lines = found.lines;
            after = more_lines (at_byte text p line_end inside e) found.spelled;
            count = omega (arith, size, left, h, this);
            shallow = found.shallow;
            allowed = found.allowed;
          }

      goes_on : (x : State) → s.around ≡ [] → cond s.group.filled (line_done s) s ≡ x → Sound shares x → From text shares names (p + 1) x
      goes_on x f h sound' =
          later (p + 1) (omega arith) (omega (arith, inside)) x sound'
          (ap (run_at shares declared text (p + 1)) (sym h) ∙ sym (at_line_end shares declared text p s inside e f) ∙ run)

      by : (around : List Around) (filled : Bool) → s.around ≡ around → s.group.filled ≡ filled
          → Rest text shares names around filled s.lines p
      by [] true f h =
          let room = sound.in_line h in
          before-line true (s.lines + 1) (omega arith)
          (subst (λ around. Rest text shares names around false (s.lines + 1) (p + 1)) f
          (goes_on (line_done s) f (ap (λ (b : Bool). cond b (line_done s) s) h)
          (record { lines-within = omega (arith, room); in_line = λ x. absurd (false≢true x); few_open = sound.few_open })))
      by [] false f h =
          before-line false s.lines (omega arith)
          (subst (λ around. Rest text shares names around false s.lines (p + 1)) f
          (subst (λ (b : Bool). Rest text shares names s.around b s.lines (p + 1)) h
          (goes_on s f (ap (λ (b : Bool). cond b (line_done s) s) h) sound)))
      by (g ∷ around) filled f h = absurd (turned_down_lem run (wrong_end shares declared text p s inside g around e f))
