-- What the verdict tells, as it is written.
--     wrote_ni, wrote_sni                          the notion's name
--     take-few                                     the first elements of a list are no more than it has
--     shown-few                                    a set that is shown has no more wires than the buffer has room for
--     holds-said, broken-said, refused-said        what a verdict says
use Prim.Native.Nat.{ℕ, zero, suc, ◌-◌, ◌≤◌}
use native.Mathlib.Omega.{arith}
use mathlib.Core.Path.{◌≡◌, sym, ◌∙◌, ap, subst}
use mathlib.Core.Bool.{Bool, cond}
use mathlib.Core.List.{List, [], ◌∷◌, ◌++◌}
use borrow.Author.Tests.{eq-eqb, ne_eqb}
use lib.ListN.{length, take}
use Rattle.std.specs.Prelude.{Result, Ok, Err}
use Rattle.basics.specs.Quoted.{bytes}
use Rattle.basics.specs.Told.{Told, Lent}
use Rattle.verdict_answers.specs.declared.Refusal.{Refusal}
use Rattle.verdict_answers.specs.declared.Judged.{Judged}
use Rattle.verdict_answers.specs.Answers as verdicts
use Rattle.verdict_answers.specs.Guarantee.{Guarantee}
use Rattle.pages.specs.Decimal.{decimal}
use Rattle.pages.specs.Page.{Wrote}
use Rattle.pages.proofs.Writing.{part-start}
use Rattle.verdict_lines.specs.Lines.{notion_name, broken_said, verdict_said}

module _ (page : List ℕ) (at : ℕ) (after : List ℕ) (end : ℕ) where
  pub wrote_ni : (notion : ℕ) → notion ≡ 1 → Wrote page at (bytes "NI") after end → Wrote page at (notion_name notion) after end
  wrote_ni notion e w = subst (λ (b : Bool). Wrote page at (cond b (bytes "NI") (bytes "SNI")) after end) (sym (eq-eqb notion 1 e)) w

  pub wrote_sni : (notion : ℕ) → (notion ≡ 1 → ⊥) → Wrote page at (bytes "SNI") after end → Wrote page at (notion_name notion) after end
  wrote_sni notion e w = subst (λ (b : Bool). Wrote page at (cond b (bytes "NI") (bytes "SNI")) after end) (sym (ne_eqb notion 1 e)) w

take-few : (n : ℕ) (l : List ℕ) → length (take n l) ≤ length l
take-few zero l = omega arith
take-few (suc n) [] = omega arith
take-few (suc n) (x ∷ l) = let h = take-few n l in omega (arith, h)

module _ (answer : Result Judged Refusal) (held : List ℕ) where
  pub shown-few : (table : List ℕ) (shares masks notion order size : ℕ) (judged : Judged) → answer ≡ Ok judged → judged ≡ Judged.Broken size
      → Guarantee answer table shares masks notion order held → size ≤ length held
  shown-few table shares masks notion order size judged e f g =
      let broken : answer ≡ Ok (Judged.Broken size) = e ∙ ap (λ (j : Judged). Ok j) f in
      omega (arith, (g.broken-shows size broken).whole, take-few size held)

module _ (depends : List ℕ → Told) (answer : Result Judged Refusal) (held : List ℕ) (lent : Lent) (told : verdicts.verdict_told answer held ≡ lent) where
  module _ (page : List ℕ) (at : ℕ) (after : List ℕ) (end : ℕ) where
    told-said : (of : Result Judged Refusal) → answer ≡ of → Wrote page at (verdict_said depends (verdicts.verdict_told of held)) after end
        → Wrote page at (verdict_said depends lent) after end
    told-said of e w =
        subst (λ (l : Lent). Wrote page at (verdict_said depends l) after end) (ap (λ (a : Result Judged Refusal). verdicts.verdict_told a held) (sym e) ∙ told) w

    pub holds-said : (judged : Judged) → answer ≡ Ok judged → judged ≡ Judged.Holds → Wrote page at (bytes " holds") after end
        → Wrote page at (verdict_said depends lent) after end
    holds-said judged e f w = told-said (Ok Judged.Holds) (e ∙ ap (λ (j : Judged). Ok j) f) w

    pub broken-said : (size : ℕ) (judged : Judged) → answer ≡ Ok judged → judged ≡ Judged.Broken size → Wrote page at (broken_said depends (take (size - 0) held)) after end
        → Wrote page at (verdict_said depends lent) after end
    broken-said size judged e f w =
        told-said (Ok (Judged.Broken size)) (e ∙ ap (λ (j : Judged). Ok j) f) (subst (λ (l : List ℕ). Wrote page at (broken_said depends l) after end) (part-start size held) w)

    pub refused-said : (why : Refusal) (number : ℕ) → answer ≡ Err why → number ≡ verdicts.refusal_number why
        → Wrote page at (bytes " refused " ++ decimal number) after end → Wrote page at (verdict_said depends lent) after end
    refused-said why number e f w =
        told-said (Err why) e (subst (λ (n : ℕ). Wrote page at (bytes " refused " ++ decimal n) after end) f w)
