-- What the word after a set says of it.
--     operands-named       which operand is named, by the two tests
--     word_says            what the word after a set that leaks says
use Prim.Native.Nat.{ℕ}
use mathlib.Core.Path.{◌≡◌, refl, sym, subst}
use mathlib.Core.Logic.Iff
use mathlib.Core.Logic.{◌↔◌, ◌⊎◌, inl, inr, ⊎_elim}
use mathlib.Core.Bool.{Bool, true, false, false≢true}
use mathlib.Core.List.{List}
use borrow.Author.Tests.{lt-ltb}
use lib.Dec.{ltb}
use Rattle.basics.specs.Told.{Told}
use Rattle.basics.proofs.Conditions.{less}
use Rattle.verdict_answers.specs.Answers.{set_dependence}
use Rattle.verdict_answers.specs.Dependence.{LeaksA, LeaksB, Leaking}
use Rattle.pages.proofs.Writing.{apart}
use Rattle.operand_words.specs.Operands.{operands_named, operands, NamesOperands}

-- the three words differ in the byte after the second space, or in the one after that
operands-named : (table : List ℕ) (shares masks notion : ℕ) (set : List ℕ) (a b : Bool) → (a ≡ true) ↔ LeaksA table shares masks notion set
    → (b ≡ true) ↔ LeaksB table shares masks notion set → (a ≡ true) ⊎ (b ≡ true)
    → NamesOperands table shares masks notion set (operands_named a b)
operands-named table shares masks notion set true true leaks_a leaks_b some = record {
  names_a = (λ e. leaks_a.0 refl, λ h. inr refl);
  names_b = (λ e. leaks_b.0 refl, λ h. inr refl);
  stands = inr (inr refl);
}
operands-named table shares masks notion set true false leaks_a leaks_b some = record {
  names_a = (λ e. leaks_a.0 refl, λ h. inl refl);
  names_b = (⊎_elim (λ e. absurd (apart 4 e refl)) (λ e. absurd (apart 4 e refl)), λ h. absurd (false≢true (leaks_b.1 h)));
  stands = inl refl;
}
operands-named table shares masks notion set false true leaks_a leaks_b some = record {
  names_a = (⊎_elim (λ e. absurd (apart 4 e refl)) (λ e. absurd (apart 5 e refl)), λ h. absurd (false≢true (leaks_a.1 h)));
  names_b = (λ e. leaks_b.0 refl, λ h. inl refl);
  stands = inr (inl refl);
}
operands-named table shares masks notion set false false leaks_a leaks_b some = absurd (⊎_elim false≢true false≢true some)

-- the word that stands after a set that leaks
pub word_says : (table : List ℕ) (shares masks notion : ℕ) (set : List ℕ) → Leaking table shares masks notion set
    → NamesOperands table shares masks notion set (operands (set_dependence table shares masks notion set))
word_says table shares masks notion set l =
    subst (λ (t : Told). NamesOperands table shares masks notion set (operands t)) (sym l.told)
    (operands-named table shares masks notion set (ltb l.most l.of_a) (ltb l.most l.of_b) (Iff.trans (less l.most l.of_a) l.by_a)
    (Iff.trans (less l.most l.of_b) l.by_b)
    (⊎_elim (λ h. inl (lt-ltb l.most l.of_a h)) (λ h. inr (lt-ltb l.most l.of_b h)) l.one))
