-- The tests that every entry begins with.
--     open_refused, open_known, open_wrong     what `opening` tells
--     Opens                                    what it says where it refuses nothing: an accepted table, and the notion of its number
--     opens_notion                             that is so where it tells a notion
--     opened_for, short                        what the first tests say: the notion, and a table of at most 512 wires
--     opened-answer, opened-refusal            the operation's own answer stands, or the refusal of these tests does
use Prim.Native.Nat.{ℕ, ◌≤◌}
use mathlib.Core.Path.{◌≡◌, refl, sym, ◌∙◌, ap}
use mathlib.Core.Bool.{Bool, true, false, cond}
use mathlib.Core.List.{List, [], ◌∷◌, ◌++◌}
use borrow.Author.Tests.{ne_eqb}
use lib.ListN.{length}
use Rattle.std.specs.Prelude.{Ok}
use Rattle.limits.specs.Limits.{max_table_bytes}
use Rattle.basics.specs.Told.{values, refusal}
use Rattle.basics.specs.Conditions.{◌when◌}
use Rattle.basics.proofs.Conditions.{Chain, own, settles-told}
use Rattle.wires.specs.declared.Notion.{Notion}
use Rattle.wires.specs.declared.Notion.TheVariants.{Ni, Sni}
use Rattle.table.specs.Answers.{table_check}
use Rattle.table.specs.Conditions.{table_conditions}
use Rattle.table.proofs.Conditions.{Sound, sound_none, none-sound, accepted_exactly, tested-answer, tested-refusal}
use Rattle.verdict_answers.specs.Answers.{wrong_notion, notion_of, opened}
use Rattle.verdict_answers.specs.Conditions.{WrongNotion}
use Rattle.verdict_answers.proofs.Conditions.{opened_chain}
use Rattle.opening.specs.Opening.{notion_number, opened_told, opens}

known : (kind : Notion) → wrong_notion (notion_number kind) ≡ false
known Ni = refl
known Sni = refl

number-named : (kind : Notion) → kind ≡ notion_of (notion_number kind)
number-named Ni = refl
number-named Sni = refl

module _ (table : List ℕ) (shares masks notion : ℕ) where
  pub open_refused : (k : ℕ) → refusal k ≡ table_check table shares masks → refusal k ≡ opens table shares masks notion
  open_refused k e = sym (tested-refusal table shares masks refusal (cond (wrong_notion notion) (refusal 14) (values (notion ∷ []))) k e)

  module _ (passed : values [] ≡ table_check table shares masks) where
    rest : opens table shares masks notion ≡ cond (wrong_notion notion) (refusal 14) (values (notion ∷ []))
    rest = tested-answer table shares masks refusal (cond (wrong_notion notion) (refusal 14) (values (notion ∷ [])))
        ((accepted_exactly table shares masks).0 passed)

    pub open_known : (kind : Notion) → notion ≡ notion_number kind → opened_told (Ok kind) ≡ opens table shares masks notion
    open_known kind e =
        ap (λ (b : Bool). cond b (refusal 14) (values (notion_number kind ∷ []))) (sym (known kind))
        ∙ ap (λ (k : ℕ). cond (wrong_notion k) (refusal 14) (values (k ∷ []))) (sym e) ∙ sym rest

    pub open_wrong : (notion ≡ 1 → ⊥) → (notion ≡ 2 → ⊥) → refusal 14 ≡ opens table shares masks notion
    open_wrong p q = let wrong : wrong_notion notion ≡ true = simp (ne_eqb notion 1 p, ne_eqb notion 2 q) in sym
        (rest ∙ ap (λ (b : Bool). cond b (refusal 14) (values (notion ∷ []))) wrong)

pub record Opens (table : List ℕ) (shares masks notion : ℕ) (kind : Notion) : Type 0 where
  pub sound : Sound table shares masks
  pub known : WrongNotion notion → ⊥
  pub named : kind ≡ notion_of notion

module _ (table : List ℕ) (shares masks notion : ℕ) where
  opens_chain : Chain refusal (values (notion ∷ [])) (table_conditions table shares masks ++ 14 when WrongNotion notion ∷ [])
      (opens table shares masks notion)
  opens_chain = opened_chain table shares masks notion (own refusal (values (notion ∷ [])))

  pub opens_notion : (kind : Notion) → opened_told (Ok kind) ≡ opens table shares masks notion → Opens table shares masks notion kind
  opens_notion kind e =
      let none = (settles-told opens_chain).answered.0 (notion_number kind ∷ [], sym e) in
      let s = none-sound table shares masks none in
      let f = opens_chain.none none in
      let number : notion_number kind ≡ notion = cc in
      record { sound = s.0; known = s.1.0; named = number-named kind ∙ ap notion_of number }

  module _ {A : Type 0} (refuse : ℕ → A) (answer : A) where
    pub opened-answer : Sound table shares masks → (WrongNotion notion → ⊥) → opened refuse table shares masks notion answer ≡ answer
    opened-answer sound known =
        (opened_chain table shares masks notion (own refuse answer)).none (sound_none table shares masks sound (known, tt))

    pub opened-refusal : (k : ℕ) → refusal k ≡ opens table shares masks notion → opened refuse table shares masks notion answer ≡ refuse k
    opened-refusal k e =
        (opened_chain table shares masks notion (own refuse answer)).first k (((settles-told opens_chain).refused k).0 (sym e))

module _ (table : List ℕ) (shares masks notion : ℕ) (kind : Notion) (told : opened_told (Ok kind) ≡ opens table shares masks notion) where
  pub opened_for : Opens table shares masks notion kind
  opened_for = opens_notion table shares masks notion kind told

  pub short : length table ≤ max_table_bytes
  short = opened_for.sound.short
