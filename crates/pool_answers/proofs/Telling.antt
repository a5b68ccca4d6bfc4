-- What a pool tells where no test turns it down, in the words of the request.
--     place-told                                       values, where there is a first place and where there is none
--     pooled-told                                      values
--     pooled-broken, pooled-uncovered, pooled-holds    broken, with the first place that a report has found; else uncovered, with the first that none covers;
--                                                      else holds
use Prim.Native.Nat.{ℕ}
use mathlib.Core.Path.{◌≡◌, refl, ◌∙◌}
use mathlib.Core.Logic.{◌⊎◌, inl, inr}
use mathlib.Core.Bool.{Bool, not}
use mathlib.Core.List.{List, [], ◌∷◌}
use Rattle.basics.specs.Told.{Told, values}
use Rattle.counts.specs.Counts.{binom}
use Rattle.filed_reports.specs.Filed.{covered, reported}
use Rattle.filed_reports.specs.Places.{NoPlace, FirstPlace, first_place}
use Rattle.filed_reports.proofs.Places.{place_either, first_place-is, no_place_is}
use Rattle.pool_answers.specs.Answers.{holds_told, broken_told, uncovered_told, pooled}

place-told : (all : ℕ → ℕ) (passes : ℕ → ℕ → Bool) (tell : ℕ → ℕ → List ℕ) (order : ℕ) (none : Told) → ((l : List ℕ) × (none ≡ values l))
    → (l : List ℕ) × (first_place all passes (λ size rank. values (tell size rank)) order none ≡ values l)
place-told all passes tell order none other = go (place_either all passes order)
  where
    go : NoPlace all passes order ⊎ ((size rank : ℕ) × FirstPlace all passes order size rank)
        → (l : List ℕ) × (first_place all passes (λ size rank. values (tell size rank)) order none ≡ values l)
    go (inl nowhere) = (other.0, no_place_is all passes (λ size rank. values (tell size rank)) order none nowhere ∙ other.1)
    go (inr f) = (tell f.0 f.1, first_place-is all passes (λ size rank. values (tell size rank)) order f.0 f.1 none f.2)

module _ (wires order : ℕ) (reports : List ℕ) where
  abbrev uncovered : ℕ → ℕ → Bool
  uncovered size rank = not (covered reports size rank)

  pub pooled-told : (l : List ℕ) × (pooled wires order reports ≡ values l)
  pooled-told =
      place-told (binom wires) (reported reports) (λ size rank. 2 ∷ size ∷ rank ∷ []) order _
      (place-told (binom wires) uncovered (λ size rank. 3 ∷ size ∷ rank ∷ []) order holds_told (1 ∷ [], refl))

  pub pooled-broken : (size rank : ℕ) → FirstPlace (binom wires) (reported reports) order size rank → pooled wires order reports ≡ broken_told size rank
  pooled-broken size rank f = first_place-is (binom wires) (reported reports) broken_told order size rank _ f

  module _ (none : NoPlace (binom wires) (reported reports) order) where
    pub pooled-uncovered : (size rank : ℕ) → FirstPlace (binom wires) uncovered order size rank → pooled wires order reports ≡ uncovered_told size rank
    pooled-uncovered size rank f =
        no_place_is (binom wires) (reported reports) broken_told order _ none
        ∙ first_place-is (binom wires) uncovered uncovered_told order size rank _ f

    pub pooled-holds : NoPlace (binom wires) uncovered order → pooled wires order reports ≡ holds_told
    pooled-holds whole =
        no_place_is (binom wires) (reported reports) broken_told order _ none
        ∙ no_place_is (binom wires) uncovered uncovered_told order _ whole
