-- Which call gets which number: each entry of `verdict` tells a refusal exactly when its condition is the first that holds, values exactly when none does,
-- and a refusal leaves the buffer as it was.
--     opened_chain                       every entry begins with the chain of a table's tests and the notion's
--     verdict_settled, range_settled, dependence_settled     the entries, for all arguments
--     verdict_ordered, range_asked, dependence_asked         values are told exactly where no test turns the call down
--     verdict_answered, range_answered   and what is told then is the first breaking set of the list that is searched
--     dependence_answered                or the counts of the set that was asked for
use Prim.Native.Nat.{ℕ, ◌≤◌, ◌<◌}
use native.Mathlib.Omega.{arith}
use mathlib.Core.Path.{◌≡◌, refl, sym, ◌∙◌}
use mathlib.Core.Logic.Iff
use mathlib.Core.Logic.{◌↔◌, inl, inr, ⊎_elim}
use mathlib.Core.Bool.{Bool, true, false, true≢false}
use mathlib.Core.List.{List, [], ◌∷◌, ◌++◌, map}
use lib.ListN.{length}
use Rattle.limits.specs.Limits.{max_size}
use Rattle.basics.specs.Told.{Told, Lent, values, refusal, turned_down}
use Rattle.basics.specs.Conditions.{Condition, ◌when◌, None, Settles, SettlesLent}
use Rattle.basics.proofs.Conditions.{Chain, own, test, settles-told, settles-lent, less, equal, neither, not_both, not_less, not_least}
use Rattle.counts.specs.Counts.{binom}
use Rattle.records.specs.Layout.{wire_at, wire_count}
use Rattle.table.specs.Conditions.{table_conditions}
use Rattle.table.proofs.Conditions.{table_chain, sound_none, none-sound, accepted_exactly}
use Rattle.sets.proofs.Conditions.{rising_fails, below_fails}
use Rattle.revolving.specs.Order.{rank_of, rising, below}
use Rattle.search.specs.Search.{searched, stretch, breaking_sets}
use Rattle.verdict_answers.specs.Answers.{notion_of, opened, first_shown, first_ranked, verdict_of, range_check, depended, set_dependence}
use Rattle.verdict_answers.specs.Jobs.{Ordered, Asked}
use Rattle.verdict_answers.specs.Conditions.{WrongNotion, verdict_conditions, range_conditions, dependence_conditions}
use Rattle.verdict_answers.specs.Dependence.{SetAsked}

shown-told : (l : List (List ℕ)) (buffer : List ℕ) → (v : List ℕ) × ((first_shown l buffer).told ≡ values v)
shown-told [] buffer = ([], refl)
shown-told (s ∷ later) buffer = (length s ∷ [], refl)

ranked-told : (n : ℕ) (l : List (List ℕ)) (buffer : List ℕ) → (v : List ℕ) × ((first_ranked n l buffer).told ≡ values v)
ranked-told n [] buffer = ([], refl)
ranked-told n (s ∷ later) buffer = (length s ∷ rank_of n s ∷ [], refl)

module _ (table : List ℕ) (shares masks notion : ℕ) where
  pub opened_chain : {A : Type 0} {refuse : ℕ → A} {answer rest : A} {later : List Condition} → Chain refuse answer later rest
      → Chain refuse answer (table_conditions table shares masks ++ 14 when WrongNotion notion ∷ later)
      (opened refuse table shares masks notion rest)
  opened_chain c = table_chain table shares masks (test 14 (neither (equal notion 1) (equal notion 2)) c)

  module _ (order : ℕ) (buffer : List ℕ) where
    abbrev shown : Lent
    shown = first_shown (breaking_sets (notion_of notion) table shares masks (searched (wire_count table) order)) buffer

    verdict_chain : Chain (λ n. turned_down n buffer) shown (verdict_conditions table shares masks notion order buffer)
        (verdict_of table shares masks notion order buffer)
    verdict_chain =
        opened_chain
        (test 15 (not_both (not_least 1 order) (not_less order shares))
        (test 16 (less (length buffer) order)
        (own (λ n. turned_down n buffer) shown)))

    pub verdict_settled : SettlesLent (verdict_conditions table shares masks notion order buffer) buffer
        (verdict_of table shares masks notion order buffer)
    verdict_settled =
        let v = shown-told (breaking_sets (notion_of notion) table shares masks (searched (wire_count table) order)) buffer in
        settles-lent verdict_chain v.0 v.1

    verdict_none : None (verdict_conditions table shares masks notion order buffer) ↔ Ordered table shares masks notion order buffer
    verdict_none = (
      λ n. let s = none-sound table shares masks n in
          let low : order < 1 → ⊥ = λ h. s.1.1.0 (inl h) in
          let high : shares ≤ order → ⊥ = λ h. s.1.1.0 (inr h) in
          let room : length buffer < order → ⊥ = s.1.1.1.0 in
          record { sound = (accepted_exactly table shares masks).1 s.0; known = s.1.0; low = omega arith; high = omega arith; room = omega arith },
      λ o. sound_none table shares masks ((accepted_exactly table shares masks).0 o.sound)
          (o.known, (⊎_elim (λ h. omega arith) (λ h. omega arith), (λ h. omega arith, tt))),
    )

    pub verdict_ordered : ((l : List ℕ) × ((verdict_of table shares masks notion order buffer).told ≡ values l))
        ↔ Ordered table shares masks notion order buffer
    verdict_ordered = Iff.trans verdict_settled.settles.answered verdict_none

    pub verdict_answered : Ordered table shares masks notion order buffer → verdict_of table shares masks notion order buffer ≡ shown
    verdict_answered o = verdict_chain.none (verdict_none.1 o)

  module _ (size from to : ℕ) (buffer : List ℕ) where
    abbrev ranked : Lent
    ranked = first_ranked (wire_count table) (breaking_sets (notion_of notion) table shares masks (stretch (wire_count table) size from to)) buffer

    range_chain : Chain (λ n. turned_down n buffer) ranked (range_conditions table shares masks notion size from to buffer)
        (range_check table shares masks notion size from to buffer)
    range_chain =
        opened_chain
        (test 17 (less max_size size)
        (test 16 (less (length buffer) size)
        (test 18 (not_both (not_least from to) (not_least to (binom (wire_count table) size)))
        (own (λ n. turned_down n buffer) ranked))))

    pub range_settled : SettlesLent (range_conditions table shares masks notion size from to buffer) buffer
        (range_check table shares masks notion size from to buffer)
    range_settled =
        let v = ranked-told (wire_count table) (breaking_sets (notion_of notion) table shares masks (stretch (wire_count table) size from to)) buffer in
        settles-lent range_chain v.0 v.1

    range_none : None (range_conditions table shares masks notion size from to buffer)
        ↔ (Asked table shares masks notion size buffer × (from ≤ to) × (to ≤ binom (wire_count table) size))
    range_none = (
      λ n. let s = none-sound table shares masks n in
          let small : max_size < size → ⊥ = s.1.1.0 in
          let room : length buffer < size → ⊥ = s.1.1.1.0 in
          let rises : to < from → ⊥ = λ h. s.1.1.1.1.0 (inl h) in
          let ends : binom (wire_count table) size < to → ⊥ = λ h. s.1.1.1.1.0 (inr h) in
          (record { sound = (accepted_exactly table shares masks).1 s.0; known = s.1.0; small = omega arith; room = omega arith }, omega arith, omega arith),
      λ o. sound_none table shares masks ((accepted_exactly table shares masks).0 o.0.sound)
          (o.0.known, (λ h. omega arith, (λ h. omega arith, (⊎_elim (λ h. omega arith) (λ h. omega arith), tt)))),
    )

    pub range_asked : ((l : List ℕ) × ((range_check table shares masks notion size from to buffer).told ≡ values l))
        ↔ (Asked table shares masks notion size buffer × (from ≤ to) × (to ≤ binom (wire_count table) size))
    range_asked = Iff.trans range_settled.settles.answered range_none

    pub range_answered : Asked table shares masks notion size buffer → from ≤ to → to ≤ binom (wire_count table) size
        → range_check table shares masks notion size from to buffer ≡ ranked
    range_answered o rises ends = range_chain.none (range_none.1 (o, rises, ends))

  module _ (set : List ℕ) where
    abbrev counted : Told
    counted = depended (notion_of notion) shares masks (map (wire_at table) set)

    dependence_chain : Chain refusal counted (dependence_conditions table shares masks notion set) (set_dependence table shares masks notion set)
    dependence_chain =
        opened_chain
        (test 17 (less max_size (length set))
        (test 21 (not_both (rising_fails set) (below_fails (wire_count table) set))
        (own refusal counted)))

    pub dependence_settled : Settles (dependence_conditions table shares masks notion set) (set_dependence table shares masks notion set)
    dependence_settled = settles-told dependence_chain

    dependence_none : None (dependence_conditions table shares masks notion set) ↔ SetAsked table shares masks notion set
    dependence_none = (
      λ n. let s = none-sound table shares masks n in
          let small : max_size < length set → ⊥ = s.1.1.0 in
          record {
            sound = (accepted_exactly table shares masks).1 s.0;
            known = s.1.0;
            small = omega arith;
            distinct = passes (rising set) (λ e. s.1.1.1.0 (inl ((rising_fails set).0 e)));
            within = passes (below (wire_count table) set) (λ e. s.1.1.1.0 (inr ((below_fails (wire_count table) set).0 e)));
          },
      λ o. sound_none table shares masks ((accepted_exactly table shares masks).0 o.sound) (
        o.known,
        (
          λ h. omega (arith, h, o.small),
          (
            ⊎_elim (λ f. true≢false (sym o.distinct ∙ (rising_fails set).1 f))
                (λ b. true≢false (sym o.within ∙ (below_fails (wire_count table) set).1 b)),
            tt,
          ),
        ),
      ),
    )
      where
        passes : (b : Bool) → (b ≡ false → ⊥) → b ≡ true
        passes true h = refl
        passes false h = absurd (h refl)

    pub dependence_asked : ((l : List ℕ) × (set_dependence table shares masks notion set ≡ values l)) ↔ SetAsked table shares masks notion set
    dependence_asked = Iff.trans dependence_settled.answered dependence_none

    pub dependence_answered : SetAsked table shares masks notion set → set_dependence table shares masks notion set ≡ counted
    dependence_answered o = dependence_chain.none (dependence_none.1 o)
