-- Demand 2, in its own words.
--     first-is           what is kept first of the sets that are searched is the first breaking set
--     holds-exactly      a verdict holds exactly when no set to watch breaks
--     shows-exactly      it shows a set exactly when that is the first breaking set in the published order
--     clean-exactly      a range check is clean exactly when no set at the ranks that it is to visit breaks
--     finds-exactly      it finds a set with a rank exactly when that is the first of these that breaks
use Prim.Native.Nat.{ℕ, zero, suc, ◌+◌, ◌-◌, ◌≤◌, ◌<◌}
use native.Mathlib.Nat.{le_refl}
use native.Mathlib.Decide.{dec_lt}
use native.Mathlib.Omega.{arith}
use mathlib.Core.Path.{◌≡◌, refl, sym, ◌∙◌, ap, ap₂}
use mathlib.Core.Logic.{inl, inr, ◌↔◌}
use mathlib.Core.Bool.{Bool, true, false, true≢false}
use mathlib.Core.List.{List, [], ◌∷◌, ◌++◌}
use lib.ListN.{length, get_or, drop, length-drop}
use lib.Seq.{get_or-take, get_or-drop, length-take-le}
use Rattle.basics.specs.Folds.{keep}
use Rattle.basics.specs.Told.{Lent}
use Rattle.basics.proofs.Folds.{keep_append}
use Rattle.records.specs.Layout.{wire_count}
use Rattle.counts.specs.Counts.{binom}
use Rattle.revolving.specs.Order.{revolving, set_at, rank_of, is_set}
use Rattle.revolving.proofs.Rising.{is_set-parts}
use Rattle.revolving.proofs.Revolving.{revolving-length, set_at-is-set, rank_of-set, set_of_rank}
use Rattle.breaking.specs.Breaking.{is_breaking}
use Rattle.search.specs.Search.{searched, stretch}
use Rattle.verdict_answers.specs.Answers.{notion_of, first_shown, first_ranked, verdict_of, range_check}
use Rattle.verdict_answers.specs.Guarantee.{Watched}
use Rattle.verdict_answers.specs.First.{NotAfter, FirstBreaking, FirstInRange}
use Rattle.verdict_answers.specs.Jobs.{nothing, found, broken, Ordered, Asked}
use Rattle.search.proofs.Keeping.{each_place, keep_place, none-keep, keep-none, at_place}
use Rattle.search.proofs.Ranges.{rank-first}
use Rattle.search.proofs.Sizes.{searched-none, searched-suc}
use Rattle.verdict_answers.proofs.Watching.{set-watched, watched-set, each-searched, all_whole}
use Rattle.verdict_answers.proofs.Accepting.{shown-nil, shown-set, ranked-nil, ranked-set}
use Rattle.verdict_answers.proofs.Conditions.{verdict_answered, range_answered}

-- ---- the verdict

-- what is found first in all sizes is found first in one of them, and nothing in the sizes below
first_size : (test : List ℕ → Bool) (n t : ℕ) (s : List ℕ) (later : List (List ℕ)) → keep test (searched n t) ≡ s ∷ later
    → (k : ℕ) × (k < t) × (keep test (searched n k) ≡ []) × ((rest : List (List ℕ)) × (keep test (revolving n (suc k)) ≡ s ∷ rest))
first_size test n zero s later e =
    let f = sym (ap (keep test) (searched-none n)) ∙ e in let z : ◌≡◌ {A = ℕ} 0 1 = cc in let w : ⊥ = omega (arith, z) in absurd w
first_size test n (suc t) s later e =
    go (keep test (searched n t)) refl (sym (ap (keep test) (searched-suc n t) ∙ keep_append test (searched n t) (revolving n (suc t))) ∙ e)
    (first_size test n t)
  where
    First : ℕ → List ℕ → Type 0
    First t s = (k : ℕ) × (k < t) × (keep test (searched n k) ≡ []) × ((rest : List (List ℕ)) × (keep test (revolving n (suc k)) ≡ s ∷ rest))

    go : (l : List (List ℕ)) → keep test (searched n t) ≡ l → l ++ keep test (revolving n (suc t)) ≡ s ∷ later
        → ((s : List ℕ) (later : List (List ℕ)) → keep test (searched n t) ≡ s ∷ later → First t s) → First (suc t) s
    go [] none q ih = (t, le_refl (suc t), none, (later, q))
    go (u ∷ l) p q ih =
        let same : u ≡ s = cc in
        let r = ih s l (p ∙ ap {B = List (List ℕ)} (λ v. v ∷ l) same) in
        (r.0, omega (arith, r.1), r.2, r.3)

module _ (table : List ℕ) (shares masks notion order : ℕ) where
  abbrev n : ℕ
  n = wire_count table

  abbrev test : List ℕ → Bool
  test = is_breaking (notion_of notion) table shares masks

  pub first-is : (s : List ℕ) (later : List (List ℕ)) → keep test (searched n order) ≡ s ∷ later → FirstBreaking table shares masks notion order s
  first-is s later e =
      let f = first_size test n order s later e in
      let k = f.0 in
      let place = keep_place test (revolving n (suc k)) s [] f.3.0 f.3.1 in
      let i = place.0 in
      let counted : i < binom n (suc k) = omega (arith, place.1, revolving-length n (suc k)) in
      let isset : is_set n (suc k) s ≡ true = ap (is_set n (suc k)) (sym place.2) ∙ set_at-is-set n (suc k) i counted in
      let long : length s ≡ suc k = (is_set-parts n (suc k) s isset).0 in
      let rank : rank_of n s ≡ i = ap (rank_of n) (sym place.2) ∙ rank_of-set n (suc k) i counted in
      record {
        watched = set-watched table order (suc k) s isset f.1;
        breaking = place.3;
        first = λ u w b. against k i f.2 place.4 long rank u w b (dec_lt (length u) (suc k)) (dec_lt (suc k) (length u));
      }
    where
      -- a set that came before would have been found
      against : (k i : ℕ) → keep test (searched n k) ≡ [] → ((j : ℕ) → j < i → test (get_or (revolving n (suc k)) j []) ≡ false)
          → length s ≡ suc k → rank_of n s ≡ i → (u : List ℕ) → Watched table order u → test u ≡ true → Dec (length u < suc k) → Dec (suc k < length u)
          → NotAfter n s u
      against k i none before long rank u w b (yes less) d =
          let small : Watched table k u = record { distinct = w.distinct; within = w.within; few = omega arith } in
          absurd (true≢false (sym b ∙ all_whole table shares masks notion k none u small))
      against k i none before long rank u w b (no same) (yes more) = inl (omega arith)
      against k i none before long rank u w b (no same) (no more) =
          let size : length u ≡ suc k = omega arith in
          let stands = set_of_rank n (length u) u (watched-set table order u w) in
          let at : test (set_at n (suc k) (rank_of n u)) ≡ true = ap (λ (m : ℕ). test (set_at n m (rank_of n u))) (sym size) ∙ ap test stands.1 ∙ b in
          inr (long ∙ sym size, late (dec_lt (rank_of n u) i) at)
        where
          late : Dec (rank_of n u < i) → test (set_at n (suc k) (rank_of n u)) ≡ true → rank_of n s ≤ rank_of n u
          late (yes h) at = absurd (true≢false (sym at ∙ before (rank_of n u) h))
          late (no h) at = omega (arith, rank)

  -- of two sets neither comes after the other only if they are one
  same_place : (s u : List ℕ) → Watched table order s → Watched table order u → NotAfter n s u → NotAfter n u s → s ≡ u
  same_place s u a b p q =
      let e = even p q in
      sym (set_of_rank n (length s) s (watched-set table order s a)).1 ∙ ap₂ {C = List ℕ} (set_at n) e.0 e.1
      ∙ (set_of_rank n (length u) u (watched-set table order u b)).1
    where
      even : NotAfter n s u → NotAfter n u s → (length s ≡ length u) × (rank_of n s ≡ rank_of n u)
      even (inl p) (inl q) = let z : ⊥ = omega arith in absurd z
      even (inl p) (inr q) = let z : ⊥ = omega (arith, q.0) in absurd z
      even (inr p) (inl q) = let z : ⊥ = omega (arith, p.0) in absurd z
      even (inr p) (inr q) = (p.0, omega (arith, p.1, q.1))

  module _ (buffer : List ℕ) (o : Ordered table shares masks notion order buffer) where
    answered : verdict_of table shares masks notion order buffer ≡ first_shown (keep test (searched n order)) buffer
    answered = verdict_answered table shares masks notion order buffer o

    pub holds-exactly : (verdict_of table shares masks notion order buffer ≡ nothing buffer) ↔ ((u : List ℕ) → Watched table order u → test u ≡ false)
    holds-exactly = (
      λ e. all_whole table shares masks notion order (shown-nil buffer (keep test (searched n order))
          (ap (λ (a : Lent). a.told) (sym answered ∙ e))),
      λ whole. answered ∙ ap (λ (l : List (List ℕ)). first_shown l buffer)
          (none-keep test (searched n order) (each-searched n (λ s. test s ≡ false) order
          (λ k b s e. whole s (set-watched table order (suc k) s e b)))),
    )

    pub shows-exactly : (s : List ℕ) → (verdict_of table shares masks notion order buffer
        ≡ broken s buffer) ↔ FirstBreaking table shares masks notion order s
    shows-exactly s = (there, back)
      where
        there : verdict_of table shares masks notion order buffer ≡ broken s buffer → FirstBreaking table shares masks notion order s
        there e = let r = shown-set buffer (keep test (searched n order)) s (sym answered ∙ e) in first-is s r.0 r.1

        back : FirstBreaking table shares masks notion order s → verdict_of table shares masks notion order buffer ≡ broken s buffer
        back f = go (keep test (searched n order)) refl
          where
            go : (l : List (List ℕ)) → keep test (searched n order) ≡ l → verdict_of table shares masks notion order buffer ≡ broken s buffer
            go [] e = absurd (true≢false (sym f.breaking ∙ all_whole table shares masks notion order e s f.watched))
            go (u ∷ later) e =
                let g = first-is u later e in
                let same : u ≡ s = same_place u s g.watched f.watched (g.first s f.watched f.breaking)
                (f.first u g.watched g.breaking) in
                answered ∙ ap (λ (l : List (List ℕ)). first_shown l buffer) e ∙ ap (λ (v : List ℕ). broken v buffer) same

-- ---- the range check

module _ (table : List ℕ) (shares masks notion size from to : ℕ) (buffer : List ℕ) (o : Asked table shares masks notion size buffer)
    (rises : from ≤ to)
    (ends : to ≤ binom (wire_count table) size) where
  abbrev wires : ℕ
  wires = wire_count table

  abbrev tests : List ℕ → Bool
  tests = is_breaking (notion_of notion) table shares masks

  ranked : range_check table shares masks notion size from to buffer ≡ first_ranked wires (keep tests (stretch wires size from to)) buffer
  ranked = range_answered table shares masks notion size from to buffer o rises ends

  long : (end : ℕ) → end ≤ to → length (stretch wires size from end) ≡ end - from
  long end h =
      length-take-le (end - from) (drop from (revolving wires size))
      (omega (arith, length-drop from (revolving wires size), revolving-length wires size))

  at_rank : (end i : ℕ) → i < end - from → get_or (stretch wires size from end) i [] ≡ set_at wires size (from + i)
  at_rank end i h = get_or-take (end - from) (drop from (revolving wires size)) i [] h ∙ get_or-drop from (revolving wires size) i []

  whole-none : (end : ℕ) → end ≤ to → ((r : ℕ) → from ≤ r → r < end → tests (set_at wires size r) ≡ false) → keep tests (stretch wires size from end)
      ≡ []
  whole-none end h whole =
      none-keep tests (stretch wires size from end)
      (each_place (λ s. tests s ≡ false) (stretch wires size from end) []
      (λ i b. ap tests (at_rank end i (omega (arith, long end h))) ∙ whole (from + i) (omega arith) (omega (arith, long end h))))

  pub clean-exactly : (range_check table shares masks notion size from to buffer ≡ nothing buffer)
      ↔ ((r : ℕ) → from ≤ r → r < to → tests (set_at wires size r) ≡ false)
  clean-exactly = (there, λ whole. ranked ∙ ap (λ (l : List (List ℕ)). first_ranked wires l buffer) (whole-none to (le_refl to) whole))
    where
      there : range_check table shares masks notion size from to buffer ≡ nothing buffer → (r : ℕ) → from ≤ r → r < to → tests (set_at wires size r)
          ≡ false
      there e r low high =
          let none = ranked-nil buffer wires (keep tests (stretch wires size from to)) (ap (λ (a : Lent). a.told) (sym ranked ∙ e)) in
          let inside : r - from < to - from = omega arith in
          let same : from + (r - from) ≡ r = omega arith in
          ap (λ (k : ℕ). tests (set_at wires size k)) (sym same) ∙ ap tests (sym (at_rank to (r - from) inside))
          ∙ at_place (λ s. tests s ≡ false) (stretch wires size from to) [] (keep-none tests (stretch wires size from to) none) (r - from)
          (omega (arith, long to (le_refl to)))

  pub finds-exactly : (s : List ℕ) (rank : ℕ) → (range_check table shares masks notion size from to buffer ≡ found s rank buffer)
      ↔ FirstInRange table shares masks notion size from to s rank
  finds-exactly s rank = (there, back)
    where
      there : range_check table shares masks notion size from to buffer ≡ found s rank buffer
          → FirstInRange table shares masks notion size from to s rank
      there e =
          let shown = ranked-set buffer wires (keep tests (stretch wires size from to)) s rank (sym ranked ∙ e) in
          let place = keep_place tests (stretch wires size from to) s [] shown.0 shown.1 in
          let i = place.0 in
          let inside : i < to - from = omega (arith, place.1, long to (le_refl to)) in
          let stands : set_at wires size (from + i) ≡ s = sym (at_rank to i inside) ∙ place.2 in
          let counted : from + i < binom wires size = omega arith in
          let here : rank ≡ from + i = shown.2 ∙ ap (rank_of wires) (sym stands) ∙ rank_of-set wires size (from + i) counted in
          record {
            low = omega arith;
            high = omega arith;
            stands = ap (set_at wires size) here ∙ stands;
            breaking = place.3;
            first = λ r low less.
                let same : from + (r - from) ≡ r = omega arith in
                ap (λ (k : ℕ). tests (set_at wires size k)) (sym same) ∙ ap tests (sym (at_rank to (r - from) (omega arith)))
                ∙ place.4 (r - from) (omega arith);
          }

      back : FirstInRange table shares masks notion size from to s rank → range_check table shares masks notion size from to buffer
          ≡ found s rank buffer
      back f =
          let r = rank-first tests wires size from rank to f.low f.high ends (whole-none rank (omega (arith, f.high)) f.first)
          (ap tests f.stands ∙ f.breaking) in
          let counted : rank < binom wires size = omega (arith, f.high) in
          let here : rank_of wires (set_at wires size rank) ≡ rank = rank_of-set wires size rank counted in
          ranked ∙ ap (λ (l : List (List ℕ)). first_ranked wires l buffer) r.1
          ∙ ap₂ (λ (u : List ℕ) (k : ℕ). found u k buffer) f.stands here
