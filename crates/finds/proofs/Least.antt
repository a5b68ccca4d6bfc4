-- The smallest size, and then the lowest rank, that a report has found.
--     decides                         the comparison, in words
--     Least, least_none, least_taken, least_left, least_end     report after report, from none on
use Prim.Native.Nat.{ℕ, ◌+◌, ◌≤◌, ◌<◌}
use native.Mathlib.Nat.{not-suc-le-zero}
use native.Mathlib.Decide.{dec_lt}
use native.Mathlib.Omega.{arith}
use Rattle.std.specs.Prelude.{Option, None, Some}
use mathlib.Core.Path.{◌≡◌, refl, sym, ◌∙◌, ap, subst}
use mathlib.Core.Logic.{◌↔◌, ◌⊎◌, inl, inr, ⊎_elim}
use mathlib.Core.Bool.{Bool, true, false, true≢false}
use mathlib.Core.List.{List}
use Rattle.basics.specs.Conditions as conditions
use Rattle.basics.proofs.Conditions.{less, equal, fails, both, one_of}
use Rattle.basics.proofs.Numbers.{below_next}
use Rattle.filed_reports.specs.declared.Report.{Report}
use Rattle.filed_reports.specs.declared.Place.{Place}
use Rattle.filed_reports.specs.Bytes.{all_ones, report_at, report_count}
use Rattle.filed_reports.specs.Filed.{any_misfiled, reported, Filed, Finds}
use Rattle.filed_reports.specs.Places.{PlaceIs}
use Rattle.filed_reports.proofs.Filed.{any-misfiled, filed-exactly, reported-exactly}
use Rattle.finds.specs.Finds.{comes_first}

-- ---- the comparison

-- a report has found a rank, and there is no place yet, or the rank comes before it
abbrev Before : Report → Option Place → Type 0
Before r None = r.found ≡ all_ones → ⊥
Before r (Some p) = (r.found ≡ all_ones → ⊥) × ((r.size < p.size) ⊎ ((r.size ≡ p.size) × (r.found < p.rank)))

decides : (r : Report) (o : Option Place) → (comes_first r o ≡ true) ↔ Before r o
unfolding comes_first
decides r None = fails (equal r.found all_ones)
decides r (Some p) =
    both (fails (equal r.found all_ones)) (one_of (less r.size p.size) (both (equal r.size p.size) (less r.found p.rank)))

-- ---- report after report

-- a place comes no later than what a report has found
abbrev NotAfter : Place → Report → Type 0
NotAfter p r = (p.size < r.size) ⊎ ((p.size ≡ r.size) × (p.rank ≤ r.found))

module _ (reports : List ℕ) where
  abbrev at : ℕ → Report
  at i = report_at reports i

  abbrev Found : ℕ → Type 0
  Found i = (at i).found ≡ all_ones → ⊥

  -- of the reports before one
  pub record LeastOf (i : ℕ) (p : Place) : Type 0 where
    pub some : (j : ℕ) × (j < i) × Finds (at j) p.size p.rank
    pub first : (j : ℕ) → j < i → Found j → NotAfter p (at j)

  abbrev pub Least : ℕ → Option Place → Type 0
  Least i None = (j : ℕ) → j < i → Found j → ⊥
  Least i (Some p) = LeastOf i p

  pub least_none : Least 0 None
  least_none = λ j h. absurd (not-suc-le-zero h)

  module _ (i : ℕ) (r : Report) (is : r ≡ at i) where
    found_here : (j : ℕ) → j ≡ i → Found j → r.found ≡ all_ones → ⊥
    found_here j same found = subst (λ (x : Report). x.found ≡ all_ones → ⊥) (ap at same ∙ sym is) found

    left : (o : Option Place) → Least i o → (Before r o → ⊥) → Least (i + 1) o
    left None l never = λ j h. at-place j (below_next j i h)
      where
        at-place : (j : ℕ) → (j ≡ i) ⊎ (j < i) → Found j → ⊥
        at-place j (inl same) found = never (found_here j same found)
        at-place j (inr less) found = l j less found
    left (Some p) l never =
        record { some = let s = l.some in (s.0, omega (arith, s.1), s.2); first = λ j h. first j (below_next j i h) }
      where
        here : (r.found ≡ all_ones → ⊥) → NotAfter p r
        here found = go (dec_lt p.size r.size) (dec_lt r.size p.size) (dec_lt r.found p.rank)
          where
            go : Dec (p.size < r.size) → Dec (r.size < p.size) → Dec (r.found < p.rank) → NotAfter p r
            go (yes h) x y = inl h
            go (no h) (yes x) y = absurd (never (found, inl x))
            go (no h) (no x) (yes y) = let same : r.size ≡ p.size = omega (arith, h, x) in absurd (never (found, inr (same, y)))
            go (no h) (no x) (no y) = inr (omega (arith, h, x), omega (arith, y))

        first : (j : ℕ) → (j ≡ i) ⊎ (j < i) → Found j → NotAfter p (at j)
        first j (inl same) found = subst (NotAfter p) (is ∙ ap at (sym same)) (here (found_here j same found))
        first j (inr less) found = l.first j less found

    abbrev q : Place
    q = record { size = r.size; rank = r.found }

    taken : (o : Option Place) → Least i o → Before r o → LeastOf (i + 1) q
    taken o l before = record {
      some = (i, omega arith, subst (λ (x : Report). Finds x r.size r.found) is (record { found = some o before; same = refl; here = refl }));
      first = λ j h. first j (below_next j i h);
    }
      where
        some : (o : Option Place) → Before r o → r.found ≡ all_ones → ⊥
        some None b = b
        some (Some p) b = b.0

        earlier : (o : Option Place) → Least i o → Before r o → (j : ℕ) → j < i → Found j → NotAfter q (at j)
        earlier None m b j less found = absurd (m j less found)
        earlier (Some p) m b j less found = go (m.first j less found) b.1
          where
            go : NotAfter p (at j) → (r.size < p.size) ⊎ ((r.size ≡ p.size) × (r.found < p.rank)) → NotAfter q (at j)
            go (inl a) (inl x) = inl (omega (arith, a, x))
            go (inr a) (inl x) = inl (omega (arith, a.0, x))
            go (inl a) (inr x) = inl (omega (arith, a, x.0))
            go (inr a) (inr x) = inr (omega (arith, a.0, x.0), omega (arith, a.1, x.1))

        first : (j : ℕ) → (j ≡ i) ⊎ (j < i) → Found j → NotAfter q (at j)
        first j (inl same) found = subst (NotAfter q) (is ∙ ap at (sym same)) (inr (refl, omega arith))
        first j (inr less) found = earlier o l before j less found

  module _ (i : ℕ) (o : Option Place) (l : Least i o) (r : Report) (is : r ≡ at i) (b : Bool) (e : b ≡ comes_first r o) where
    pub least_left : b ≡ false → Least (i + 1) o
    least_left f = left i r is o l (λ before. true≢false (sym ((decides r o).1 before) ∙ sym e ∙ f))

    pub least_taken : b ≡ true → Least (i + 1) (Some (record { size = r.size; rank = r.found }))
    least_taken f = taken i r is o l ((decides r o).0 (sym e ∙ f))

  -- ---- among the places of reports that are filed as they should be

  filed : (all : ℕ → ℕ) (notion order : ℕ) → any_misfiled all notion order reports ≡ false → (i : ℕ) → i < report_count reports → Filed all notion order (at i)
  filed all notion order e i h =
      (filed-exactly all notion order (at i)).0 (λ m. true≢false (sym ((any-misfiled all notion order reports).1 (i, h, m)) ∙ e))

  least_is : (all : ℕ → ℕ) (notion order : ℕ) (o : Option Place) → any_misfiled all notion order reports ≡ false → Least (report_count reports) o
      → PlaceIs all (reported reports) order o
  least_is all notion order None e l =
      record { nowhere = λ size rank low high counted r. let s = (reported-exactly size rank reports).0 r in l s.0 s.1 s.2.found }
  least_is all notion order (Some p) e l =
      let s = l.some in
      let f = filed all notion order e s.0 s.1 in
      let same = s.2.same in
      let within = f.inside s.2.found in
      let most : (at s.0).to ≤ all p.size = subst (λ (k : ℕ). (at s.0).to ≤ all k) same f.ends in
      record {
        low = omega (arith, f.low, same);
        high = omega (arith, f.high, same);
        counted = omega (arith, within.1, s.2.here, most);
        here = (reported-exactly p.size p.rank reports).1 s;
        smaller = λ k r low less counted t. let u = (reported-exactly k r reports).0 t in smaller k r less u;
        before = λ r less t. let u = (reported-exactly p.size r reports).0 t in before r less u;
      }
    where
      smaller : (k r : ℕ) → k < p.size → conditions.Some (report_count reports) (λ i. Finds (at i) k r) → ⊥
      smaller k r less u =
          ⊎_elim (λ h. omega (arith, h, less, u.2.same)) (λ h. omega (arith, h.0, less, u.2.same)) (l.first u.0 u.1 u.2.found)

      before : (r : ℕ) → r < p.rank → conditions.Some (report_count reports) (λ i. Finds (at i) p.size r) → ⊥
      before r less u =
          ⊎_elim (λ h. omega (arith, h, u.2.same)) (λ h. omega (arith, h.1, less, u.2.here)) (l.first u.0 u.1 u.2.found)

  pub least_end : (all : ℕ → ℕ) (notion order i : ℕ) (o : Option Place) → any_misfiled all notion order reports ≡ false → Least i o → i ≡ report_count reports
      → PlaceIs all (reported reports) order o
  least_end all notion order i o e l whole = least_is all notion order o e (subst (λ (k : ℕ). Least k o) whole l)
