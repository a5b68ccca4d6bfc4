-- What the answers of a pool say of the reports.
--     within                             what is found is a place within the order
--     found_first, first_found           the first place found is the first that is reported
--     place_uncovered, uncovered_place   the first place that is not covered
--     Found, Missing, Whole, three       it is one of the three answers
--     holds-exactly, broken-exactly, uncovered-exactly     each answer is told exactly when what it says is so
--     pool_says                          what each answer says
use Prim.Native.Nat.{ℕ, ◌≤◌, ◌<◌}
use native.Mathlib.Decide.{dec_lt}
use native.Mathlib.Omega.{arith}
use mathlib.Core.Path.{◌≡◌, refl, sym, ◌∙◌, ap, subst}
use mathlib.Core.Logic.{◌↔◌, ◌⊎◌, inl, inr, ⊎_elim}
use mathlib.Core.Bool.{Bool, true, false, not, true≢false}
use mathlib.Core.List.{List, [], ◌∷◌}
use Rattle.std.specs.Prelude.{Result, Ok, Err}
use Rattle.basics.specs.Told.{Told, values}
use Rattle.records.specs.Layout.{wire_count}
use Rattle.counts.specs.Counts.{binom}
use Rattle.filed_reports.specs.Bytes.{report_at}
use Rattle.filed_reports.specs.Filed.{covered, reported}
use Rattle.filed_reports.specs.Places.{NoPlace, FirstPlace}
use Rattle.filed_reports.proofs.Filed.{covered-exactly, reported-exactly}
use Rattle.filed_reports.proofs.Places.{place_either}
use Rattle.pool_answers.specs.declared.Refusal.{Refusal}
use Rattle.pool_answers.specs.declared.Outcome.{Outcome}
use Rattle.pool_answers.specs.Answers.{holds_told, broken_told, uncovered_told, pool_told, pool_of}
use Rattle.pool_answers.specs.Says.{Reported, NoneReported, AllCovered, FirstReported, FirstUncovered, Pooled, PoolSays}
use Rattle.pool_answers.proofs.Telling.{pooled-broken, pooled-uncovered, pooled-holds}
use Rattle.pool_answers.proofs.Conditions.{pool_asked, pool_answered}

not-true : (b : Bool) → (not b ≡ true) ↔ (b ≡ true → ⊥)
not-true true = (λ e f. true≢false (sym e), λ h. absurd (h refl))
not-true false = (λ e f. true≢false (sym f), λ h. refl)

settled : (b : Bool) → (not b ≡ true → ⊥) → b ≡ true
settled true h = refl
settled false h = absurd (h refl)

module _ (table : List ℕ) (shares masks notion order : ℕ) (reports : List ℕ) (p : Pooled table shares masks notion order reports) where
  abbrev n : ℕ
  n = wire_count table

  abbrev uncovered : ℕ → ℕ → Bool
  uncovered size rank = not (covered reports size rank)

  -- what is found is a place within the order
  pub within : (size rank : ℕ) → Reported reports size rank → (1 ≤ size) × (size ≤ order) × (rank < binom n size)
  within size rank s =
      let f = p.filed s.0 s.1 in
      let inside = f.inside s.2.found in
      let most : (report_at reports s.0).to ≤ binom n size =
      subst (λ (k : ℕ). (report_at reports s.0).to ≤ binom n k) s.2.same f.ends in
      (omega (arith, f.low, s.2.same), omega (arith, f.high, s.2.same), omega (arith, inside.1, s.2.here, most))

  first_found : (size rank : ℕ) → FirstPlace (binom n) (reported reports) order size rank → FirstReported reports size rank
  first_found size rank f = record {
    here = (reported-exactly size rank reports).0 f.here;
    first = λ k r s. go k r s (dec_lt size k) (dec_lt k size) (dec_lt r rank);
  }
    where
      go : (k r : ℕ) → Reported reports k r → Dec (size < k) → Dec (k < size) → Dec (r < rank) → (size < k) ⊎ ((size ≡ k) × (rank ≤ r))
      go k r s (yes h) x y = inl h
      go k r s (no h) (yes x) y =
          let w = within k r s in absurd (f.smaller k r w.0 x w.2 ((reported-exactly k r reports).1 s))
      go k r s (no h) (no x) (yes y) =
          let same : k ≡ size = omega (arith, h, x) in
          absurd (f.before r y ((reported-exactly size r reports).1 (subst (λ (i : ℕ). Reported reports i r) same s)))
      go k r s (no h) (no x) (no y) = inr (omega (arith, h, x), omega (arith, y))

  found_first : (size rank : ℕ) → FirstReported reports size rank → FirstPlace (binom n) (reported reports) order size rank
  found_first size rank f =
      let w = within size rank f.here in record {
        low = w.0;
        high = w.1;
        counted = w.2;
        here = (reported-exactly size rank reports).1 f.here;
        smaller = λ k r low less counted e.
            ⊎_elim (λ h. omega (arith, h, less)) (λ h. omega (arith, h.0, less)) (f.first k r ((reported-exactly k r reports).0 e));
        before = λ r less e.
            ⊎_elim (λ h. omega (arith, h)) (λ h. omega (arith, h.1, less)) (f.first size r ((reported-exactly size r reports).0 e));
      }

  none_found : NoneReported reports ↔ NoPlace (binom n) (reported reports) order
  none_found = (
    λ none. record { nowhere = λ size rank low high counted e. none size rank ((reported-exactly size rank reports).0 e) },
    λ none size rank s.
        let w = within size rank s in none.nowhere size rank w.0 w.1 w.2 ((reported-exactly size rank reports).1 s),
  )

  all-covered : AllCovered n order reports ↔ NoPlace (binom n) uncovered order
  all-covered = (
    λ all. record {
      nowhere = λ size rank low high counted e. (not-true (covered reports size rank)).0 e ((covered-exactly size rank reports).1 (all size rank low high counted));
    },
    λ none size rank low high counted.
        (covered-exactly size rank reports).0 (settled (covered reports size rank) (none.nowhere size rank low high counted)),
  )

  uncovered_place : (size rank : ℕ) → FirstPlace (binom n) uncovered order size rank → FirstUncovered n order reports size rank
  uncovered_place size rank f = record {
    low = f.low;
    high = f.high;
    counted = f.counted;
    here = λ s. (not-true (covered reports size rank)).0 f.here ((covered-exactly size rank reports).1 s);
    smaller = λ k r low less counted. (covered-exactly k r reports).0 (settled (covered reports k r) (f.smaller k r low less counted));
    before = λ r less. (covered-exactly size r reports).0 (settled (covered reports size r) (f.before r less));
  }

  place_uncovered : (size rank : ℕ) → FirstUncovered n order reports size rank → FirstPlace (binom n) uncovered order size rank
  place_uncovered size rank f = record {
    low = f.low;
    high = f.high;
    counted = f.counted;
    here = (not-true (covered reports size rank)).1 (λ e. f.here ((covered-exactly size rank reports).0 e));
    smaller = λ k r low less counted e. (not-true (covered reports k r)).0 e ((covered-exactly k r reports).1 (f.smaller k r low less counted));
    before = λ r less e. (not-true (covered reports size r)).0 e ((covered-exactly size r reports).1 (f.before r less));
  }

  abbrev told : Told
  told = pool_of table shares masks notion order reports

  -- which of the three it is
  abbrev pub Found : Type 0
  Found = (size rank : ℕ) × FirstReported reports size rank × (told ≡ broken_told size rank)

  abbrev pub Missing : Type 0
  Missing = (size rank : ℕ) × NoneReported reports × FirstUncovered n order reports size rank × (told ≡ uncovered_told size rank)

  abbrev pub Whole : Type 0
  Whole = NoneReported reports × AllCovered n order reports × (told ≡ holds_told)

  told-broken : (size rank : ℕ) → FirstReported reports size rank → told ≡ broken_told size rank
  told-broken size rank f =
      pool_answered table shares masks notion order reports p ∙ pooled-broken n order reports size rank (found_first size rank f)

  told-uncovered : NoneReported reports → (size rank : ℕ) → FirstUncovered n order reports size rank → told ≡ uncovered_told size rank
  told-uncovered none size rank f =
      pool_answered table shares masks notion order reports p
      ∙ pooled-uncovered n order reports (none_found.0 none) size rank (place_uncovered size rank f)

  told-holds : NoneReported reports → AllCovered n order reports → told ≡ holds_told
  told-holds none all =
      pool_answered table shares masks notion order reports p ∙ pooled-holds n order reports (none_found.0 none) (all-covered.0 all)

  pub three : Found ⊎ (Missing ⊎ Whole)
  three = go (place_either (binom n) (reported reports) order) (place_either (binom n) uncovered order)
    where
      go : NoPlace (binom n) (reported reports) order ⊎ ((size rank : ℕ) × FirstPlace (binom n) (reported reports) order size rank)
          → NoPlace (binom n) uncovered order ⊎ ((size rank : ℕ) × FirstPlace (binom n) uncovered order size rank)
          → Found ⊎ (Missing ⊎ Whole)
      go (inr f) x = let s = first_found f.0 f.1 f.2 in inl (f.0, f.1, s, told-broken f.0 f.1 s)
      go (inl none) (inr u) =
          let m = none_found.1 none in
          let s = uncovered_place u.0 u.1 u.2 in
          inr (inl (u.0, u.1, m, s, told-uncovered m u.0 u.1 s))
      go (inl none) (inl whole) =
          let m = none_found.1 none in
          let a = all-covered.1 whole in
          inr (inr (m, a, told-holds m a))

  pub broken-exactly : (size rank : ℕ) → (told ≡ broken_told size rank) ↔ FirstReported reports size rank
  broken-exactly size rank = (λ e. go e three, told-broken size rank)
    where
      go : told ≡ broken_told size rank → Found ⊎ (Missing ⊎ Whole) → FirstReported reports size rank
      go e (inl f) =
          let same = sym f.3 ∙ e in
          let k : f.0 ≡ size = cc in
          let r : f.1 ≡ rank = cc in
          subst (λ (i : ℕ). FirstReported reports size i) r (subst (λ (i : ℕ). FirstReported reports i f.1) k f.2)
      go e (inr (inl m)) = let same = sym m.4 ∙ e in let z : ◌≡◌ {A = ℕ} 3 2 = cc in let w : ⊥ = omega (arith, z) in absurd w
      go e (inr (inr w)) = let same = sym w.2 ∙ e in let z : ◌≡◌ {A = ℕ} 1 2 = cc in let v : ⊥ = omega (arith, z) in absurd v

  pub uncovered-exactly : (size rank : ℕ) → (told ≡ uncovered_told size rank) ↔ (NoneReported reports × FirstUncovered n order reports size rank)
  uncovered-exactly size rank = (λ e. go e three, λ h. told-uncovered h.0 size rank h.1)
    where
      go : told ≡ uncovered_told size rank → Found ⊎ (Missing ⊎ Whole) → NoneReported reports × FirstUncovered n order reports size rank
      go e (inl f) = let same = sym f.3 ∙ e in let z : ◌≡◌ {A = ℕ} 2 3 = cc in let w : ⊥ = omega (arith, z) in absurd w
      go e (inr (inl m)) =
          let same = sym m.4 ∙ e in
          let k : m.0 ≡ size = cc in
          let r : m.1 ≡ rank = cc in (
            m.2,
            subst (λ (i : ℕ). FirstUncovered n order reports size i) r (subst (λ (i : ℕ). FirstUncovered n order reports i m.1) k m.3),
          )
      go e (inr (inr w)) = let same = sym w.2 ∙ e in let z : ◌≡◌ {A = ℕ} 1 3 = cc in let v : ⊥ = omega (arith, z) in absurd v

  pub holds-exactly : (told ≡ holds_told) ↔ (NoneReported reports × AllCovered n order reports)
  holds-exactly = (λ e. go e three, λ h. told-holds h.0 h.1)
    where
      go : told ≡ holds_told → Found ⊎ (Missing ⊎ Whole) → NoneReported reports × AllCovered n order reports
      go e (inl f) = let same = sym f.3 ∙ e in let z : ◌≡◌ {A = ℕ} 2 1 = cc in let w : ⊥ = omega (arith, z) in absurd w
      go e (inr (inl m)) = let same = sym m.4 ∙ e in let z : ◌≡◌ {A = ℕ} 3 1 = cc in let w : ⊥ = omega (arith, z) in absurd w
      go e (inr (inr w)) = (w.0, w.1)

-- ---- of the code's answer

module _ (table : List ℕ) (shares masks notion order : ℕ) (reports : List ℕ) where
  accepted : (l : List ℕ) → values l ≡ pool_of table shares masks notion order reports → Pooled table shares masks notion order reports
  accepted l e = (pool_asked table shares masks notion order reports).0 (l, sym e)

  pub pool_says : (answer : Result Outcome Refusal) → pool_told answer ≡ pool_of table shares masks notion order reports
      → PoolSays answer table shares masks notion order reports
  pool_says (Ok Outcome.Holds) e = record {
    holds = λ same. (holds-exactly table shares masks notion order reports (accepted (1 ∷ []) e)).0 (sym e);
    broken = λ size rank same. let z : ◌≡◌ {A = ℕ} 0 1 = cc in absurd (omega (arith, z));
    uncovered = λ size rank same. let z : ◌≡◌ {A = ℕ} 0 1 = cc in absurd (omega (arith, z));
  }
  pool_says (Ok (Outcome.Broken size rank)) e = record {
    holds = λ same. let z : ◌≡◌ {A = ℕ} 0 1 = cc in absurd (omega (arith, z));
    broken = λ k r same. let i : size ≡ k = cc in let j : rank ≡ r = cc in
        (broken-exactly table shares masks notion order reports (accepted (2 ∷ size ∷ rank ∷ []) e) k r).0
        (sym e ∙ ap (λ (x : ℕ). broken_told x rank) i ∙ ap (broken_told k) j);
    uncovered = λ k r same. let z : ◌≡◌ {A = ℕ} 0 1 = cc in absurd (omega (arith, z));
  }
  pool_says (Ok (Outcome.Uncovered size rank)) e = record {
    holds = λ same. let z : ◌≡◌ {A = ℕ} 0 1 = cc in absurd (omega (arith, z));
    broken = λ k r same. let z : ◌≡◌ {A = ℕ} 0 1 = cc in absurd (omega (arith, z));
    uncovered = λ k r same. let i : size ≡ k = cc in let j : rank ≡ r = cc in
        (uncovered-exactly table shares masks notion order reports (accepted (3 ∷ size ∷ rank ∷ []) e) k r).0
        (sym e ∙ ap (λ (x : ℕ). uncovered_told x rank) i ∙ ap (uncovered_told k) j);
  }
  pool_says (Err why) e = record {
    holds = λ same. let z : ◌≡◌ {A = ℕ} 0 1 = cc in absurd (omega (arith, z));
    broken = λ k r same. let z : ◌≡◌ {A = ℕ} 0 1 = cc in absurd (omega (arith, z));
    uncovered = λ k r same. let z : ◌≡◌ {A = ℕ} 0 1 = cc in absurd (omega (arith, z));
  }
