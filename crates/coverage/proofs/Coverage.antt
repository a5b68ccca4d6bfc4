-- How far the ranks of a size are covered: after a pass, after all passes, and over the sizes.
--     Tried, tried_none, tried_more, tried_all      a pass that has added nothing has found each report that it tried not to cover the rank
--     reach_stop, reach_end     pass after pass
--     Covered, covered_none, covered_more, found-uncovered, none-uncovered     size after size
use Prim.Native.Nat.{ℕ, ◌+◌, ◌-◌, ◌≤◌, ◌<◌}
use native.Mathlib.Nat.{not-suc-le-zero}
use native.Mathlib.Omega.{arith}
use Rattle.std.specs.Prelude.{Some, None}
use mathlib.Core.Path.{◌≡◌, sym, ◌∙◌, ap, subst}
use mathlib.Core.Logic.{◌⊎◌, inl, inr}
use mathlib.Core.Bool.{Bool, true, false, cond, not, true≢false}
use mathlib.Core.List.{List}
use Rattle.basics.proofs.Tests.{failed}
use Rattle.basics.proofs.Numbers.{below_next}
use Rattle.counts.specs.Counts.{binom}
use Rattle.filed_reports.specs.Bytes.{report_at, report_count}
use Rattle.filed_reports.specs.Filed.{covers, covered}
use Rattle.filed_reports.specs.Places.{PlaceIs}
use Rattle.filed_reports.proofs.Filed.{covers-exactly, covered-exactly}
use Rattle.extents.specs.Extents.{Onward}
use Rattle.extents.proofs.Extents.{onward_none, onward_join, Extended}
use Rattle.coverage.specs.Coverage.{Reach}

module _ (reports : List ℕ) (size : ℕ) where
  -- ---- a pass

  pub record Tried (from : ℕ) (backward : Bool) (turn reach : ℕ) : Type 0 where
    pub onward : Onward reports size from reach
    pub missed : reach ≡ from → (t : ℕ) → t < turn
        → covers (report_at reports (cond backward (report_count reports - 1 - t) t)) size from ≡ false

  pub tried_none : (from : ℕ) (backward : Bool) → Tried from backward 0 from
  tried_none from backward = record { onward = onward_none reports size from; missed = λ e t h. absurd (not-suc-le-zero h) }

  pub tried_more : (from : ℕ) (backward : Bool) (turn reach to i : ℕ) → Tried from backward turn reach
      → (i < report_count reports) × (i ≡ cond backward (report_count reports - 1 - turn) turn) → Extended reports size i reach to
      → Tried from backward (turn + 1) to
  tried_more from backward turn reach to i tried at more =
      record { onward = onward_join reports size from reach to tried.onward more.0; missed = λ e t h. go e t (below_next t turn h) }
    where
      go : to ≡ from → (t : ℕ) → (t ≡ turn) ⊎ (t < turn) → covers (report_at reports (cond backward (report_count reports - 1 - t) t)) size from ≡ false
      go e t (inl same) =
          let stayed : reach ≡ from = omega (arith, e, tried.onward.rises, more.0.rises) in
          let unmoved : to ≡ reach = omega (arith, e, stayed) in
          ap (λ (k : ℕ). covers (report_at reports (cond backward (report_count reports - 1 - k) k)) size from) same
          ∙ ap (λ (k : ℕ). covers (report_at reports k) size from) (sym at.1)
          ∙ ap (covers (report_at reports i) size) (sym stayed) ∙ more.1 at.0 unmoved
      go e t (inr less) = let stayed : reach ≡ from = omega (arith, e, tried.onward.rises, more.0.rises) in tried.missed stayed t less

  -- every report was looked at, from the first on or from the last on
  each_way : (P : ℕ → Type 0) (count : ℕ) (backward : Bool) → ((t : ℕ) → t < count → P (cond backward (count - 1 - t) t)) → (i : ℕ) → i < count → P i
  each_way P count true all i h =
      let back : count - 1 - (count - 1 - i) ≡ i = omega (arith, h) in subst P back (all (count - 1 - i) (omega (arith, h)))
  each_way P count false all i h = all i h

  pub tried_all : (from : ℕ) (backward : Bool) (turn reach to : ℕ) → Tried from backward turn reach → report_count reports ≤ turn
      → Onward reports size reach to → Onward reports size from to × (to ≡ from → covered reports size from ≡ false)
  tried_all from backward turn reach to tried h last = (onward_join reports size from reach to tried.onward last, λ e. none (stay e))
    where
      stay : to ≡ from → reach ≡ from
      stay e = omega (arith, e, tried.onward.rises, last.rises)

      none : reach ≡ from → covered reports size from ≡ false
      none e = failed (covered reports size from) (λ f.
          let s = (covered-exactly size from reports).0 f in
          true≢false (sym ((covers-exactly size from (report_at reports s.0)).1 s.2)
          ∙ each_way (λ i. covers (report_at reports i) size from ≡ false) (report_count reports) backward
          (λ t l. tried.missed e t (omega (arith, l, h))) s.0 s.1))

  -- ---- pass after pass

  pub reach_stop : (all reach next : ℕ) → Onward reports size 0 reach → next ≡ reach → (next ≡ reach → covered reports size reach ≡ false)
      → Reach reports size all reach
  reach_stop all reach next a e stop = record { before = λ rank h. a.between rank (omega arith) h; ends = λ h. stop e }

  pub reach_end : (all reach : ℕ) → Onward reports size 0 reach → all ≤ reach → Reach reports size all reach
  reach_end all reach a h =
      record { before = λ rank l. a.between rank (omega arith) l; ends = λ l. let z : ⊥ = omega (arith, h, l) in absurd z }

-- ---- size after size

module _ (reports : List ℕ) (wires : ℕ) where
  abbrev uncovered : ℕ → ℕ → Bool
  uncovered size rank = not (covered reports size rank)

  -- the sizes below one are covered
  pub record Covered (size : ℕ) : Type 0 where
    pub whole : (k rank : ℕ) → 1 ≤ k → k < size → rank < binom wires k → uncovered k rank ≡ true → ⊥

  pub covered_none : Covered 1
  covered_none = record { whole = λ k rank low high. let z : ⊥ = omega (arith, low, high) in absurd z }

  shown : (b : Bool) → b ≡ true → not b ≡ true → ⊥
  shown true e f = true≢false (sym f)
  shown false e f = true≢false (sym e)

  pub covered_more : (size all rank : ℕ) → Covered size → all ≡ binom wires size → Reach reports size all rank → all ≤ rank → Covered (size + 1)
  covered_more size all rank c e r h = record { whole = λ k i low high. at k i low (below_next k size high) }
    where
      at : (k i : ℕ) → 1 ≤ k → (k ≡ size) ⊎ (k < size) → i < binom wires k → uncovered k i ≡ true → ⊥
      at k i low (inl same) = subst (λ (x : ℕ). i < binom wires x → uncovered x i ≡ true → ⊥) (sym same)
          (λ l. shown (covered reports size i) (r.before i (omega (arith, h, l, e))))
      at k i low (inr less) = c.whole k i low less

  pub found-uncovered : (order size all rank : ℕ) → Covered size → 1 ≤ size → size ≤ order → all ≡ binom wires size → Reach reports size all rank
      → rank < all → PlaceIs (binom wires) uncovered order (Some (record { size = size; rank = rank }))
  found-uncovered order size all rank c low high e r h = record {
    low = low;
    high = high;
    counted = omega (arith, h, e);
    here = ap not (r.ends h);
    smaller = c.whole;
    before = λ i l. shown (covered reports size i) (r.before i l);
  }

  pub none-uncovered : (order size : ℕ) → Covered size → order < size → PlaceIs (binom wires) uncovered order None
  none-uncovered order size c h = record { nowhere = λ k rank low high. c.whole k rank low (omega (arith, high, h)) }
