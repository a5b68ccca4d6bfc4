-- What one report more adds.
--     onward_none, onward_join       nothing more; one after the other
--     Extended                       what a report, tried at a rank, promises
--     not_listed, other_size, starts_later, ends_sooner, extends     what a report adds
use Prim.Native.Nat.{ℕ, ◌≤◌, ◌<◌}
use native.Mathlib.Nat.{le_refl}
use native.Mathlib.Decide.{dec_lt}
use native.Mathlib.Omega.{arith}
use mathlib.Core.Path.{◌≡◌, ◌∙◌, ap, subst}
use mathlib.Core.Bool.{true, false}
use mathlib.Core.List.{List}
use Rattle.basics.proofs.Tests.{failed}
use Rattle.filed_reports.specs.declared.Report.{Report}
use Rattle.filed_reports.specs.Bytes.{report_at, report_count}
use Rattle.filed_reports.specs.Filed.{covers, covered, Covers}
use Rattle.filed_reports.proofs.Filed.{covers-exactly, covered-exactly}
use Rattle.extents.specs.Extents.{Onward}

-- ---- one report more

module _ (reports : List ℕ) (size : ℕ) where
  pub onward_none : (reach : ℕ) → Onward reports size reach reach
  onward_none reach = record { rises = le_refl reach; between = λ rank low high. let z : ⊥ = omega (arith, low, high) in absurd z }

  pub onward_join : (from reach to : ℕ) → Onward reports size from reach → Onward reports size reach to → Onward reports size from to
  onward_join from reach to a b = record { rises = omega (arith, a.rises, b.rises); between = λ rank low high. at rank low high (dec_lt rank reach) }
    where
      at : (rank : ℕ) → from ≤ rank → rank < to → Dec (rank < reach) → covered reports size rank ≡ true
      at rank low high (yes h) = a.between rank low h
      at rank low high (no h) = b.between rank (omega (arith, h)) high

  -- what `extended` promises
  abbrev pub Extended : ℕ → ℕ → ℕ → Type 0
  Extended i reach to =
      Onward reports size reach to × (i < report_count reports → to ≡ reach → covers (report_at reports i) size reach ≡ false)

  pub not_listed : (i reach : ℕ) → report_count reports ≤ i → Extended i reach reach
  not_listed i reach h = (onward_none reach, λ l e. let z : ⊥ = omega (arith, h, l) in absurd z)

  module _ (i reach : ℕ) (r : Report) (is : r ≡ report_at reports i) where
    not_covering : (Covers r size reach → ⊥) → Extended i reach reach
    not_covering n = (
      onward_none reach,
      λ l e. failed (covers (report_at reports i) size reach)
          (λ f. n ((covers-exactly size reach r).0 (ap (λ (x : Report). covers x size reach) is ∙ f))),
    )

    pub other_size : (r.size ≡ size → ⊥) → Extended i reach reach
    other_size d = not_covering (λ c. d c.same)

    pub starts_later : reach < r.from → Extended i reach reach
    starts_later h = not_covering (λ c. omega (arith, h, c.low))

    pub ends_sooner : r.to ≤ reach → Extended i reach reach
    ends_sooner h = not_covering (λ c. omega (arith, h, c.high))

    pub extends : i < report_count reports → r.size ≡ size → r.from ≤ reach → reach < r.to → Extended i reach r.to
    extends l same low high = (
      record {
        rises = omega (arith, high);
        between = λ rank above below. (covered-exactly size rank reports).1 (
          i,
          l,
          subst (λ (x : Report). Covers x size rank) is (record { same = same; low = omega (arith, low, above); high = below }),
        );
      },
      λ m e. let z : ⊥ = omega (arith, high, e) in absurd z,
    )
