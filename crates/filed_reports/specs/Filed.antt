-- What a report says (request No. 5). The number of sets of each size is an argument: `all k`.
--     is_clean                the report has no found rank
--     misfiled               the tests of 25 on a report
--     any_misfiled            some report of a list fails them
--     covers, covered        a rank of a size is between the bounds of a report; of some report of a list
--     finds, reported        a rank of a size is the found rank of a report; of some report of a list
--     Misfiled, Covers, Finds     the same in words; Filed: not misfiled
use Rattle.std.specs.Prelude.{ℕ, ◌≤◌, ◌<◌, ◌≡◌, ◌⊎◌, Bool, not, ◌&&◌, ◌||◌, List, ltb, leb, eqb}
use Rattle.basics.specs.Folds.{some, up_to}
use Rattle.filed_reports.specs.declared.Report.{Report}
use Rattle.filed_reports.specs.Bytes.{all_ones, report_at, report_count}

abbrev pub is_clean : Report → Bool
is_clean r = eqb r.found all_ones

-- "another notion, a size not 1 to the order, nonzero filling, bounds that 18 bars or a found rank outside them"
abbrev pub misfiled : (ℕ → ℕ) → ℕ → ℕ → Report → Bool
misfiled all notion order r =
    not (eqb r.notion notion)
    || (not (leb 1 r.size && leb r.size order)
    || (not (eqb r.filling 0)
    || (not (leb r.from r.to && leb r.to (all r.size))
    || (not (is_clean r) && not (leb r.from r.found && ltb r.found r.to)))))

unfoldable pub any_misfiled : (ℕ → ℕ) → ℕ → ℕ → List ℕ → Bool
any_misfiled all notion order reports = some (λ i. misfiled all notion order (report_at reports i)) (up_to (report_count reports))

-- from its lower bound up to, without, its upper one
abbrev pub covers : Report → ℕ → ℕ → Bool
covers r size rank = eqb r.size size && (leb r.from rank && ltb rank r.to)

unfoldable pub covered : List ℕ → ℕ → ℕ → Bool
covered reports size rank = some (λ i. covers (report_at reports i) size rank) (up_to (report_count reports))

abbrev pub finds : Report → ℕ → ℕ → Bool
finds r size rank = not (is_clean r) && (eqb r.size size && eqb r.found rank)

unfoldable pub reported : List ℕ → ℕ → ℕ → Bool
reported reports size rank = some (λ i. finds (report_at reports i) size rank) (up_to (report_count reports))

-- ---- in words

pub record Filed (all : ℕ → ℕ) (notion order : ℕ) (r : Report) : Type 0 where
  pub same : r.notion ≡ notion
  pub low : 1 ≤ r.size
  pub high : r.size ≤ order
  pub blank : r.filling ≡ 0
  pub rises : r.from ≤ r.to
  pub ends : r.to ≤ all r.size
  pub inside : (r.found ≡ all_ones → ⊥) → (r.from ≤ r.found) × (r.found < r.to)

-- "another notion, a size not 1 to the order, nonzero filling, bounds that 18 bars or a found rank outside them"
abbrev pub Misfiled : (ℕ → ℕ) → ℕ → ℕ → Report → Type 0
Misfiled all notion order r =
    (r.notion ≡ notion → ⊥)
    ⊎ ((r.size < 1) ⊎ (order < r.size))
    ⊎ (r.filling ≡ 0 → ⊥)
    ⊎ ((r.to < r.from) ⊎ (all r.size < r.to))
    ⊎ ((r.found ≡ all_ones → ⊥) × ((r.found < r.from) ⊎ (r.to ≤ r.found)))

pub record Covers (r : Report) (size rank : ℕ) : Type 0 where
  pub same : r.size ≡ size
  pub low : r.from ≤ rank
  pub high : rank < r.to

pub record Finds (r : Report) (size rank : ℕ) : Type 0 where
  pub found : r.found ≡ all_ones → ⊥
  pub same : r.size ≡ size
  pub here : r.found ≡ rank
