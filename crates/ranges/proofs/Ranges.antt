-- The range check's answers, path by path. Where a test refuses, nothing was written; else the search's result decides.
--     range_answer                          the answer after the first tests
--     size_large, range_room, ranks_low, ranks_high, range_clean, range_found     the answers
--     PassedRange, range_bytes              all tests passed
use Prim.Native.Nat.{ℕ, ◌-◌, ◌≤◌, ◌<◌}
use native.Mathlib.Omega.{arith}
use mathlib.Core.Path.{◌≡◌, sym, ◌∙◌, ap, ap₂}
use mathlib.Core.Bool.{cond, not, ◌&&◌}
use mathlib.Core.List.{List, [], ◌∷◌}
use borrow.Author.Tests.{le-leb, lt-leb, le-ltb, lt-ltb}
use lib.Dec.{ltb, leb}
use lib.ListN.{length, take}
use Rattle.std.specs.Prelude.{Ok, Some, None}
use Rattle.limits.specs.Limits.{max_shares, max_masks, max_table_bytes, max_size}
use Rattle.basics.specs.Folds.{keep}
use Rattle.basics.specs.Told.{Lent, values, turned_down}
use Rattle.wires.specs.declared.Notion.{Notion}
use Rattle.records.specs.Layout.{wire_count}
use Rattle.table.proofs.Conditions.{accepted_exactly}
use Rattle.counts.specs.Counts.{binom}
use Rattle.revolving.specs.Order.{set_at}
use Rattle.revolving.proofs.Rising.{is_set-parts}
use Rattle.revolving.proofs.Revolving.{set_at-is-set, rank_of-set}
use Rattle.verdict_answers.specs.declared.Checked.{Checked}
use Rattle.breaking.specs.Breaking.{is_breaking}
use Rattle.search.specs.Search.{stretch, FirstRank}
use Rattle.verdict_answers.specs.Answers.{range_told, notion_of, written, first_ranked, range_check}
use Rattle.verdict_answers.proofs.Conditions.{range_answered}
use Rattle.search.proofs.Ranges.{rank-first}
use Rattle.opening.specs.Opening.{opened_told, opens}
use Rattle.opening.proofs.Admitting.{opened_for, short, opened-answer}
use Rattle.opening.proofs.Deciding.{stretch_decided}

module _ (table : List ℕ) (shares masks notion size from to : ℕ) (buffer : List ℕ) where
  abbrev all : ℕ
  all = binom (wire_count table) size

  abbrev pub range_answer : Lent
  range_answer =
      cond (ltb max_size size) (turned_down 17 buffer)
      (cond (ltb (length buffer) size) (turned_down 16 buffer)
      (cond (not (leb from to && leb to all)) (turned_down 18 buffer)
      (first_ranked (wire_count table) (keep (is_breaking (notion_of notion) table shares masks) (stretch (wire_count table) size from to)) buffer)))

  -- what the entry is to tell
  abbrev asked : Lent
  asked = range_check table shares masks notion size from to buffer

  module _ (kind : Notion) (told : opened_told (Ok kind) ≡ opens table shares masks notion) where
    own_range : range_answer ≡ asked
    own_range =
        let o = opened_for table shares masks notion kind told in
        sym (opened-answer table shares masks notion (λ number. turned_down number buffer) range_answer o.sound o.known)

    pub size_large : max_size < size → turned_down 17 buffer ≡ asked
    size_large h = let e : turned_down 17 buffer ≡ range_answer = simp (lt-ltb max_size size h) in e ∙ own_range

    module _ (small : size ≤ max_size) where
      pub range_room : length buffer < size → turned_down 16 buffer ≡ asked
      range_room h = let e : turned_down 16 buffer ≡ range_answer = simp (le-ltb max_size size small, lt-ltb (length buffer) size h) in e ∙ own_range

      module _ (room : size ≤ length buffer) where
        pub ranks_low : to < from → turned_down 18 buffer ≡ asked
        ranks_low h =
            let e : turned_down 18 buffer ≡ range_answer = simp (le-ltb max_size size small, le-ltb (length buffer) size room, lt-leb from to h) in e
            ∙ own_range

        pub ranks_high : from ≤ to → all < to → turned_down 18 buffer ≡ asked
        ranks_high rises h =
            let e : turned_down 18 buffer ≡ range_answer =
            simp (le-ltb max_size size small, le-ltb (length buffer) size room, le-leb from to rises, lt-leb to all h) in
            e ∙ own_range

-- the tests of a range check that lets the search begin
pub record PassedRange (table : List ℕ) (shares masks notion size from to : ℕ) (buffer : List ℕ) (kind : Notion) : Type 0 where
  pub told : opened_told (Ok kind) ≡ opens table shares masks notion
  pub small : size ≤ max_size
  pub room : size ≤ length buffer
  pub rises : from ≤ to
  pub ends : to ≤ binom (wire_count table) size

pub range_bytes : (table : List ℕ) (shares masks notion size from to : ℕ) (buffer : List ℕ) (kind : Notion)
    → PassedRange table shares masks notion size from to buffer kind → length table ≤ max_table_bytes
range_bytes table shares masks notion size from to buffer kind p = short table shares masks notion kind p.told

module _ (table : List ℕ) (shares masks notion size from to : ℕ) (buffer : List ℕ) (kind : Notion)
    (p : PassedRange table shares masks notion size from to buffer kind) (probes : List ℕ) where
  abbrev result : Lent
  result = range_check table shares masks notion size from to buffer

  abbrev ranked : List (List ℕ)
  ranked = keep (is_breaking (notion_of notion) table shares masks) (stretch (wire_count table) size from to)

  same-sets : keep (is_breaking kind table max_shares max_masks) (stretch (wire_count table) size from to) ≡ ranked
  same-sets = stretch_decided table shares masks notion kind (opened_for table shares masks notion kind p.told) size from to

  decides : (l : List (List ℕ)) → ranked ≡ l → first_ranked (wire_count table) l buffer ≡ result
  decides l e =
      let o = opened_for table shares masks notion kind p.told in
      ap (λ (l : List (List ℕ)). first_ranked (wire_count table) l buffer) (sym e)
      ∙ sym (range_answered table shares masks notion size from to buffer
      (record { sound = (accepted_exactly table shares masks).1 o.sound; known = o.known; small = p.small; room = p.room }) p.rises p.ends)

  pub range_clean : FirstRank (is_breaking kind table max_shares max_masks) (wire_count table) size from to None probes
      → range_told (Ok Checked.Clean) buffer ≡ result
  range_clean none = decides [] (sym same-sets ∙ none)

  pub range_found : (rank : ℕ) → FirstRank (is_breaking kind table max_shares max_masks) (wire_count table) size from to (Some rank) probes
      → (held : List ℕ) → held ≡ written (take (size - 0) probes) buffer
      → range_told (Ok (Checked.Found size rank)) held ≡ result
  range_found rank search held wrote =
      let n = wire_count table in
      let set = set_at n size rank in
      let found = search.found in
      let counted : rank < binom (wire_count table) size = omega (arith, search.high, p.ends) in
      let first = rank-first (is_breaking kind table max_shares max_masks) n size from rank to search.low search.high p.ends search.clean found.0 in
      let all-of-it : size - 0 ≡ size = omega arith in
      let long : size ≡ length set = sym (is_set-parts n size set (set_at-is-set n size rank counted)).0 in
      let copied : held ≡ written set buffer =
      wrote ∙ ap (λ (l : List ℕ). written l buffer) (ap (λ (i : ℕ). take i probes) all-of-it ∙ found.1) in
      ap₂ (λ (k : ℕ) (l : List ℕ). record { told = values (k ∷ rank ∷ []); held = l }) long copied
      ∙ ap (λ (r : ℕ). record { told = values (length set ∷ r ∷ []); held = written set buffer }) (sym (rank_of-set n size rank counted))
      ∙ decides (set ∷ first.0) (sym same-sets ∙ first.1)
