-- The answers on a set's dependence, path by path. Where a test refuses, the number is told; else the counts of the set.
--     DependencePromise            the whole of the entry's promise
--     set_too_large, not-rising, set-counted     the entry's answers
--     rising_inside                a set that passes the test is inside the table
use Prim.Native.Nat.{ℕ, ◌≤◌, ◌<◌}
use mathlib.Core.Path.{◌≡◌, refl, sym, ◌∙◌, ap}
use mathlib.Core.Bool.{Bool, true, false, not, cond, ◌&&◌}
use mathlib.Core.List.{List, [], ◌∷◌, map}
use borrow.Author.Tests.{lt-ltb, le-ltb}
use lib.Dec.{ltb}
use lib.ListN.{length}
use Rattle.std.specs.Prelude.{Result, Ok, Err}
use Rattle.limits.specs.Limits.{max_shares, max_masks, max_size}
use Rattle.basics.specs.Folds.{one_if}
use Rattle.basics.specs.Told.{Told, values, refusal}
use Rattle.wires.specs.declared.Notion.{Notion}
use Rattle.wires.specs.Wires.{Terms, total, count_a, count_b, masked, allowed}
use Rattle.wires.proofs.Narrow.{within-total, count_a_narrow, count_b_narrow, masked_narrow}
use Rattle.records.specs.Layout.{wire_at, wire_count, inside}
use Rattle.table.proofs.Entries.{set-within}
use Rattle.revolving.specs.Order.{rising, below}
use Rattle.revolving.proofs.Rising.{parts-is_set}
use Rattle.running.proofs.Inside.{is-set-inside}
use Rattle.verdict_answers.specs.declared.Refusal.{Refusal}
use Rattle.verdict_answers.specs.declared.Refusal.TheVariants.{SizeTooLarge, NotASet}
use Rattle.verdict_answers.specs.declared.DependsOn.{DependsOn}
use Rattle.verdict_answers.specs.Answers.{dependence_told, notion_of, depended, set_dependence}
use Rattle.verdict_answers.specs.Dependence.{DependenceMeans}
use Rattle.verdict_answers.proofs.Dependence.{means}
use Rattle.opening.specs.Opening.{opened_told, opens}
use Rattle.opening.proofs.Admitting.{opened_for, opened-answer}

abbrev pub DependencePromise : Result DependsOn Refusal → List ℕ → ℕ → ℕ → ℕ → List ℕ → Type 0
DependencePromise answer table shares masks notion set =
    (dependence_told answer ≡ set_dependence table shares masks notion set) × DependenceMeans answer table shares masks notion set

pub rising_inside : (table set : List ℕ) → (rising set && below (wire_count table) set) ≡ true → inside table set ≡ true
rising_inside table set e = is-set-inside table (length set) set (parts-is_set (wire_count table) (length set) set refl e)

module _ (table : List ℕ) (shares masks notion : ℕ) (set : List ℕ) where
  abbrev own_answer : Told
  own_answer =
      cond (ltb max_size (length set)) (refusal 17)
      (cond (not (rising set && below (wire_count table) set)) (refusal 21)
      (depended (notion_of notion) shares masks (map (wire_at table) set)))

  promised : (answer : Result DependsOn Refusal) → dependence_told answer ≡ set_dependence table shares masks notion set
      → DependencePromise answer table shares masks notion set
  promised answer e = (e, means table shares masks notion set answer e)

  module _ (kind : Notion) (told : opened_told (Ok kind) ≡ opens table shares masks notion) where
    own : set_dependence table shares masks notion set ≡ own_answer
    own =
        let o = opened_for table shares masks notion kind told in
        opened-answer table shares masks notion refusal own_answer o.sound o.known

    pub set_too_large : max_size < length set → DependencePromise (Err SizeTooLarge) table shares masks notion set
    set_too_large h = promised (Err SizeTooLarge) (sym (own ∙ simp (lt-ltb max_size (length set) h)))

    module _ (small : length set ≤ max_size) where
      pub not-rising : (rising set && below (wire_count table) set) ≡ false
          → DependencePromise (Err NotASet) table shares masks notion set
      not-rising e = promised (Err NotASet) (sym (own ∙ simp (le-ltb max_size (length set) small, e)))

      -- the counts over all bits of a record are those over the gadget's own
      pub set-counted : (rising set && below (wire_count table) set) ≡ true → (t : Terms) → t ≡ total (map (wire_at table) set)
          → (of_a of_b most : ℕ) (left : Bool) → of_a ≡ count_a max_shares t → of_b ≡ count_b max_shares t → most ≡ allowed kind (map (wire_at table) set)
          → left ≡ masked max_masks t
          → DependencePromise (Ok (record { of_a = of_a; of_b = of_b; allowed = most; masked = left })) table shares masks notion set
      set-counted e t sum of_a of_b most left a b k m =
          promised (Ok (record { of_a = of_a; of_b = of_b; allowed = most; masked = left }))
          (ap (λ (i : ℕ). values (i ∷ of_b ∷ most ∷ one_if left ∷ [])) (a ∙ ap (count_a max_shares) sum ∙ narrow.0)
          ∙ ap (λ (i : ℕ). values (count_a shares s ∷ i ∷ most ∷ one_if left ∷ [])) (b ∙ ap (count_b max_shares) sum ∙ narrow.1)
          ∙ ap (λ (i : ℕ). values (count_a shares s ∷ count_b shares s ∷ i ∷ one_if left ∷ []))
          (k ∙ ap (λ (n : Notion). allowed n (map (wire_at table) set)) (o_named))
          ∙ ap (λ (c : Bool). values (count_a shares s ∷ count_b shares s ∷ allowed (notion_of notion) (map (wire_at table) set) ∷ one_if c ∷ []))
          (m ∙ ap (masked max_masks) sum ∙ narrow.2)
          ∙ sym (own ∙ simp (le-ltb max_size (length set) small, e)))
        where
          s : Terms
          s = total (map (wire_at table) set)

          o_named : kind ≡ notion_of notion
          o_named = (opened_for table shares masks notion kind told).named

          narrow : (count_a max_shares s ≡ count_a shares s) × (count_b max_shares s ≡ count_b shares s) × (masked max_masks s ≡ masked masks s)
          narrow =
              let o = (opened_for table shares masks notion kind told).sound in
              let w = within-total max_shares max_masks shares masks (map (wire_at table) set)
              (set-within table shares masks o set (rising_inside table set e)) in (
                count_a_narrow max_shares max_masks shares masks o.high o.few s w,
                count_b_narrow max_shares max_masks shares masks o.high o.few s w,
                masked_narrow max_shares max_masks shares masks o.high o.few s w,
              )
