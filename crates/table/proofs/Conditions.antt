-- Which call gets which number: each entry of `table` tells a refusal exactly when its condition is the first that holds, values exactly when none does.
--     wrong_shares_lem, wrong_length_lem, bit-beyond, wrong_records     the tests of a table decide
--     table_chain                                   every operation on a table begins with their chain
--     function_chain                                the function check's
--     table_settled, function_settled               the entries, for all arguments
--     length-exactly                                a length that is not wrong
--     Sound, sound-exactly, sound_none, none-sound, accepted_exactly     what the conditions leave, said the other way round: the tests let through exactly that
--     tested-answer, tested-refusal                 of a sound table the operation's own answer stands; what the tests refuse stands before any answer
use Prim.Native.Nat.{ℕ, ◌%◌, ◌≤◌, ◌<◌}
use native.Mathlib.Omega.{arith}
use mathlib.Core.Path.{◌≡◌, refl, sym, ◌∙◌}
use mathlib.Core.Logic.Iff
use mathlib.Core.Logic.{◌↔◌, inl, inr, ⊎_elim}
use mathlib.Core.Bool.{Bool, true, false, not, ◌&&◌, ◌||◌, true≢false}
use mathlib.Core.List.{List, [], ◌∷◌, ◌++◌}
use borrow.Author.Tests.{eqb-true, not-false}
use lib.Dec.{leb, eqb}
use lib.ListN.{length}
use Rattle.limits.specs.Limits.{min_shares, max_shares, max_masks, record_bytes, max_table_bytes}
use Rattle.basics.specs.Folds.{some, one_if, up_to}
use Rattle.basics.specs.Told.{values, refusal}
use Rattle.basics.specs.Conditions.{Condition, Settles}
use Rattle.basics.proofs.Conditions.{Chain, own, test, settles-told, less, least, equal, fails, both, one_of, one_of_three, one_of_four, not_both, not_least, some_decides}
use Rattle.wires.specs.Wires.{Terms, beyond}
use Rattle.wires.specs.Function.{computes}
use Rattle.wires.proofs.Narrow.{Within}
use Rattle.records.specs.Layout.{kind_of, record_at, wire_at, wire_count, wires}
use Rattle.table.specs.Answers.{wrong_shares, wrong_length, wrong_record, tested, table_check, function_check}
use Rattle.table.specs.Conditions.{WrongShares, WrongLength, BitBeyond, WrongRecord, table_conditions, function_conditions}

-- ---- the tests of a table

pub wrong_shares_lem : (shares masks : ℕ) → (wrong_shares shares masks ≡ true) ↔ WrongShares shares masks
wrong_shares_lem shares masks = one_of_three (less shares min_shares) (less max_shares shares) (less max_masks masks)

pub wrong_length_lem : (table : List ℕ) → (wrong_length table ≡ true) ↔ WrongLength table
wrong_length_lem table = one_of (fails (equal (length table % record_bytes) 0)) (less max_table_bytes (length table))

bit-beyond : (n m : ℕ) (t : Terms) → (beyond max_shares max_masks n m t ≡ true) ↔ BitBeyond n m t
unfolding beyond
bit-beyond n m t =
    one_of_four
    (some_decides max_shares (λ i. some (λ j. t.product i j && (leb n i || leb n j)) (up_to max_shares))
    (λ i. some_decides max_shares (λ j. t.product i j && (leb n i || leb n j)) (λ j. both Iff.rfl (one_of (least n i) (least n j)))))
    (some_decides max_shares (λ i. t.share_a i && leb n i) (λ i. both Iff.rfl (least n i)))
    (some_decides max_shares (λ j. t.share_b j && leb n j) (λ j. both Iff.rfl (least n j)))
    (some_decides max_masks (λ k. t.mask k && leb m k) (λ k. both Iff.rfl (least m k)))

pub wrong_records : (table : List ℕ) (shares masks : ℕ)
    → (some (λ w. wrong_record shares masks (record_at table w)) (up_to (wire_count table)) ≡ true) ↔ WrongRecord table shares masks
wrong_records table shares masks =
    some_decides (wire_count table) (λ w. wrong_record shares masks (record_at table w))
    (λ w. one_of (bit-beyond shares masks (wire_at table w).terms) (less 1 (kind_of (record_at table w))))

-- ---- the entries

module _ (table : List ℕ) (shares masks : ℕ) where
  pub table_chain : {A : Type 0} {refuse : ℕ → A} {answer rest : A} {later : List Condition} → Chain refuse answer later rest
      → Chain refuse answer (table_conditions table shares masks ++ later) (tested refuse table shares masks rest)
  table_chain c =
      test 11 (wrong_shares_lem shares masks)
      (test 12 (wrong_length_lem table)
      (test 13 (wrong_records table shares masks)
      c))

  pub table_settled : Settles (table_conditions table shares masks) (table_check table shares masks)
  table_settled = settles-told (table_chain (own refusal (values [])))

  pub function_chain : (function : ℕ)
      → Chain refusal (values (one_if (computes function shares masks (wires table)) ∷ [])) (function_conditions table shares masks function)
      (function_check table shares masks function)
  function_chain function =
      table_chain (test 20 (not_both (not_least 1 function) (not_least function 3))
      (own refusal (values (one_if (computes function shares masks (wires table)) ∷ []))))

  pub function_settled : (function : ℕ) → Settles (function_conditions table shares masks function) (function_check table shares masks function)
  function_settled function = settles-told (function_chain function)

-- ---- what the conditions leave

-- shares 2 to 8, masks up to 64; a multiple of 24 bytes, up to 12,288; in every record no bit beyond shares and masks, and byte 18 at most 1
pub record Sound (table : List ℕ) (shares masks : ℕ) : Type 0 where
  pub low : min_shares ≤ shares
  pub high : shares ≤ max_shares
  pub few : masks ≤ max_masks
  pub whole : length table % record_bytes ≡ 0
  pub short : length table ≤ max_table_bytes
  pub bits : (w : ℕ) → w < wire_count table → Within max_shares max_masks shares masks (wire_at table w).terms
  pub flag : (w : ℕ) → w < wire_count table → kind_of (record_at table w) ≤ 1

unset : (b : Bool) → (b ≡ true → ⊥) → b ≡ false
unset true h = absurd (h refl)
unset false h = refl

pub length-exactly : (table : List ℕ) → (WrongLength table → ⊥) ↔ ((length table % record_bytes ≡ 0) × (length table ≤ max_table_bytes))
length-exactly table = (
  λ right. let whole : eqb (length table % record_bytes) 0 ≡ true =
      not-false (eqb (length table % record_bytes) 0) (unset (not (eqb (length table % record_bytes) 0)) (λ e. right (inl ((fails (equal (length table % record_bytes) 0)).0 e)))) in
      let short : max_table_bytes < length table → ⊥ = λ h. right (inr h) in
      (eqb-true (length table % record_bytes) 0 whole, omega arith),
  λ h. ⊎_elim (λ odd. odd h.0) (λ l. omega arith),
)

module _ (table : List ℕ) (shares masks : ℕ) where
  pub sound-exactly : ((WrongShares shares masks → ⊥) × (WrongLength table → ⊥) × (WrongRecord table shares masks → ⊥)) ↔ Sound table shares masks
  sound-exactly = (λ n. there n.0 n.1 n.2, λ s. (right s, (length-exactly table).1 (s.whole, s.short), records s))
    where
      there : (WrongShares shares masks → ⊥) → (WrongLength table → ⊥) → (WrongRecord table shares masks → ⊥) → Sound table shares masks
      there a b c =
          let no_fewer : shares < 2 → ⊥ = λ h. a (inl h) in
          let no_more : max_shares < shares → ⊥ = λ h. a (inr (inl h)) in
          let not-many : max_masks < masks → ⊥ = λ h. a (inr (inr h)) in
          let right = (length-exactly table).0 b in
          record {
            low = omega arith;
            high = omega arith;
            few = omega arith;
            whole = right.0;
            short = right.1;
            bits = λ w l. record {
              no_product_lem = λ i j p q h. unset ((wire_at table w).terms.product i j) (λ e. c (w, l, inl (inl (i, p, (j, q, (e, h))))));
              no_a = λ i p h. unset ((wire_at table w).terms.share_a i) (λ e. c (w, l, inl (inr (inl (i, p, (e, h))))));
              no_b = λ j p h. unset ((wire_at table w).terms.share_b j) (λ e. c (w, l, inl (inr (inr (inl (j, p, (e, h)))))));
              no_mask_lem = λ k p h. unset ((wire_at table w).terms.mask k) (λ e. c (w, l, inl (inr (inr (inr (k, p, (e, h)))))));
            };
            flag = λ w l. let low : 1 < kind_of (record_at table w) → ⊥ = λ h. c (w, l, inr h) in omega arith;
          }

      right : Sound table shares masks → WrongShares shares masks → ⊥
      right s (inl h) = omega arith
      right s (inr (inl h)) = omega arith
      right s (inr (inr h)) = omega arith

      bit : (t : Terms) → Within max_shares max_masks shares masks t → BitBeyond shares masks t → true ≡ false
      bit t h (inl b) = sym b.2.2.0 ∙ h.no_product_lem b.0 b.2.0 b.1 b.2.1 b.2.2.1
      bit t h (inr (inl b)) = sym b.2.0 ∙ h.no_a b.0 b.1 b.2.1
      bit t h (inr (inr (inl b))) = sym b.2.0 ∙ h.no_b b.0 b.1 b.2.1
      bit t h (inr (inr (inr b))) = sym b.2.0 ∙ h.no_mask_lem b.0 b.1 b.2.1

      records : Sound table shares masks → WrongRecord table shares masks → ⊥
      records s r = ⊎_elim (λ b. true≢false (bit (wire_at table r.0).terms (s.bits r.0 r.1) b)) (λ h. omega (arith, s.flag r.0 r.1)) r.2

  -- where none of the table's conditions holds, and none of the operation's own
  pub sound_none : {Own : Type 0} → Sound table shares masks → Own
      → (WrongShares shares masks → ⊥) × ((WrongLength table → ⊥) × ((WrongRecord table shares masks → ⊥) × Own))
  sound_none s rest = let n = sound-exactly.1 s in (n.0, (n.1, (n.2, rest)))

  pub none-sound : {Own : Type 0} → (WrongShares shares masks → ⊥) × ((WrongLength table → ⊥) × ((WrongRecord table shares masks → ⊥) × Own))
      → Sound table shares masks × Own
  none-sound n = (sound-exactly.0 (n.0, n.1.0, n.1.1.0), n.1.1.1)

  -- the tests let through exactly what is sound
  pub accepted_exactly : (values [] ≡ table_check table shares masks) ↔ Sound table shares masks
  accepted_exactly = (
    λ e. (none-sound ((table_settled table shares masks).answered.0 ([], sym e))).0,
    λ s. sym ((table_chain table shares masks (own refusal (values []))).none (sound_none s tt)),
  )

  module _ {A : Type 0} (refuse : ℕ → A) (answer : A) where
    pub tested-answer : Sound table shares masks → tested refuse table shares masks answer ≡ answer
    tested-answer s = (table_chain table shares masks (own refuse answer)).none (sound_none s tt)

    pub tested-refusal : (k : ℕ) → refusal k ≡ table_check table shares masks → tested refuse table shares masks answer ≡ refuse k
    tested-refusal k e = (table_chain table shares masks (own refuse answer)).first k (((table_settled table shares masks).refused k).0 (sym e))
