-- The test of a record: no bit beyond shares and masks, the byte of inner or outer at most 1.
--     bits_beyond, then_the_kind     what the code's two tests say of a record
use Prim.Native.Nat.{ℕ, ◌+◌, ◌*◌, ◌<◌}
use mathlib.Core.Path.{◌≡◌, refl, sym, ◌∙◌, ap, ap₂}
use mathlib.Core.Bool.{Bool, true, false, not, ◌||◌}
use mathlib.Core.List.{List}
use borrow.Author.Tests.{le-ltb, lt-ltb, leb-true, leb-false, not-true, not-false}
use lib.Dec.{leb, ltb}
use lib.ListN.{get_or}
use Rattle.limits.specs.Limits.{max_shares, max_masks, record_bytes}
use Rattle.basics.proofs.Tests.{or_left}
use Rattle.wires.specs.Wires.{Terms, beyond}
use Rattle.records.specs.declared.sums.Sum.{Sum}
use Rattle.records.specs.Layout.{outer_at, record_at, wire_at, wire_count, terms_of}
use Rattle.records.proofs.Adding.{outer_byte}
use Rattle.table.specs.Answers.{wrong_record}

module _ (table : List ℕ) (wire n m : ℕ) (s : Sum) (inside : wire < wire_count table) (e : terms_of s ≡ (wire_at table wire).terms) where
  abbrev late : Bool
  late = beyond max_shares max_masks n m (terms_of s)

  abbrev kind : ℕ
  kind = get_or table (record_bytes * wire + outer_at) 0

  found : wrong_record n m (record_at table wire) ≡ (late || ltb 1 kind)
  found = ap₂ (λ (t : Terms) (k : ℕ). beyond max_shares max_masks n m t || ltb 1 k) (sym e) (sym (outer_byte table wire inside))

  pub bits_beyond : (x : Bool) → x ≡ not (beyond max_shares max_masks n m (terms_of s)) → x ≡ false → false ≡ not (wrong_record n m (record_at table wire))
  bits_beyond x f g = sym (ap not (found ∙ or_left late (ltb 1 kind) (not-false late (sym f ∙ g))))

  pub then_the_kind : (x : Bool) → x ≡ not (beyond max_shares max_masks n m (terms_of s)) → x ≡ true
      → leb (get_or table (record_bytes * wire + outer_at) 0) 1 ≡ not (wrong_record n m (record_at table wire))
  then_the_kind x f g = leb_not_ltb kind ∙ sym (ap not (found ∙ ap (λ (b : Bool). b || ltb 1 kind) (not-true late (sym f ∙ g))))
    where
      leb_not_ltb : (v : ℕ) → leb v 1 ≡ not (ltb 1 v)
      leb_not_ltb v = go (leb v 1) refl
        where
          go : (b : Bool) → leb v 1 ≡ b → b ≡ not (ltb 1 v)
          go true e = sym (ap not (le-ltb 1 v (leb-true v 1 e)))
          go false e = sym (ap not (lt-ltb 1 v (leb-false v 1 e)))
