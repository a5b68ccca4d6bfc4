-- The node of a child, and of what is left of a node.
--     chosen_parted   the chosen wires with one more are these and that one
--     node_chosen     one more wire is chosen
--     node_closed     one wire is closed
use Prim.Native.Nat.{ℕ, ◌+◌, ◌-◌, ◌<◌}
use native.Mathlib.Omega.{arith}
use mathlib.Core.Path.{◌≡◌, refl, sym, ◌∙◌, ap, ap₂}
use mathlib.Core.Bool.{Bool, true, false}
use mathlib.Core.List.{List, map}
use borrow.Author.Tests.{eq-eqb, ne_eqb}
use lib.Dec.{eqb}
use lib.ListN.{length, set, length-set}
use Rattle.basics.specs.Folds.{one_if}
use Rattle.basics.proofs.Numbers.{alike}
use Rattle.wires.specs.declared.Notion.{Notion}
use Rattle.wires.specs.Wires.{plus, total, pays, allowed}
use Rattle.records.specs.declared.sums.Sum.{Sum}
use Rattle.records.specs.Layout.{wire_at, wire_count, terms_of}
use Rattle.parts.specs.Parts.{Parted}
use Rattle.parts.proofs.Members.{keep-below}
use Rattle.parts.proofs.Sums.{sum-parted, paid_parted, length-parted, sum_one, paid_one, length-one}
use Rattle.choices.specs.Marks.{is_open, is_chosen}
use Rattle.descent.specs.Nodes.{Node}
use Rattle.choices.proofs.Marking.{not_both, closed-not_chosen, chosen_other, closed-other, now_chosen, now_closed}

-- the chosen wires, with an open one more
pub chosen_parted : (n : ℕ) (marks : List ℕ) (x : ℕ) → x < length marks → is_open marks x ≡ true
    → Parted n (is_chosen (set marks x 2)) (is_chosen marks) (λ w. eqb w x)
chosen_parted n marks x h e w k = go (alike w x)
  where
    Splits : Bool → Bool → Bool → Type 0
    Splits a b c = one_if a ≡ one_if b + one_if c

    splits : (a b c : Bool) → is_chosen (set marks x 2) w ≡ a → is_chosen marks w ≡ b → eqb w x ≡ c → Splits a b c
        → Splits (is_chosen (set marks x 2) w) (is_chosen marks w) (eqb w x)
    splits a b c p q r s = ap one_if p ∙ s ∙ sym (ap₂ (λ (i j : Bool). one_if i + one_if j) q r)

    same : (b : Bool) → Splits b b false
    same true = refl
    same false = refl

    go : Dec (w ≡ x) → one_if (is_chosen (set marks x 2) w) ≡ one_if (is_chosen marks w) + one_if (eqb w x)
    go (yes p) =
        splits true false true (ap (is_chosen (set marks x 2)) p ∙ now_chosen marks x h) (ap (is_chosen marks) p ∙ not_both marks x e) (eq-eqb w x p) refl
    go (no p) = splits (is_chosen marks w) (is_chosen marks w) false (chosen_other marks x 2 w p) refl (ne_eqb w x p) (same (is_chosen marks w))

module _ (notion : Notion) (table : List ℕ) (size top : ℕ) (marks : List ℕ) (sum : Sum) (paid left x : ℕ)
    (node : Node notion table size top marks sum paid left) (below : x < top) (still : is_open marks x ≡ true) where
  abbrev n : ℕ
  n = wire_count table

  in_table : x < n
  in_table = omega (arith, below, node.top_in)

  module _ (fits : x < length marks) where
    pub node_chosen : (more : Sum) (pay : ℕ) → 0 < left → terms_of more ≡ plus (terms_of sum) (wire_at table x).terms
        → pay ≡ one_if (pays notion (wire_at table x)) → Node notion table size top (set marks x 2) more (paid + pay) (left - 1)
    node_chosen more pay some added paying =
        let parted = chosen_parted n marks x fits still in
        let chosen = is_chosen (set marks x 2) in
        let one : ℕ → Bool = λ w. eqb w x in record {
          room = length-set marks x 2 ∙ node.room;
          top_in = node.top_in;
          top_chosen = chosen_other marks x 2 top (λ e. omega (arith, e, below)) ∙ node.top_chosen;
          above = λ w a b. closed-other marks x 2 w (λ e. omega (arith, e, below, a)) ∙ node.above w a b;
          sum_is = added ∙ ap₂ plus node.sum_is (sym (sum_one (wire_at table) n x in_table))
              ∙ sym (sum-parted (wire_at table) n chosen (is_chosen marks) one parted);
          paid_is = ap₂ (λ (a b : ℕ). a + b) node.paid_is (paying ∙ sym (paid_one (wire_at table) n x in_table notion))
              ∙ sym (paid_parted (wire_at table) n notion chosen (is_chosen marks) one parted);
          size_is = omega (arith, length-parted n chosen (is_chosen marks) one parted, length-one n x in_table, node.size_is, some);
        }

    pub node_closed : Node notion table size top (set marks x 1) sum paid left
    node_closed =
        let same = keep-below n (is_chosen (set marks x 1)) (is_chosen marks) (λ w k. go w (alike w x)) in record {
          room = length-set marks x 1 ∙ node.room;
          top_in = node.top_in;
          top_chosen = chosen_other marks x 1 top (λ e. omega (arith, e, below)) ∙ node.top_chosen;
          above = λ w a b. closed-other marks x 1 w (λ e. omega (arith, e, below, a)) ∙ node.above w a b;
          sum_is = node.sum_is ∙ ap (λ (l : List ℕ). total (map (wire_at table) l)) (sym same);
          paid_is = node.paid_is ∙ ap (λ (l : List ℕ). allowed notion (map (wire_at table) l)) (sym same);
          size_is = omega (arith, ap length same, node.size_is);
        }
      where
        go : (w : ℕ) → Dec (w ≡ x) → is_chosen (set marks x 1) w ≡ is_chosen marks w
        go w (yes p) =
            ap (is_chosen (set marks x 1)) p ∙ closed-not_chosen (set marks x 1) x (now_closed marks x fits)
            ∙ sym (ap (is_chosen marks) p ∙ not_both marks x still)
        go w (no p) = chosen_other marks x 1 w p
