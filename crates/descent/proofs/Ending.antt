-- What is promised where a descent goes no deeper.
--     chosen_broken     the chosen wires break exactly when the sum does
--     others, others_left     the wires of a set that fits other than the chosen ones, and how many they are
--     one_set           where no wire is to come the chosen wires are the only set that fits
--     settled           the chosen wires are all, and their rank counts where they break
--     masked-end          they are all, and a mask is left
--     dropped           there are more to come, and no mask is left: a part of a breaking set of least size has one
use Prim.Native.Nat.{ℕ, suc, ◌≤◌, ◌<◌}
use native.Mathlib.Nat.{le_refl, lt_irrefl}
use native.Mathlib.Omega.{arith}
use mathlib.Core.Path.{◌≡◌, refl, sym, ◌∙◌, ap, ap₂, subst}
use mathlib.Core.Bool.{Bool, true, false, not, ◌&&◌, ◌||◌, true≢false}
use mathlib.Core.List.{List}
use lib.ListN.{length}
use Rattle.limits.specs.Limits.{max_shares, max_masks}
use Rattle.counts.specs.Counts.{binom}
use Rattle.revolving.specs.Order.{set_at, rank_of}
use Rattle.wires.specs.declared.Notion.{Notion}
use Rattle.wires.specs.Wires.{swap, masked, exceeds, sum_breaks, breaks}
use Rattle.records.specs.declared.sums.Sum.{Sum}
use Rattle.records.specs.Layout.{wire_at, wire_count, terms_of}
use Rattle.breaking.specs.Breaking.{is_breaking}
use Rattle.parts.specs.Parts.{members, Parted, NoneBelow}
use Rattle.parts.proofs.Members.{keep-below, rest, rest-parted}
use Rattle.parts.proofs.Ranks.{members_at, rank-within}
use Rattle.parts.proofs.Sums.{length-parted, length_some, length_none}
use Rattle.parts.proofs.Cutting.{part-masked}
use Rattle.choices.specs.Marks.{is_chosen, Fits, Settled}
use Rattle.descent.specs.Nodes.{Node, Looked}
use Rattle.choices.proofs.Marking.{closed-not_chosen}

module _ (notion : Notion) (table : List ℕ) (size top : ℕ) (marks : List ℕ) (sum : Sum) (paid left : ℕ)
    (node : Node notion table size top marks sum paid left) where
  abbrev n : ℕ
  n = wire_count table

  abbrev test : List ℕ → Bool
  test = is_breaking notion table max_shares max_masks

  abbrev chosen : List ℕ
  chosen = members n (is_chosen marks)

  pub chosen_broken : sum_breaks max_shares max_masks paid (terms_of sum) ≡ test chosen
  unfolding is_breaking breaks
  chosen_broken = ap₂ (sum_breaks max_shares max_masks) node.paid_is node.sum_is

  -- the wires of a set that fits, other than the chosen ones
  module _ (s : ℕ → Bool) (fits : Fits marks n s) where
    pub others : Parted n s (is_chosen marks) (rest s (is_chosen marks))
    others = rest-parted n s (is_chosen marks) fits.has

    pub others_left : length (members n s) ≡ size → length (members n (rest s (is_chosen marks))) ≡ left
    others_left e = omega (arith, length-parted n s (is_chosen marks) (rest s (is_chosen marks)) others, node.size_is, e)

    pub one_set : left ≡ 0 → length (members n s) ≡ size → members n s ≡ chosen
    one_set none e = keep-below n s (is_chosen marks) (λ w h. same (s w) (is_chosen marks w) (fits.has w h) (gone w h))
      where
        gone : (w : ℕ) → w < n → rest s (is_chosen marks) w ≡ false
        gone w h = length_none n w (rest s (is_chosen marks)) h (others_left e ∙ none)

        same : (a b : Bool) → (b ≡ true → a ≡ true) → (a && not b) ≡ false → a ≡ b
        same true true f g = refl
        same true false f g = absurd (true≢false g)
        same false true f g = f refl
        same false false f g = refl

  pub settled : (before after : ℕ) → left ≡ 0 → Settled (sum_breaks max_shares max_masks paid (terms_of sum)) (rank_of n chosen) before after
      → Looked test n size top marks before after
  settled before after none at =
      let long : length chosen ≡ size = omega (arith, node.size_is, none) in record {
        most = at.most;
        low = λ less. subst (λ (r : ℕ). r < binom (suc top) size) (sym (at.ranked less).1)
            (rank-within n size (suc top) (is_chosen marks) node.top_in (λ w a b. closed-not_chosen marks w (node.above w a b)) long);
        found = λ less. ap (λ (r : ℕ). test (set_at n size r)) (at.ranked less).1
            ∙ ap test (members_at n size (is_chosen marks) long).1 ∙ sym chosen_broken ∙ (at.ranked less).0;
        covers = λ s e broken fits.
            let same : members n s ≡ chosen = one_set s fits none e in
            subst (λ (l : List ℕ). after ≤ rank_of n l) (sym same) (at.lower (chosen_broken ∙ ap test (sym same) ∙ broken));
      }

  -- nothing better is found
  kept : (before : ℕ) → ((s : ℕ → Bool) → length (members n s) ≡ size → test (members n s) ≡ true → Fits marks n s → ⊥)
      → Looked test n size top marks before before
  kept before nothing = record {
    most = le_refl before;
    low = λ less. absurd (lt_irrefl before less);
    found = λ less. absurd (lt_irrefl before less);
    covers = λ s e broken fits. absurd (nothing s e broken fits);
  }

  pub masked-end : (before : ℕ) → left ≡ 0 → masked max_masks (terms_of sum) ≡ true → Looked test n size top marks before before
  masked-end before none still = kept before (λ s e broken fits.
      true≢false (sym broken ∙ ap test (one_set s fits none e) ∙ sym chosen_broken ∙ ap (λ (b : Bool). not b && either) still))
    where
      either : Bool
      either = exceeds max_shares paid (terms_of sum) || exceeds max_shares paid (swap (terms_of sum))

  pub dropped : (before : ℕ) → 0 < left → NoneBelow test n size → masked max_masks (terms_of sum) ≡ false
      → Looked test n size top marks before before
  unfolding is_breaking
  dropped before some least gone = kept before (λ s e broken fits.
      true≢false (sym (part-masked notion max_shares max_masks (wire_at table) n s (is_chosen marks) (rest s (is_chosen marks)) (others s fits)
      (subst (λ (k : ℕ). NoneBelow test n k) (sym e) least) broken (length_some n top (is_chosen marks) node.top_in node.top_chosen)
      (subst (λ (k : ℕ). 0 < k) (sym (others_left s fits e)) some)) ∙ ap (masked max_masks) (sym node.sum_is) ∙ gone))
