-- The breaking test as the code makes it: first the masks, then a's shares, then b's.
--     mask_left                                 a mask is left where the word of masks is not 0
--     still_masked, more_of_a, then_of_b        the three answers
--     set_tested                                what they say of a set
use Prim.Native.Nat.{ℕ, ◌≤◌, ◌<◌, ◌^◌}
use mathlib.Core.Path.{◌≡◌, refl, sym, ◌∙◌, ap, ap₂}
use mathlib.Core.Bool.{Bool, true, false, not, ◌&&◌, ◌||◌}
use mathlib.Core.List.{List}
use borrow.Author.Tests.{lt-ltb, le-ltb}
use lib.Dec.{ltb, eqb}
use Rattle.limits.specs.Limits.{max_shares, max_masks}
use Rattle.wires.specs.declared.Notion.{Notion}
use Rattle.wires.specs.Wires.{Terms, Wire, total, swap, count_a, count_b, masked, allowed, exceeds, sum_breaks, breaks}
use Rattle.records.specs.Layout.{decode_terms}
use Rattle.records.proofs.Words.{zero_test}

pub mask_left : (p m a b : ℕ) → m < 2 ^ 64 → not (eqb m 0) ≡ masked max_masks (decode_terms p m a b)
unfolding masked
mask_left p m a b h = ap not (zero_test 64 m h) ∙ twice (masked max_masks (decode_terms p m a b))
  where
    twice : (b : Bool) → not (not b) ≡ b
    twice true = refl
    twice false = refl

-- t are a sum's terms
module _ (t : Terms) (paid : ℕ) (left : Bool) (tested : left ≡ masked max_masks t) where
  abbrev either : Bool
  either = exceeds max_shares paid t || exceeds max_shares paid (swap t)

  tests : sum_breaks max_shares max_masks paid t ≡ (not left && either)
  tests = ap (λ (z : Bool). not z && either) (sym tested)

  pub still_masked : left ≡ true → false ≡ sum_breaks max_shares max_masks paid t
  still_masked d = sym (tests ∙ ap (λ (z : Bool). not z && either) d)

  module _ (none : left ≡ false) (x : ℕ) (ex : x ≡ count_a max_shares t) where
    counts : sum_breaks max_shares max_masks paid t ≡ (ltb paid x || ltb paid (count_b max_shares t))
    counts = tests ∙ ap (λ (z : Bool). not z && either) none ∙ ap (λ (i : ℕ). ltb paid i || ltb paid (count_b max_shares t)) (sym ex)

    pub more_of_a : paid < x → true ≡ sum_breaks max_shares max_masks paid t
    more_of_a l = sym (counts ∙ ap (λ (z : Bool). z || ltb paid (count_b max_shares t)) (lt-ltb paid x l))

    pub then_of_b : (y : ℕ) → y ≡ count_b max_shares t → x ≤ paid → ltb paid y ≡ sum_breaks max_shares max_masks paid t
    then_of_b y ey l = ap (ltb paid) ey ∙ sym (counts ∙ ap (λ (z : Bool). z || ltb paid (count_b max_shares t)) (le-ltb paid x l))

-- the sum of a set, and how many of its wires pay
pub set_tested : (notion : Notion) (s : List Wire) (t : Terms) (paid : ℕ) (r : Bool) → t ≡ total s → paid ≡ allowed notion s
    → r ≡ sum_breaks max_shares max_masks paid t → r ≡ breaks notion max_shares max_masks s
unfolding breaks
set_tested notion s t paid r e k tested = tested ∙ ap₂ (sum_breaks max_shares max_masks) k e
