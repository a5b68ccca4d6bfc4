-- Which sets admit a choice of shares. The shares on which a sum of some of the wires without masks depends are enough, and every choice has to hold
-- them; where no part of the set breaks the notion they are few enough.
--     total-add        the sums of two choices of wires are added where the choices are
--     free_closed      adding a choice whose sum has no mask neither brings nor takes a mask
--     free_present     some choice has a sum without masks
--     within           a set that does not break, and has no mask, depends on no more shares of an operand than it pays for
--     choice_exactly   a set admits a choice exactly when these shares are few enough, of each operand
--     few_chosen       they are no more than the notion allows, where no sum without masks depends on more than its wires pay for
--     all_chosen       and no fewer than those on which the sum of the whole set depends, where it has no mask
--     choice           where no part of a set breaks the notion it admits one
--     no_choice        a set that breaks the notion admits none
--     exceeds_leaks_a, exceeds_leaks_b     of a set without masks that depends on more shares of one operand than the notion allows there is no
--                      choice even if every share of the other may be chosen
--     leaks_a, leaks_b     and of a set of which no smaller part breaks the notion exactly then
use Prim.Native.Nat.{ℕ, ◌≤◌, ◌<◌}
use native.Mathlib.Decide.{dec_lt}
use native.Mathlib.Nat.{le_trans}
use native.Mathlib.Omega.{arith}
use mathlib.Core.Path.{◌≡◌, refl, sym, ◌∙◌, ap, ap₂}
use mathlib.Core.Logic.{◌↔◌, ◌⊎◌, inl, inr}
use mathlib.Core.Bool.{Bool, true, false, not, ◌&&◌, ◌||◌, xor}
use mathlib.Core.List.{List}
use borrow.Author.Tests.{ltb-false, not-true}
use lib.Dec.{ltb}
use lib.ListN.{length, replicate, length-replicate}
use Rattle.basics.specs.Folds.{count, up_to}
use Rattle.basics.proofs.Tests.{and_left, and_right, and_both, or-none, xor-false}
use Rattle.basics.proofs.Folds.{fold_hom, fold-below, none_below, never}
use Rattle.wires.specs.declared.Notion.{Notion}
use Rattle.wires.specs.Wires.{Terms, Wire, none, plus, total, swap, depends_a, count_a, count_b, masked, pays, allowed, breaks}
use Rattle.wires.proofs.Value.{terms_ext}
use Rattle.wires.proofs.Breaks.{Breaks, breaks-exactly}
use Rattle.watcher.specs.Watcher.{bit_lists, ChoiceWithin, Choice, ChoiceByA, ChoiceByB}
use Rattle.watcher.proofs.Counting.{count-le, covered, count_up_to}
use Rattle.watcher.proofs.Bits.{add, pick, pick_nothing, pick_all, pick_size, parity-add, bits_some, bits_where, bits_count}
use Rattle.watcher.proofs.Halves.{Closed}
use Rattle.watcher.proofs.Shares.{few}
use Rattle.watcher.proofs.Blind.{free, chosen, blind}
use Rattle.watcher.proofs.Needed.{needed, needed_b}

pub total-add : (v : List Wire) (l d : List Bool) → total (pick (add l d) v) ≡ plus (total (pick l v)) (total (pick d v))
total-add v l d =
    terms_ext (total (pick (add l d) v)) (plus (total (pick l v)) (total (pick d v))) (λ i j. bit (λ t. t.product i j) refl (λ t u. refl))
    (λ i. bit (λ t. t.share_a i) refl (λ t u. refl)) (λ j. bit (λ t. t.share_b j) refl (λ t u. refl)) (λ k. bit (λ t. t.mask k) refl (λ t u. refl))
  where
    bit : (h : Terms → Bool) → h none ≡ false → ((t u : Terms) → h (plus t u) ≡ xor (h t) (h u))
        → h (total (pick (add l d) v)) ≡ xor (h (total (pick l v))) (h (total (pick d v)))
    bit h empty adds =
        let each = fold_hom plus none xor false h empty adds (λ (w : Wire). w.terms) in
        each (pick (add l d) v) ∙ parity-add (λ w. h w.terms) l d v ∙ ap₂ xor (sym (each (pick l v))) (sym (each (pick d v)))

masked-plus : (m : ℕ) (t u : Terms) → masked m u ≡ false → masked m (plus t u) ≡ masked m t
unfolding masked
masked-plus m t u e =
    fold-below ◌||◌ false m (λ k. xor (t.mask k) (u.mask k)) t.mask
    (λ k below. ap (xor (t.mask k)) (never m k u.mask e below) ∙ xor-false (t.mask k))

pub free_closed : (m : ℕ) (v : List Wire) → Closed (free m v)
free_closed m v d e l =
    ap (λ (t : Terms). not (masked m t)) (total-add v l d)
    ∙ ap not (masked-plus m (total (pick l v)) (total (pick d v)) (not-true (masked m (total (pick d v))) e))

pub free_present : (m : ℕ) (v : List Wire) → 1 ≤ count (free m v) (bit_lists (length v))
unfolding masked
free_present m v =
    bits_count (length v) (free m v)
    (ap (λ (s : List Wire). not (masked m (total s))) (pick_nothing (length v) v) ∙ ap not (none_below m (λ k. false) (λ k below. refl)))

pub within : (notion : Notion) (n m : ℕ) (s : List Wire) → breaks notion n m s ≡ false → not (masked m (total s)) ≡ true
    → (count_a n (total s) ≤ allowed notion s) × (count_b n (total s) ≤ allowed notion s)
unfolding breaks
within notion n m s whole unmasked =
    let a = ltb (allowed notion s) (count_a n (total s)) in
    let b = ltb (allowed notion s) (count_b n (total s)) in
    let parts = or-none a b (ap (λ (z : Bool). z && (a || b)) (sym unmasked) ∙ whole) in
    (ltb-false (allowed notion s) (count_a n (total s)) parts.0, ltb-false (allowed notion s) (count_b n (total s)) parts.1)

-- the choice is made of just the shares that every choice has to hold
pub choice_exactly : (most_a most_b n m : ℕ) (v : List Wire)
    → ChoiceWithin most_a most_b n m v ↔ ((count (chosen n m v (λ t. t)) (up_to n) ≤ most_a) × (count (chosen n m v swap) (up_to n) ≤ most_b))
choice_exactly most_a most_b n m v = (
  there,
  λ h. record {
    chosen_a = chosen n m v (λ t. t);
    chosen_b = chosen n m v swap;
    few_a = h.0;
    few_b = h.1;
    blind = λ x y agree p long. blind n m v p long x y agree;
  },
)
  where
    -- no more shares are chosen than are held by what holds each of them
    no_more : (g : Terms → Terms) (held : ℕ → Bool)
        → ((l : List Bool) → masked m (total (pick l v)) ≡ false → (i : ℕ) → i < n → depends_a n (g (total (pick l v))) i ≡ true → held i ≡ true)
        → count (chosen n m v g) (up_to n) ≤ count held (up_to n)
    no_more g held needs =
        covered held (chosen n m v g) (up_to n) (none_below n (λ i. chosen n m v g i && not (held i)) (λ i below. go i below (chosen n m v g i) refl))
      where
        go : (i : ℕ) → i < n → (b : Bool) → chosen n m v g i ≡ b → (b && not (held i)) ≡ false
        go i below false e = refl
        go i below true e =
            let w = bits_where (length v) (λ l. free m v l && depends_a n (g (total (pick l v))) i) e in
            let t = total (pick w.0 v) in
            let unmasked = not-true (masked m t) (and_left (not (masked m t)) (depends_a n (g t) i) w.2) in
            ap not (needs w.0 unmasked i below (and_right (not (masked m t)) (depends_a n (g t) i) w.2))

    there : ChoiceWithin most_a most_b n m v → (count (chosen n m v (λ t. t)) (up_to n) ≤ most_a) × (count (chosen n m v swap) (up_to n) ≤ most_b)
    there c = (
      le_trans (no_more (λ t. t) c.chosen_a (needed most_a most_b n m v c)) c.few_a,
      le_trans (no_more swap c.chosen_b (needed_b most_a most_b n m v c)) c.few_b,
    )

-- an operand: its terms are added as terms are, and a set that does not break the notion depends on no more of its shares than it pays for
record Operand (notion : Notion) (n m : ℕ) (g : Terms → Terms) : Type 0 where
  pub adds : (t u : Terms) → g (plus t u) ≡ plus (g t) (g u)
  pub bounded : (s : List Wire) → breaks notion n m s ≡ false → not (masked m (total s)) ≡ true → count_a n (g (total s)) ≤ allowed notion s

module _ (notion : Notion) (n m : ℕ) where
  operand_a : Operand notion n m (λ t. t)
  operand_a = record { adds = λ t u. refl; bounded = λ s whole free. (within notion n m s whole free).0 }

  operand_b : Operand notion n m swap
  operand_b = record { adds = λ t u. refl; bounded = λ s whole free. (within notion n m s whole free).1 }

module _ (notion : Notion) (n m : ℕ) (v : List Wire) (g : Terms → Terms) (o : Operand notion n m g) where
  few_chosen : ((l : List Bool) → free m v l ≡ true → count_a n (g (total (pick l v))) ≤ allowed notion (pick l v))
      → count (chosen n m v g) (up_to n) ≤ allowed notion v
  few_chosen =
      few n (pays notion) v (free m v) (free_closed m v) (free_present m v) (λ l. g (total (pick l v)))
      (λ l d. ap g (total-add v l d) ∙ o.adds (total (pick l v)) (total (pick d v)))

  -- the whole set is one of its parts
  all_chosen : masked m (total v) ≡ false → count_a n (g (total v)) ≤ count (chosen n m v g) (up_to n)
  unfolding count_a
  all_chosen unmasked =
      count-le (depends_a n (g (total v))) (chosen n m v g) (up_to n)
      (λ i d. bits_some (length v) (λ l. free m v l && depends_a n (g (total (pick l v))) i) (replicate (length v) true)
      (length-replicate (length v) true)
      (and_both (free m v (replicate (length v) true)) (depends_a n (g (total (pick (replicate (length v) true) v))) i)
      (ap (λ (s : List Wire). not (masked m (total s))) (pick_all v) ∙ ap not unmasked)
      (ap (λ (s : List Wire). depends_a n (g (total s)) i) (pick_all v) ∙ d)))

  -- a set of which no smaller part breaks: where the whole set depends on few enough shares of the operand, so does every part
  exceeds_otherwise : ((l : List Bool) → length (pick l v) < length v → breaks notion n m (pick l v) ≡ false)
      → (count (chosen n m v g) (up_to n) ≤ allowed notion v → ⊥) → allowed notion v < count_a n (g (total v))
  exceeds_otherwise smaller never = by_count (dec_lt (allowed notion v) (count_a n (g (total v))))
    where
      by_part : (l : List Bool) → free m v l ≡ true → count_a n (g (total v)) ≤ allowed notion v → (length (pick l v) < length v) ⊎ (pick l v ≡ v)
          → count_a n (g (total (pick l v))) ≤ allowed notion (pick l v)
      by_part l e within (inl shorter) = o.bounded (pick l v) (smaller l shorter) e
      by_part l e within (inr all) = omega (arith, within, ap (λ (s : List Wire). count_a n (g (total s))) all, ap (allowed notion) all)

      by_count : Dec (allowed notion v < count_a n (g (total v))) → allowed notion v < count_a n (g (total v))
      by_count (yes more) = more
      by_count (no less) = absurd (never (few_chosen (λ l e. by_part l e (omega arith) (pick_size l v))))

pub choice : (notion : Notion) (n m : ℕ) (v : List Wire) → ((l : List Bool) → breaks notion n m (pick l v) ≡ false) → Choice notion n m v
choice notion n m v whole =
    (choice_exactly (allowed notion v) (allowed notion v) n m v).1 (
      few_chosen notion n m v (λ t. t) (operand_a notion n m) (λ l. (operand_a notion n m).bounded (pick l v) (whole l)),
      few_chosen notion n m v swap (operand_b notion n m) (λ l. (operand_b notion n m).bounded (pick l v) (whole l)),
    )

pub no_choice : (notion : Notion) (n m : ℕ) (v : List Wire) → breaks notion n m v ≡ true → Choice notion n m v → ⊥
unfolding masked
no_choice notion n m v e c = go h.exceeds
  where
    h : Breaks notion n m v
    h = (breaks-exactly notion n m v).0 e

    unmasked : masked m (total v) ≡ false
    unmasked = none_below m (total v).mask h.unmasked

    few_of : (count (chosen n m v (λ t. t)) (up_to n) ≤ allowed notion v) × (count (chosen n m v swap) (up_to n) ≤ allowed notion v)
    few_of = (choice_exactly (allowed notion v) (allowed notion v) n m v).0 c

    go : (allowed notion v < count_a n (total v)) ⊎ (allowed notion v < count_b n (total v)) → ⊥
    go (inl more) = omega (arith, all_chosen notion n m v (λ t. t) (operand_a notion n m) unmasked, few_of.0)
    go (inr more) = omega (arith, all_chosen notion n m v swap (operand_b notion n m) unmasked, few_of.1)

module _ (notion : Notion) (n m : ℕ) (v : List Wire) where
  -- there are no more than n shares to choose
  enough : (g : Terms → Terms) → count (chosen n m v g) (up_to n) ≤ n
  enough g = count_up_to n (chosen n m v g)

  -- where every share of the other operand may be chosen, one operand's shares decide
  choice_by_a : ChoiceByA notion n m v ↔ (count (chosen n m v (λ t. t)) (up_to n) ≤ allowed notion v)
  choice_by_a = let exactly = choice_exactly (allowed notion v) n n m v in (λ c. (exactly.0 c).0, λ most. exactly.1 (most, enough swap))

  choice_by_b : ChoiceByB notion n m v ↔ (count (chosen n m v swap) (up_to n) ≤ allowed notion v)
  choice_by_b = let exactly = choice_exactly n (allowed notion v) n m v in (λ c. (exactly.0 c).1, λ most. exactly.1 (enough (λ t. t), most))

  module _ (unmasked : masked m (total v) ≡ false) where
    exceeds_leaks : (g : Terms → Terms) → Operand notion n m g → {C : Type 0} → C ↔ (count (chosen n m v g) (up_to n) ≤ allowed notion v)
        → allowed notion v < count_a n (g (total v)) → C → ⊥
    exceeds_leaks g o chooses more c = omega (arith, more, all_chosen notion n m v g o unmasked, chooses.0 c)

    pub exceeds_leaks_a : allowed notion v < count_a n (total v) → ChoiceByA notion n m v → ⊥
    exceeds_leaks_a = exceeds_leaks (λ t. t) (operand_a notion n m) choice_by_a

    pub exceeds_leaks_b : allowed notion v < count_b n (total v) → ChoiceByB notion n m v → ⊥
    exceeds_leaks_b = exceeds_leaks swap (operand_b notion n m) choice_by_b

    module _ (smaller : (l : List Bool) → length (pick l v) < length v → breaks notion n m (pick l v) ≡ false) where
      leaks : (g : Terms → Terms) → Operand notion n m g → {C : Type 0} → C ↔ (count (chosen n m v g) (up_to n) ≤ allowed notion v)
          → (allowed notion v < count_a n (g (total v))) ↔ (C → ⊥)
      leaks g o chooses = (
        exceeds_leaks g o chooses,
        λ none. exceeds_otherwise notion n m v g o smaller (λ most. none (chooses.1 most)),
      )

      pub leaks_a : (allowed notion v < count_a n (total v)) ↔ (ChoiceByA notion n m v → ⊥)
      leaks_a = leaks (λ t. t) (operand_a notion n m) choice_by_a

      pub leaks_b : (allowed notion v < count_b n (total v)) ↔ (ChoiceByB notion n m v → ⊥)
      leaks_b = leaks swap (operand_b notion n m) choice_by_b
