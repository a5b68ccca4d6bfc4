-- Few shares are enough: those on which a sum without masks of chosen wires depends are no more than the wires that pay.
--     chosen_pay       in a closed set of choices, the chosen elements that pay are at most half of all that pay, on the average
--     Shows, seen_by   a bit of terms that shows that they depend on a share; where they do, there is one
--     named            the shares on which some list of the set depends
--     few              where no list of the set depends on more shares than the elements it chooses pay for, all of them together do not either
use Prim.Native.Nat.{ℕ, ◌+◌, ◌*◌, ◌≤◌}
use native.Mathlib.Nat.{zero-add, le_of_eq, le_of_mul-le-mul_right}
use native.Mathlib.Omega.{arith}
use mathlib.Core.Path.{◌≡◌, refl, sym, ◌∙◌, ap}
use mathlib.Core.Logic.{◌⊎◌, inl, inr}
use mathlib.Core.Bool.{Bool, true, false, cond, ◌&&◌, xor, and-false}
use mathlib.Core.List.{List, [], ◌∷◌}
use lib.ListN.{length, get_or, drop}
use Rattle.basics.specs.Folds.{some, count, one_if, up_to}
use Rattle.basics.proofs.Tests.{and_left, and_right, and_both, or_left, or_right, or_cases, and_xor}
use Rattle.basics.proofs.Folds.{fold_cong, fold_unit, some_at, some_where}
use Rattle.wires.specs.Wires.{Terms, plus, depends_a, count_a}
use Rattle.watcher.specs.Watcher.{bit_lists}
use Rattle.watcher.proofs.Counting.{sum, sum-le, sum_both, sum_times, sum_exchange, count-le}
use Rattle.watcher.proofs.Bits.{add, pick, bit-add, rest-add, pick_none, pick_first, bits_where}
use Rattle.watcher.proofs.Halves.{Additive, Closed, half, half_at_most}

module _ (n : ℕ) (s : List Bool → Bool) (closed : Closed s) {A : Type 0} (q : A → Bool) where
  abbrev paid : (List Bool → List Bool) → List A → ℕ
  paid g v = sum (λ l. cond (s l) (count q (pick (g l) v)) 0) (bit_lists n)

  -- element by element: at most half of the set takes it
  pub chosen_pay : (g : List Bool → List Bool) → ((l d : List Bool) → g (add l d) ≡ add (g l) (g d)) → (v : List A)
      → paid g v + paid g v ≤ count q v * count s (bit_lists n)
  chosen_pay g adds [] = omega (arith, nothing)
    where
      either : (b : Bool) (k : ℕ) → k ≡ 0 → cond b k 0 ≡ 0
      either true k e = e
      either false k e = refl

      nothing : paid g [] ≡ 0
      nothing =
          fold_unit ◌+◌ 0 zero-add (λ l. cond (s l) (count q (pick (g l) [])) 0) (bit_lists n)
          (λ l. either (s l) (count q (pick (g l) [])) (ap (count q) (pick_none (g l))))
  chosen_pay g adds (x ∷ v) =
      let rest = chosen_pay (λ l. drop 1 (g l)) (λ l d. ap (drop 1) (adds l d) ∙ rest-add (g l) (g d)) v in
      omega (arith, parts, first (q x), rest)
    where
      firsts : Bool → ℕ
      firsts b = count (λ l. s l && (get_or (g l) 0 false && b)) (bit_lists n)

      step : (a b : Bool) (k : List A) → cond a (count q (cond b (x ∷ k) k)) 0 ≡ one_if (a && (b && q x)) + cond a (count q k) 0
      step true true k = refl
      step true false k = sym (zero-add (count q k))
      step false b k = refl

      parts : paid g (x ∷ v) ≡ firsts (q x) + paid (λ l. drop 1 (g l)) v
      parts =
          fold_cong ◌+◌ 0 (λ l. cond (s l) (count q (pick (g l) (x ∷ v))) 0)
          (λ l. one_if (s l && (get_or (g l) 0 false && q x)) + cond (s l) (count q (pick (drop 1 (g l)) v)) 0) (bit_lists n)
          (λ l. ap (λ (k : List A). cond (s l) (count q k) 0) (pick_first (g l) x v) ∙ step (s l) (get_or (g l) 0 false) (pick (drop 1 (g l)) v))
          ∙ sum_both (λ l. one_if (s l && (get_or (g l) 0 false && q x))) (λ l. cond (s l) (count q (pick (drop 1 (g l)) v)) 0) (bit_lists n)

      additive : Additive (λ l. get_or (g l) 0 false && true)
      additive l d =
          ap (λ (k : List Bool). get_or k 0 false && true) (adds l d) ∙ ap (λ (b : Bool). b && true) (bit-add (g l) (g d) 0)
          ∙ and_xor (get_or (g l) 0 false) (get_or (g d) 0 false) true

      none : firsts false ≡ 0
      none =
          fold_unit ◌+◌ 0 zero-add (λ l. one_if (s l && (get_or (g l) 0 false && false))) (bit_lists n)
          (λ l. ap (λ (b : Bool). one_if (s l && b)) (and-false (get_or (g l) 0 false)) ∙ ap one_if (and-false (s l)))

      first : (b : Bool) → firsts b + firsts b ≤ one_if b * count s (bit_lists n)
      first true = omega (arith, half_at_most n s (λ l. get_or (g l) 0 false && true) closed additive)
      first false = omega (arith, none)

-- a bit of terms that is added with them and shows that terms depend on share i of a
pub record Shows (n i : ℕ) (t : Terms) : Type 0 where
  pub bit : Terms → Bool
  pub adds : (t u : Terms) → bit (plus t u) ≡ xor (bit t) (bit u)
  pub is_set : bit t ≡ true
  pub suffices : (u : Terms) → bit u ≡ true → depends_a n u i ≡ true

pub seen_by : (n i : ℕ) (t : Terms) → depends_a n t i ≡ true → Shows n i t
seen_by n i t e = go (or_cases (some (t.product i) (up_to n)) (t.share_a i) e)
  where
    go : (some (t.product i) (up_to n) ≡ true) ⊎ (t.share_a i ≡ true) → Shows n i t
    go (inl p) = let w = some_where n (t.product i) p in record {
      bit = λ u. u.product i w.0;
      adds = λ t u. refl;
      is_set = w.2;
      suffices = λ u h. or_left (some (u.product i) (up_to n)) (u.share_a i) (some_at n w.0 (u.product i) w.1 h);
    }
    go (inr p) = record {
      bit = λ u. u.share_a i;
      adds = λ t u. refl;
      is_set = p;
      suffices = λ u h. or_right (some (u.product i) (up_to n)) (u.share_a i) h;
    }

-- the shares of a on which some list of the set depends, by the terms that g gives it
abbrev pub named : ℕ → ℕ → (List Bool → Bool) → (List Bool → Terms) → ℕ → Bool
named n k s g i = some (λ l. s l && depends_a n (g l) i) (bit_lists k)

module _ (n : ℕ) {A : Type 0} (q : A → Bool) (v : List A) (s : List Bool → Bool) (closed : Closed s) (present : 1 ≤ count s (bit_lists (length v)))
    (g : List Bool → Terms) (adds : (l d : List Bool) → g (add l d) ≡ plus (g l) (g d))
    (within : (l : List Bool) → s l ≡ true → count_a n (g l) ≤ count q (pick l v)) where
  abbrev lists : List (List Bool)
  lists = bit_lists (length v)

  abbrev depends : ℕ → List Bool → Bool
  depends i l = s l && depends_a n (g l) i

  -- half of the set has the bit that shows the dependence of one of its lists
  at_least_half : (i : ℕ) → one_if (named n (length v) s g i) * count s lists ≤ count (depends i) lists + count (depends i) lists
  at_least_half i = go (named n (length v) s g i) refl
    where
      still : (a b c : Bool) → (b ≡ true → c ≡ true) → (a && b) ≡ true → (a && c) ≡ true
      still a b c h e = and_both a c (and_left a b e) (h (and_right a b e))

      go : (b : Bool) → some (depends i) lists ≡ b → one_if b * count s lists ≤ count (depends i) lists + count (depends i) lists
      go true e =
          let w = bits_where (length v) (depends i) e in
          let l = w.0 in
          let shows = seen_by n i (g l) (and_right (s l) (depends_a n (g l) i) w.2) in
          let bit : List Bool → Bool = λ d. shows.bit (g d) in
          let taken : (s l && bit l) ≡ true = and_both (s l) (bit l) (and_left (s l) (depends_a n (g l) i) w.2) shows.is_set in
          let exactly = half (length v) s bit closed (λ l d. ap shows.bit (adds l d) ∙ shows.adds (g l) (g d)) l (le_of_eq w.1) taken in
          let more = count-le (λ d. s d && bit d) (depends i) lists (λ d. still (s d) (bit d) (depends_a n (g d) i) (shows.suffices (g d))) in
          omega (arith, exactly, more)
      go false e = omega arith

  of_one : (l : List Bool) → sum (λ i. one_if (depends i l)) (up_to n) ≤ cond (s l) (count q (pick l v)) 0
  unfolding count_a
  of_one l = go (s l) (within l)
    where
      go : (b : Bool) → (b ≡ true → count_a n (g l) ≤ count q (pick l v))
          → sum (λ i. one_if (b && depends_a n (g l) i)) (up_to n) ≤ cond b (count q (pick l v)) 0
      go true h = h refl
      go false h = le_of_eq (fold_unit ◌+◌ 0 zero-add (λ i. 0) (up_to n) (λ i. refl))

  -- pairs of a share and a list of the set that depends on it, counted by shares and by lists
  pub few : count (named n (length v) s g) (up_to n) ≤ count q v
  few = le_of_mul-le-mul_right (omega (arith, by_shares, exchanged, by_lists, chosen_pay (length v) s closed q (λ l. l) (λ l d. refl) v)) present
    where
      pairs : ℕ
      pairs = sum (λ i. count (depends i) lists) (up_to n)

      by_shares : count (named n (length v) s g) (up_to n) * count s lists ≤ pairs + pairs
      by_shares =
          let one : ℕ → ℕ = λ i. one_if (named n (length v) s g i) in
          let c : ℕ → ℕ = λ i. count (depends i) lists in
          let each = sum-le (λ i. one i * count s lists) (λ i. c i + c i) (up_to n) at_least_half in
          omega (arith, sum_times one (count s lists) (up_to n), each, sum_both c c (up_to n))

      exchanged : pairs ≡ sum (λ l. sum (λ i. one_if (depends i l)) (up_to n)) lists
      exchanged = sum_exchange (λ i l. one_if (depends i l)) (up_to n) lists

      by_lists : sum (λ l. sum (λ i. one_if (depends i l)) (up_to n)) lists ≤ sum (λ l. cond (s l) (count q (pick l v)) 0) lists
      by_lists = sum-le (λ l. sum (λ i. one_if (depends i l)) (up_to n)) (λ l. cond (s l) (count q (pick l v)) 0) lists of_one
