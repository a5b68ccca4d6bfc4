-- The turns of the step, over plain numbers and lists.
--     Follows             one set comes next after another
--     Moves d             the one follows the other, or the other way round, by the direction d
--     turns               a direction turned round so many times
--     moves_all           what is a step below a limit is one of the whole set: each wire above turns the direction round
--     chosen_after, above-first, chosen_away, chosen_has     what a rising list has
--     rise_list, fall_list                         the step at a place
use Prim.Native.Nat.{ℕ, zero, suc, ◌+◌, ◌-◌, ◌≤◌, ◌<◌}
use native.Mathlib.Omega.{arith}
use mathlib.Core.Path.{◌≡◌, refl, sym, ◌∙◌, ap, ap₂, subst}
use mathlib.Core.Logic.{◌⊎◌, inl, inr}
use mathlib.Core.Bool.{Bool, true, false, not, true≢false}
use mathlib.Core.List.{List, [], ◌∷◌, ◌++◌, append_assoc, append-nil}
use borrow.Author.Tests.{ne_eqb, eqb-true}
use lib.Dec.{eqb}
use lib.ListN.{length, length-append}
use Rattle.basics.specs.Folds.{up_to}
use Rattle.basics.proofs.Tests.{or_cases}
use Rattle.basics.proofs.Folds.{up_to-last, up_to-length}
use Rattle.counts.specs.Counts.{binom}
use Rattle.counts.proofs.Binomial.{binom-suc, binom_wider}
use Rattle.revolving.specs.Order.{set_at, rank_of}
use Rattle.revolving.proofs.Rising.{Chosen, is_set-parts}
use Rattle.revolving.proofs.Revolving.{set_at-step, rank_unique}
use Rattle.walk.specs.Neighbours.{contains, Exchanged, HasNext, next_set}
use Rattle.walk.specs.Places.{head}
use Rattle.walk.proofs.Exchanges.{turned, beside}
use Rattle.walk.proofs.Neighbours.{first-set, before, after, leaving, seam, seam_exchanged}

pub record Follows (n k : ℕ) (s t : List ℕ) : Type 0 where
  pub rank : ℕ
  pub later : suc rank < binom n k
  pub here : set_at n k rank ≡ s
  pub there : set_at n k (suc rank) ≡ t

-- below a highest wire the sets stand in reverse
reversed : {x i : ℕ} {s t : List ℕ} (m : ℕ) → x < m → Follows x i s t → Follows m (suc i) (t ++ (x ∷ [])) (s ++ (x ∷ []))
reversed {x = x} {i = i} m h f =
    let all = binom-suc x i in
    let r = binom (suc x) (suc i) - suc (suc f.rank) in
    let more = f.later in
    record {
      rank = r;
      later = omega (arith, all, more, binom_wider (suc x) m (suc i) h);
      here = set_at-step m i x (suc f.rank) r h more (omega (arith, all, more)) ∙ ap (λ (l : List ℕ). l ++ (x ∷ [])) f.there;
      there = set_at-step m i x f.rank (suc r) h (omega arith) (omega (arith, all, more)) ∙ ap (λ (l : List ℕ). l ++ (x ∷ [])) f.here;
    }

abbrev Moves : Bool → ℕ → ℕ → List ℕ → List ℕ → Type 0
Moves true n k s t = Follows n k s t
Moves false n k s t = Follows n k t s

moves_with : (d : Bool) (x i m : ℕ) (s t : List ℕ) → x < m → Moves d x i s t → Moves (not d) m (suc i) (s ++ (x ∷ [])) (t ++ (x ∷ []))
moves_with true x i m s t h f = reversed m h f
moves_with false x i m s t h f = reversed m h f

abbrev pub turns : Bool → ℕ → Bool
turns d zero = d
turns d (suc m) = turns (not d) m

-- a rising list starts below its limit
pub head-above : (lo n : ℕ) (l : List ℕ) → lo ≤ n → Chosen lo n l → lo ≤ head n l
head-above lo n [] h c = h
head-above lo n (x ∷ l) h c = c.0

moves_all : (d : Bool) (n i k lo : ℕ) (s t rest : List ℕ) → Chosen lo n rest → i + length rest ≡ k → Moves d (head n rest) i s t
    → Moves (turns d (length rest)) n k (s ++ rest) (t ++ rest)
moves_all d n i k lo s t [] c e f =
    let same : i ≡ k = omega arith in
    subst (λ (j : ℕ). Moves d n j (s ++ []) (t ++ [])) same
    (subst (λ (l : List ℕ). Moves d n i l (t ++ [])) (sym (append-nil s)) (subst (λ (l : List ℕ). Moves d n i s l) (sym (append-nil t)) f))
moves_all d n i k lo s t (x ∷ rest) c e f =
    let above : suc x ≤ head n rest = head-above (suc x) n rest c.1 c.2 in
    let more = moves_all (not d) n (suc i) k (suc x) (s ++ (x ∷ [])) (t ++ (x ∷ [])) rest c.2 (omega arith) (moves_with d x i (head n rest) s t above f) in
    subst (λ (l : List ℕ). Moves (turns (not d) (length rest)) n k l (t ++ (x ∷ rest))) (append_assoc s (x ∷ []) rest)
    (subst (λ (l : List ℕ). Moves (turns (not d) (length rest)) n k ((s ++ (x ∷ [])) ++ rest) l) (append_assoc t (x ∷ []) rest) more)

follows_next : {n k : ℕ} {s t : List ℕ} → length s ≡ k → Follows n k s t → t ≡ next_set n s
unfolding next_set
follows_next {n = n} {k = k} {s = s} {t = t} e f =
    let r = f.rank in
    let more = f.later in
    let same : rank_of n s + 1 ≡ suc r = omega (arith, rank_unique n k r s (omega arith) f.here) in
    sym f.there ∙ sym (ap₂ (set_at n) e same)

-- the two sets at a seam, below a limit m
follows_seam : (m k x : ℕ) → k ≤ x → suc x < m → Follows m (suc k) (before k x) (after k x)
follows_seam m k x h inside =
    let some : 0 < binom (suc x) (suc k) = (first-set (suc x) (suc k) (omega arith)).0 in
    let r = binom (suc x) (suc k) - 1 in
    let sets = seam m k x r h inside (omega arith) in
    record {
      rank = r;
      later = omega (arith, binom-suc (suc x) k, binom_wider (suc (suc x)) m (suc k) inside, (first-set (suc x) k (omega arith)).0);
      here = sets.0;
      there = sets.1;
    }

-- ---- one step, in a set of which the wires up to a place are known

-- the wires after a place
pub chosen_after : (lo n : ℕ) (p : List ℕ) (x : ℕ) (l : List ℕ) → Chosen lo n (p ++ (x ∷ l)) → (lo ≤ x) × (x < n) × Chosen (suc x) n l
chosen_after lo n [] x l c = c
chosen_after lo n (y ∷ p) x l c =
    let more = chosen_after (suc y) n p x l c.2 in
    let low : lo ≤ y = c.0 in
    (omega (arith, more.0), more.1, more.2)

-- after the first j wires of all comes none of them
pub above-first : (n j y : ℕ) (l : List ℕ) → Chosen 0 n (up_to j ++ (y ∷ l)) → j ≤ y
above-first n zero y l c = omega arith
above-first n (suc j) y l c =
    (chosen_after 0 n (up_to j) j (y ∷ l)
    (subst (Chosen 0 n) (ap (λ (p : List ℕ). p ++ (y ∷ l)) (up_to-last j) ∙ append_assoc (up_to j) (j ∷ []) (y ∷ l)) c)).2.0

-- a rising list whose first wire is higher
chosen_from : (lo from n : ℕ) (l : List ℕ) → from ≤ head n l → Chosen lo n l → Chosen from n l
chosen_from lo from n [] h c = tt
chosen_from lo from n (x ∷ l) h c = (h, c.1, c.2)

pub chosen_away : (lo n z : ℕ) (l : List ℕ) → z < lo → Chosen lo n l → contains z l ≡ false
chosen_away lo n z [] h c = refl
chosen_away lo n z (x ∷ l) h c =
    let low : lo ≤ x = c.0 in
    rw (ne_eqb z x (omega arith)) (chosen_away (suc x) n z l (omega arith) c.2)

-- and a wire that it has is the table's
pub chosen_has : (lo n z : ℕ) (l : List ℕ) → Chosen lo n l → contains z l ≡ true → z < n
chosen_has lo n z [] c e = absurd (true≢false (sym e))
chosen_has lo n z (x ∷ l) c e = go (or_cases (eqb z x) (contains z l) e) (chosen_has (suc x) n z l c.2)
  where
    go : (eqb z x ≡ true) ⊎ (contains z l ≡ true) → (contains z l ≡ true → z < n) → z < n
    go (inl p) ih = subst (λ (i : ℕ). i < n) (sym (eqb-true z x p)) c.1
    go (inr p) ih = ih p

module _ (n k x : ℕ) (rest : List ℕ) (low : k ≤ x) (inside : suc x < head n rest) (above : Chosen (suc x) n rest) where
  higher : Chosen (suc (suc x)) n rest
  higher = chosen_from (suc x) (suc (suc x)) n rest inside above

  leaves_low : (k : ℕ) → k ≤ x → leaving k x < suc (suc x)
  leaves_low zero h = omega arith
  leaves_low (suc j) h = omega arith

  at_seam : Exchanged (before k x ++ rest) (after k x ++ rest) (leaving k x) (suc x)
  at_seam =
      beside (seam_exchanged k x low) rest (chosen_away (suc (suc x)) n (leaving k x) rest (leaves_low k low) higher)
      (chosen_away (suc (suc x)) n (suc x) rest (omega arith) higher)

  rising : (size : ℕ) → suc k + length rest ≡ size → turns true (length rest) ≡ true → Follows n size (before k x ++ rest) (after k x ++ rest)
  rising size e way =
      subst (λ (d : Bool). Moves d n size (before k x ++ rest) (after k x ++ rest)) way
      (moves_all true n (suc k) size (suc (suc x)) (before k x) (after k x) rest higher e (follows_seam (head n rest) k x low inside))

  falling : (size : ℕ) → suc k + length rest ≡ size → turns false (length rest) ≡ true → Follows n size (after k x ++ rest) (before k x ++ rest)
  falling size e way =
      subst (λ (d : Bool). Moves d n size (after k x ++ rest) (before k x ++ rest)) way
      (moves_all false n (suc k) size (suc (suc x)) (after k x) (before k x) rest higher e (follows_seam (head n rest) k x low inside))

-- what the step promises
pub record Stepped (n : ℕ) (s t : List ℕ) (x y : ℕ) : Type 0 where
  pub next : t ≡ next_set n s
  pub exchanged : Exchanged s t x y

length_before : (k x : ℕ) (rest : List ℕ) → length (before k x ++ rest) ≡ suc k + length rest
length_before k x rest = omega (arith, length-append (before k x) rest, length-append (up_to k) (x ∷ []), up_to-length k)

length_after : (k x : ℕ) (rest : List ℕ) → length (after k x ++ rest) ≡ suc k + length rest
length_after zero x rest = omega arith
length_after (suc j) x rest = omega (arith, length-append (up_to j ++ (x ∷ suc x ∷ [])) rest, length-append (up_to j) (x ∷ suc x ∷ []), up_to-length j)

pub chosen : (n : ℕ) (s : List ℕ) → HasNext n s → Chosen 0 n s
chosen n s next = (is_set-parts n (length s) s next.is-set).1

pub rise_list : (n k x : ℕ) (rest : List ℕ) → HasNext n (before k x ++ rest) → suc x < head n rest → turns true (length rest) ≡ true
    → Stepped n (before k x ++ rest) (after k x ++ rest) (leaving k x) (suc x)
rise_list n k x rest next inside way =
    let c = subst (Chosen 0 n) (append_assoc (up_to k) (x ∷ []) rest) (chosen n (before k x ++ rest) next) in
    let low = above-first n k x rest c in
    let above = (chosen_after 0 n (up_to k) x rest c).2 in
    let size = length (before k x ++ rest) in
    record {
      next = follows_next refl (rising n k x rest low inside above size (sym (length_before k x rest)) way);
      exchanged = at_seam n k x rest low inside above;
    }

pub fall_list : (n k x : ℕ) (rest : List ℕ) → HasNext n (after k x ++ rest) → k ≤ x → turns false (length rest) ≡ true
    → Stepped n (after k x ++ rest) (before k x ++ rest) (suc x) (leaving k x)
fall_list n k x rest next low way =
    let after-it = last_after k (chosen n (after k x ++ rest) next) in
    let inside : suc x < head n rest = head-above (suc (suc x)) n rest after-it.1 after-it.2 in
    let above : Chosen (suc x) n rest = chosen_from (suc (suc x)) (suc x) n rest (omega arith) after-it.2 in
    let size = length (after k x ++ rest) in
    record {
      next = follows_next refl (falling n k x rest low inside above size (sym (length_after k x rest)) way);
      exchanged = turned (at_seam n k x rest low inside above);
    }
  where
    last_after : (k : ℕ) → Chosen 0 n (after k x ++ rest) → (0 ≤ suc x) × (suc x < n) × Chosen (suc (suc x)) n rest
    last_after zero c = c
    last_after (suc j) c =
        let all = append_assoc (up_to j) (x ∷ suc x ∷ []) rest ∙ sym (append_assoc (up_to j) (x ∷ []) (suc x ∷ rest)) in
        chosen_after 0 n (up_to j ++ (x ∷ [])) (suc x) rest (subst (Chosen 0 n) all c)
