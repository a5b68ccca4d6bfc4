-- A strictly rising list of wires below n, read from its first wire and from its last.
--     chosen lo n s     each wire of s is at least lo, below n and below the next: the test as a loop makes it
--     Chosen lo n s     the same as facts
--     rising_chosen     the definition's test is chosen from 0
--     chosen_true, chosen_is      the test and the facts
--     chosen_snoc, snoc_chosen    a last wire
--     chosen_take                 the first wires
--     is_set_snoc        the test of a set, at its last wire
--     is_set-parts, parts-is_set    what the test of a set says
--     loop_low, loop_high, loop_next, loop_end     the turns of a loop that makes the test, at place i with the least wire lo
use Prim.Native.Nat.{ℕ, zero, suc, ◌+◌, ◌≤◌, ◌<◌}
use native.Mathlib.Omega.{arith}
use native.Mathlib.Numerals.{add-one}
use mathlib.Core.Path.{◌≡◌, refl, sym, ◌∙◌, ap, ap₂}
use mathlib.Core.Bool.{Bool, true, false, ◌&&◌, and-false, and_assoc}
use mathlib.Core.List.{List, [], ◌∷◌, ◌++◌}
use borrow.Author.Tests.{lt-ltb, le-leb, ltb-true, leb-true, eqb-true, eq-eqb, lt-leb, le-ltb}
use lib.Dec.{ltb, leb, eqb, eqb-suc-suc}
use lib.ListN.{length, get_or, take, drop, length-append, drop_of_length-le}
use lib.Seq.{drop-cons}
use Rattle.revolving.specs.Order.{rising, below, is_set}
use Rattle.basics.proofs.Tests.{and_left, and_right, bool_ext}

abbrev pub chosen : ℕ → ℕ → List ℕ → Bool
chosen lo n [] = true
chosen lo n (x ∷ s) = leb lo x && (ltb x n && chosen (suc x) n s)

abbrev pub Chosen : ℕ → ℕ → List ℕ → Type 0
Chosen lo n [] = Unit {0}
Chosen lo n (x ∷ s) = (lo ≤ x) × (x < n) × Chosen (suc x) n s

-- the tests of a list, of its first wire and of the rest, in another order
regroup : (a r b c : Bool) → (a && r && (b && c)) ≡ (b && (a && (r && c)))
regroup true r true c = refl
regroup true r false c = and-false r
regroup false r true c = refl
regroup false r false c = refl

rising-from : (n x : ℕ) (s : List ℕ) → (rising (x ∷ s) && below n (x ∷ s)) ≡ (ltb x n && chosen (suc x) n s)
rising-from n x [] = refl
rising-from n x (y ∷ s) =
    regroup (ltb x y) (rising (y ∷ s)) (ltb x n) (below n (y ∷ s))
    ∙ ap (λ (b : Bool). ltb x n && (ltb x y && b)) (rising-from n y s)

pub rising_chosen : (n : ℕ) (s : List ℕ) → (rising s && below n s) ≡ chosen 0 n s
rising_chosen n [] = refl
rising_chosen n (x ∷ s) = rising-from n x s ∙ ap (λ (b : Bool). b && (ltb x n && chosen (suc x) n s)) (sym (le-leb 0 x (omega arith)))

pub chosen_true : (lo n : ℕ) (s : List ℕ) → chosen lo n s ≡ true → Chosen lo n s
chosen_true lo n [] e = tt
chosen_true lo n (x ∷ s) e =
    let rest : (ltb x n && chosen (suc x) n s) ≡ true = and_right (leb lo x) (ltb x n && chosen (suc x) n s) e in (
      leb-true lo x (and_left (leb lo x) (ltb x n && chosen (suc x) n s) e),
      ltb-true x n (and_left (ltb x n) (chosen (suc x) n s) rest),
      chosen_true (suc x) n s (and_right (ltb x n) (chosen (suc x) n s) rest),
    )

pub chosen_is : (lo n : ℕ) (s : List ℕ) → Chosen lo n s → chosen lo n s ≡ true
chosen_is lo n [] c = refl
chosen_is lo n (x ∷ s) c = rw (le-leb lo x c.0, lt-ltb x n c.1) (chosen_is (suc x) n s c.2)

pub chosen_snoc : (lo n : ℕ) (s : List ℕ) (x : ℕ) → Chosen lo n (s ++ (x ∷ [])) → Chosen lo x s × (lo ≤ x) × (x < n)
chosen_snoc lo n [] x c = (tt, c.0, c.1)
chosen_snoc lo n (y ∷ s) x c =
    let ih = chosen_snoc (suc y) n s x c.2 in
    let p : suc y ≤ x = ih.1 in
    let q : lo ≤ y = c.0 in
    ((q, p, ih.0), omega arith, ih.2)

pub snoc_chosen : (lo n : ℕ) (s : List ℕ) (x : ℕ) → Chosen lo x s → lo ≤ x → x < n → Chosen lo n (s ++ (x ∷ []))
snoc_chosen lo n [] x c p q = (p, q, tt)
snoc_chosen lo n (y ∷ s) x c p q =
    let h : y < x = c.1 in
    (c.0, omega arith, snoc_chosen (suc y) n s x c.2 h q)

pub chosen_take : (lo n : ℕ) (s : List ℕ) (i : ℕ) → Chosen lo n s → Chosen lo n (take i s)
chosen_take lo n [] zero c = tt
chosen_take lo n [] (suc i) c = tt
chosen_take lo n (x ∷ s) zero c = tt
chosen_take lo n (x ∷ s) (suc i) c = (c.0, c.1, chosen_take (suc x) n s i c.2)

chosen_last : (n : ℕ) (s : List ℕ) (x : ℕ) → chosen 0 n (s ++ (x ∷ [])) ≡ (chosen 0 x s && ltb x n)
chosen_last n s x = bool_ext (chosen 0 n (s ++ (x ∷ []))) (chosen 0 x s && ltb x n) there back
  where
    there : chosen 0 n (s ++ (x ∷ [])) ≡ true → (chosen 0 x s && ltb x n) ≡ true
    there e =
        let c = chosen_snoc 0 n s x (chosen_true 0 n (s ++ (x ∷ [])) e) in
        ap₂ (λ (a b : Bool). a && b) (chosen_is 0 x s c.0) (lt-ltb x n c.2)

    back : (chosen 0 x s && ltb x n) ≡ true → chosen 0 n (s ++ (x ∷ [])) ≡ true
    back e =
        chosen_is 0 n (s ++ (x ∷ []))
        (snoc_chosen 0 n s x (chosen_true 0 x s (and_left (chosen 0 x s) (ltb x n) e)) (omega arith)
        (ltb-true x n (and_right (chosen 0 x s) (ltb x n) e)))

-- a set of k + 1 wires is its last wire and a set of k wires below that
pub is_set_snoc : (n k : ℕ) (s : List ℕ) (x : ℕ) → is_set n (suc k) (s ++ (x ∷ [])) ≡ (is_set x k s && ltb x n)
is_set_snoc n k s x =
    let long : length (s ++ (x ∷ [])) ≡ suc (length s) = length-append s (x ∷ []) ∙ add-one (length s) in
    ap₂ (λ (a b : Bool). a && b)
    (ap (λ (m : ℕ). eqb m (suc k)) long ∙ eqb-suc-suc (length s) k)
    (rising_chosen n (s ++ (x ∷ [])) ∙ chosen_last n s x ∙ ap (λ (b : Bool). b && ltb x n) (sym (rising_chosen x s)))
    ∙ sym (and_assoc (eqb (length s) k) (rising s && below x s) (ltb x n))

-- what the test of a set says
pub is_set-parts : (n k : ℕ) (s : List ℕ) → is_set n k s ≡ true → (length s ≡ k) × Chosen 0 n s
is_set-parts n k s e = (
  eqb-true (length s) k (and_left (eqb (length s) k) (rising s && below n s) e),
  chosen_true 0 n s (sym (rising_chosen n s) ∙ and_right (eqb (length s) k) (rising s && below n s) e),
)

pub parts-is_set : (n k : ℕ) (s : List ℕ) → length s ≡ k → (rising s && below n s) ≡ true → is_set n k s ≡ true
parts-is_set n k s p q = rw (eq-eqb (length s) k p) q

module _ (lo n : ℕ) (s : List ℕ) (i : ℕ) (so_far : (rising s && below n s) ≡ chosen lo n (drop i s)) where
  at_place : i < length s → (rising s && below n s) ≡ (leb lo (get_or s i 0) && (ltb (get_or s i 0) n && chosen (suc (get_or s i 0)) n (drop (suc i) s)))
  at_place h = so_far ∙ ap (chosen lo n) (drop-cons s i 0 h)

  pub loop_low : i < length s → get_or s i 0 < lo → false ≡ (rising s && below n s)
  loop_low h p =
      let rest = ltb (get_or s i 0) n && chosen (suc (get_or s i 0)) n (drop (suc i) s) in
      sym (at_place h ∙ ap (λ (b : Bool). b && rest) (lt-leb lo (get_or s i 0) p))

  pub loop_high : i < length s → n ≤ get_or s i 0 → false ≡ (rising s && below n s)
  loop_high h p =
      let rest = chosen (suc (get_or s i 0)) n (drop (suc i) s) in
      let low = leb lo (get_or s i 0) in
      sym (at_place h ∙ ap (λ (b : Bool). low && (b && rest)) (le-ltb (get_or s i 0) n p) ∙ and-false low)

  pub loop_next : i < length s → lo ≤ get_or s i 0 → get_or s i 0 < n → (rising s && below n s) ≡ chosen (get_or s i 0 + 1) n (drop (i + 1) s)
  loop_next h p q =
      let rest = chosen (suc (get_or s i 0)) n (drop (suc i) s) in
      at_place h
      ∙ ap (λ (b : Bool). b && (ltb (get_or s i 0) n && rest)) (le-leb lo (get_or s i 0) p)
      ∙ ap (λ (b : Bool). b && rest) (lt-ltb (get_or s i 0) n q)
      ∙ ap₂ (λ (a b : ℕ). chosen a n (drop b s)) (sym (add-one (get_or s i 0))) (sym (add-one i))

  pub loop_end : length s ≤ i → true ≡ (rising s && below n s)
  loop_end h = sym (so_far ∙ ap (chosen lo n) (drop_of_length-le s h))
