-- Sets of wires as tests on wire numbers.
--     members-last      the last wire comes last
--     keep-below        tests that say the same of every wire below n have the same members
--     keep_narrow       a test that passes no wire from m on has its members below m
--     members-length    how many members there are
--     members_rise      more wires have no fewer members
--     members-is-set    they are a set
--     a_test            every set is the members of a test
--     rest, rest-parted the wires of a set outside a part of it
use Prim.Native.Nat.{ℕ, zero, suc, ◌+◌, ◌≤◌, ◌<◌}
use native.Mathlib.Nat.{not-suc-le-zero, zero-add}
use native.Mathlib.Decide.{dec_lt}
use native.Mathlib.Omega.{arith}
use native.Mathlib.Numerals.{add-one}
use mathlib.Core.Path.{◌≡◌, refl, sym, ◌∙◌, ap, ap₂, subst}
use mathlib.Core.Logic.{◌⊎◌, inl, inr}
use mathlib.Core.Bool.{Bool, true, false, cond, not, ◌&&◌, true≢false}
use mathlib.Core.List.{List, [], ◌∷◌, ◌++◌, append-nil}
use borrow.Author.Tests.{lt-ltb, ltb-true, eq-eqb, ne_eqb}
use lib.Dec.{ltb, eqb}
use lib.ListN.{length, length-append}
use Rattle.basics.specs.Folds.{count, keep, one_if, up_to}
use Rattle.basics.proofs.Tests.{and_left, and_right, and_both}
use Rattle.basics.proofs.Folds.{keep_append, up_to-last}
use Rattle.revolving.specs.Order.{is_set}
use Rattle.revolving.proofs.Lists.{ends-or-empty}
use Rattle.revolving.proofs.Rising.{Chosen, is_set_snoc, is_set-parts}
use Rattle.parts.specs.Parts.{members, Parted}

-- the last wire comes last
pub members-last : (n : ℕ) (s : ℕ → Bool) → members (suc n) s ≡ members n s ++ cond (s n) (n ∷ []) []
members-last n s = ap (keep s) (up_to-last n) ∙ keep_append s (up_to n) (n ∷ [])

members-none : (s : ℕ → Bool) → members 0 s ≡ []
unfolding up_to
members-none s = refl

pub keep-below : (n : ℕ) (s t : ℕ → Bool) → ((w : ℕ) → w < n → s w ≡ t w) → members n s ≡ members n t
keep-below zero s t h = members-none s ∙ sym (members-none t)
keep-below (suc n) s t h =
    members-last n s
    ∙ ap₂ (λ (l : List ℕ) (b : Bool). l ++ cond b (n ∷ []) []) (keep-below n s t (λ w k. h w (omega (arith, k)))) (h n (omega arith))
    ∙ sym (members-last n t)

pub keep_narrow : (m n : ℕ) (s : ℕ → Bool) → m ≤ n → ((w : ℕ) → m ≤ w → w < n → s w ≡ false) → members n s ≡ members m s
keep_narrow m zero s h none = let e : m ≡ 0 = omega arith in ap (λ (i : ℕ). members i s) (sym e)
keep_narrow m (suc n) s h none = go (dec_lt n m) (keep_narrow m n s)
  where
    go : Dec (n < m) → (m ≤ n → ((w : ℕ) → m ≤ w → w < n → s w ≡ false) → members n s ≡ members m s) → members (suc n) s ≡ members m s
    go (yes p) ih = let e : suc n ≡ m = omega arith in ap (λ (i : ℕ). members i s) e
    go (no p) ih =
        members-last n s ∙ ap (λ (b : Bool). members n s ++ cond b (n ∷ []) []) (none n (omega arith) (omega arith))
        ∙ append-nil (members n s) ∙ ih (omega arith) (λ w a b. none w a (omega (arith, b)))

pub members-length : (n : ℕ) (s : ℕ → Bool) → length (members n s) ≡ count s (up_to n)
members-length n s = go (up_to n)
  where
    go : (l : List ℕ) → length (keep s l) ≡ count s l
    go [] = refl
    go (x ∷ l) = one (s x) (go l)
      where
        one : (b : Bool) → length (keep s l) ≡ count s l → length (cond b (x ∷ keep s l) (keep s l)) ≡ one_if b + count s l
        one true e = let more : 1 + count s l ≡ suc (count s l) = omega arith in ap suc e ∙ sym more
        one false e = e ∙ sym (zero-add (count s l))

pub members_rise : (s : ℕ → Bool) (m n : ℕ) → m ≤ n → length (members m s) ≤ length (members n s)
members_rise s m zero h = let e : m ≡ 0 = omega arith in subst (λ (k : ℕ). length (members k s) ≤ length (members 0 s)) (sym e) (omega arith)
members_rise s m (suc n) h = go (dec_lt n m) (members_rise s m n)
  where
    go : Dec (n < m) → (m ≤ n → length (members m s) ≤ length (members n s)) → length (members m s) ≤ length (members (suc n) s)
    go (yes p) ih =
        let e : m ≡ suc n = omega (arith, p, h) in
        subst (λ (k : ℕ). length (members k s) ≤ length (members (suc n) s)) (sym e) (omega arith)
    go (no p) ih =
        let before : length (members m s) ≤ length (members n s) = ih (omega (arith, p)) in
        omega (arith, before, ap length (members-last n s), length-append (members n s) (cond (s n) (n ∷ []) []))

-- a set of some wires is one of more wires
wider : (n k : ℕ) (l : List ℕ) → is_set n k l ≡ true → is_set (suc n) k l ≡ true
wider n k l e = go (ends-or-empty l) k e
  where
    go : (l ≡ []) ⊎ ((t : List ℕ) × (x : ℕ) × (l ≡ t ++ (x ∷ []))) → (k : ℕ) → is_set n k l ≡ true → is_set (suc n) k l ≡ true
    go (inl p) k e = ap (is_set (suc n) k) p ∙ sym (ap (is_set n k) p) ∙ e
    go (inr p) zero e =
        let none : length l ≡ 0 = (is_set-parts n 0 l e).0 in
        let long : length l ≡ length p.0 + 1 = ap length p.2 ∙ length-append p.0 (p.1 ∷ []) in
        let z : ⊥ = omega arith in absurd z
    go (inr p) (suc k) e =
        let both : (is_set p.1 k p.0 && ltb p.1 n) ≡ true =
        sym (is_set_snoc n k p.0 p.1) ∙ ap (is_set n (suc k)) (sym p.2) ∙ e in
        let less : p.1 < n = ltb-true p.1 n (and_right (is_set p.1 k p.0) (ltb p.1 n) both) in
        ap (is_set (suc n) (suc k)) p.2 ∙ is_set_snoc (suc n) k p.0 p.1
        ∙ and_both (is_set p.1 k p.0) (ltb p.1 (suc n)) (and_left (is_set p.1 k p.0) (ltb p.1 n) both)
        (lt-ltb p.1 (suc n) (omega (arith, less)))

pub members-is-set : (n : ℕ) (s : ℕ → Bool) → is_set n (length (members n s)) (members n s) ≡ true
members-is-set zero s = ap (λ (l : List ℕ). is_set 0 (length l) l) (members-none s)
members-is-set (suc n) s = ap (λ (l : List ℕ). is_set (suc n) (length l) l) (members-last n s) ∙ go (s n) (members-is-set n s)
  where
    go : (b : Bool) → is_set n (length (members n s)) (members n s) ≡ true
        → is_set (suc n) (length (members n s ++ cond b (n ∷ []) [])) (members n s ++ cond b (n ∷ []) []) ≡ true
    go true ih =
        let t = members n s in
        ap (λ (k : ℕ). is_set (suc n) k (t ++ (n ∷ []))) (length-append t (n ∷ []) ∙ add-one (length t))
        ∙ is_set_snoc (suc n) (length t) t n ∙ and_both (is_set n (length t) t) (ltb n (suc n)) ih (lt-ltb n (suc n) (omega arith))
    go false ih =
        ap (λ (l : List ℕ). is_set (suc n) (length l) l) (append-nil (members n s)) ∙ wider n (length (members n s)) (members n s) ih

pub a_test : (n k : ℕ) (l : List ℕ) → is_set n k l ≡ true → (s : ℕ → Bool) × (members n s ≡ l)
a_test zero k l e = ((λ w. false), members-none (λ w. false) ∙ sym (none l (is_set-parts 0 k l e).1))
  where
    none : (l : List ℕ) → Chosen 0 0 l → l ≡ []
    none [] c = refl
    none (x ∷ l) c = absurd (not-suc-le-zero c.1)
a_test (suc n) k l e = go (ends-or-empty l) k e (a_test n)
  where
    Found : ℕ → List ℕ → Type 0
    Found n l = (s : ℕ → Bool) × (members n s ≡ l)

    -- what a test says of the wires below n, and what is said of n
    with : (s : ℕ → Bool) (b : Bool) → Found (suc n) (members n s ++ cond b (n ∷ []) [])
    with s b = (
      (λ w. cond (eqb w n) b (s w)),
      members-last n (λ w. cond (eqb w n) b (s w))
          ∙ ap₂ (λ (l : List ℕ) (c : Bool). l ++ cond c (n ∷ []) [])
          (keep-below n (λ w. cond (eqb w n) b (s w)) s (λ w h. ap (λ (c : Bool). cond c b (s w)) (ne_eqb w n (omega (arith, h)))))
          (ap (λ (c : Bool). cond c b (s n)) (eq-eqb n n refl)),
    )

    without : (k : ℕ) → is_set n k l ≡ true → ((k : ℕ) (l : List ℕ) → is_set n k l ≡ true → Found n l) → Found (suc n) l
    without k e ih =
        let r = ih k l e in
        let more = with r.0 false in
        (more.0, more.1 ∙ append-nil (members n r.0) ∙ r.1)

    go : (l ≡ []) ⊎ ((t : List ℕ) × (x : ℕ) × (l ≡ t ++ (x ∷ []))) → (k : ℕ) → is_set (suc n) k l ≡ true
        → ((k : ℕ) (l : List ℕ) → is_set n k l ≡ true → Found n l) → Found (suc n) l
    go (inl p) k e ih = without k (ap (is_set n k) p ∙ sym (ap (is_set (suc n) k) p) ∙ e) ih
    go (inr p) zero e ih =
        let none : length l ≡ 0 = (is_set-parts (suc n) 0 l e).0 in
        let long : length l ≡ length p.0 + 1 = ap length p.2 ∙ length-append p.0 (p.1 ∷ []) in
        let z : ⊥ = omega arith in absurd z
    go (inr p) (suc k) e ih = last (dec_lt p.1 n)
      where
        both : (is_set p.1 k p.0 && ltb p.1 (suc n)) ≡ true
        both = sym (is_set_snoc (suc n) k p.0 p.1) ∙ ap (is_set (suc n) (suc k)) (sym p.2) ∙ e

        last : Dec (p.1 < n) → Found (suc n) l
        last (yes q) =
            without (suc k)
            (ap (is_set n (suc k)) p.2 ∙ is_set_snoc n k p.0 p.1
            ∙ and_both (is_set p.1 k p.0) (ltb p.1 n) (and_left (is_set p.1 k p.0) (ltb p.1 (suc n)) both) (lt-ltb p.1 n q)) ih
        last (no q) =
            let less : p.1 < suc n = ltb-true p.1 (suc n) (and_right (is_set p.1 k p.0) (ltb p.1 (suc n)) both) in
            let same : p.1 ≡ n = omega arith in
            let r = ih k p.0 (ap (λ (i : ℕ). is_set i k p.0) (sym same) ∙ and_left (is_set p.1 k p.0) (ltb p.1 (suc n)) both) in
            let more = with r.0 true in
            (more.0, more.1 ∙ ap₂ (λ (l : List ℕ) (x : ℕ). l ++ (x ∷ [])) r.1 (sym same) ∙ sym p.2)

abbrev pub rest : (ℕ → Bool) → (ℕ → Bool) → ℕ → Bool
rest s p w = s w && not (p w)

pub rest-parted : (n : ℕ) (s p : ℕ → Bool) → ((w : ℕ) → w < n → p w ≡ true → s w ≡ true) → Parted n s p (rest s p)
rest-parted n s p h w k = go (s w) (p w) (h w k)
  where
    go : (a b : Bool) → (b ≡ true → a ≡ true) → one_if a ≡ one_if b + one_if (a && not b)
    go true true f = refl
    go true false f = refl
    go false true f = absurd (true≢false (sym (f refl)))
    go false false f = refl
