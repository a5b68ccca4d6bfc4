-- A chain of tests, each of which turns down or goes on, settles its conditions where each test decides its condition.
--     Chain                      each condition's refusal where it is the first that holds; the operation's own answer where none does; one or the other
--     own, test                  a chain of no tests; one test more, before the others
--     values-refusal             values are no refusal
--     passed, settles            what a chain of any kind of answer tells, where its own answer tells values
--     settles-told, own_told, settles-lent     the two kinds of answer; values that are told are the operation's own
--     one_answer                 where conditions are settled, one of them is the first that holds, or none holds
--     earlier_wins               a condition that holds wins over all after it
--     told-first, told-some      the refusal told is that of the first condition that holds, and one does
--     less, least, equal         the tests on two numbers decide
--     one_of, one_of_three, one_of_four, both, fails, neither, not_both, some_decides     tests that are put together decide what is put together
--     not_less, not_least        the tests on two numbers, the other way round
use Prim.Native.Nat.{ℕ, ◌≤◌, ◌<◌}
use native.Mathlib.Omega.{arith}
use mathlib.Core.Path.{◌≡◌, refl, sym, ◌∙◌, ap, subst}
use mathlib.Core.Logic.{◌↔◌, ◌⊎◌, inl, inr, ⊎_elim}
use mathlib.Core.Bool.{Bool, true, false, cond, not, ◌&&◌, ◌||◌, true≢false, false≢true, or_assoc}
use mathlib.Core.List.{List, [], ◌∷◌}
use borrow.Author.Tests.{ltb-true, ltb-false, leb-true, leb-false, eqb-true, lt-ltb, le-ltb, le-leb, lt-leb, eq-eqb}
use lib.Dec.{ltb, leb, eqb}
use Rattle.basics.specs.Folds.{some, up_to}
use Rattle.basics.specs.Told.{Told, Lent, values, refusal, turned_down}
use Rattle.basics.specs.Conditions.{Condition, ◌when◌, Some, First, None, Settles, SettlesLent}
use Rattle.basics.proofs.Tests.{and_left, and_right, and_both, or_left, or_right, or_cases}
use Rattle.basics.proofs.Folds.{some_at, some_where}

-- ---- the chain

-- a condition that holds wins over all after it
pub earlier_wins : {number n : ℕ} {holds : Type 0} (later : List Condition) → holds → First (number when holds ∷ later) n → number ≡ n
earlier_wins later h (inl f) = f.1
earlier_wins later h (inr f) = absurd (f.0 h)

module _ {A : Type 0} (refuse : ℕ → A) (answer : A) where
  pub record Chain (conditions : List Condition) (chain : A) : Type 0 where
    pub first : (n : ℕ) → First conditions n → chain ≡ refuse n
    pub none : None conditions → chain ≡ answer
    pub either : ((n : ℕ) × First conditions n) ⊎ None conditions

  pub own : Chain [] answer
  own = record { first = λ n f. absurd f; none = λ n. refl; either = inr tt }

module _ {A : Type 0} {refuse : ℕ → A} {answer : A} where
  pub test : {b : Bool} {holds : Type 0} {later : List Condition} {rest : A} (number : ℕ) → (b ≡ true) ↔ holds → Chain refuse answer later rest
      → Chain refuse answer (number when holds ∷ later) (cond b (refuse number) rest)
  test {b} {holds} {later} {rest} number decides chain = go b decides
    where
      due : holds → (n : ℕ) → First (number when holds ∷ later) n → refuse number ≡ refuse n
      due h n f = ap refuse (earlier_wins later h f)

      goes_on : (holds → ⊥) → (n : ℕ) → First (number when holds ∷ later) n → rest ≡ refuse n
      goes_on h n (inl f) = absurd (h f.0)
      goes_on h n (inr f) = chain.first n f.1

      either-later : (holds → ⊥) → ((n : ℕ) × First later n) ⊎ None later
          → ((n : ℕ) × First (number when holds ∷ later) n) ⊎ None (number when holds ∷ later)
      either-later h (inl f) = inl (f.0, inr (h, f.1))
      either-later h (inr n) = inr (h, n)

      go : (b : Bool) → (b ≡ true) ↔ holds → Chain refuse answer (number when holds ∷ later) (cond b (refuse number) rest)
      go true d = record { first = due (d.0 refl); none = λ n. absurd (n.0 (d.0 refl)); either = inl (number, inl (d.0 refl, refl)) }
      go false d =
          let no : holds → ⊥ = λ h. false≢true (d.1 h) in
          record { first = goes_on no; none = λ n. chain.none n.1; either = either-later no chain.either }

-- ---- what it tells

pub values-refusal : (l : List ℕ) (k : ℕ) → values l ≡ refusal k → ⊥
values-refusal l k e = let z : ◌≡◌ {A = ℕ} 0 1 = cc in omega (arith, z)

module _ {A : Type 0} {refuse : ℕ → A} {answer : A} {conditions : List Condition} {chain : A} (c : Chain refuse answer conditions chain)
    (tells : A → Told) (refuses : (n : ℕ) → tells (refuse n) ≡ refusal n) (l : List ℕ) (answers : tells answer ≡ values l) where
  same_number : (m n : ℕ) → chain ≡ refuse m → tells chain ≡ refusal n → m ≡ n
  same_number m n f e = let g : refusal m ≡ refusal n = sym (refuses m) ∙ ap tells (sym f) ∙ e in cc

  due : (n : ℕ) → tells chain ≡ refusal n → First conditions n
  due n e = go c.either
    where
      go : ((m : ℕ) × First conditions m) ⊎ None conditions → First conditions n
      go (inl f) = subst (First conditions) (same_number f.0 n (c.first f.0 f.1) e) f.1
      go (inr none) = absurd (values-refusal l n (sym answers ∙ ap tells (sym (c.none none)) ∙ e))

  pub passed : (k : List ℕ) → tells chain ≡ values k → None conditions
  passed k e = go c.either
    where
      go : ((m : ℕ) × First conditions m) ⊎ None conditions → None conditions
      go (inl f) = absurd (values-refusal k f.0 (sym e ∙ ap tells (c.first f.0 f.1) ∙ refuses f.0))
      go (inr none) = none

  pub settles : Settles conditions (tells chain)
  settles = record {
    refused = λ n. (due n, λ f. ap tells (c.first n f) ∙ refuses n);
    answered = (λ t. passed t.0 t.1, λ none. (l, ap tells (c.none none) ∙ answers));
  }

pub settles-told : {l : List ℕ} {told : Told} {conditions : List Condition} → Chain refusal (values l) conditions told → Settles conditions told
settles-told {l} c = settles c (λ (t : Told). t) (λ n. refl) l refl

-- values that are told are the operation's own
pub own_told : {l : List ℕ} {told : Told} {conditions : List Condition} → Chain refusal (values l) conditions told → (k : List ℕ) → told ≡ values k
    → values l ≡ values k
own_told {l} c k e = sym (c.none (passed c (λ (t : Told). t) (λ n. refl) l refl k e)) ∙ e

pub settles-lent : {answer chain : Lent} {conditions : List Condition} {buffer : List ℕ}
    → Chain (λ n. turned_down n buffer) answer conditions chain → (l : List ℕ) → answer.told ≡ values l → SettlesLent conditions buffer chain
settles-lent c l e =
    let s = settles c (λ (a : Lent). a.told) (λ n. refl) l e in
    record { settles = s; kept = λ n r. ap (λ (a : Lent). a.held) (c.first n ((s.refused n).0 r)) }

-- every call has one answer: the refusal of one number, or values
pub one_answer : {conditions : List Condition} (told : Told) → Settles conditions told
    → ((n : ℕ) × (told ≡ refusal n) × First conditions n) ⊎ ((l : List ℕ) × (told ≡ values l) × None conditions)
one_answer (values l) s = inr (l, refl, s.answered.0 (l, refl))
one_answer (refusal n) s = inl (n, refl, (s.refused n).0 refl)

-- where a refusal is told, the first condition that holds is its own, and some condition holds
pub told-first : {conditions : List Condition} (m n : ℕ) → Settles conditions (refusal m) → First conditions n → m ≡ n
told-first m n s f = let e : refusal m ≡ refusal n = (s.refused n).1 f in cc

pub told-some : {conditions : List Condition} (m : ℕ) → Settles conditions (refusal m) → None conditions → ⊥
told-some m s none = let v = s.answered.1 none in values-refusal v.0 m (sym v.1)

-- ---- what the tests decide

pub less : (a b : ℕ) → (ltb a b ≡ true) ↔ (a < b)
less a b = (ltb-true a b, lt-ltb a b)

pub least : (a b : ℕ) → (leb a b ≡ true) ↔ (a ≤ b)
least a b = (leb-true a b, le-leb a b)

pub equal : (a b : ℕ) → (eqb a b ≡ true) ↔ (a ≡ b)
equal a b = (eqb-true a b, eq-eqb a b)

pub not_less : (a b : ℕ) → (ltb a b ≡ false) ↔ (b ≤ a)
not_less a b = (ltb-false a b, le-ltb a b)

pub not_least : (a b : ℕ) → (leb a b ≡ false) ↔ (b < a)
not_least a b = (leb-false a b, lt-leb a b)

pub fails : {x : Bool} {P : Type 0} → (x ≡ true) ↔ P → (not x ≡ true) ↔ (P → ⊥)
fails {x} {P} p = go x p
  where
    go : (x : Bool) → (x ≡ true) ↔ P → (not x ≡ true) ↔ (P → ⊥)
    go true p = (λ e. absurd (false≢true e), λ no. absurd (no (p.0 refl)))
    go false p = (λ e h. false≢true (p.1 h), λ no. refl)

module _ {x y : Bool} {P Q : Type 0} where
  pub one_of : (x ≡ true) ↔ P → (y ≡ true) ↔ Q → ((x || y) ≡ true) ↔ (P ⊎ Q)
  one_of p q = (λ e. there (or_cases x y e), back)
    where
      there : (x ≡ true) ⊎ (y ≡ true) → P ⊎ Q
      there (inl e) = inl (p.0 e)
      there (inr e) = inr (q.0 e)

      back : P ⊎ Q → (x || y) ≡ true
      back (inl h) = or_left x y (p.1 h)
      back (inr h) = or_right x y (q.1 h)

  pub not_both : (x ≡ false) ↔ P → (y ≡ false) ↔ Q → (not (x && y) ≡ true) ↔ (P ⊎ Q)
  not_both p q = go x y p q
    where
      go : (x y : Bool) → (x ≡ false) ↔ P → (y ≡ false) ↔ Q → (not (x && y) ≡ true) ↔ (P ⊎ Q)
      go true true p q = (λ e. absurd (false≢true e), λ h. absurd (true≢false (⊎_elim p.1 q.1 h)))
      go true false p q = (λ e. inr (q.0 refl), λ h. refl)
      go false y p q = (λ e. inl (p.0 refl), λ h. refl)

  pub neither : (x ≡ true) ↔ P → (y ≡ true) ↔ Q → (not (x || y) ≡ true) ↔ ((P → ⊥) × (Q → ⊥))
  neither p q = (there, λ no. (fails (one_of p q)).1 (⊎_elim no.0 no.1))
    where
      there : not (x || y) ≡ true → (P → ⊥) × (Q → ⊥)
      there e = let no = (fails (one_of p q)).0 e in (λ h. no (inl h), λ h. no (inr h))

pub both : {x y : Bool} {P Q : Type 0} → (x ≡ true) ↔ P → (y ≡ true) ↔ Q → ((x && y) ≡ true) ↔ (P × Q)
both {x} {y} p q = (λ e. (p.0 (and_left x y e), q.0 (and_right x y e)), λ h. and_both x y (p.1 h.0) (q.1 h.1))

pub one_of_three : {x y z : Bool} {P Q R : Type 0} → (x ≡ true) ↔ P → (y ≡ true) ↔ Q → (z ≡ true) ↔ R → ((x || y || z) ≡ true) ↔ (P ⊎ Q ⊎ R)
one_of_three p q r = simp or_assoc (one_of p (one_of q r))

pub one_of_four : {w x y z : Bool} {O P Q R : Type 0} → (w ≡ true) ↔ O → (x ≡ true) ↔ P → (y ≡ true) ↔ Q → (z ≡ true) ↔ R
    → ((w || x || y || z) ≡ true) ↔ (O ⊎ P ⊎ Q ⊎ R)
one_of_four o p q r = simp or_assoc (one_of o (one_of p (one_of q r)))

pub some_decides : (n : ℕ) (f : ℕ → Bool) {P : ℕ → Type 0} → ((i : ℕ) → (f i ≡ true) ↔ P i) → (some f (up_to n) ≡ true) ↔ Some n P
some_decides n f decides = (
  λ e. let r = some_where n f e in (r.0, r.1, (decides r.0).0 r.2),
  λ h. some_at n h.0 f h.1 ((decides h.0).1 h.2),
)
