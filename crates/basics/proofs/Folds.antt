-- Laws of folds over a list, once for sums without carry, tests and counts.
--     fold_cong, fold-map, fold_hom        equal functions; a mapped list; a map that takes one operation to the other
--     fold_unit, fold_both, fold_exchange  a commutative operation with a unit: nothing to add, two functions, two lists
--     fold-append, fold_more               a list in two parts; one element more
--     fold-first, up_to-last               the numbers below n + 1: the first, and the rest less one; all but the last, and the last
--     fold_split                           the numbers below n + m: those below n, and the rest less n
--     fold-below                           functions that are equal below n
--     fold_pick                            one number alone adds something
--     fold_narrow                          numbers from n on add nothing
--     fold_lists                           lists put together
--     fold_keeps                           what holds of every part holds of the whole
--     up_to-length                         there are n numbers below n
--     keep_append                          what is kept of a list in two parts
--     count-all                            a test that always passes counts the elements
--     count-either                         what passes one of two tests or the other is counted by both
--     every_place                          what holds of every element holds at a place
--     some_at, some_where, never, none_below, none_more, every_at, every-below     what holds of some number below n, of none, of every one
use Prim.Native.Nat.{ℕ, zero, suc, ◌+◌, ◌≤◌, ◌<◌, suc-le-suc, zero-le}
use native.Mathlib.Nat.{not-suc-le-zero, le_of_suc-le-suc, zero-lt-suc, zero-add, suc-add}
use native.Mathlib.Omega.{arith}
use mathlib.Core.Path.{◌≡◌, refl, sym, ◌∙◌, ap, ap₂, subst}
use mathlib.Core.Logic.{◌⊎◌, inl, inr}
use mathlib.Core.Bool.{Bool, true, false, cond, ◌&&◌, ◌||◌, true≢false, false≢true, or_assoc}
use mathlib.Core.List.{List, [], ◌∷◌, ◌++◌, map, map-append}
use lib.ListN.{length, take, get_or}
use lib.Seq.{take-suc}
use lib.Dec.{eqb, eqb-zero-suc, eqb-suc-zero, eqb-suc-suc}
use Rattle.basics.specs.Folds.{fold, some, every, count, one_if, keep, up_to}
use Rattle.basics.proofs.Tests.{and_left, and_right, and_both, or_left, or_right}

module _ {A B : Type 0} (op : B → B → B) (e : B) where
  pub fold_cong : (f g : A → B) (l : List A) → ((x : A) → f x ≡ g x) → fold op e f l ≡ fold op e g l
  fold_cong f g [] h = refl
  fold_cong f g (x ∷ l) h = ap₂ op (h x) (fold_cong f g l h)

  pub fold-map : {C : Type 0} (h : C → A) (f : A → B) (l : List C) → fold op e f (map h l) ≡ fold op e (λ x. f (h x)) l
  fold-map h f [] = refl
  fold-map h f (x ∷ l) = ap (op (f (h x))) (fold-map h f l)

  pub fold_hom : {C : Type 0} (on : C → C → C) (u : C) (h : B → C) → h e ≡ u → ((x y : B) → h (op x y) ≡ on (h x) (h y))
      → (f : A → B) (l : List A) → h (fold op e f l) ≡ fold on u (λ x. h (f x)) l
  fold_hom on u h he hop f [] = he
  fold_hom on u h he hop f (x ∷ l) = hop (f x) (fold op e f l) ∙ ap (on (h (f x))) (fold_hom on u h he hop f l)

module _ {B : Type 0} (op : B → B → B) (e : B) (unit : (x : B) → op e x ≡ x) where
  pub fold_unit : {A : Type 0} (f : A → B) (l : List A) → ((x : A) → f x ≡ e) → fold op e f l ≡ e
  fold_unit f [] h = refl
  fold_unit f (x ∷ l) h = ap₂ op (h x) (fold_unit f l h) ∙ unit e

  pub fold-append : ((x y z : B) → op (op x y) z ≡ op x (op y z)) → {A : Type 0} (f : A → B) (k l : List A)
      → fold op e f (k ++ l) ≡ op (fold op e f k) (fold op e f l)
  fold-append assoc f [] l = sym (unit (fold op e f l))
  fold-append assoc f (x ∷ k) l = ap (op (f x)) (fold-append assoc f k l) ∙ sym (assoc (f x) (fold op e f k) (fold op e f l))

  pub fold_more : ((x : B) → op x e ≡ x) → ((x y z : B) → op (op x y) z ≡ op x (op y z))
      → {A C : Type 0} (f : A → B) (g : C → A) (l : List C) (i : ℕ) (d : C)
      → i < length l → fold op e f (map g (take (i + 1) l)) ≡ op (fold op e f (map g (take i l))) (f (g (get_or l i d)))
  fold_more unit-right assoc f g l i d h =
      let more : i + 1 ≡ suc i = omega arith in
      ap (λ k. fold op e f (map g (take k l))) more ∙ ap (λ k. fold op e f (map g k)) (take-suc l i d h)
      ∙ ap (fold op e f) (map-append g (take i l) (get_or l i d ∷ [])) ∙ fold-append assoc f (map g (take i l)) (g (get_or l i d) ∷ [])
      ∙ ap (op (fold op e f (map g (take i l)))) (unit-right (f (g (get_or l i d))))

  module _ (comm : (x y : B) → op x y ≡ op y x) (assoc : (x y z : B) → op (op x y) z ≡ op x (op y z)) where
    four : (w x y z : B) → op (op w x) (op y z) ≡ op (op w y) (op x z)
    four w x y z =
        assoc w x (op y z) ∙ ap (op w) (sym (assoc x y z) ∙ ap (λ (v : B). op v z) (comm x y) ∙ assoc y x z) ∙ sym (assoc w y (op x z))

    pub fold_both : {A : Type 0} (f g : A → B) (l : List A) → fold op e (λ x. op (f x) (g x)) l ≡ op (fold op e f l) (fold op e g l)
    fold_both f g [] = sym (unit e)
    fold_both f g (x ∷ l) = ap (op (op (f x) (g x))) (fold_both f g l) ∙ four (f x) (g x) (fold op e f l) (fold op e g l)

    pub fold_exchange : {A C : Type 0} (f : A → C → B) (l : List A) (k : List C)
        → fold op e (λ x. fold op e (f x) k) l ≡ fold op e (λ y. fold op e (λ x. f x y) l) k
    fold_exchange f [] k = sym (fold_unit (λ y. e) k (λ y. refl))
    fold_exchange f (x ∷ l) k =
        ap (op (fold op e (f x) k)) (fold_exchange f l k) ∙ sym (fold_both (f x) (λ y. fold op e (λ x. f x y) l) k)

module _ {B : Type 0} (op : B → B → B) (e : B) where
  pub fold-first : (n : ℕ) (f : ℕ → B) → fold op e f (up_to (suc n)) ≡ op (f 0) (fold op e (λ i. f (suc i)) (up_to n))
  unfolding up_to
  fold-first n f = ap (op (f 0)) (fold-map op e suc f (up_to n))

  pub fold-below : (n : ℕ) (f g : ℕ → B) → ((i : ℕ) → i < n → f i ≡ g i) → fold op e f (up_to n) ≡ fold op e g (up_to n)
  unfolding up_to
  fold-below zero f g h = refl
  fold-below (suc n) f g h =
      fold-first n f ∙ ap₂ op (h 0 (zero-lt-suc n)) (fold-below n (λ i. f (suc i)) (λ i. g (suc i)) (λ i k. h (suc i) (suc-le-suc k)))
      ∙ sym (fold-first n g)

  module _ (unit : (x : B) → op e x ≡ x) (unit-right : (x : B) → op x e ≡ x) where
    pub fold_pick : (n k : ℕ) (f : ℕ → B) → k < n → fold op e (λ i. cond (eqb i k) (f i) e) (up_to n) ≡ f k
    unfolding up_to
    fold_pick zero k f h = absurd (not-suc-le-zero h)
    fold_pick (suc n) zero f h =
        fold-first n (λ i. cond (eqb i 0) (f i) e)
        ∙ ap (op (f 0))
        (fold_unit op e unit (λ i. cond (eqb (suc i) 0) (f (suc i)) e) (up_to n) (λ i. ap (λ (b : Bool). cond b (f (suc i)) e) (eqb-suc-zero i)))
        ∙ unit-right (f 0)
    fold_pick (suc n) (suc k) f h =
        fold-first n (λ i. cond (eqb i (suc k)) (f i) e)
        ∙ ap₂ op (ap (λ (b : Bool). cond b (f 0) e) (eqb-zero-suc k))
        (fold_cong op e (λ i. cond (eqb (suc i) (suc k)) (f (suc i)) e) (λ i. cond (eqb i k) (f (suc i)) e) (up_to n)
        (λ i. ap (λ (b : Bool). cond b (f (suc i)) e) (eqb-suc-suc i k))
        ∙ fold_pick n k (λ i. f (suc i)) (le_of_suc-le-suc h))
        ∙ unit (f (suc k))

    pub fold_narrow : (n m : ℕ) (f : ℕ → B) → n ≤ m → ((i : ℕ) → n ≤ i → i < m → f i ≡ e) → fold op e f (up_to m) ≡ fold op e f (up_to n)
    unfolding up_to
    fold_narrow n zero f l h = go n l
      where
        go : (n : ℕ) → n ≤ 0 → e ≡ fold op e f (up_to n)
        go zero l = refl
        go (suc n) l = absurd (not-suc-le-zero l)
    fold_narrow zero (suc m) f l h =
        fold-first m f
        ∙ ap₂ op (h 0 zero-le (zero-lt-suc m)) (fold_narrow zero m (λ i. f (suc i)) zero-le (λ i a b. h (suc i) zero-le (suc-le-suc b))) ∙ unit e
    fold_narrow (suc n) (suc m) f l h =
        fold-first m f
        ∙ ap (op (f 0)) (fold_narrow n m (λ i. f (suc i)) (le_of_suc-le-suc l) (λ i a b. h (suc i) (suc-le-suc a) (suc-le-suc b)))
        ∙ sym (fold-first n f)

  pub fold_split : (unit : (x : B) → op e x ≡ x) (assoc : (x y z : B) → op (op x y) z ≡ op x (op y z)) (n m : ℕ) (f : ℕ → B)
      → fold op e f (up_to (n + m)) ≡ op (fold op e f (up_to n)) (fold op e (λ i. f (n + i)) (up_to m))
  unfolding up_to
  fold_split unit assoc zero m f =
      ap (λ (k : ℕ). fold op e f (up_to k)) (zero-add m) ∙ fold_cong op e f (λ i. f (0 + i)) (up_to m) (λ i. ap f (sym (zero-add i)))
      ∙ sym (unit (fold op e (λ i. f (0 + i)) (up_to m)))
  fold_split unit assoc (suc n) m f =
      ap (λ (k : ℕ). fold op e f (up_to k)) (suc-add n m) ∙ fold-first (n + m) f ∙ ap (op (f 0)) (fold_split unit assoc n m (λ i. f (suc i)))
      ∙ sym (assoc (f 0) (fold op e (λ i. f (suc i)) (up_to n)) (fold op e (λ i. f (suc (n + i))) (up_to m)))
      ∙ ap₂ op (sym (fold-first n f)) (fold_cong op e (λ i. f (suc (n + i))) (λ i. f (suc n + i)) (up_to m) (λ i. ap f (sym (suc-add n i))))

  pub fold_keeps : (P : B → Type 0) → P e → ((x y : B) → P x → P y → P (op x y)) → (n : ℕ) (f : ℕ → B) → ((i : ℕ) → i < n → P (f i))
      → P (fold op e f (up_to n))
  unfolding up_to
  fold_keeps P base more zero f h = base
  fold_keeps P base more (suc n) f h =
      subst P (sym (fold-first n f))
      (more (f 0) (fold op e (λ i. f (suc i)) (up_to n)) (h 0 (zero-lt-suc n)) (fold_keeps P base more n (λ i. f (suc i)) (λ i k. h (suc i) (suc-le-suc k))))

  pub fold_lists : {A C : Type 0} → ((x : B) → op e x ≡ x) → ((x y z : B) → op (op x y) z ≡ op x (op y z)) → (f : A → B) (g : C → List A) (l : List C)
      → fold op e f (fold ◌++◌ [] g l) ≡ fold op e (λ x. fold op e f (g x)) l
  fold_lists unit assoc f g l = fold_hom ◌++◌ [] op e (fold op e f) refl (fold-append op e unit assoc f) g l

pub up_to-length : (n : ℕ) → length (up_to n) ≡ n
unfolding up_to
up_to-length zero = refl
up_to-length (suc n) = ap suc (sizes (up_to n) ∙ up_to-length n)
  where
    sizes : (l : List ℕ) → length (map suc l) ≡ length l
    sizes [] = refl
    sizes (k ∷ l) = ap suc (sizes l)

pub up_to-last : (n : ℕ) → up_to (suc n) ≡ up_to n ++ (n ∷ [])
unfolding up_to
up_to-last zero = refl
up_to-last (suc n) = ap {B = List ℕ} (λ l. 0 ∷ map suc l) (up_to-last n) ∙ ap {B = List ℕ} (λ l. 0 ∷ l) (map-append suc (up_to n) (n ∷ []))

module _ {A : Type 0} where
  pub keep_append : (f : A → Bool) (k l : List A) → keep f (k ++ l) ≡ keep f k ++ keep f l
  keep_append f [] l = refl
  keep_append f (x ∷ k) l = go (f x) (keep_append f k l)
    where
      go : (b : Bool) → keep f (k ++ l) ≡ keep f k ++ keep f l
          → cond b (x ∷ keep f (k ++ l)) (keep f (k ++ l)) ≡ cond b (x ∷ keep f k) (keep f k) ++ keep f l
      go true e = ap {B = List A} (λ m. x ∷ m) e
      go false e = e

  pub count-all : (l : List A) → count (λ x. true) l ≡ length l
  count-all [] = refl
  count-all (x ∷ l) = let more : 1 + length l ≡ suc (length l) = omega arith in ap (λ (k : ℕ). 1 + k) (count-all l) ∙ more

  pub every_place : (f : A → Bool) (l : List A) (i : ℕ) (d : A) → every f l ≡ true → i < length l → f (get_or l i d) ≡ true
  every_place f [] i d e h = absurd (not-suc-le-zero h)
  every_place f (x ∷ l) zero d e h = and_left (f x) (every f l) e
  every_place f (x ∷ l) (suc i) d e h = every_place f l i d (and_right (f x) (every f l) e) (le_of_suc-le-suc h)

pub count-either : {A : Type 0} (f g h : A → Bool) (l : List A) → ((x : A) → f x ≡ true → (g x ≡ true) ⊎ (h x ≡ true)) → count f l ≤ count g l + count h l
count-either f g h [] e = omega arith
count-either f g h (x ∷ l) e = go (f x) (g x) (h x) (e x) (count-either f g h l e)
  where
    go : (a b c : Bool) → (a ≡ true → (b ≡ true) ⊎ (c ≡ true)) → count f l ≤ count g l + count h l
        → one_if a + count f l ≤ one_if b + count g l + (one_if c + count h l)
    go true true c k ih = omega arith
    go true false true k ih = omega arith
    go true false false k ih = let z = k refl in absurd (neither z)
      where
        neither : (false ≡ true) ⊎ (false ≡ true) → ⊥
        neither (inl q) = true≢false (sym q)
        neither (inr q) = true≢false (sym q)
    go false b c k ih = omega arith

pub some_at : (n k : ℕ) (f : ℕ → Bool) → k < n → f k ≡ true → some f (up_to n) ≡ true
unfolding up_to
some_at zero k f h p = absurd (not-suc-le-zero h)
some_at (suc n) zero f h p = or_left (f 0) (some f (map suc (up_to n))) p
some_at (suc n) (suc k) f h p =
    or_right (f 0) (some f (map suc (up_to n))) (fold-map ◌||◌ false suc f (up_to n) ∙ some_at n k (λ i. f (suc i)) (le_of_suc-le-suc h) p)

pub some_where : (n : ℕ) (f : ℕ → Bool) → some f (up_to n) ≡ true → (k : ℕ) × (k < n) × (f k ≡ true)
unfolding up_to
some_where zero f p = absurd (false≢true p)
some_where (suc n) f p = go (f 0) refl (some_where n (λ i. f (suc i)))
  where
    go : (b : Bool) → f 0 ≡ b → (some (λ i. f (suc i)) (up_to n) ≡ true → (k : ℕ) × (k < n) × (f (suc k) ≡ true))
        → (k : ℕ) × (k < suc n) × (f k ≡ true)
    go true q ih = (0, zero-lt-suc n, q)
    go false q ih =
        let r = ih (ap (λ (b : Bool). b || some (λ i. f (suc i)) (up_to n)) (sym q) ∙ sym (fold-first ◌||◌ false n f) ∙ p) in
        (suc r.0, suc-le-suc r.1, r.2)

pub never : (n k : ℕ) (f : ℕ → Bool) → some f (up_to n) ≡ false → k < n → f k ≡ false
unfolding up_to
never n k f p h = go (f k) refl
  where
    go : (b : Bool) → f k ≡ b → b ≡ false
    go true e = absurd (true≢false (sym (some_at n k f h e) ∙ p))
    go false e = refl

pub every_at : (n k : ℕ) (f : ℕ → Bool) → every f (up_to n) ≡ true → k < n → f k ≡ true
unfolding up_to
every_at zero k f p h = absurd (not-suc-le-zero h)
every_at (suc n) zero f p h = and_left (f 0) (every f (map suc (up_to n))) p
every_at (suc n) (suc k) f p h =
    every_at n k (λ i. f (suc i)) (sym (fold-map ◌&&◌ true suc f (up_to n)) ∙ and_right (f 0) (every f (map suc (up_to n))) p) (le_of_suc-le-suc h)

pub every-below : (n : ℕ) (f : ℕ → Bool) → ((i : ℕ) → i < n → f i ≡ true) → every f (up_to n) ≡ true
unfolding up_to
every-below zero f h = refl
every-below (suc n) f h =
    fold-first ◌&&◌ true n f
    ∙ and_both (f 0) (every (λ i. f (suc i)) (up_to n)) (h 0 (zero-lt-suc n)) (every-below n (λ i. f (suc i)) (λ i k. h (suc i) (suc-le-suc k)))

pub none_below : (n : ℕ) (f : ℕ → Bool) → ((i : ℕ) → i < n → f i ≡ false) → some f (up_to n) ≡ false
none_below n f h = fold-below ◌||◌ false n f (λ i. false) h ∙ fold_unit ◌||◌ false (λ b. refl) (λ i. false) (up_to n) (λ i. refl)

pub none_more : (n : ℕ) (f : ℕ → Bool) → some f (up_to n) ≡ false → f n ≡ false → some f (up_to (n + 1)) ≡ false
none_more n f p q =
    let more : n + 1 ≡ suc n = omega arith in
    ap (λ (k : ℕ). some f (up_to k)) more ∙ ap (some f) (up_to-last n) ∙ fold-append ◌||◌ false (λ b. refl) or_assoc f (up_to n) (n ∷ [])
    ∙ ap₂ (λ (x y : Bool). x || (y || false)) p q
