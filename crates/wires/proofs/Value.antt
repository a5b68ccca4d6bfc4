-- The value of terms under an input and a mask setting.
--     terms_ext                      terms are equal when all their bits are
--     plus_none, none-plus, plus_comm, plus_assoc    laws of the addition of terms
--     parity_both, parity_select, four_parts      sums of sums of bits
--     parity-none, nothing, no_products      sums of bits that are all 0
--     value_none, value-plus         the value of no terms; the value of a sum is the sum of the values
--     value-total, sum_of-values     the sum of a list of wires has the sum of their values as its value
--     value_shift                    the value under mask settings that are added
--     value-swap                     with operands exchanged in terms and input the value is the same
--     value-below                    terms with the same bits for the n shares and m masks have the same value
--     value_agree                    inputs that agree on the shares on which terms depend give the same value
use Prim.Native.Nat.{ℕ, ◌<◌}
use mathlib.Core.Path.{◌≡◌, refl, sym, ◌∙◌, ap, ap₂}
use mathlib.Core.Bool.{Bool, true, false, ◌&&◌, xor, and_comm}
use mathlib.Core.List.{List}
use Rattle.basics.specs.Folds.{parity, some, up_to}
use Rattle.basics.proofs.Tests.{or_left, or_right, xor-false, false-xor, xor_comm, xor_assoc, xor_two, and_xor, xor-and}
use Rattle.basics.proofs.Folds.{fold_cong, fold_hom, fold_unit, fold_both, fold_exchange, fold-below, some_at}
use Rattle.wires.specs.Wires.{Terms, Wire, Input, value, none, plus, total, SumOfValues, swap, swap_input, depends_a, depends_b}

pub terms_ext : (t u : Terms) → ((i j : ℕ) → t.product i j ≡ u.product i j) → ((i : ℕ) → t.share_a i ≡ u.share_a i)
    → ((j : ℕ) → t.share_b j ≡ u.share_b j) → ((k : ℕ) → t.mask k ≡ u.mask k) → t ≡ u
terms_ext t u p a b m = λ d. record { product = λ i j. p i j d; share_a = λ i. a i d; share_b = λ j. b j d; mask = λ k. m k d }

pub plus_none : (t : Terms) → plus t none ≡ t
plus_none t =
    terms_ext (plus t none) t (λ i j. xor-false (t.product i j)) (λ i. xor-false (t.share_a i)) (λ j. xor-false (t.share_b j))
    (λ k. xor-false (t.mask k))

pub none-plus : (t : Terms) → plus none t ≡ t
none-plus t =
    terms_ext (plus none t) t (λ i j. false-xor (t.product i j)) (λ i. false-xor (t.share_a i)) (λ j. false-xor (t.share_b j))
    (λ k. false-xor (t.mask k))

pub plus_comm : (t u : Terms) → plus t u ≡ plus u t
plus_comm t u =
    terms_ext (plus t u) (plus u t) (λ i j. xor_comm (t.product i j) (u.product i j)) (λ i. xor_comm (t.share_a i) (u.share_a i))
    (λ j. xor_comm (t.share_b j) (u.share_b j)) (λ k. xor_comm (t.mask k) (u.mask k))

pub plus_assoc : (t u v : Terms) → plus (plus t u) v ≡ plus t (plus u v)
plus_assoc t u v =
    terms_ext (plus (plus t u) v) (plus t (plus u v)) (λ i j. xor_assoc (t.product i j) (u.product i j) (v.product i j))
    (λ i. xor_assoc (t.share_a i) (u.share_a i) (v.share_a i)) (λ j. xor_assoc (t.share_b j) (u.share_b j) (v.share_b j))
    (λ k. xor_assoc (t.mask k) (u.mask k) (v.mask k))

pub parity-none : {A : Type 0} (f : A → Bool) (l : List A) → ((x : A) → f x ≡ false) → parity f l ≡ false
parity-none = fold_unit xor false false-xor

pub nothing : {A : Type 0} (l : List A) → parity (λ x. false) l ≡ false
nothing l = parity-none (λ x. false) l (λ x. refl)

pub no_products : (n : ℕ) → parity (λ i. parity (λ j. false) (up_to n)) (up_to n) ≡ false
no_products n = parity-none (λ i. parity (λ j. false) (up_to n)) (up_to n) (λ i. nothing (up_to n))

pub parity_both : {A : Type 0} (f g : A → Bool) (l : List A) → parity (λ x. xor (f x) (g x)) l ≡ xor (parity f l) (parity g l)
parity_both = fold_both xor false false-xor xor_comm xor_assoc

-- the sum of the bits that a selection f + g takes is that of f and that of g
pub parity_select : {A : Type 0} (f g c : A → Bool) (l : List A)
    → parity (λ x. xor (f x) (g x) && c x) l ≡ xor (parity (λ x. f x && c x) l) (parity (λ x. g x && c x) l)
parity_select f g c l =
    fold_cong xor false (λ x. xor (f x) (g x) && c x) (λ x. xor (f x && c x) (g x && c x)) l (λ x. and_xor (f x) (g x) (c x))
    ∙ parity_both (λ x. f x && c x) (λ x. g x && c x) l

-- sums of four parts are added part by part
pub four_parts : (p q a b c d k l : Bool)
    → xor (xor p q) (xor (xor a b) (xor (xor c d) (xor k l))) ≡ xor (xor p (xor a (xor c k))) (xor q (xor b (xor d l)))
four_parts p q a b c d k l =
    ap (λ (z : Bool). xor (xor p q) (xor (xor a b) z)) (xor_two c d k l)
    ∙ ap (xor (xor p q)) (xor_two a b (xor c k) (xor d l))
    ∙ xor_two p q (xor a (xor c k)) (xor b (xor d l))

module _ (n m : ℕ) (x : Input) (r : ℕ → Bool) where
  pub value_none : value n m x r none ≡ false
  unfolding value
  value_none =
      ap₂ xor (no_products n) (ap₂ xor (nothing (up_to n)) (ap₂ xor (nothing (up_to n)) (nothing (up_to m))))
      ∙ ap (xor false) (ap (xor false) (false-xor false) ∙ false-xor false) ∙ false-xor false

  pub value-plus : (t u : Terms) → value n m x r (plus t u) ≡ xor (value n m x r t) (value n m x r u)
  unfolding value
  value-plus t u =
      ap₂ xor
      (fold_cong xor false (λ i. parity (λ j. xor (t.product i j) (u.product i j) && (x.of_a i && x.of_b j)) (up_to n))
      (λ i. xor (parity (λ j. t.product i j && (x.of_a i && x.of_b j)) (up_to n)) (parity (λ j. u.product i j && (x.of_a i && x.of_b j)) (up_to n)))
      (up_to n)
      (λ i. parity_select (t.product i) (u.product i) (λ j. x.of_a i && x.of_b j) (up_to n))
      ∙ parity_both (λ i. parity (λ j. t.product i j && (x.of_a i && x.of_b j)) (up_to n))
      (λ i. parity (λ j. u.product i j && (x.of_a i && x.of_b j)) (up_to n)) (up_to n))
      (ap₂ xor (parity_select t.share_a u.share_a x.of_a (up_to n))
      (ap₂ xor (parity_select t.share_b u.share_b x.of_b (up_to n)) (parity_select t.mask u.mask r (up_to m))))
      ∙ four_parts (parity (λ i. parity (λ j. t.product i j && (x.of_a i && x.of_b j)) (up_to n)) (up_to n))
      (parity (λ i. parity (λ j. u.product i j && (x.of_a i && x.of_b j)) (up_to n)) (up_to n))
      (parity (λ i. t.share_a i && x.of_a i) (up_to n)) (parity (λ i. u.share_a i && x.of_a i) (up_to n))
      (parity (λ j. t.share_b j && x.of_b j) (up_to n)) (parity (λ j. u.share_b j && x.of_b j) (up_to n))
      (parity (λ k. t.mask k && r k) (up_to m)) (parity (λ k. u.mask k && r k) (up_to m))

  pub value-total : (s : List Wire) → value n m x r (total s) ≡ parity (λ w. value n m x r w.terms) s
  value-total s = fold_hom plus none xor false (value n m x r) value_none value-plus (λ w. w.terms) s

  pub value-below : (t u : Terms) → ((i j : ℕ) → i < n → j < n → t.product i j ≡ u.product i j) → ((i : ℕ) → i < n → t.share_a i ≡ u.share_a i)
      → ((j : ℕ) → j < n → t.share_b j ≡ u.share_b j) → ((k : ℕ) → k < m → t.mask k ≡ u.mask k) → value n m x r t ≡ value n m x r u
  unfolding value
  value-below t u p a b k =
      ap₂ xor
      (fold-below xor false n (λ i. parity (λ j. t.product i j && (x.of_a i && x.of_b j)) (up_to n))
      (λ i. parity (λ j. u.product i j && (x.of_a i && x.of_b j)) (up_to n))
      (λ i c. selected n (t.product i) (u.product i) (λ j. x.of_a i && x.of_b j) (λ j d. p i j c d)))
      (ap₂ xor (selected n t.share_a u.share_a x.of_a a)
      (ap₂ xor (selected n t.share_b u.share_b x.of_b b) (selected m t.mask u.mask r k)))
    where
      selected : (n : ℕ) (f g c : ℕ → Bool) → ((i : ℕ) → i < n → f i ≡ g i) → parity (λ i. f i && c i) (up_to n) ≡ parity (λ i. g i && c i) (up_to n)
      selected n f g c h = fold-below xor false n (λ i. f i && c i) (λ i. g i && c i) (λ i b. ap (λ (z : Bool). z && c i) (h i b))

  pub value-swap : (t : Terms) → value n m (swap_input x) r (swap t) ≡ value n m x r t
  unfolding value
  value-swap t =
      let pa = parity (λ i. t.share_a i && x.of_a i) (up_to n) in
      let pb = parity (λ j. t.share_b j && x.of_b j) (up_to n) in
      let pm = parity (λ k. t.mask k && r k) (up_to m) in
      ap₂ xor
      (fold_exchange xor false false-xor xor_comm xor_assoc (λ i j. t.product j i && (x.of_b i && x.of_a j)) (up_to n) (up_to n)
      ∙ fold_cong xor false (λ j. parity (λ i. t.product j i && (x.of_b i && x.of_a j)) (up_to n))
      (λ i. parity (λ j. t.product i j && (x.of_a i && x.of_b j)) (up_to n)) (up_to n)
      (λ i. fold_cong xor false (λ j. t.product i j && (x.of_b j && x.of_a i)) (λ j. t.product i j && (x.of_a i && x.of_b j)) (up_to n)
      (λ j. ap (λ (z : Bool). t.product i j && z) (and_comm (x.of_b j) (x.of_a i)))))
      (sym (xor_assoc pb pa pm) ∙ ap (λ (z : Bool). xor z pm) (xor_comm pb pa) ∙ xor_assoc pa pb pm)

pub sum_of-values : (t : Terms) (s : List Wire) → t ≡ total s → SumOfValues t s
sum_of-values t s e n m x r = ap (value n m x r) e ∙ value-total n m x r s

module _ (n m : ℕ) (x y : Input) (r : ℕ → Bool) (t : Terms)
    (agree_a : (i : ℕ) → i < n → depends_a n t i ≡ true → x.of_a i ≡ y.of_a i)
    (agree_b : (j : ℕ) → j < n → depends_b n t j ≡ true → x.of_b j ≡ y.of_b j) where
  -- a bit that is not set takes nothing, one that is set takes the same
  taken : (p b c : Bool) → (p ≡ true → b ≡ c) → (p && b) ≡ (p && c)
  taken true b c h = h refl
  taken false b c h = refl

  pub value_agree : value n m x r t ≡ value n m y r t
  unfolding value
  value_agree =
      ap₂ xor
      (fold-below xor false n (λ i. parity (λ j. t.product i j && (x.of_a i && x.of_b j)) (up_to n))
      (λ i. parity (λ j. t.product i j && (y.of_a i && y.of_b j)) (up_to n))
      (λ i a. fold-below xor false n (λ j. t.product i j && (x.of_a i && x.of_b j)) (λ j. t.product i j && (y.of_a i && y.of_b j))
      (λ j b. taken (t.product i j) (x.of_a i && x.of_b j) (y.of_a i && y.of_b j)
      (λ p. ap₂ (λ (u v : Bool). u && v) (agree_a i a (or_left (some (t.product i) (up_to n)) (t.share_a i) (some_at n j (t.product i) b p)))
      (agree_b j b (or_left (some (λ k. t.product k j) (up_to n)) (t.share_b j) (some_at n i (λ k. t.product k j) a p)))))))
      (ap₂ xor
      (fold-below xor false n (λ i. t.share_a i && x.of_a i) (λ i. t.share_a i && y.of_a i)
      (λ i a. taken (t.share_a i) (x.of_a i) (y.of_a i) (λ p. agree_a i a (or_right (some (t.product i) (up_to n)) (t.share_a i) p))))
      (ap (λ (z : Bool). xor z (parity (λ k. t.mask k && r k) (up_to m)))
      (fold-below xor false n (λ j. t.share_b j && x.of_b j) (λ j. t.share_b j && y.of_b j)
      (λ j b. taken (t.share_b j) (x.of_b j) (y.of_b j) (λ p. agree_b j b (or_right (some (λ k. t.product k j) (up_to n)) (t.share_b j) p))))))

pub value_shift : (n m : ℕ) (x : Input) (r d : ℕ → Bool) (t : Terms)
    → value n m x (λ k. xor (r k) (d k)) t ≡ xor (value n m x r t) (parity (λ k. t.mask k && d k) (up_to m))
unfolding value
value_shift n m x r d t =
    let p = parity (λ i. parity (λ j. t.product i j && (x.of_a i && x.of_b j)) (up_to n)) (up_to n) in
    let a = parity (λ i. t.share_a i && x.of_a i) (up_to n) in
    let b = parity (λ j. t.share_b j && x.of_b j) (up_to n) in
    let k = parity (λ k. t.mask k && r k) (up_to m) in
    let c = parity (λ k. t.mask k && d k) (up_to m) in
    ap (λ (z : Bool). xor p (xor a (xor b z)))
    (fold_cong xor false (λ k. t.mask k && xor (r k) (d k)) (λ k. xor (t.mask k && r k) (t.mask k && d k)) (up_to m)
    (λ k. xor-and (t.mask k) (r k) (d k))
    ∙ parity_both (λ k. t.mask k && r k) (λ k. t.mask k && d k) (up_to m))
    ∙ ap (λ (z : Bool). xor p (xor a z)) (sym (xor_assoc b k c)) ∙ ap (xor p) (sym (xor_assoc a (xor b k) c)) ∙ sym (xor_assoc p (xor a (xor b k)) c)
