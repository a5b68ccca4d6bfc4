-- What the tests of a table give to the operations that come after them, and what the function check tells.
--     records_decide               where the numbers and the length are right, the records decide
--     set-within, table_within     the records of a sound table have no bit beyond shares and masks
--     set_decided                  the breaking test over all bits of a record is that over the gadget's shares and masks
--     function_decided             what the code compares decides the function
--     function_means               what yes and no say of values follows from the equation
--     Promise                      the whole of the entry's promise
--     refused-before, function-low, function-high, answered     the entry's answers
use Prim.Native.Nat.{ℕ, ◌%◌, ◌≤◌, ◌<◌}
use native.Mathlib.Nat.{le_trans}
use native.Mathlib.Omega.{arith}
use mathlib.Core.Path.{◌≡◌, refl, sym, ◌∙◌, ap, ap₂}
use mathlib.Core.Logic.{◌⊎◌, inl, inr}
use mathlib.Core.Bool.{Bool, true, false, cond, not, ◌&&◌, xor, true≢false, and-false, and-true}
use mathlib.Core.List.{List, [], ◌∷◌, map}
use borrow.Author.Tests.{le-leb, lt-leb, le-ltb, lt-ltb, ltb-true, eq-eqb}
use lib.ListN.{length}
use lib.Dec.{ltb, leb}
use Rattle.std.specs.Prelude.{Result, Ok, Err}
use Rattle.limits.specs.Limits.{min_shares, max_shares, max_masks, record_bytes, max_table_bytes}
use Rattle.basics.specs.Folds.{some, every, keep, one_if, up_to}
use Rattle.basics.specs.Told.{Told, values, refusal}
use Rattle.basics.proofs.Tests.{and_left, and_right, bool_ext}
use Rattle.basics.proofs.Folds.{every-below}
use Rattle.wires.specs.declared.Notion.{Notion}
use Rattle.wires.specs.Wires.{Terms, Wire, plus, total, breaks}
use Rattle.wires.specs.Function.{function_terms, outers, blank, computes}
use Rattle.wires.proofs.Dependence.{blank_bits, bits_blank}
use Rattle.wires.proofs.Function.{computes-exactly}
use Rattle.wires.proofs.Narrow.{Within, AllWithin, within-plus, within-total, breaks_narrow, blank_narrow}
use Rattle.records.specs.Layout.{record_at, wire_at, wire_count, wires, inside}
use Rattle.record_tests.specs.Cut.{FirstShares}
use Rattle.table.proofs.Conditions.{Sound, accepted_exactly, tested-answer, tested-refusal, function_chain, function_settled}
use Rattle.table.specs.declared.Refusal.{Refusal}
use Rattle.table.specs.declared.Refusal.TheVariants.{NoSuchFunction}
use Rattle.table.specs.Answers.{refusal_number, function_told, wrong_record, table_check, function_check, FunctionMeans}

module _ (table : List ℕ) (shares masks : ℕ) where
  -- the records alone decide where the numbers and the length are right
  pub records_decide : (b : Bool) → min_shares ≤ shares → shares ≤ max_shares → masks ≤ max_masks → length table % record_bytes ≡ 0 → length table ≤ max_table_bytes
      → not b ≡ not (some (λ w. wrong_record shares masks (record_at table w)) (up_to (wire_count table)))
      → cond b (refusal 13) (values []) ≡ table_check table shares masks
  records_decide b low high few whole short e =
      let found = some (λ w. wrong_record shares masks (record_at table w)) (up_to (wire_count table)) in
      let first : table_check table shares masks ≡ cond found (refusal 13) (values []) =
      simp (le-ltb shares min_shares low, le-ltb max_shares shares high, le-ltb max_masks masks few, eq-eqb (length table % record_bytes) 0 whole, le-ltb max_table_bytes (length table) short) in
      sym (first ∙ ap (λ (z : Bool). cond z (refusal 13) (values [])) (sym (same_not b found e)))
    where
      same_not : (x y : Bool) → not x ≡ not y → x ≡ y
      same_not true true e = refl
      same_not true false e = sym e
      same_not false true e = sym e
      same_not false false e = refl

-- ---- no bit beyond

module _ (table : List ℕ) (shares masks : ℕ) (h : Sound table shares masks) where
  all-within : (set : List ℕ) → every (λ w. ltb w (wire_count table)) set ≡ true → AllWithin max_shares max_masks shares masks (map (wire_at table) set)
  all-within [] e = tt
  all-within (w ∷ set) e =
      let rest = every (λ w. ltb w (wire_count table)) set in (
        h.bits w (ltb-true w (wire_count table) (and_left (ltb w (wire_count table)) rest e)),
        all-within set
            (and_right (ltb w (wire_count table)) rest e),
      )

  pub set-within : (set : List ℕ) → inside table set ≡ true → AllWithin max_shares max_masks shares masks (map (wire_at table) set)
  unfolding inside
  set-within set e = all-within set e

  pub table_within : AllWithin max_shares max_masks shares masks (wires table)
  table_within =
      all-within (up_to (wire_count table)) (every-below (wire_count table) (λ w. ltb w (wire_count table)) (λ w l. lt-ltb w (wire_count table) l))

  pub set_decided : (notion : Notion) (set : List ℕ) → inside table set ≡ true
      → breaks notion max_shares max_masks (map (wire_at table) set) ≡ breaks notion shares masks (map (wire_at table) set)
  set_decided notion set e = breaks_narrow max_shares max_masks shares masks h.high h.few notion (map (wire_at table) set) (set-within set e)

keep-within : (N M n m : ℕ) (f : Wire → Bool) (s : List Wire) → AllWithin N M n m s → AllWithin N M n m (keep f s)
keep-within N M n m f [] h = tt
keep-within N M n m f (w ∷ s) h = go (f w) (keep-within N M n m f s h.1)
  where
    go : (b : Bool) → AllWithin N M n m (keep f s) → AllWithin N M n m (cond b (w ∷ keep f s) (keep f s))
    go true k = (h.0, k)
    go false k = k

-- ---- the function check

module _ (n m : ℕ) (t u : Terms) (p : (i j : ℕ) → i < n → j < n → t.product i j ≡ u.product i j) (a : (i : ℕ) → i < n → t.share_a i ≡ u.share_a i)
    (b : (j : ℕ) → j < n → t.share_b j ≡ u.share_b j) (k : (k : ℕ) → k < m → t.mask k ≡ u.mask k) where
  carried : blank n m t ≡ true → blank n m u ≡ true
  carried e =
      let h = blank_bits n m t e in
      bits_blank n m u (record {
        no_product_lem = λ i j c d. sym (p i j c d) ∙ h.no_product_lem i j c d;
        no_share_a = λ i c. sym (a i c) ∙ h.no_share_a i c;
        no_share_b = λ j c. sym (b j c) ∙ h.no_share_b j c;
        no_mask_lem = λ i c. sym (k i c) ∙ h.no_mask_lem i c;
      })

blank-same : (n m : ℕ) (t u : Terms) → ((i j : ℕ) → i < n → j < n → t.product i j ≡ u.product i j) → ((i : ℕ) → i < n → t.share_a i ≡ u.share_a i)
    → ((j : ℕ) → j < n → t.share_b j ≡ u.share_b j) → ((k : ℕ) → k < m → t.mask k ≡ u.mask k) → blank n m t ≡ blank n m u
blank-same n m t u p a b k =
    bool_ext (blank n m t) (blank n m u) (carried n m t u p a b k)
    (carried n m u t (λ i j c d. sym (p i j c d)) (λ i c. sym (a i c)) (λ j c. sym (b j c)) (λ i c. sym (k i c)))

module _ (n m : ℕ) (small : n ≤ max_shares) (few : m ≤ max_masks) (t u : Terms) (first : FirstShares n t u) (clear : (k : ℕ) → t.mask k ≡ false) where
  cut_within : Within max_shares max_masks n m u
  cut_within = record {
    no_product_lem = λ i j c d h. first.products i j c d ∙ ap (λ (z : Bool). t.product i j && z) (late i j h) ∙ and-false (t.product i j);
    no_a = λ i c h. first.of_a i c ∙ ap (λ (z : Bool). t.share_a i && z) (le-ltb i n h) ∙ and-false (t.share_a i);
    no_b = λ j c h. first.of_b j c ∙ ap (λ (z : Bool). t.share_b j && z) (le-ltb j n h) ∙ and-false (t.share_b j);
    no_mask_lem = λ k c h. first.masks k c ∙ clear k;
  }
    where
      late : (i j : ℕ) → (n ≤ i) ⊎ (n ≤ j) → (ltb i n && ltb j n) ≡ false
      late i j (inl h) = ap (λ (z : Bool). z && ltb j n) (le-ltb i n h)
      late i j (inr h) = ap (λ (z : Bool). ltb i n && z) (le-ltb j n h) ∙ and-false (ltb i n)

  cut_same : (s : Terms) → blank n m (plus s u) ≡ blank n m (plus s t)
  cut_same s =
      blank-same n m (plus s u) (plus s t)
      (λ i j c d. ap (xor (s.product i j)) (first.products i j (le_trans c small) (le_trans d small)
      ∙ ap₂ (λ (y z : Bool). t.product i j && (y && z)) (lt-ltb i n c) (lt-ltb j n d) ∙ and-true (t.product i j)))
      (λ i c. ap (xor (s.share_a i)) (first.of_a i (le_trans c small) ∙ ap (λ (z : Bool). t.share_a i && z) (lt-ltb i n c) ∙ and-true (t.share_a i)))
      (λ j c. ap (xor (s.share_b j)) (first.of_b j (le_trans c small) ∙ ap (λ (z : Bool). t.share_b j && z) (lt-ltb j n c) ∙ and-true (t.share_b j)))
      (λ k c. ap (xor (s.mask k)) (first.masks k (le_trans c few)))

pub function_decided : (table : List ℕ) (shares masks function : ℕ) (u : Terms) → Sound table shares masks
    → FirstShares shares (function_terms function) u
    → blank max_shares max_masks (plus (total (outers (wires table))) u) ≡ computes function shares masks (wires table)
unfolding computes
function_decided table shares masks function u h first =
    let sum = total (outers (wires table)) in
    let small = h.high in
    let few = h.few in
    let sum-within =
    within-total max_shares max_masks shares masks (outers (wires table))
    (keep-within max_shares max_masks shares masks (λ w. w.outer) (wires table) (table_within table shares masks h)) in
    blank_narrow max_shares max_masks shares masks small few (plus sum u)
    (within-plus max_shares max_masks shares masks sum u sum-within (cut_within shares masks small few (function_terms function) u first (λ k. refl)))
    ∙ cut_same shares masks small few (function_terms function) u first (λ k. refl) sum

one-or-none : (x k : Bool) → values (one_if x ∷ []) ≡ values (one_if k ∷ []) → x ≡ k
one-or-none true true e = refl
one-or-none false false e = refl
one-or-none true false e = let z : ◌≡◌ {A = ℕ} 1 0 = cc in absurd (omega (arith, z))
one-or-none false true e = let z : ◌≡◌ {A = ℕ} 0 1 = cc in absurd (omega (arith, z))

pub function_means : (answer : Result Bool Refusal) (table : List ℕ) (shares masks function : ℕ)
    → function_told answer ≡ function_check table shares masks function
    → FunctionMeans answer table shares masks function
function_means answer table shares masks function e =
    let test = computes function shares masks (wires table) in
    let told_is : (k : Bool) → function_told answer ≡ values (one_if k ∷ []) → test ≡ k = λ k f.
    let none = (function_settled table shares masks function).answered.0 (one_if k ∷ [], sym e ∙ f) in
    one-or-none test k (sym ((function_chain table shares masks function).none none) ∙ sym e ∙ f) in
    let exactly = computes-exactly function shares masks (wires table) in
    record {
      yes_means = λ f. exactly.0 (told_is true (ap function_told f));
      no_means = λ f all. true≢false (sym (exactly.1 all) ∙ told_is false (ap function_told f));
    }

-- ---- the entry's answers, each with the whole of its promise

abbrev pub Promise : Result Bool Refusal → List ℕ → ℕ → ℕ → ℕ → Type 0
Promise answer table shares masks function =
    (function_told answer ≡ function_check table shares masks function) × FunctionMeans answer table shares masks function

module _ (table : List ℕ) (shares masks function : ℕ) where
  promised : (answer : Result Bool Refusal) → function_told answer ≡ function_check table shares masks function → Promise answer table shares masks function
  promised answer e = (e, function_means answer table shares masks function e)

  abbrev rest : Told
  rest = cond (not (leb 1 function && leb function 3)) (refusal 20) (values (one_if (computes function shares masks (wires table)) ∷ []))

  pub refused-before : (why : Refusal) → refusal (refusal_number why) ≡ table_check table shares masks
      → Promise (Err why) table shares masks function
  refused-before why e = promised (Err why) (sym (tested-refusal table shares masks refusal rest (refusal_number why) e))

  module _ (ok : values [] ≡ table_check table shares masks) where
    own : function_check table shares masks function ≡ rest
    own = tested-answer table shares masks refusal rest ((accepted_exactly table shares masks).0 ok)

    pub function-low : function < 1 → Promise (Err NoSuchFunction) table shares masks function
    function-low h = promised (Err NoSuchFunction) (sym (own ∙ simp (lt-leb 1 function h)))

    pub function-high : 1 ≤ function → 3 < function → Promise (Err NoSuchFunction) table shares masks function
    function-high l h = promised (Err NoSuchFunction) (sym (own ∙ simp (le-leb 1 function l, lt-leb function 3 h)))

    pub answered : (x : Bool) (s t u : Terms) → 1 ≤ function → function ≤ 3
        → s ≡ total (outers (wires table)) → FirstShares shares (function_terms function) t → u ≡ plus s t → x ≡ blank max_shares max_masks u
        → Promise (Ok x) table shares masks function
    answered x s t u l h es ft eu ex =
        let c : x ≡ computes function shares masks (wires table) =
        ex ∙ ap (blank max_shares max_masks) (eu ∙ ap (λ (v : Terms). plus v t) es)
        ∙ function_decided table shares masks function t ((accepted_exactly table shares masks).0 ok) ft in
        promised (Ok x) (told_bit x ∙ sym (own ∙ simp (le-leb 1 function l, le-leb function 3 h, c)))
      where
        told_bit : (b : Bool) → function_told (Ok b) ≡ values (one_if b ∷ [])
        told_bit true = refl
        told_bit false = refl
