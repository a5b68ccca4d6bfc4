-- Symbols as they are spelled and as they are read.
--     Declares             the word of the declared masks has just the bits of the names
--     known_read           a symbol of the order, or of a declared mask, is read from its spelling
--     read_known           what is read as a symbol is its spelling, and the symbol is of the order, or a declared mask
--     spelling-length      how many bytes a spelling has
--     known-formed         a symbol of the order, or of a declared mask, can be spelled
--     spelling-word        the spelling of a symbol is the longest run, where a byte that parts or the end follows
--     known_small          and its bit stands within a record
--     share_back           the share that a share's byte writes
--     figure-share         a byte that writes a share below n
--     spelled_by, spelling_back      the symbol that has a spelling
--     same-spelled, spelled_same    symbols that are spelled alike are the same
use Rattle.std.specs.Prelude.{Option, Some, None, Result, Ok, Err}
use Prim.Native.Nat.{ℕ, ◌/◌, ◌%◌, ◌≤◌, ◌<◌}
use native.Mathlib.Nat.{zero-lt-suc, mod-lt, div-add-mod'}
use native.Mathlib.Omega.{arith}
use mathlib.Core.Path.{◌≡◌, refl, sym, ◌∙◌, ap, ap₂, subst}
use mathlib.Core.Bool.{Bool, true, false, cond, not, ◌&&◌}
use mathlib.Core.List.{List, [], ◌∷◌, ◌++◌, append-nil}
use borrow.Author.Tests.{ltb-true, leb-true, eqb-true, lt-ltb, le-leb, eq-eqb, not-true}
use lib.Dec.{eqb, ltb, leb}
use lib.ListN.{length, drop, get_or}
use lib.Seq.{drop-length}
use Rattle.limits.specs.Limits.{max_shares}
use Rattle.basics.specs.Folds.{every, up_to}
use Rattle.basics.proofs.Folds.{every_at}
use Rattle.basics.proofs.Tests.{and_left, and_right, and_both}
use Rattle.records.specs.Words.{bit}
use Rattle.record_words.specs.Symbols.{Small}
use Rattle.description.specs.Bytes.{letter_s, letter_a, letter_b, letter_r, figure, parts, word, same}
use Rattle.description.specs.Symbols.{max_mask, share_figures, share_figure, share_of, name_length, mask_name, spelling, formed, symbol_length}
use Rattle.description.specs.Symbols.{mask_at, share_digit, product_read, share_read, named_read, symbol_read}
use Rattle.description.specs.Grammar.{member, known, same_symbol}
use Rattle.wires.specs.declared.Symbol.{Symbol}
use Rattle.wires.specs.declared.Symbol.TheVariants.{Product, ShareA, ShareB, Mask}
use Rattle.description.specs.declared.SymbolFault.{SymbolFault}
use Rattle.description.specs.declared.SymbolFault.TheVariants.{NoSuch, NotDeclared}
use Rattle.description.proofs.Numbers.{member-every}
use Rattle.description.proofs.Names.{figure-parts, name_length_lem, name_read, read_name}
use Rattle.description.proofs.Places.{same_bytes}

pub record Declares (declared : ℕ) (names : List ℕ) : Type 0 where
  pub low : every (λ k. leb k max_mask) names ≡ true
  pub bits : (k : ℕ) → bit declared k ≡ member k names

-- a named mask is one of the 64
member-low : (k : ℕ) (names : List ℕ) → every (λ k. leb k max_mask) names ≡ true → member k names ≡ true → k ≤ max_mask
member-low k names low e = leb-true k max_mask (member-every (λ k. leb k max_mask) k names low e)

-- ---- symbols, read

-- by running the test over all shares that a byte can write
pub share_back : (i : ℕ) → i < share_figures → share_of (share_figure i) ≡ i
unfolding up_to
share_back i h = eqb-true (share_of (share_figure i)) i (every_at share_figures i (λ i. eqb (share_of (share_figure i)) i) refl h)

share-figure : (n i : ℕ) → n ≤ max_shares → ltb i n ≡ true → (share_digit n (share_figure i) ≡ true) × (share_of (share_figure i) ≡ i)
share-figure n i h e =
    let below = ltb-true i n e in
    let back = share_back i (omega (arith, below, h)) in (
      and_both (eqb (share_figure (share_of (share_figure i))) (share_figure i)) (ltb (share_of (share_figure i)) n)
          (eq-eqb (share_figure (share_of (share_figure i))) (share_figure i) (ap (λ (x : ℕ). share_figure x) back))
          (ap (λ (x : ℕ). ltb x n) back ∙ e),
      back,
    )

pub figure-share : (n c : ℕ) → share_digit n c ≡ true → (share_figure (share_of c) ≡ c) × (ltb (share_of c) n ≡ true)
figure-share n c e = (
  eqb-true (share_figure (share_of c)) c (and_left (eqb (share_figure (share_of c)) c) (ltb (share_of c) n) e),
  and_right (eqb (share_figure (share_of c)) c) (ltb (share_of c) n) e,
)

pub known_read : (n declared : ℕ) (names : List ℕ) (s : Symbol) → n ≤ max_shares → Declares declared names → known n names s ≡ true
    → symbol_read n declared (spelling s) ≡ Ok s
known_read n declared names (Product i j) h d k =
    let p = share-figure n i h (and_left (ltb i n) (ltb j n) k) in
    let q = share-figure n j h (and_right (ltb i n) (ltb j n) k) in
    rw (p.0, q.0) (ap₂ {C = Result Symbol SymbolFault} (λ x y. Ok (Product x y)) p.1 q.1)
known_read n declared names (ShareA i) h d k =
    let p = share-figure n i h k in rw p.0 (ap {B = Result Symbol SymbolFault} (λ x. Ok (ShareA x)) p.1)
known_read n declared names (ShareB j) h d k =
    let p = share-figure n j h k in rw p.0 (ap {B = Result Symbol SymbolFault} (λ x. Ok (ShareB x)) p.1)
known_read n declared names (Mask m) h d k =
    let name : mask_at (mask_name m) ≡ Some m = ap mask_at (sym (append-nil (mask_name m))) ∙ name_read m [] (member-low m names d.low k) refl in
    ap (named_read declared (length (mask_name m))) name
    ∙ rw (eq-eqb (length (mask_name m)) (name_length m) (name_length_lem m), d.bits m, k) refl

-- the symbol s stands for the bytes w, and is a share of the order or a declared mask
abbrev KnownAs : ℕ → List ℕ → List ℕ → Symbol → Type 0
KnownAs n names w s = (w ≡ spelling s) × (known n names s ≡ true)

module _ (n : ℕ) (names : List ℕ) (s : Symbol) where
  product-known : (w : List ℕ) → product_read n w ≡ Ok s → KnownAs n names (letter_s ∷ w) s
  product-known [] e = let z : ◌≡◌ {A = ℕ} 0 1 = cc in absurd (omega (arith, z))
  product-known (i ∷ []) e = let z : ◌≡◌ {A = ℕ} 0 1 = cc in absurd (omega (arith, z))
  product-known (i ∷ j ∷ []) e = go (share_digit n i && share_digit n j) refl e
    where
      go : (b : Bool) → (share_digit n i && share_digit n j) ≡ b → cond b (Ok (Product (share_of i) (share_of j))) (Err NoSuch) ≡ Ok s
          → KnownAs n names (letter_s ∷ i ∷ j ∷ []) s
      go false q e = let z : ◌≡◌ {A = ℕ} 0 1 = cc in absurd (omega (arith, z))
      go true q e =
          let p = figure-share n i (and_left (share_digit n i) (share_digit n j) q) in
          let r = figure-share n j (and_right (share_digit n i) (share_digit n j) q) in
          let it : Product (share_of i) (share_of j) ≡ s = cc in
          subst (KnownAs n names (letter_s ∷ i ∷ j ∷ [])) it
          (ap₂ {C = List ℕ} (λ x y. letter_s ∷ x ∷ y ∷ []) (sym p.0) (sym r.0), and_both (ltb (share_of i) n) (ltb (share_of j) n) p.1 r.1)
  product-known (i ∷ j ∷ k ∷ w) e = let z : ◌≡◌ {A = ℕ} 0 1 = cc in absurd (omega (arith, z))

  share-known : (letter : ℕ) (share : ℕ → Symbol) → ((i : ℕ) → ltb i n ≡ true → KnownAs n names (letter ∷ share_figure i ∷ []) (share i))
      → (w : List ℕ) → share_read share n w ≡ Ok s → KnownAs n names (letter ∷ w) s
  share-known letter share spelled [] e = let z : ◌≡◌ {A = ℕ} 0 1 = cc in absurd (omega (arith, z))
  share-known letter share spelled (i ∷ []) e = go (share_digit n i) refl e
    where
      go : (b : Bool) → share_digit n i ≡ b → cond b (Ok (share (share_of i))) (Err NoSuch) ≡ Ok s → KnownAs n names (letter ∷ i ∷ []) s
      go false q e = let z : ◌≡◌ {A = ℕ} 0 1 = cc in absurd (omega (arith, z))
      go true q e =
          let p = figure-share n i q in
          let r = spelled (share_of i) p.1 in
          let it : share (share_of i) ≡ s = cc in
          subst (KnownAs n names (letter ∷ i ∷ [])) it (ap {B = List ℕ} (λ x. letter ∷ x ∷ []) (sym p.0) ∙ r.0, r.1)
  share-known letter share spelled (i ∷ j ∷ w) e = let z : ◌≡◌ {A = ℕ} 0 1 = cc in absurd (omega (arith, z))

  mask-known : (declared : ℕ) → Declares declared names → (w : List ℕ) (m : Option ℕ) → mask_at w ≡ m → named_read declared (length w) m ≡ Ok s
      → KnownAs n names w s
  mask-known declared d w None a e = let z : ◌≡◌ {A = ℕ} 0 1 = cc in absurd (omega (arith, z))
  mask-known declared d w (Some k) a e = sized (eqb (length w) (name_length k)) refl e
    where
      bitted : length w ≡ name_length k → (b : Bool) → bit declared k ≡ b → cond b (Ok (Mask k)) (Err NotDeclared) ≡ Ok s → KnownAs n names w s
      bitted q false c e = let z : ◌≡◌ {A = ℕ} 0 1 = cc in absurd (omega (arith, z))
      bitted q true c e =
          let all : w ≡ mask_name k =
          (read_name w k a).here
          ∙ ap (λ l. mask_name k ++ l) (ap (λ (x : ℕ). drop x w) (sym q) ∙ drop-length w) ∙ append-nil (mask_name k) in
          let it : Mask k ≡ s = cc in
          subst (KnownAs n names w) it (all, sym (d.bits k) ∙ c)

      sized : (b : Bool) → eqb (length w) (name_length k) ≡ b → cond b (cond (bit declared k) (Ok (Mask k)) (Err NotDeclared)) (Err NoSuch) ≡ Ok s
          → KnownAs n names w s
      sized false q e = let z : ◌≡◌ {A = ℕ} 0 1 = cc in absurd (omega (arith, z))
      sized true q e = bitted (eqb-true (length w) (name_length k) q) (bit declared k) refl e

pub read_known : (n declared : ℕ) (names w : List ℕ) (s : Symbol) → n ≤ max_shares → Declares declared names → symbol_read n declared w ≡ Ok s
    → (w ≡ spelling s) × (known n names s ≡ true)
read_known n declared names [] s h d e = let z : ◌≡◌ {A = ℕ} 0 1 = cc in absurd (omega (arith, z))
read_known n declared names (c ∷ w) s h d e = product (eqb c letter_s) refl e
  where
    lettered : (letter : ℕ) → eqb c letter ≡ true → KnownAs n names (letter ∷ w) s → KnownAs n names (c ∷ w) s
    lettered letter q r = (ap {B = List ℕ} (λ x. x ∷ w) (eqb-true c letter q) ∙ r.0, r.1)

    other : Result Symbol SymbolFault
    other = named_read declared (length (c ∷ w)) (mask_at (c ∷ w))

    b_share : (b : Bool) → eqb c letter_b ≡ b → cond b (share_read ShareB n w) other ≡ Ok s → KnownAs n names (c ∷ w) s
    b_share true q e = lettered letter_b q (share-known n names s letter_b ShareB (λ j l. (refl, l)) w e)
    b_share false q e = mask-known n names s declared d (c ∷ w) (mask_at (c ∷ w)) refl e

    a_share : (b : Bool) → eqb c letter_a ≡ b → cond b (share_read ShareA n w) (cond (eqb c letter_b) (share_read ShareB n w) other) ≡ Ok s
        → KnownAs n names (c ∷ w) s
    a_share true q e = lettered letter_a q (share-known n names s letter_a ShareA (λ i l. (refl, l)) w e)
    a_share false q e = b_share (eqb c letter_b) refl e

    product : (b : Bool) → eqb c letter_s ≡ b
        → cond b (product_read n w) (cond (eqb c letter_a) (share_read ShareA n w) (cond (eqb c letter_b) (share_read ShareB n w) other)) ≡ Ok s
        → KnownAs n names (c ∷ w) s
    product true q e = lettered letter_s q (product-known n names s w e)
    product false q e = a_share (eqb c letter_a) refl e

-- ---- symbols, spelled

pub spelling-length : (s : Symbol) → length (spelling s) ≡ symbol_length s
spelling-length (Product i j) = refl
spelling-length (ShareA i) = refl
spelling-length (ShareB j) = refl
spelling-length (Mask k) = name_length_lem k

-- a digit is part of a run
word-figure : (i : ℕ) (l w : List ℕ) → i < 10 → word l ≡ w → word (figure i ∷ l) ≡ figure i ∷ w
word-figure i l w h e = rw (figure-parts i h) (ap {B = List ℕ} (λ w. figure i ∷ w) e)

share-parts : (i : ℕ) → i < share_figures → parts (share_figure i) ≡ false
unfolding up_to
share-parts i h = not-true (parts (share_figure i)) (every_at share_figures i (λ i. not (parts (share_figure i))) refl h)

-- so is the byte that writes a share
word_share : (i : ℕ) (l w : List ℕ) → i < share_figures → word l ≡ w → word (share_figure i ∷ l) ≡ share_figure i ∷ w
word_share i l w h e = rw (share-parts i h) (ap {B = List ℕ} (λ w. share_figure i ∷ w) e)

-- a share of the order can be written
share-formed : (n i : ℕ) → n ≤ max_shares → ltb i n ≡ true → ltb i share_figures ≡ true
share-formed n i h k = lt-ltb i share_figures (omega (arith, ltb-true i n k, h))

pub known-formed : (n : ℕ) (names : List ℕ) (s : Symbol) → n ≤ max_shares → every (λ k. leb k max_mask) names ≡ true → known n names s ≡ true
    → formed s ≡ true
known-formed n names (Product i j) h low k =
    and_both (ltb i share_figures) (ltb j share_figures) (share-formed n i h (and_left (ltb i n) (ltb j n) k))
    (share-formed n j h (and_right (ltb i n) (ltb j n) k))
known-formed n names (ShareA i) h low k = share-formed n i h k
known-formed n names (ShareB j) h low k = share-formed n j h k
known-formed n names (Mask m) h low k = le-leb m max_mask (member-low m names low k)

pub known_small : (n : ℕ) (names : List ℕ) (s : Symbol) → n ≤ max_shares → every (λ k. leb k max_mask) names ≡ true → known n names s ≡ true → Small s
known_small n names (Product i j) h low k =
    let row = ltb-true i n (and_left (ltb i n) (ltb j n) k) in
    let column = ltb-true j n (and_right (ltb i n) (ltb j n) k) in
    (omega (arith, row, h), omega (arith, column, h))
known_small n names (ShareA i) h low k = omega (arith, ltb-true i n k, h)
known_small n names (ShareB j) h low k = omega (arith, ltb-true j n k, h)
known_small n names (Mask m) h low k = omega (arith, member-low m names low k)

pub spelling-word : (s : Symbol) → formed s ≡ true → (rest : List ℕ) → word rest ≡ [] → word (spelling s ++ rest) ≡ spelling s
spelling-word (Product i j) f rest e =
    let first = ltb-true i share_figures (and_left (ltb i share_figures) (ltb j share_figures) f) in
    let second = ltb-true j share_figures (and_right (ltb i share_figures) (ltb j share_figures) f) in
    ap {B = List ℕ} (λ w. letter_s ∷ w) (word_share i (share_figure j ∷ rest) (share_figure j ∷ []) first (word_share j rest [] second e))
spelling-word (ShareA i) f rest e = ap {B = List ℕ} (λ w. letter_a ∷ w) (word_share i rest [] (ltb-true i share_figures f) e)
spelling-word (ShareB j) f rest e = ap {B = List ℕ} (λ w. letter_b ∷ w) (word_share j rest [] (ltb-true j share_figures f) e)
spelling-word (Mask m) f rest e = ap {B = List ℕ} (λ w. letter_r ∷ w) (go (ltb m 10) refl)
  where
    go : (b : Bool) → ltb m 10 ≡ b → word (cond b (figure m ∷ []) (figure (m / 10) ∷ figure (m % 10) ∷ []) ++ rest)
        ≡ cond b (figure m ∷ []) (figure (m / 10) ∷ figure (m % 10) ∷ [])
    go true q = word-figure m rest [] (ltb-true m 10 q) e
    go false q =
        let tens : m / 10 < 10 = omega (arith, div-add-mod' m 10, leb-true m max_mask f) in
        word-figure (m / 10) (figure (m % 10) ∷ rest) (figure (m % 10) ∷ []) tens (word-figure (m % 10) rest [] (mod-lt m (zero-lt-suc 9)) e)

-- ---- symbols, by their spelling

abbrev named : Option ℕ → Symbol
named None = Mask 0
named (Some k) = Mask k

-- the symbol that has this spelling
abbrev pub spelled_by : List ℕ → Symbol
spelled_by [] = Mask 0
spelled_by (c ∷ w) =
    cond (eqb c letter_s) (Product (share_of (get_or w 0 0)) (share_of (get_or w 1 0)))
    (cond (eqb c letter_a) (ShareA (share_of (get_or w 0 0)))
    (cond (eqb c letter_b) (ShareB (share_of (get_or w 0 0)))
    (named (mask_at (c ∷ w)))))

pub spelling_back : (s : Symbol) → formed s ≡ true → spelled_by (spelling s) ≡ s
spelling_back (Product i j) f =
    let first = ltb-true i share_figures (and_left (ltb i share_figures) (ltb j share_figures) f) in
    let second = ltb-true j share_figures (and_right (ltb i share_figures) (ltb j share_figures) f) in
    ap₂ {C = Symbol} (λ x y. Product x y) (share_back i first) (share_back j second)
spelling_back (ShareA i) f = ap {B = Symbol} (λ x. ShareA x) (share_back i (ltb-true i share_figures f))
spelling_back (ShareB j) f = ap {B = Symbol} (λ x. ShareB x) (share_back j (ltb-true j share_figures f))
spelling_back (Mask k) f =
    ap named (ap mask_at (sym (append-nil (mask_name k))) ∙ name_read k [] (leb-true k max_mask f) refl)

pub same-spelled : (s u : Symbol) → formed s ≡ true → formed u ≡ true → same_symbol s u ≡ true → s ≡ u
same-spelled s u f g e = sym (spelling_back s f) ∙ ap spelled_by (same_bytes (spelling s) (spelling u) e) ∙ spelling_back u g

pub spelled_same : (s u : Symbol) → s ≡ u → same_symbol s u ≡ true
spelled_same s u e = ap (λ (v : Symbol). same_symbol s v) (sym e) ∙ self (spelling s)
  where
    self : (l : List ℕ) → same l l ≡ true
    self [] = refl
    self (c ∷ l) = and_both (eqb c c) (same l l) (eq-eqb c c refl) (self l)
