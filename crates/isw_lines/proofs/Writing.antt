-- The bytes of a part, of a line, of the header lines and of the text, as they are written one run after the other.
--     lower                                   a share that is neither a line's own nor above it
--     decimal_two, mask-decimal               a number below 100 has at most two digits; a mask's name is its letter and its number
--     pieces_more                             one piece more of a list of pieces
--     product_wrote                           a product after some bytes
--     PartWritten, part_own, part-above, part-below     what a line has for a share
--     pieces_to, pieces_begin, pieces_next     pieces that a loop writes
--     part_text, line_wrote                    a line
--     names_to, names_begin, names-next, header_wrote     the names after the first, and the header lines
--     text_wrote                              the text
use Prim.Native.Nat.{ℕ, zero, suc, ◌+◌, ◌/◌, ◌%◌, ◌≤◌, ◌<◌}
use native.Mathlib.Nat.{div-add-mod'}
use native.Mathlib.Omega.{arith}
use mathlib.Core.Path.{◌≡◌, refl, sym, ◌∙◌, ap, ap₂, subst}
use mathlib.Core.Bool.{Bool, true, false, cond}
use mathlib.Core.List.{List, [], ◌∷◌, ◌++◌, map, append_assoc, append-nil}
use borrow.Author.Tests.{lt-ltb, le-ltb, eq-eqb, ne_eqb, ltb-true, ltb-false}
use lib.Dec.{eqb, ltb}
use lib.ListN.{length, length-append, drop}
use Rattle.basics.specs.Folds.{fold, up_to}
use Rattle.basics.specs.Quoted.{bytes}
use Rattle.basics.proofs.Folds.{fold-append, up_to-last}
use Rattle.wires.specs.declared.Symbol.TheVariants.{Product}
use Rattle.description.specs.Bytes.{line_end, comma, space, bracket, letter_r, order_word, masks_word, figure}
use Rattle.description.specs.Symbols.{mask_name, spelling}
use Rattle.description.specs.Grammar.{further-names, joined, header_text}
use Rattle.pages.specs.Decimal.{digit_byte, decimal}
use Rattle.pages.specs.Page.{Wrote}
use Rattle.pages.proofs.Numbers.{decimal-low, decimal_more, decimal-below}
use Rattle.pages.proofs.Writing.{wrote_nothing, wrote_after}
use Rattle.isw_gadget.specs.Pairs.{pairs, pair_number}
use Rattle.isw_gadget.specs.Text.{corrected, item, line_text, isw_text}
use Rattle.isw_gadget.specs.Answers.{max_isw_order}
use Rattle.isw_lines.proofs.Numbering.{pair_small}

-- ---- numbers and pieces

-- neither its own share nor one above
pub lower : (i j : ℕ) → (j ≡ i → ⊥) → j ≤ i → j < i
lower i j apart h = omega (arith, apart, h)

decimal_two : (k : ℕ) → k < 100 → length (decimal k) ≤ 2
decimal_two k h = decimal-below k 1 h

mask-decimal : (k : ℕ) → k < 100 → mask_name k ≡ letter_r ∷ decimal k
mask-decimal k h = ap {B = List ℕ} (λ l. letter_r ∷ l) (go (ltb k 10) refl)
  where
    go : (b : Bool) → ltb k 10 ≡ b → cond b (figure k ∷ []) (figure (k / 10) ∷ figure (k % 10) ∷ []) ≡ decimal k
    go true e = sym (decimal-low k (ltb-true k 10 e))
    go false e =
        let tens : k / 10 < 10 = omega (arith, div-add-mod' k 10, h) in
        sym (decimal_more k (ltb-false k 10 e) ∙ ap (λ (l : List ℕ). l ++ (digit_byte (k % 10) ∷ [])) (decimal-low (k / 10) tens))

pieces_more : (f : ℕ → List ℕ) (j : ℕ) → fold ◌++◌ [] f (up_to (j + 1)) ≡ fold ◌++◌ [] f (up_to j) ++ f j
pieces_more f j =
    let next : j + 1 ≡ suc j = omega arith in
    ap (λ (k : ℕ). fold ◌++◌ [] f (up_to k)) next ∙ ap (fold ◌++◌ [] f) (up_to-last j) ∙ fold-append ◌++◌ [] (λ l. refl) append_assoc f (up_to j) (j ∷ [])
    ∙ ap (λ (l : List ℕ). fold ◌++◌ [] f (up_to j) ++ l) (append-nil (f j))

module _ (page : List ℕ) (at : ℕ) where
  -- the bytes written are these
  as_bytes : (k l after : List ℕ) (end : ℕ) → k ≡ l → Wrote page at k after end → Wrote page at l after end
  as_bytes k l after end e = subst (λ (m : List ℕ). Wrote page at m after end) e

  pub product_wrote : (i j : ℕ) (name c : List ℕ) (e : ℕ) (d : List ℕ) (f : ℕ) (after : List ℕ) (end : ℕ) → Wrote page at name c e
      → Wrote c e (digit_byte i ∷ []) d f → Wrote d f (digit_byte j ∷ []) after end
      → Wrote page at (name ++ (digit_byte i ∷ digit_byte j ∷ [])) after end
  product_wrote i j name c e d f after end w x y =
      as_bytes ((name ++ (digit_byte i ∷ [])) ++ (digit_byte j ∷ [])) (name ++ (digit_byte i ∷ digit_byte j ∷ [])) after end
      (append_assoc name (digit_byte i ∷ []) (digit_byte j ∷ []))
      (wrote_after page at (name ++ (digit_byte i ∷ [])) d f (digit_byte j ∷ []) after end (wrote_after page at name c e (digit_byte i ∷ []) d f w x) y)

  -- ---- a part

  module _ (d i j : ℕ) where
    abbrev pub PartWritten : List ℕ → ℕ → Type 0
    PartWritten after end = Wrote page at (cond (eqb j i) [] (bytes " " ++ item d i j)) after end × (end ≤ at + 16)

    pub part_own : j ≡ i → PartWritten page at
    part_own e = (
      as_bytes [] (cond (eqb j i) [] (bytes " " ++ item d i j)) page at
          (sym (ap (λ (b : Bool). cond b [] (bytes " " ++ item d i j)) (eq-eqb j i e))) (wrote_nothing page at),
      omega arith,
    )

    module _ (number : ℕ) (after : List ℕ) (end : ℕ) (high : d ≤ max_isw_order) where
      pub part-above : i < j → j ≤ d → number ≡ pair_number d i j → Wrote page at (bytes " r" ++ decimal number) after end → PartWritten after end
      part-above h l e w =
          let low = pair_small d i j h l high in
          let short = decimal_two number (omega (arith, e, low)) in
          let name : mask_name (pair_number d i j) ≡ letter_r ∷ decimal number =
          ap (λ (k : ℕ). mask_name k) (sym e) ∙ mask-decimal number (omega (arith, e, low)) in
          let size = length-append (bytes " r") (decimal number) in (
            as_bytes (bytes " r" ++ decimal number) (cond (eqb j i) [] (bytes " " ++ item d i j)) after end
                (sym (ap₂ {C = List ℕ} (λ (a b : Bool). cond a [] (bytes " " ++ cond b (mask_name (pair_number d i j)) (corrected d i j)))
                (ne_eqb j i (λ f. omega (arith, f, h))) (lt-ltb i j h)
                ∙ ap {B = List ℕ} (λ l. bytes " " ++ l) name)) w,
            omega (arith, w.end_is, short, size),
          )

      pub part-below : j < i → i ≤ d → number ≡ pair_number d j i
          → Wrote page at
          ((((bytes " ((r" ++ decimal number) ++ (bytes " s" ++ (digit_byte j ∷ digit_byte i ∷ []))) ++ (bytes ") s" ++ (digit_byte i ∷ digit_byte j ∷ []))) ++ bytes ")")
          after end
          → PartWritten after end
      part-below h l e w =
          let low = pair_small d j i h l high in
          let short = decimal_two number (omega (arith, e, low)) in
          let name : mask_name (pair_number d j i) ≡ letter_r ∷ decimal number =
          ap (λ (k : ℕ). mask_name k) (sym e) ∙ mask-decimal number (omega (arith, e, low)) in
          let first = bytes " s" ++ (digit_byte j ∷ digit_byte i ∷ []) in
          let second = bytes ") s" ++ (digit_byte i ∷ digit_byte j ∷ []) in
          let tail = first ++ (second ++ bytes ")") in
          let together : (((bytes " ((r" ++ decimal number) ++ first) ++ second) ++ bytes ")" ≡ bytes " ((r" ++ (decimal number ++ tail) =
          append_assoc ((bytes " ((r" ++ decimal number) ++ first) second (bytes ")")
          ∙ append_assoc (bytes " ((r" ++ decimal number) first (second ++ bytes ")") ∙ append_assoc (bytes " ((r") (decimal number) tail in
          let size = ap length together ∙ length-append (bytes " ((r") (decimal number ++ tail) in
          let rest = length-append (decimal number) tail in (
            as_bytes _ (cond (eqb j i) [] (bytes " " ++ item d i j)) after end
                (together
                ∙ sym (ap₂ {C = List ℕ} (λ (a b : Bool). cond a [] (bytes " " ++ cond b (mask_name (pair_number d i j)) (corrected d i j)))
                (ne_eqb j i (λ f. omega (arith, f, h))) (le-ltb i j (omega (arith, h)))
                ∙ ap {B = List ℕ} (λ l. bytes " ((" ++ (l ++ tail)) name)) w,
            omega (arith, w.end_is, short, size, rest),
          )

-- ---- pieces one after the other, written by a loop

module _ (f : ℕ → List ℕ) (page : List ℕ) (at : ℕ) where
  abbrev pub pieces_to : ℕ → List ℕ
  pieces_to j = fold ◌++◌ [] f (up_to j)

  pub pieces_begin : Wrote page at (pieces_to 0) page at
  unfolding up_to
  pieces_begin = wrote_nothing page at

  pub pieces_next : (j : ℕ) (c : List ℕ) (e : ℕ) (after : List ℕ) (end : ℕ) → Wrote page at (pieces_to j) c e → Wrote c e (f j) after end
      → Wrote page at (pieces_to (j + 1)) after end
  pieces_next j c e after end w x =
      as_bytes page at (pieces_to j ++ f j) (pieces_to (j + 1)) after end (sym (pieces_more f j)) (wrote_after page at (pieces_to j) c e (f j) after end w x)

-- what line i has for share j
abbrev pub part_text : ℕ → ℕ → ℕ → List ℕ
part_text d i j = cond (eqb j i) [] (bytes " " ++ item d i j)

-- the first product, the parts, the line end
pub line_wrote : (d i : ℕ) (page : List ℕ) (at j : ℕ) (b : List ℕ) (e : ℕ) (c : List ℕ) (f : ℕ) (after : List ℕ) (end : ℕ) → j ≡ d + 1
    → Wrote page at (bytes "s" ++ (digit_byte i ∷ digit_byte i ∷ [])) b e → Wrote b e (fold ◌++◌ [] (part_text d i) (up_to j)) c f
    → Wrote c f (bytes "\n") after end → Wrote page at (line_text d i) after end
line_wrote d i page at j b e c f after end all w x y =
    let first = spelling (Product i i) in
    let parts = fold ◌++◌ [] (part_text d i) (up_to j) in
    as_bytes page at ((first ++ parts) ++ bytes "\n") (line_text d i) after end
    (append_assoc first parts (bytes "\n") ∙ ap (λ (k : ℕ). first ++ (fold ◌++◌ [] (part_text d i) (up_to k) ++ bytes "\n")) all)
    (wrote_after page at (first ++ parts) c f (bytes "\n") after end (wrote_after page at first b e parts c f w x) y)

-- ---- the header lines

further-last : (l : List ℕ) (k : ℕ) → further-names (l ++ (k ∷ [])) ≡ further-names l ++ (comma ∷ space ∷ mask_name k)
further-last [] k = ap {B = List ℕ} (λ m. comma ∷ space ∷ m) (append-nil (mask_name k))
further-last (n ∷ l) k =
    ap {B = List ℕ} (λ m. comma ∷ space ∷ (mask_name n ++ m)) (further-last l k)
    ∙ ap {B = List ℕ} (λ m. comma ∷ space ∷ m) (sym (append_assoc (mask_name n) (further-names l) (comma ∷ space ∷ mask_name k)))

joined-last : (l : List ℕ) (n k : ℕ) → joined ((n ∷ l) ++ (k ∷ [])) ≡ joined (n ∷ l) ++ (comma ∷ space ∷ mask_name k)
joined-last l n k =
    ap (λ (m : List ℕ). mask_name n ++ m) (further-last l k) ∙ sym (append_assoc (mask_name n) (further-names l) (comma ∷ space ∷ mask_name k))

-- one mask more, after others
joined-next : (k : ℕ) → joined (up_to (suc (suc k))) ≡ joined (up_to (suc k)) ++ (comma ∷ space ∷ mask_name (suc k))
unfolding up_to
joined-next k = ap joined (up_to-last (suc k)) ∙ joined-last (map suc (up_to k)) 0 (suc k)

joined_more : (m : ℕ) → 1 ≤ m → m < 100 → joined (up_to (m + 1)) ≡ joined (up_to m) ++ (bytes ", r" ++ decimal m)
joined_more zero l h = absurd (omega (arith, l))
joined_more (suc k) l h =
    let next : suc k + 1 ≡ suc (suc k) = omega arith in
    ap (λ (n : ℕ). joined (up_to n)) next ∙ joined-next k
    ∙ ap (λ (n : List ℕ). joined (up_to (suc k)) ++ (comma ∷ space ∷ n)) (mask-decimal (suc k) h)

-- the names after the first, r0, which has two bytes
abbrev pub names_to : ℕ → List ℕ
names_to m = drop 2 (joined (up_to m))

pub names_begin : (page : List ℕ) (at : ℕ) → Wrote page at (names_to 1) page at
unfolding up_to
names_begin page at = wrote_nothing page at

names_more : (m : ℕ) → 1 ≤ m → m < 100 → names_to (m + 1) ≡ names_to m ++ (bytes ", r" ++ decimal m)
unfolding up_to
names_more zero l h = absurd (omega (arith, l))
names_more (suc k) l h = ap (drop 2) (joined_more (suc k) l h)

pub names-next : (page : List ℕ) (at m : ℕ) (c : List ℕ) (e : ℕ) (after : List ℕ) (end : ℕ) → 1 ≤ m → m < 100 → Wrote page at (names_to m) c e
    → Wrote c e (bytes ", r" ++ decimal m) after end → Wrote page at (names_to (m + 1)) after end
names-next page at m c e after end l h w x =
    as_bytes page at (names_to m ++ (bytes ", r" ++ decimal m)) (names_to (m + 1)) after end (sym (names_more m l h))
    (wrote_after page at (names_to m) c e (bytes ", r" ++ decimal m) after end w x)

-- the header lines up to the first name, then the other names
header-parts : (d m : ℕ) → 1 ≤ m → d < 10
    → (((bytes "ORDER = " ++ decimal d) ++ bytes "\nMASKS = [r0") ++ names_to m) ++ bytes "]\n" ≡ header_text d (up_to m) ++ bytes "\n"
unfolding up_to
header-parts d zero l h = absurd (omega (arith, l))
header-parts d (suc k) l h =
    ap (λ (o : List ℕ). (((bytes "ORDER = " ++ o) ++ bytes "\nMASKS = [r0") ++ names_to (suc k)) ++ bytes "]\n") (decimal-low d h)
    ∙ ap (λ (n : List ℕ). order_word ++ (figure d ∷ line_end ∷ (masks_word ++ (bytes "r0" ++ n)))) (sym (append_assoc (further-names (map suc (up_to k))) (bracket ∷ []) (bytes "\n")))

pub header_wrote : (d m : ℕ) (page a : List ℕ) (p : ℕ) (b : List ℕ) (e : ℕ) (c : List ℕ) (f : ℕ) (after : List ℕ) (end : ℕ) → 1 ≤ m → m ≡ pairs d
    → d < 10 → Wrote page 0 (bytes "ORDER = " ++ decimal d) a p → Wrote a p (bytes "\nMASKS = [r0") b e → Wrote b e (names_to m) c f
    → Wrote c f (bytes "]\n") after end → Wrote page 0 (header_text d (up_to (pairs d)) ++ bytes "\n") after end
header_wrote d m page a p b e c f after end l all h v w x y =
    let order = bytes "ORDER = " ++ decimal d in
    let first = bytes "\nMASKS = [r0" in
    as_bytes page 0 (((order ++ first) ++ names_to m) ++ bytes "]\n") (header_text d (up_to (pairs d)) ++ bytes "\n") after end
    (header-parts d m l h ∙ ap (λ (k : ℕ). header_text d (up_to k) ++ bytes "\n") all)
    (wrote_after page 0 ((order ++ first) ++ names_to m) c f (bytes "]\n") after end
    (wrote_after page 0 (order ++ first) b e (names_to m) c f (wrote_after page 0 order a p first b e v w) x) y)

-- ---- the text

pub text_wrote : (d i : ℕ) (page b : List ℕ) (e : ℕ) (after : List ℕ) (end : ℕ) → i ≡ d + 1
    → Wrote page 0 (header_text d (up_to (pairs d)) ++ bytes "\n") b e → Wrote b e (fold ◌++◌ [] (line_text d) (up_to i)) after end
    → Wrote page 0 (isw_text d) after end
unfolding isw_text
text_wrote d i page b e after end all w x =
    let header = header_text d (up_to (pairs d)) in
    let lines = fold ◌++◌ [] (line_text d) (up_to i) in
    as_bytes page 0 ((header ++ bytes "\n") ++ lines) (isw_text d) after end
    (append_assoc header (bytes "\n") lines ∙ ap (λ (k : ℕ). header ++ (bytes "\n" ++ fold ◌++◌ [] (line_text d) (up_to k))) all)
    (wrote_after page 0 (header ++ bytes "\n") b e lines after end w x)
