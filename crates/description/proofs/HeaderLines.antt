-- The two header lines, as they are spelled and as they are read.
--     FirstLine          the first line is `ORDER = ` and one digit, and ends there
--     order-exactly      it gives an order exactly when it is so
--     HeaderRead         what two header lines that are read give, and that they are spelled so
--     header-spelled     what is read as the two header lines is spelled so
--     header_read        the two header lines, as they are spelled, are read
use Rattle.std.specs.Prelude.{Some, None}
use Prim.Native.Nat.{ℕ, ◌+◌, ◌-◌, ◌≤◌}
use native.Mathlib.Omega.{arith}
use mathlib.Core.Path.{◌≡◌, refl, sym, ◌∙◌, ap, ap₂, subst}
use mathlib.Core.Logic.{◌↔◌}
use mathlib.Core.Bool.{Bool, true, false, cond, ◌&&◌, ◌||◌}
use mathlib.Core.List.{List, [], ◌∷◌, ◌++◌, append_assoc}
use borrow.Author.Tests.{leb-true, le-leb, eqb-true}
use lib.Dec.{eqb, leb}
use lib.ListN.{length, take, drop, length-append, take-append-drop}
use lib.Seq.{take-append_seam, drop-append_seam}
use Rattle.limits.specs.Limits.{max_order}
use Rattle.basics.specs.Folds.{every}
use Rattle.basics.proofs.Tests.{and_left, and_right}
use Rattle.records.proofs.Words.{bit-zero}
use Rattle.description.specs.Bytes.{line_end, bracket, order_word, masks_word, figure, ended, same}
use Rattle.description.specs.Header.{order_digit, order_line, masks_of, closed, bracket_here, names_from, masks_line}
use Rattle.description.specs.Run.{second_at}
use Rattle.description.specs.Grammar.{Bytes, joined, further-names, header_text, member, once, mask_count}
use Rattle.description.specs.Symbols.{max_mask, mask_name}
use Rattle.description.specs.declared.Masks.{Masks}
use Rattle.description.proofs.Places.{same_bytes}
use Rattle.description.proofs.Numbers.{word_with, count_with_lem, fresh_in_lem, word_bits, fresh-once, count_with}
use Rattle.description.proofs.Spelling.{Declares}
use Rattle.description.proofs.HeaderNames.{names-read, NamesSpelled, names-spelled}

-- the masks that the second line declares, as it is read
abbrev line_masks : List ℕ → Masks
line_masks names = masks_of (word_with 0 names) (count_with_lem 0 names) (19 + length (joined names) + 1)

-- ---- the second line

masks-read : (names rest : List ℕ) → every (λ k. leb k max_mask) names ≡ true → fresh_in_lem 0 names ≡ true → ended rest ≡ true
    → masks_line second_at (masks_word ++ (joined names ++ (bracket ∷ rest))) ≡ Some (line_masks names)
unfolding masks_line
masks-read [] rest low new e = rw e refl
masks-read (k ∷ ks) rest low new e =
    ap (names_from 0 0 19 0) (append_assoc (mask_name k) (further-names ks) (bracket ∷ rest)) ∙ names-read ks k 0 0 19 rest low new e

-- l is what follows `MASKS = [`
record ListSpelled (l : List ℕ) (m : Masks) : Type 0 where
  names : List ℕ
  rest : List ℕ
  low : every (λ k. leb k max_mask) names ≡ true
  new : fresh_in_lem 0 names ≡ true
  spelled : l ≡ joined names ++ (bracket ∷ rest)
  line-end : ended rest ≡ true
  masks : m ≡ line_masks names

list_spelled : (l : List ℕ) (m : Masks) → cond (bracket_here l) (closed 0 0 19 l) (names_from 0 0 19 0 l) ≡ Some m → ListSpelled l m
list_spelled l m e = go (bracket_here l) refl e
  where
    some-names : NamesSpelled 0 0 19 l m → ListSpelled l m
    some-names r = record {
      names = r.first ∷ r.others;
      rest = r.rest;
      low = r.low;
      new = r.new;
      spelled = r.spelled ∙ sym (append_assoc (mask_name r.first) (further-names r.others) (bracket ∷ r.rest));
      line-end = r.line-end;
      masks = r.masks;
    }

    no_names : (l : List ℕ) → closed 0 0 19 l ≡ Some m → ListSpelled l m
    no_names [] e = let z : ◌≡◌ {A = ℕ} 0 1 = cc in absurd (omega (arith, z))
    no_names (c ∷ rest) e = test (eqb c bracket && ended rest) refl e
      where
        test : (b : Bool) → (eqb c bracket && ended rest) ≡ b → cond b (Some (masks_of 0 0 20)) None ≡ Some m
            → ListSpelled (c ∷ rest) m
        test false q e = let z : ◌≡◌ {A = ℕ} 0 1 = cc in absurd (omega (arith, z))
        test true q e = record {
          names = [];
          rest = rest;
          low = refl;
          new = refl;
          spelled = ap {B = List ℕ} (λ x. x ∷ rest) (eqb-true c bracket (and_left (eqb c bracket) (ended rest) q));
          line-end = and_right (eqb c bracket) (ended rest) q;
          masks = cc;
        }

    go : (b : Bool) → bracket_here l ≡ b → cond b (closed 0 0 19 l) (names_from 0 0 19 0 l) ≡ Some m → ListSpelled l m
    go true q e = no_names l e
    go false q e = some-names (names-spelled l 0 0 19 m e)

masks-spelled : (l : List ℕ) (m : Masks) → masks_line second_at l ≡ Some m → (t : List ℕ) × (l ≡ masks_word ++ t) × ListSpelled t m
unfolding masks_line
masks-spelled l m e = go (same (take 9 l) masks_word) refl e
  where
    go : (b : Bool) → same (take 9 l) masks_word ≡ b
        → cond b (cond (bracket_here (drop 9 l)) (closed 0 0 19 (drop 9 l)) (names_from 0 0 19 0 (drop 9 l))) None ≡ Some m
        → (t : List ℕ) × (l ≡ masks_word ++ t) × ListSpelled t m
    go false q e = let z : ◌≡◌ {A = ℕ} 0 1 = cc in absurd (omega (arith, z))
    go true q e =
        (drop 9 l, sym (take-append-drop 9 l) ∙ ap (λ w. w ++ drop 9 l) (same_bytes (take 9 l) masks_word q), list_spelled (drop 9 l) m e)

-- ---- the first line

-- "exactly `ORDER = ` and one digit 1 to 7", and then the line's end
pub record FirstLine (text : List ℕ) (order : ℕ) : Type 0 where
  pub rest : List ℕ
  pub digit : (1 ≤ order) × (order ≤ max_order)
  pub spelled : text ≡ order_word ++ (figure order ∷ rest)
  pub line-end : ended rest ≡ true

order-spelled : (text : List ℕ) (order : ℕ) → order_line text ≡ Some order → FirstLine text order
unfolding order_line
order-spelled text order e = go (same (take 8 text) order_word) refl e
  where
    digit-spelled : text ≡ order_word ++ drop 8 text → (l : List ℕ) → drop 8 text ≡ l → order_digit l ≡ Some order → FirstLine text order
    digit-spelled w [] p e = let z : ◌≡◌ {A = ℕ} 0 1 = cc in absurd (omega (arith, z))
    digit-spelled w (c ∷ l) p e = test (leb (figure 1) c && leb c (figure max_order) && ended l) refl e
      where
        test : (b : Bool) → (leb (figure 1) c && leb c (figure max_order) && ended l) ≡ b → cond b (Some (c - 48)) None ≡ Some order
            → FirstLine text order
        test false q e = let z : ◌≡◌ {A = ℕ} 0 1 = cc in absurd (omega (arith, z))
        test true q e =
            let both = and_left (leb (figure 1) c && leb c (figure max_order)) (ended l) q in
            let from = leb-true (figure 1) c (and_left (leb (figure 1) c) (leb c (figure max_order)) both) in
            let to = leb-true c (figure max_order) (and_right (leb (figure 1) c) (leb c (figure max_order)) both) in
            let number : c - 48 ≡ order = cc in
            let byte : c ≡ figure order = omega (arith, from, number) in
            record {
              rest = l;
              digit = (omega (arith, from, number), omega (arith, to, number));
              spelled = w ∙ ap (λ x. order_word ++ x) (p ∙ ap {B = List ℕ} (λ x. x ∷ l) byte);
              line-end = and_right (leb (figure 1) c && leb c (figure max_order)) (ended l) q;
            }

    go : (b : Bool) → same (take 8 text) order_word ≡ b → cond b (order_digit (drop 8 text)) None ≡ Some order
        → FirstLine text order
    go false q e = let z : ◌≡◌ {A = ℕ} 0 1 = cc in absurd (omega (arith, z))
    go true q e =
        digit-spelled (sym (take-append-drop 8 text) ∙ ap (λ w. w ++ drop 8 text) (same_bytes (take 8 text) order_word q)) (drop 8 text) refl e

-- ---- the two lines

pub record HeaderRead (text : List ℕ) (order : ℕ) (m : Masks) (names : List ℕ) : Type 0 where
  pub declares : Declares m.declared names
  pub count : m.count ≡ mask_count names
  pub names-once : once names ≡ true
  pub digit : (1 ≤ order) × (order ≤ max_order)
  pub header : Bytes text 0 (header_text order names)
  pub end : m.end ≡ length (header_text order names)
  pub header-end : ended (drop (length (header_text order names)) text) ≡ true
  pub inside : m.end ≤ length text

-- the text is the two lines and what follows them
both_lines : (order : ℕ) (names rest : List ℕ)
    → header_text order names ++ rest ≡ order_word ++ (figure order ∷ line_end ∷ (masks_word ++ (joined names ++ (bracket ∷ rest))))
both_lines order names rest =
    ap (λ t. order_word ++ (figure order ∷ line_end ∷ (masks_word ++ t))) (append_assoc (joined names) (bracket ∷ []) rest)

order-read : (order : ℕ) (rest : List ℕ) → 1 ≤ order → order ≤ max_order → ended rest ≡ true
    → order_line (order_word ++ (figure order ∷ rest)) ≡ Some order
unfolding order_line
order-read order rest h l line-end =
    let from = le-leb (figure 1) (figure order) (omega (arith, h)) in
    let to = le-leb (figure order) (figure max_order) (omega (arith, l)) in
    let back : figure order - 48 ≡ order = omega arith in
    rw (from, to, line-end) (ap Some back)

pub order-exactly : (text : List ℕ) (order : ℕ) → (order_line text ≡ Some order) ↔ FirstLine text order
order-exactly text order =
    (order-spelled text order, λ f. ap order_line f.spelled ∙ order-read order f.rest f.digit.0 f.digit.1 f.line-end)

module _ (text : List ℕ) (order : ℕ) (names rest : List ℕ) (digit : (1 ≤ order) × (order ≤ max_order)) (low : every (λ k. leb k max_mask) names ≡ true)
    (new : fresh_in_lem 0 names ≡ true) (whole : text ≡ header_text order names ++ rest) (line-end : ended rest ≡ true) where
  line_read : HeaderRead text order (line_masks names) names
  line_read =
      let list = length-append (joined names) (bracket ∷ []) in
      let size : 19 + length (joined names) + 1 ≡ length (header_text order names) = omega (arith, list) in
      let all : length text ≡ length (header_text order names) + length rest = ap length whole ∙ length-append (header_text order names) rest in
      record {
        declares = record { low = low; bits = λ k. word_bits names 0 k new ∙ ap (λ (b : Bool). b || member k names) (bit-zero k) };
        count = count_with names;
        names-once = sym (fresh-once names) ∙ new;
        digit = digit;
        header = ap (take (length (header_text order names))) whole ∙ take-append_seam (header_text order names) rest;
        end = size;
        header-end = ap ended (ap (drop (length (header_text order names))) whole ∙ drop-append_seam (header_text order names) rest) ∙ line-end;
        inside = omega (arith, size, all);
      }

pub header-spelled : (text : List ℕ) (order : ℕ) (m : Masks) → order_line text ≡ Some order
    → masks_line second_at (drop second_at text) ≡ Some m → (names : List ℕ) × HeaderRead text order m names
header-spelled text order m e f = go first.rest refl
  where
    first : FirstLine text order
    first = order-spelled text order e

    second : (t : List ℕ) × (drop second_at text ≡ masks_word ++ t) × ListSpelled t m
    second = masks-spelled (drop second_at text) m f

    go : (l : List ℕ) → first.rest ≡ l → (names : List ℕ) × HeaderRead text order m names
    go [] p =
        let none : drop second_at text ≡ [] = ap (drop second_at) (first.spelled ∙ ap (λ l. order_word ++ (figure order ∷ l)) p) in
        let counts : 0 ≡ length (masks_word ++ second.0) = ap length (sym none ∙ second.1) in
        absurd (omega (arith, counts))
    go (c ∷ l) p =
        let line : c ≡ line_end = eqb-true c line_end (sym (ap ended p) ∙ first.line-end) in
        let parts : text ≡ order_word ++ (figure order ∷ c ∷ l) = first.spelled ∙ ap (λ l. order_word ++ (figure order ∷ l)) p in
        let r = second.2 in
        let listed : l ≡ masks_word ++ (joined r.names ++ (bracket ∷ r.rest)) =
        sym (ap (drop second_at) parts) ∙ second.1 ∙ ap (λ t. masks_word ++ t) r.spelled in
        let whole : text ≡ header_text order r.names ++ r.rest =
        parts ∙ ap₂ {C = List ℕ} (λ x y. order_word ++ (figure order ∷ x ∷ y)) line listed ∙ sym (both_lines order r.names r.rest) in (
          r.names,
          subst (λ m. HeaderRead text order m r.names) (sym r.masks)
              (line_read text order r.names r.rest first.digit r.low r.new whole r.line-end),
        )

pub header_read : (text : List ℕ) (order : ℕ) (names : List ℕ) → (1 ≤ order) × (order ≤ max_order) → every (λ k. leb k max_mask) names ≡ true → once names ≡ true
    → Bytes text 0 (header_text order names) → ended (drop (length (header_text order names)) text) ≡ true
    → (order_line text ≡ Some order)
    × ((m : Masks) × ((masks_line second_at (drop second_at text) ≡ Some m) × HeaderRead text order m names))
header_read text order names digit low alone header header-end =
    let rest : List ℕ = drop (length (header_text order names)) text in
    let whole : text ≡ header_text order names ++ rest = sym (take-append-drop (length (header_text order names)) text) ∙ ap (λ w. w ++ rest) header in
    let parts = whole ∙ both_lines order names rest in
    let new : fresh_in_lem 0 names ≡ true = fresh-once names ∙ alone in (
      ap order_line parts ∙ order-read order (line_end ∷ (masks_word ++ (joined names ++ (bracket ∷ rest)))) digit.0 digit.1 refl,
      (
        line_masks names,
        (
          ap (λ t. masks_line second_at (drop second_at t)) parts ∙ masks-read names rest low new header-end,
          line_read text order names rest digit low new whole header-end,
        ),
      ),
    )
