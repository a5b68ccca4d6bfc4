-- The text of an order is the one that the words of request No. 2 describe, and no other.
--     says_same        a line that says this is this line
--     lines_same       lines with the same items have the same bytes
--     isw_spelled      the text spells what the request says
--     spelled-once, described_once     there is one text that does, and one description that it spells
use Prim.Native.Nat.{ℕ, zero, suc, ◌+◌, ◌≤◌, ◌<◌, suc-le-suc}
use native.Mathlib.Nat.{zero-lt-suc}
use native.Mathlib.Omega.{arith}
use mathlib.Core.Path.{◌≡◌, refl, sym, ◌∙◌, ap, ap₂, subst}
use mathlib.Core.Bool.{Bool, true, false}
use mathlib.Core.List.{List, [], ◌∷◌, ◌++◌}
use borrow.Author.Tests.{ltb-true, ltb-false}
use lib.Dec.{ltb}
use lib.ListN.{length, drop, get_or}
use Rattle.basics.specs.Folds.{fold, up_to}
use Rattle.wires.specs.declared.Symbol.TheVariants.{Product, Mask}
use Rattle.description.specs.Bytes.{line_end}
use Rattle.description.specs.Grammar.{Items, none, Description, Spells, header_text}
use Rattle.description.specs.Printing.{an, bracketed, printed_line}
use Rattle.description.proofs.Laying.{laid_out}
use Rattle.description.proofs.Unique as unique
use Rattle.description.proofs.Printing.{printed-spells, laid_count}
use Rattle.isw_gadget.specs.Pairs.{pairs, pair_number, Pair}
use Rattle.isw_gadget.specs.Text.{isw_text}
use Rattle.isw_gadget.proofs.Gadget.{isw}
use Rattle.isw_gadget.specs.Says.{unplaced, items, item_at, LineSays, IswSpelled}
use Rattle.isw_gadget.proofs.Pairs.{pairs_numbered, numbers_agree}
use Rattle.isw_gadget.proofs.Lines.{isw_printed}
use Rattle.isw_gadget.proofs.Saying.{line_says, same-following, text_laid, line_at, items-same}
use Rattle.isw_gadget.proofs.Reading.{Fits, isw_limits, isw_printable, lines-many}

-- ---- lines

module _ (d i : ℕ) (f g : ℕ → ℕ → ℕ) (agree : (k m : ℕ) → Pair d k m → f k m ≡ g k m) (high : i ≤ d) (is js : Items)
    (p : LineSays d f i is) (q : LineSays d g i js) where
  below-same : (j : ℕ) → j < i → item_at is (j + 1) ≡ item_at js (j + 1)
  below-same j h =
      p.lower j h
      ∙ ap (λ (k : ℕ). bracketed (bracketed (an (Mask k) (an (Product j i) none)) (an (Product i j) none)) none) (agree j i (h, high))
      ∙ sym (q.lower j h)

  above_same : (j : ℕ) → i < j → j ≤ d → item_at is j ≡ item_at js j
  above_same j h l = p.higher j h l ∙ ap (λ (k : ℕ). an (Mask k) none) (agree i j (h, l)) ∙ sym (q.higher j h l)

  pub says_same : is ≡ js
  says_same = items-same is js (p.no_more ∙ sym q.no_more) each
    where
      at : (k : ℕ) → k < d + 1 → (a : Bool) → ltb i k ≡ a → item_at is k ≡ item_at js k
      at zero h a e = p.begins ∙ sym q.begins
      at (suc k) h true e = above_same (suc k) (ltb-true i (suc k) e) (omega (arith, h))
      at (suc k) h false e =
          let low = ltb-false i (suc k) e in
          let next : k + 1 ≡ suc k = omega arith in
          ap (item_at is) (sym next) ∙ below-same k (omega (arith, low)) ∙ ap (item_at js) next

      each : (k : ℕ) → k < items is → item_at is k ≡ item_at js k
      each k h = let size = p.no_more in at k (omega (arith, h, size)) (ltb i k) refl

lines_same : (k l : List Items) → length k ≡ length l → ((i : ℕ) → i < length k → unplaced (get_or k i none) ≡ unplaced (get_or l i none))
    → fold ◌++◌ [] printed_line k ≡ fold ◌++◌ [] printed_line l
lines_same [] [] e h = refl
lines_same [] (js ∷ l) e h = absurd (omega (arith, e))
lines_same (is ∷ k) [] e h = absurd (omega (arith, e))
lines_same (is ∷ k) (js ∷ l) e h =
    ap₂ {C = List ℕ} (λ a b. (drop 1 a ++ (line_end ∷ [])) ++ b) (same-following is js (h 0 (zero-lt-suc (length k))))
    (lines_same k l (omega (arith, e)) (λ i b. h (suc i) (suc-le-suc b)))

-- ---- the text

pub spelled-once : (d : ℕ) (t u : List ℕ) → IswSpelled d t → IswSpelled d u → t ≡ u
spelled-once d t u s w =
    let size = s.line-count in
    s.spaced
    ∙ ap₂ {C = List ℕ} (λ (o : ℕ) (l : List ℕ). header_text o l ++ (line_end ∷ fold ◌++◌ [] printed_line s.description.lines))
    (s.same-order ∙ sym w.same-order) (s.same_names ∙ sym w.same_names)
    ∙ ap (λ (l : List ℕ). header_text w.description.order w.description.names ++ (line_end ∷ l))
    (lines_same s.description.lines w.description.lines (s.line-count ∙ sym w.line-count) (λ i h.
    let low : i ≤ d = omega (arith, h, size) in
    says_same d i s.number w.number (numbers_agree d s.number w.number s.numbers w.numbers) low _ _ (s.lines_say i low)
    (w.lines_say i low)))
    ∙ sym w.spaced

pub described_once : (d : ℕ) (text : List ℕ) (s : IswSpelled d text) (e : Description) → Spells text e → s.description ≡ e
described_once d text s e spells = unique.spelled-once text s.description e s.spells spells

module _ (d : ℕ) (f : Fits d) where
  abbrev at : ℕ
  at = length (header_text d (up_to (pairs d)))

  pub isw_spelled : IswSpelled d (isw_text d)
  isw_spelled = record {
    description = laid_out (isw d);
    spells = subst (λ (l : List ℕ). Spells l (laid_out (isw d))) (isw_printed d) (printed-spells (isw d) (isw_printable d f) (isw_limits d f));
    spaced = sym (isw_printed d) ∙ sym (text_laid (isw d));
    same-order = refl;
    same_names = refl;
    line-count = laid_count at (isw d).lines ∙ lines-many d;
    number = pair_number d;
    numbers = pairs_numbered d;
    lines_say = λ i h. subst (LineSays d (pair_number d) i) (sym (line_at d at i h)) (line_says d i h);
  }
