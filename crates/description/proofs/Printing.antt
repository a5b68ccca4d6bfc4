-- What is printed is spelled: the text of a description spells it, each item at its place.
--     laid_empty, laid_symbols, laid_depth, laid_whole, laid_fold, laid_count, laid_limits     items at their places are the same items, within the same limits
--     spellable              every symbol can be spelled, and no group is empty
--     items_stand            the bytes of items spell them
--     lines-spelled          so do those of output lines
--     Printable              a description whose text is read: it can be declared, each line has items, no group is empty
--     printed-spells         its text spells it, where it is within the limits
--     printed-read           and is read into its order, mask count and wires
use Prim.Native.Nat.{ℕ, suc, ◌+◌, ◌≤◌, ◌<◌}
use native.Mathlib.Omega.{arith}
use mathlib.Core.Path.{◌≡◌, refl, sym, ◌∙◌, ap, ap₂, subst}
use mathlib.Core.Bool.{Bool, true, false, cond, not, ◌&&◌, true≢false}
use mathlib.Core.List.{List, [], ◌∷◌, ◌++◌, append_assoc}
use borrow.Author.Tests.{not-true}
use lib.Dec.{leb}
use lib.ListN.{length, length-append, length-drop, drop}
use lib.Seq.{drop-drop, drop-append_seam, take-append_seam}
use Rattle.limits.specs.Limits.{max_order}
use Rattle.basics.specs.Folds.{fold, every}
use Rattle.basics.proofs.Tests.{and_left, and_right, and_both}
use Rattle.wires.specs.declared.Symbol.{Symbol}
use Rattle.description.specs.Bytes.{space, line_end, opening, closing, word, ended}
use Rattle.description.specs.Symbols.{max_mask, symbol_length, spelling, formed}
use Rattle.description.specs.Header.{larger}
use Rattle.description.specs.Run.{max_depth, reading, read}
use Rattle.description.specs.Grammar.{Items, none, symbol, group, Description, Byte, empty, symbols, depth, header_text, once, known}
use Rattle.description.specs.Grammar.{Spelled, end, spaced, a_symbol, a_group, Lines, last, line, Spells, Limits, wires_of, mask_count}
use Rattle.description.specs.Printing.{following, printed, printed_line, text_of}
use Rattle.description.proofs.Laying.{laid, laid_lines_lem, laid_out}
use Rattle.description.proofs.Spelling.{spelling-length, known-formed}
use Rattle.description.proofs.Places.{rest-bytes, byte_inside}
use Rattle.description.proofs.Events.{symbols-group, known-group, whole}
use Rattle.description.proofs.Exactly.{spelled-read}

-- ---- the same items

pub laid_empty : (p : ℕ) (is : Items) → empty (laid p is) ≡ empty is
laid_empty p none = refl
laid_empty p (symbol q is) = refl
laid_empty p (group o inside c is) = refl

pub laid_symbols : (p : ℕ) (is : Items) → symbols (laid p is) ≡ symbols is
laid_symbols p none = refl
laid_symbols p (symbol q is) = ap {B = List Symbol} (λ l. q.symbol ∷ l) (laid_symbols (p + 1 + symbol_length q.symbol) is)
laid_symbols p (group o inside c is) =
    symbols-group (p + 1) (laid (p + 1) inside) (p + 1 + length (following inside)) (laid (p + 1 + length (following inside) + 1) is)
    ∙ ap₂ {C = List Symbol} (λ k l. k ++ l) (laid_symbols (p + 1) inside) (laid_symbols (p + 1 + length (following inside) + 1) is)
    ∙ sym (symbols-group o inside c is)

pub laid_depth : (p : ℕ) (is : Items) → depth (laid p is) ≡ depth is
laid_depth p none = refl
laid_depth p (symbol q is) = laid_depth (p + 1 + symbol_length q.symbol) is
laid_depth p (group o inside c is) =
    ap₂ (λ (m n : ℕ). larger (m + 1) n) (laid_depth (p + 1) inside) (laid_depth (p + 1 + length (following inside) + 1) is)

pub laid_whole : (p : ℕ) (is : Items) → whole (laid p is) ≡ whole is
laid_whole p none = refl
laid_whole p (symbol q is) = laid_whole (p + 1 + symbol_length q.symbol) is
laid_whole p (group o inside c is) =
    ap₂ (λ (a b : Bool). not a && b) (laid_empty (p + 1) inside)
    (ap₂ (λ (a b : Bool). a && b) (laid_whole (p + 1) inside) (laid_whole (p + 1 + length (following inside) + 1) is))

-- ---- items

-- every symbol can be spelled, and no group is empty
abbrev pub spellable : Items → Bool
spellable none = true
spellable (symbol p is) = formed p.symbol && spellable is
spellable (group o inside c is) = not (empty inside) && (spellable inside && spellable is)

-- nothing of a symbol follows: items begin with a space
word-following : (is : Items) (rest : List ℕ) → word rest ≡ [] → word (following is ++ rest) ≡ []
word-following none rest e = e
word-following (symbol p is) rest e = refl
word-following (group o inside c is) rest e = refl

printed-length : (is : Items) → empty is ≡ false → 1 + length (printed is) ≡ length (following is)
printed-length none f = absurd (true≢false f)
printed-length (symbol p is) f = omega arith
printed-length (group o inside c is) f = omega arith

module _ (text : List ℕ) where
  -- the text goes on after bytes at a place
  past : (p q : ℕ) (w l : List ℕ) → drop p text ≡ w ++ l → q ≡ p + length w → drop q text ≡ l
  past p q w l e f =
      ap (λ (k : ℕ). drop k text) f ∙ sym (drop-drop (length w) p text) ∙ ap (drop (length w)) e ∙ drop-append_seam w l

  -- from the space before the first item on, and from its first byte on
  record Stands (is : Items) : Type 0 where
    after : (p q : ℕ) (rest : List ℕ) → drop p text ≡ following is ++ rest → word rest ≡ [] → q ≡ p + length (following is)
        → Spelled text p (laid p is) q
    at_once : (p q : ℕ) (rest : List ℕ) → empty is ≡ false → drop (p + 1) text ≡ printed is ++ rest → word rest ≡ []
        → q ≡ p + length (following is) → Spelled text (p + 1) (laid p is) q

  -- a space, and then the items at once
  with_space : (is : Items) (tail : List ℕ) → following is ≡ space ∷ tail → empty is ≡ false
      → ((p q : ℕ) (rest : List ℕ) → empty is ≡ false → drop (p + 1) text ≡ printed is ++ rest → word rest ≡ []
      → q ≡ p + length (following is) → Spelled text (p + 1) (laid p is) q)
      → Stands is
  with_space is tail f filled inside = record {
    after = λ p q rest e w size.
        let begins : drop p text ≡ (space ∷ []) ++ (tail ++ rest) = e ∙ ap (λ (l : List ℕ). l ++ rest) f in
        spaced (rest-bytes text p (space ∷ []) (tail ++ rest) begins)
        (inside p q rest filled
        (past p (p + 1) (space ∷ []) (tail ++ rest) begins refl ∙ ap (λ (l : List ℕ). drop 1 l ++ rest) (sym f)) w size);
    at_once = inside;
  }

  items_stand : (is : Items) → spellable is ≡ true → Stands is
  items_stand none s = record {
    after = λ p q rest e w size. let here : p ≡ q = omega (arith, size) in subst (λ (k : ℕ). Spelled text p none k) here end;
    at_once = λ p q rest f. absurd (true≢false f);
  }
  items_stand (symbol u is) s =
      with_space (symbol u is) (spelling u.symbol ++ following is) refl refl (λ p q rest f e w size.
      let v = u.symbol in
      let good = and_left (formed v) (spellable is) s in
      let bytes : drop (p + 1) text ≡ spelling v ++ (following is ++ rest) = e ∙ append_assoc (spelling v) (following is) rest in
      let long = spelling-length v in
      let next : drop (p + 1 + symbol_length v) text ≡ following is ++ rest =
      past (p + 1) (p + 1 + symbol_length v) (spelling v) (following is ++ rest) bytes (omega (arith, long)) in
      let type_size = length-append (spelling v) (following is) in
      a_symbol v good (rest-bytes text (p + 1) (spelling v) (following is ++ rest) bytes)
      (ap word next ∙ word-following is rest w)
      ((items_stand is (and_right (formed v) (spellable is) s)).after (p + 1 + symbol_length v) q rest next w (omega (arith, size, long, type_size))))
  items_stand (group o inside c is) s =
      with_space (group o inside c is) (opening ∷ (printed inside ++ (closing ∷ following is))) refl refl (λ p q rest f e w size.
      let filled = not-true (empty inside) (and_left (not (empty inside)) (spellable inside && spellable is) s) in
      let both = and_right (not (empty inside)) (spellable inside && spellable is) s in
      let ins = items_stand inside (and_left (spellable inside) (spellable is) both) in
      let more = items_stand is (and_right (spellable inside) (spellable is) both) in
      let k = length (following inside) in
      let tail = following is ++ rest in
      let opens : drop (p + 1) text ≡ (opening ∷ []) ++ (printed inside ++ (closing ∷ tail)) =
      e ∙ ap {B = List ℕ} (λ l. opening ∷ l) (append_assoc (printed inside) (closing ∷ following is) rest) in
      let within : drop (p + 1 + 1) text ≡ printed inside ++ (closing ∷ tail) =
      past (p + 1) (p + 1 + 1) (opening ∷ []) (printed inside ++ (closing ∷ tail)) opens refl in
      let short = printed-length inside filled in
      let closes : drop (p + 1 + k) text ≡ (closing ∷ []) ++ tail =
      past (p + 1 + 1) (p + 1 + k) (printed inside) (closing ∷ tail) within (omega (arith, short)) in
      let next : drop (p + 1 + k + 1) text ≡ tail = past (p + 1 + k) (p + 1 + k + 1) (closing ∷ []) tail closes refl in
      let type_size = length-append (printed inside) (closing ∷ following is) in
      a_group (rest-bytes text (p + 1) (opening ∷ []) (printed inside ++ (closing ∷ tail)) opens)
      (ins.at_once (p + 1) (p + 1 + k) (closing ∷ tail) filled within refl refl)
      (laid_empty (p + 1) inside ∙ filled) (rest-bytes text (p + 1 + k) (closing ∷ []) tail closes)
      (more.after (p + 1 + k + 1) q rest next w (omega (arith, size, type_size, short))))

  -- ---- output lines

  pub lines-spelled : (lines : List Items) → every (λ is. not (empty is) && spellable is) lines ≡ true → (p : ℕ) → p < length text
      → drop (p + 1) text ≡ fold ◌++◌ [] printed_line lines → Lines text (p + 1) (laid_lines_lem p lines)
  lines-spelled [] s p inside e =
      let left = sym (length-drop (p + 1) text) ∙ ap length e in
      let size : length text ≡ p + 1 = omega (arith, left, inside) in
      last (subst (λ (k : ℕ). Spelled text (p + 1) none k) (sym size) end)
  lines-spelled (is ∷ lines) s p inside e =
      let first = and_left (not (empty is) && spellable is) (every (λ is. not (empty is) && spellable is) lines) s in
      let filled = not-true (empty is) (and_left (not (empty is)) (spellable is) first) in
      let good = and_right (not (empty is)) (spellable is) first in
      let others = fold ◌++◌ [] printed_line lines in
      let q = p + length (following is) in
      let begins : drop (p + 1) text ≡ printed is ++ (line_end ∷ others) = e ∙ append_assoc (printed is) (line_end ∷ []) others in
      let ends : drop q text ≡ (line_end ∷ []) ++ others =
      past (p + 1) q (printed is) (line_end ∷ others) begins (omega (arith, printed-length is filled)) in
      let at_end : Byte text q line_end = rest-bytes text q (line_end ∷ []) others ends in
      subst (λ (ls : List Items). Lines text (p + 1) ls)
      (ap (λ (b : Bool). cond b (laid_lines_lem q lines) (laid p is ∷ laid_lines_lem q lines)) (laid_empty p is ∙ filled))
      (line ((items_stand is good).at_once p q (line_end ∷ others) filled begins refl refl) at_end
      (lines-spelled lines (and_right (not (empty is) && spellable is) (every (λ is. not (empty is) && spellable is) lines) s) q
      (byte_inside text q line_end at_end) (past q (q + 1) (line_end ∷ []) others ends refl)))

-- ---- descriptions

pub laid_fold : {B : Type 0} (op : B → B → B) (e : B) (f : Items → B) → ((p : ℕ) (is : Items) → f (laid p is) ≡ f is) → (p : ℕ) (lines : List Items)
    → fold op e f (laid_lines_lem p lines) ≡ fold op e f lines
laid_fold op e f same p [] = refl
laid_fold op e f same p (is ∷ lines) = ap₂ op (same p is) (laid_fold op e f same (p + length (following is)) lines)

pub laid_count : (p : ℕ) (lines : List Items) → length (laid_lines_lem p lines) ≡ length lines
laid_count p [] = refl
laid_count p (is ∷ lines) = ap suc (laid_count (p + length (following is)) lines)

pub laid_limits : (text : List ℕ) (d : Description) → Limits text d → Limits text (laid_out d)
laid_limits text d l = record {
  short = l.short;
  line-count = laid_count at d.lines ∙ l.line-count;
  shallow = laid_fold ◌&&◌ true (λ is. leb (depth is) max_depth) (λ p is. ap (λ (k : ℕ). leb k max_depth) (laid_depth p is)) at d.lines ∙ l.shallow;
  all_known = laid_fold ◌&&◌ true (λ is. every (known shares d.names) (symbols is)) (λ p is. ap (every (known shares d.names)) (laid_symbols p is)) at
      d.lines
      ∙ l.all_known;
}
  where
    at : ℕ
    at = length (header_text d.order d.names)

    shares : ℕ
    shares = d.order + 1

-- its order and masks can be declared, each line has items and no group is empty
pub record Printable (d : Description) : Type 0 where
  pub order-digit : (1 ≤ d.order) × (d.order ≤ max_order)
  pub name_numbers : every (λ k. leb k max_mask) d.names ≡ true
  pub names-once : once d.names ≡ true
  pub good_lines : every (λ is. not (empty is) && whole is) d.lines ≡ true

module _ (d : Description) (h : Printable d) (l : Limits (text_of d) d) where
  -- shares of the order and declared masks can be spelled
  known_spellable : (is : Items) → whole is ≡ true → every (known (d.order + 1) d.names) (symbols is) ≡ true → spellable is ≡ true
  known_spellable none w k = refl
  known_spellable (symbol p is) w k =
      let high = h.order-digit.1 in
      let first = and_left (known (d.order + 1) d.names p.symbol) (every (known (d.order + 1) d.names) (symbols is)) k in
      let others = and_right (known (d.order + 1) d.names p.symbol) (every (known (d.order + 1) d.names) (symbols is)) k in
      and_both (formed p.symbol) (spellable is)
      (known-formed (d.order + 1) d.names p.symbol (omega (arith, high)) h.name_numbers first) (known_spellable is w others)
  known_spellable (group o inside c is) w k =
      let parts = known-group (d.order + 1) d.names o inside c is k in
      let both = and_right (not (empty inside)) (whole inside && whole is) w in
      and_both (not (empty inside)) (spellable inside && spellable is) (and_left (not (empty inside)) (whole inside && whole is) w)
      (and_both (spellable inside) (spellable is) (known_spellable inside (and_left (whole inside) (whole is) both) parts.0)
      (known_spellable is (and_right (whole inside) (whole is) both) parts.1))

  good : (lines : List Items) → every (λ is. not (empty is) && whole is) lines ≡ true
      → every (λ is. every (known (d.order + 1) d.names) (symbols is)) lines ≡ true → every (λ is. not (empty is) && spellable is) lines ≡ true
  good [] g k = refl
  good (is ∷ lines) g k =
      let first = and_left (not (empty is) && whole is) (every (λ is. not (empty is) && whole is) lines) g in
      let known-here = and_left (every (known (d.order + 1) d.names) (symbols is)) (every (λ is. every (known (d.order + 1) d.names) (symbols is)) lines) k in
      and_both (not (empty is) && spellable is) (every (λ is. not (empty is) && spellable is) lines)
      (and_both (not (empty is)) (spellable is) (and_left (not (empty is)) (whole is) first)
      (known_spellable is (and_right (not (empty is)) (whole is) first) known-here))
      (good lines (and_right (not (empty is) && whole is) (every (λ is. not (empty is) && whole is) lines) g)
      (and_right (every (known (d.order + 1) d.names) (symbols is)) (every (λ is. every (known (d.order + 1) d.names) (symbols is)) lines) k))

  abbrev header : List ℕ
  header = header_text d.order d.names

  abbrev others : List ℕ
  others = fold ◌++◌ [] printed_line d.lines

  after_header : drop (length header) (text_of d) ≡ line_end ∷ others
  after_header = drop-append_seam header (line_end ∷ others)

  pub printed-spells : Spells (text_of d) (laid_out d)
  printed-spells =
      let at = length header in
      let at_end = rest-bytes (text_of d) at (line_end ∷ []) others after_header in
      record {
        order-digit = h.order-digit;
        name_numbers = h.name_numbers;
        names-once = h.names-once;
        header = take-append_seam header (line_end ∷ others);
        header-end = ap ended after_header;
        output_lines = line end at_end
            (lines-spelled (text_of d) d.lines (good d.lines h.good_lines l.all_known) at (byte_inside (text_of d) at line_end at_end)
            (past (text_of d) at (at + 1) (line_end ∷ []) others after_header refl));
      }

  pub printed-read : reading (text_of d) ≡ read d.order (mask_count d.names) (wires_of (laid_out d))
  printed-read = spelled-read (text_of d) (laid_out d) printed-spells (laid_limits (text_of d) d l)
