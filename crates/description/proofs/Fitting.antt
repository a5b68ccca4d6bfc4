-- The wires of a description within the limits fit into records, and their parts lie in the text.
--     All, all_at    every element of a list has a property; so has the element at a place
--     Fits           a wire's record holds it and names no share or mask beyond those given, its part lies in the text,
--                    and its line is one of the output lines, 0 for an inner wire
--     wires_fit      every wire of a description fits
use Prim.Native.Nat.{ℕ, zero, suc, ◌+◌, ◌-◌, ◌≤◌, ◌<◌}
use native.Mathlib.Nat.{not-suc-le-zero, le_of_suc-le-suc}
use native.Mathlib.Omega.{arith}
use mathlib.Core.Path.{◌≡◌, refl, ◌∙◌}
use mathlib.Core.Bool.{Bool, true, false, cond, ◌&&◌, true≢false, false≢true, and_assoc}
use mathlib.Core.List.{List, [], ◌∷◌, ◌++◌}
use lib.Dec.{leb}
use lib.ListN.{length, get_or}
use Rattle.limits.specs.Limits.{max_shares, max_masks}
use Rattle.basics.specs.Folds.{every, some}
use Rattle.basics.proofs.Folds.{fold-append}
use Rattle.basics.proofs.Tests.{and_left, and_right, and_both}
use Rattle.wires.specs.Wires.{beyond}
use Rattle.wires.proofs.Narrow.{Within, not_beyond}
use Rattle.records.specs.Layout.{terms_of}
use Rattle.record_words.specs.Symbols.{symbol_sum}
use Rattle.records.specs.declared.sums.Sum.{Sum}
use Rattle.record_words.proofs.Encoding as Encoding
use Rattle.description.specs.Symbols.{max_mask, symbol_length}
use Rattle.description.specs.Listing.{symbol_wire, made_outer, outer_wire}
use Rattle.description.specs.Run.{max_text}
use Rattle.description.specs.Grammar.{Items, Description, Spelled, end, spaced, a_symbol, a_group, empty, counted, Lines, last, line}
use Rattle.description.specs.Grammar.{Spells, Limits, uses, symbols, Event, used, addition, worked, further, sum_of, same_symbol, event_wires}
use Rattle.description.specs.Grammar.{last_outer, outered, line_wires, lines_wires, wires_of, mask_count, known}
use Rattle.wires.specs.declared.Symbol.{Symbol}
use Rattle.description.specs.declared.PlacedSymbol.{PlacedSymbol}
use Rattle.description.specs.declared.Listed.{Listed}
use Rattle.description.proofs.Events.{known-group}
use Rattle.description.proofs.Encoding.{Bounded}
use Rattle.description.proofs.Sums.{symbol-small, symbol-within, sum-small, sum-within}

module _ {A : Type 0} where
  abbrev pub All : (A → Type 0) → List A → Type 0
  All P [] = Unit {0}
  All P (x ∷ l) = P x × All P l

  all_append : (P : A → Type 0) (k l : List A) → All P k → All P l → All P (k ++ l)
  all_append P [] l h g = g
  all_append P (x ∷ k) l h g = (h.0, all_append P k l h.1 g)

  pub all_at : (P : A → Type 0) (l : List A) (k : ℕ) (d : A) → All P l → k < length l → P (get_or l k d)
  all_at P [] k d h i = absurd (not-suc-le-zero i)
  all_at P (x ∷ l) zero d h i = h.0
  all_at P (x ∷ l) (suc k) d h i = all_at P l k d h.1 (le_of_suc-le-suc i)

  every_append : (f : A → Bool) (k l : List A) → every f k ≡ true → every f l ≡ true → every f (k ++ l) ≡ true
  every_append f k l e g = fold-append ◌&&◌ true (λ b. refl) and_assoc f k l ∙ and_both (every f k) (every f l) e g

-- ---- places

module _ {text : List ℕ} where
  -- items end where they begin or later
  spelled-forward : {p q : ℕ} {is : Items} → Spelled text p is q → p ≤ q
  spelled-forward end = omega arith
  spelled-forward (spaced b s) = let h = spelled-forward s in omega (arith, h)
  spelled-forward (a_symbol s f b w rest) = let h = spelled-forward rest in omega (arith, h)
  spelled-forward (a_group o inside f c rest) =
      let h = spelled-forward inside in
      let k = spelled-forward rest in
      omega (arith, h, k)

  -- lines begin within the text
  lines-forward : {p : ℕ} {lines : List Items} → Lines text p lines → p ≤ length text
  lines-forward (last s) = spelled-forward s
  lines-forward (line s b rest) =
      let h = spelled-forward s in
      let k = lines-forward rest in
      omega (arith, h, k)

pub record Fits (text : List ℕ) (shares masks : ℕ) (w : Listed) : Type 0 where
  pub bounded : Bounded w
  pub none-beyond : beyond max_shares max_masks shares masks (terms_of w.sum) ≡ false
  pub part-within : w.offset + w.length ≤ length text
  pub outer-line : w.outer ≡ true → w.line < shares
  pub inner_line : w.outer ≡ false → w.line ≡ 0

module _ (text : List ℕ) (short : length text ≤ max_text) (n : ℕ) (few : n ≤ max_shares) (names : List ℕ) (low : every (λ k. leb k max_mask) names ≡ true) where
  abbrev UseFits : PlacedSymbol → Type 0
  UseFits p = (known n names p.symbol ≡ true) × (p.place + symbol_length p.symbol ≤ length text)

  abbrev EventFits : Event → Type 0
  EventFits (used p) = UseFits p
  EventFits (addition l offset size) = (every (known n names) l ≡ true) × (offset + size ≤ length text)

  uses_fit : {p q : ℕ} {is : Items} → Spelled text p is q → q ≤ length text → every (known n names) (symbols is) ≡ true
      → All UseFits (uses is)
  uses_fit end h e = tt
  uses_fit (spaced b s) h e = uses_fit s h e
  uses_fit (a_symbol {is = is} s i b w rest) h e =
      let f = spelled-forward rest in (
        (and_left (known n names s) (every (known n names) (symbols is)) e, omega (arith, f, h)),
        uses_fit rest h (and_right (known n names s) (every (known n names) (symbols is)) e),
      )
  uses_fit (a_group {p = p} {c = c} {inside = inside} {is = is} o i f z rest) h e =
      let g = spelled-forward rest in
      let k = known-group n names p inside c is e in
      all_append UseFits (uses inside) (uses is) (uses_fit i (omega (arith, g, h)) k.0) (uses_fit rest h k.1)

  -- the events of items that begin at place p, alone and after others that begin no later
  record EventsFit (p : ℕ) (is : Items) : Type 0 where
    alone : All EventFits (worked is)
    after : (l : List Symbol) (first : ℕ) → first ≤ p → every (known n names) l ≡ true → All EventFits (further is l first)

  events_fit : {p q : ℕ} {is : Items} → Spelled text p is q → q ≤ length text → every (known n names) (symbols is) ≡ true → EventsFit p is
  events_fit end h e = record { alone = tt; after = λ l first b d. tt }
  events_fit (spaced {p = p} {is = is} o s) h e =
      let k = events_fit s h e in
      record { alone = k.alone; after = λ l first b d. k.after l first (omega (arith, b)) d }
  events_fit (a_symbol {p = p} {is = is} s i o w rest) h e =
      let f = spelled-forward rest in
      let one = and_left (known n names s) (every (known n names) (symbols is)) e in
      let single = and_both (known n names s) true one refl in
      let k = events_fit rest h (and_right (known n names s) (every (known n names) (symbols is)) e) in
      record {
        alone = ((one, omega (arith, f, h)), k.after (s ∷ []) p (omega arith) single);
        after = λ l first b d.
            let all = every_append (known n names) l (s ∷ []) d single in
            ((one, omega (arith, f, h)), ((all, omega (arith, f, h, b)), k.after (l ++ (s ∷ [])) first (omega (arith, b)) all));
      }
  events_fit (a_group {p = p} {c = c} {inside = inside} {is = is} o i f z rest) h e =
      let g = spelled-forward rest in
      let m = spelled-forward i in
      let parts = known-group n names p inside c is e in
      let within = events_fit i (omega (arith, g, h)) parts.0 in
      let k = events_fit rest h parts.1 in
      record {
        alone = all_append EventFits (worked inside) (further is (symbols inside) p) within.alone
            (k.after (symbols inside) p (omega (arith, m)) parts.0);
        after = λ l first b d.
            let all = every_append (known n names) l (symbols inside) d parts.0 in
            all_append EventFits (worked inside) (addition (l ++ symbols inside) first (c + 1 - first) ∷ further is (l ++ symbols inside) first)
            within.alone
            ((all, omega (arith, g, h, b, m)), k.after (l ++ symbols inside) first (omega (arith, m, b)) all);
      }

  -- ---- wires

  abbrev Fit : Listed → Type 0
  Fit = Fits text n (mask_count names)

  inner_fits : (s : Sum) (offset size : ℕ) → Encoding.Fits s → Within max_shares max_masks n (mask_count names) (terms_of s) → offset + size ≤ length text
      → Fit (record { sum = s; outer = false; line = 0; offset = offset; length = size })
  inner_fits s offset size small inside h = record {
    bounded = record { sum = small; line = omega arith; offset = omega (arith, h, short); length = omega (arith, h, short) };
    none-beyond = not_beyond max_shares max_masks n (mask_count names) (terms_of s) inside;
    part-within = h;
    outer-line = λ e. absurd (false≢true e);
    inner_line = λ e. refl;
  }

  symbol-fits : (p : PlacedSymbol) → UseFits p → Fit (symbol_wire p)
  symbol-fits p h =
      inner_fits (symbol_sum p.symbol) p.place (symbol_length p.symbol) (symbol-small n names few low p.symbol h.0)
      (symbol-within n names few low p.symbol h.0)
      h.1

  outer-fits : (k : ℕ) (w : Listed) → k < n → Fit w → Fit (made_outer k w)
  outer-fits k w h f = record {
    bounded = record { sum = f.bounded.sum; line = omega (arith, h, few); offset = f.bounded.offset; length = f.bounded.length };
    none-beyond = f.none-beyond;
    part-within = f.part-within;
    outer-line = λ e. h;
    inner_line = λ e. absurd (true≢false e);
  }

  event_wires_fit : (es : List Event) (seen : List Symbol) → All EventFits es → All Fit (event_wires es seen)
  event_wires_fit [] seen h = tt
  event_wires_fit (used p ∷ es) seen h =
      go (some (same_symbol p.symbol) seen) (event_wires_fit es seen h.1) (event_wires_fit es (p.symbol ∷ seen) h.1)
    where
      go : (b : Bool) → All Fit (event_wires es seen) → All Fit (event_wires es (p.symbol ∷ seen))
          → All Fit (cond b (event_wires es seen) (symbol_wire p ∷ event_wires es (p.symbol ∷ seen)))
      go true old new = old
      go false old new = (symbol-fits p h.0, new)
  event_wires_fit (addition l offset size ∷ es) seen h = (
    inner_fits (sum_of l) offset size (sum-small n names few low l h.0.0) (sum-within n names few low l h.0.0) h.0.1,
    event_wires_fit es seen h.1,
  )

  last-outer_fit : (k : ℕ) (ws : List Listed) → k < n → All Fit ws → All Fit (last_outer k ws)
  last-outer_fit k [] h f = tt
  last-outer_fit k (w ∷ []) h f = (outer-fits k w h f.0, tt)
  last-outer_fit k (w ∷ v ∷ ws) h f = (f.0, last-outer_fit k (v ∷ ws) h f.1)

  outered_fit : (k : ℕ) (ps : List PlacedSymbol) (ws : List Listed) → k < n → All UseFits ps → All Fit ws → All Fit (outered k ps ws)
  outered_fit k [] ws h u f = last-outer_fit k ws h f
  outered_fit k (p ∷ []) ws h u f = all_append Fit ws (outer_wire k p ∷ []) f (outer-fits k (symbol_wire p) h (symbol-fits p u.0), tt)
  outered_fit k (p ∷ q ∷ ps) ws h u f = last-outer_fit k ws h f

  line-fits : {p q : ℕ} {is : Items} (seen : List Symbol) (k : ℕ) → Spelled text p is q → q ≤ length text → k < n
      → every (known n names) (symbols is) ≡ true
      → All Fit (line_wires seen k is)
  line-fits {is = is} seen k s h l e =
      outered_fit k (uses is) (event_wires (worked is) seen) l (uses_fit s h e) (event_wires_fit (worked is) seen (events_fit s h e).alone)

  abbrev Known : List Items → Type 0
  Known lines = every (λ is. every (known n names) (symbols is)) lines ≡ true

  -- a line, where it counts, and the lines after it
  counted_fit : {p q : ℕ} {is : Items} (lines : List Items) (seen : List Symbol) (k : ℕ) → Spelled text p is q → q ≤ length text
      → k + length (counted is lines) ≤ n
      → Known (counted is lines)
      → ((seen : List Symbol) (k : ℕ) → k + length lines ≤ n → Known lines → All Fit (lines_wires lines seen k))
      → All Fit (lines_wires (counted is lines) seen k)
  counted_fit {is = is} lines seen k s h = go (empty is)
    where
      go : (b : Bool) → k + length (cond b lines (is ∷ lines)) ≤ n → Known (cond b lines (is ∷ lines))
          → ((seen : List Symbol) (k : ℕ) → k + length lines ≤ n → Known lines → All Fit (lines_wires lines seen k))
          → All Fit (lines_wires (cond b lines (is ∷ lines)) seen k)
      go true l e rest = rest seen k l e
      go false l e rest =
          let here = every (known n names) (symbols is) in
          let there = every (λ is. every (known n names) (symbols is)) lines in
          all_append Fit (line_wires seen k is) (lines_wires lines (symbols is ++ seen) (k + 1))
          (line-fits seen k s h (omega (arith, l)) (and_left here there e))
          (rest (symbols is ++ seen) (k + 1) (omega (arith, l)) (and_right here there e))

  lines_fit : {p : ℕ} {lines : List Items} → Lines text p lines → (seen : List Symbol) (k : ℕ) → k + length lines ≤ n → Known lines
      → All Fit (lines_wires lines seen k)
  lines_fit (last s) seen k l e = counted_fit [] seen k s (omega arith) l e (λ seen k l e. tt)
  lines_fit (line {lines = lines} s b rest) seen k l e =
      let h = lines-forward rest in
      counted_fit lines seen k s (omega (arith, h)) l e (λ seen k l e. lines_fit rest seen k l e)

pub wires_fit : (text : List ℕ) (d : Description) → Spells text d → Limits text d → All (Fits text (d.order + 1) (mask_count d.names)) (wires_of d)
wires_fit text d s m =
    let digit = s.order-digit.1 in
    let count = m.line-count in
    lines_fit text m.short (d.order + 1) (omega (arith, digit)) d.names s.name_numbers s.output_lines [] 0 (omega (arith, count))
    m.all_known
