-- The outer wires of output lines: each line has one, which holds the sum of all its symbols, so their values add up to those of the symbols.
--     inner_events        events make no outer wire
--     further-last        items after others end in the addition of all symbols
--     worked-last         so do items that use more than one symbol
--     symbol_value         what a symbol is worth
--     line-value          the value of a line's outer wire is that of all its symbols, added up
--     lines-value         the outer wires' values add up to the values of the lines' symbols
use Prim.Native.Nat.{ℕ, suc, ◌+◌, ◌≤◌}
use native.Mathlib.Omega.{arith}
use mathlib.Core.Path.{◌≡◌, refl, sym, ◌∙◌, ap, ap₂, subst}
use mathlib.Core.Bool.{Bool, true, false, cond, not, ◌&&◌, xor, true≢false}
use mathlib.Core.List.{List, [], ◌∷◌, ◌++◌, map, map-append, append_assoc, append-nil}
use borrow.Author.Tests.{not-true}
use lib.Dec.{leb}
use lib.ListN.{length}
use Rattle.limits.specs.Limits.{max_shares}
use Rattle.basics.specs.Folds.{parity, some, every}
use Rattle.basics.proofs.Tests.{and_left, and_right, xor-false, false-xor, xor_assoc}
use Rattle.basics.proofs.Folds.{fold-append, fold_hom, keep_append}
use Rattle.wires.specs.declared.Symbol.{Symbol}
use Rattle.wires.specs.Wires.{Terms, Wire, Input, value, plus}
use Rattle.wires.specs.Wires as Wires
use Rattle.wires.specs.Function.{outers}
use Rattle.wires.proofs.Units.{symbol_terms}
use Rattle.wires.proofs.Value.{value_none, value-plus}
use Rattle.records.specs.Layout.{terms_of}
use Rattle.record_words.proofs.Naming.{symbol_means}
use Rattle.description.specs.Symbols.{max_mask}
use Rattle.description.specs.Listing.{wire_of, symbol_wire, made_outer, outer_wire}
use Rattle.description.specs.Grammar.{Items, none, symbol, group, empty, uses, symbols, known, same_symbol, sum_of}
use Rattle.description.specs.Grammar.{Event, used, addition, worked, further, event_wires, addition_of, last_outer, outered, line_wires, lines_wires}
use Rattle.description.specs.declared.PlacedSymbol.{PlacedSymbol}
use Rattle.description.specs.declared.Listed.{Listed}
use Rattle.description.proofs.Spelling.{known_small}
use Rattle.description.proofs.Events.{symbols-group, whole, wires-append, some-used}
use Rattle.description.proofs.Sums.{sum_means}

-- the outer ones of listed wires
abbrev outers_of : List Listed → List Wire
outers_of ws = outers (map wire_of ws)

outers-append : (k l : List Listed) → outers_of (k ++ l) ≡ outers_of k ++ outers_of l
outers-append k l = ap outers (map-append wire_of k l) ∙ keep_append (λ w. w.outer) (map wire_of k) (map wire_of l)

inner_events : (es : List Event) (seen : List Symbol) → outers_of (event_wires es seen) ≡ []
inner_events [] seen = refl
inner_events (used p ∷ es) seen = go (some (same_symbol p.symbol) seen) (inner_events es seen) (inner_events es (p.symbol ∷ seen))
  where
    go : (b : Bool) → outers_of (event_wires es seen) ≡ [] → outers_of (event_wires es (p.symbol ∷ seen)) ≡ []
        → outers_of (cond b (event_wires es seen) (symbol_wire p ∷ event_wires es (p.symbol ∷ seen))) ≡ []
    go true h k = h
    go false h k = k
inner_events (addition l offset size ∷ es) seen = inner_events es seen

-- ---- the last event

-- events that end in the addition of these symbols
record Ends (l : List Symbol) (es : List Event) : Type 0 where
  before : List Event
  offset : ℕ
  size : ℕ
  last-is : es ≡ before ++ (addition l offset size ∷ [])

-- more events before them
ends_after : (l : List Symbol) (ds es : List Event) → Ends l es → Ends l (ds ++ es)
ends_after l ds es e = record {
  before = ds ++ e.before;
  offset = e.offset;
  size = e.size;
  last-is = ap (λ (k : List Event). ds ++ k) e.last-is ∙ sym (append_assoc ds e.before (addition l e.offset e.size ∷ []));
}

-- where the last of the items is reached, or not
further-ends : (is : Items) (l k : List Symbol) (first offset size : ℕ) (ds : List Event)
    → k ≡ l ++ symbols is → (empty is ≡ false → Ends k (further is l first)) → Ends k (ds ++ (addition l offset size ∷ further is l first))
further-ends none l k first offset size ds e ih = record {
  before = ds;
  offset = offset;
  size = size;
  last-is = ap {B = List Event} (λ m. ds ++ (addition m offset size ∷ [])) (sym (e ∙ append-nil l));
}
further-ends (symbol p is) l k first offset size ds e ih = ends_after k ds _ (ends_after k (addition l offset size ∷ []) _ (ih refl))
further-ends (group o inside c is) l k first offset size ds e ih = ends_after k ds _ (ends_after k (addition l offset size ∷ []) _ (ih refl))

further-last : (is : Items) (l k : List Symbol) (first : ℕ) → k ≡ l ++ symbols is → empty is ≡ false → Ends k (further is l first)
further-last none l k first e f = absurd (true≢false f)
further-last (symbol p is) l k first e f =
    let now = l ++ (p.symbol ∷ []) in
    let rest : k ≡ now ++ symbols is = e ∙ sym (append_assoc l (p.symbol ∷ []) (symbols is)) in
    further-ends is now k first _ _ (used p ∷ []) rest (further-last is now k first rest)
further-last (group o inside c is) l k first e f =
    let now = l ++ symbols inside in
    let rest : k ≡ now ++ symbols is = e ∙ ap (λ (m : List Symbol). l ++ m) (symbols-group o inside c is) ∙ sym (append_assoc l (symbols inside) (symbols is)) in
    further-ends is now k first _ _ (worked inside) rest (further-last is now k first rest)

-- where items use more than one symbol
worked-last : (is : Items) (p q : PlacedSymbol) (ps : List PlacedSymbol) → uses is ≡ p ∷ q ∷ ps → Ends (symbols is) (worked is)
worked-last none p q ps e = let z : 0 ≡ suc (suc (length ps)) = ap length e in absurd (omega (arith, z))
worked-last (symbol r none) p q ps e = let z : 1 ≡ suc (suc (length ps)) = ap length e in absurd (omega (arith, z))
worked-last (symbol r (symbol s is)) p q ps e =
    ends_after _ (used r ∷ []) _ (further-last (symbol s is) (r.symbol ∷ []) _ r.place refl refl)
worked-last (symbol r (group o inside c is)) p q ps e =
    ends_after _ (used r ∷ []) _ (further-last (group o inside c is) (r.symbol ∷ []) _ r.place refl refl)
worked-last (group o inside c none) p q ps e =
    let only = append-nil (uses inside) in
    subst (λ (l : List Symbol). Ends l (worked inside ++ [])) (ap (map (λ u. u.symbol)) (sym only))
    (subst (Ends (symbols inside)) (sym (append-nil (worked inside))) (worked-last inside p q ps (sym only ∙ e)))
worked-last (group o inside c (symbol s is)) p q ps e =
    ends_after _ (worked inside) _ (further-last (symbol s is) (symbols inside) _ o (symbols-group o inside c (symbol s is)) refl)
worked-last (group o inside c (group o' inside' c' is)) p q ps e =
    ends_after _ (worked inside) _
    (further-last (group o' inside' c' is) (symbols inside) _ o (symbols-group o inside c (group o' inside' c' is)) refl)

-- ---- a line's outer wire

-- what a symbol is worth, for so many shares and masks
abbrev pub symbol_value : ℕ → ℕ → Input → (ℕ → Bool) → Symbol → Bool
symbol_value shares masks x r s = value shares masks x r (symbol_terms s)

last-outer : (n : ℕ) (ws : List Listed) (w : Listed) → last_outer n (ws ++ (w ∷ [])) ≡ ws ++ (made_outer n w ∷ [])
last-outer n [] w = refl
last-outer n (v ∷ []) w = refl
last-outer n (v ∷ u ∷ ws) w = ap {B = List Listed} (λ l. v ∷ l) (last-outer n (u ∷ ws) w)

module _ (shares masks : ℕ) (names : List ℕ) (few : shares ≤ max_shares) (low : every (λ k. leb k max_mask) names ≡ true) (x : Input) (r : ℕ → Bool)
  where
    abbrev worth : Terms → Bool
    worth = value shares masks x r

    abbrev symbol_worth : Symbol → Bool
    symbol_worth = symbol_value shares masks x r

    sum-value : (l : List Symbol) → every (known shares names) l ≡ true → worth (terms_of (sum_of l)) ≡ parity symbol_worth l
    sum-value l k =
        ap worth (sum_means shares names few low l k)
        ∙ fold_hom plus Wires.none xor false worth (value_none shares masks x r) (value-plus shares masks x r) symbol_terms l

    -- after events, which make no outer wire, one wire that is
    one-outer : (ws : List Listed) (w : Listed) (l : List Symbol) → outers_of ws ≡ [] → w.outer ≡ true → worth (terms_of w.sum) ≡ parity symbol_worth l
        → parity (λ w. worth w.terms) (outers_of (ws ++ (w ∷ []))) ≡ parity symbol_worth l
    one-outer ws w l inner outer e =
        ap (parity (λ w. worth w.terms)) (outers-append ws (w ∷ []) ∙ ap₂ {C = List Wire} (λ a b. a ++ cond b (wire_of w ∷ []) []) inner outer)
        ∙ xor-false (worth (terms_of w.sum)) ∙ e

    pub line-value : (is : Items) (seen : List Symbol) (n : ℕ) → whole is ≡ true → empty is ≡ false → every (known shares names) (symbols is) ≡ true
        → parity (λ w. worth w.terms) (outers_of (line_wires seen n is)) ≡ parity symbol_worth (symbols is)
    line-value is seen n w f k = go (uses is) refl
      where
        go : (us : List PlacedSymbol) → uses is ≡ us
            → parity (λ w. worth w.terms) (outers_of (outered n us (event_wires (worked is) seen))) ≡ parity symbol_worth (symbols is)
        go [] e = let some = some-used is w f in let size = ap length e in absurd (omega (arith, some, size))
        go (p ∷ []) e =
            let alone : symbols is ≡ p.symbol ∷ [] = ap (map (λ (u : PlacedSymbol). u.symbol)) e in
            let here = and_left (known shares names p.symbol) true (sym (ap (every (known shares names)) alone) ∙ k) in
            one-outer (event_wires (worked is) seen) (outer_wire n p) (symbols is) (inner_events (worked is) seen) refl
            (ap worth (symbol_means p.symbol (known_small shares names p.symbol few low here)) ∙ sym (xor-false (symbol_worth p.symbol))
            ∙ ap (parity symbol_worth) (sym alone))
        go (p ∷ q ∷ ps) e =
            let l = worked-last is p q ps e in
            let sums = addition_of (symbols is) l.offset l.size in
            ap (λ (ws : List Listed). parity (λ w. worth w.terms) (outers_of (last_outer n ws)))
            (ap (λ (es : List Event). event_wires es seen) l.last-is ∙ wires-append l.before (addition (symbols is) l.offset l.size ∷ []) seen)
            ∙ ap (λ (ws : List Listed). parity (λ w. worth w.terms) (outers_of ws)) (last-outer n (event_wires l.before seen) sums)
            ∙ one-outer (event_wires l.before seen) (made_outer n sums) (symbols is) (inner_events l.before seen) refl (sum-value (symbols is) k)

    pub lines-value : (lines : List Items) (seen : List Symbol) (n : ℕ) → every (λ is. not (empty is) && whole is) lines ≡ true
        → every (λ is. every (known shares names) (symbols is)) lines ≡ true
        → parity (λ w. worth w.terms) (outers_of (lines_wires lines seen n)) ≡ parity (λ is. parity symbol_worth (symbols is)) lines
    lines-value [] seen n g k = refl
    lines-value (is ∷ lines) seen n g k =
        let first = and_left (not (empty is) && whole is) (every (λ is. not (empty is) && whole is) lines) g in
        let here = and_left (every (known shares names) (symbols is)) (every (λ is. every (known shares names) (symbols is)) lines) k in
        ap (parity (λ w. worth w.terms)) (outers-append (line_wires seen n is) (lines_wires lines (symbols is ++ seen) (n + 1)))
        ∙ fold-append xor false false-xor xor_assoc (λ w. worth w.terms) (outers_of (line_wires seen n is))
        (outers_of (lines_wires lines (symbols is ++ seen) (n + 1)))
        ∙ ap₂ xor
        (line-value is seen n (and_right (not (empty is)) (whole is) first) (not-true (empty is) (and_left (not (empty is)) (whole is) first)) here)
        (lines-value lines (symbols is ++ seen) (n + 1) (and_right (not (empty is) && whole is) (every (λ is. not (empty is) && whole is) lines) g)
        (and_right (every (known shares names) (symbols is)) (every (λ is. every (known shares names) (symbols is)) lines) k))
