-- Laws of the events of a group's items, of the wires that they make, and of the symbols that items use.
--     symbols-group                    the symbols of a group and of the items after it
--     known-group, group-known         all of them are known where those and these are
--     whole                            items of which no group is empty
--     adds, last_used, seen_after        whether an event is an addition; the last symbol used; the symbols seen after events
--     wires-append, seen-append, last-append, adds_append     events in two parts
--     some-used                        items use a symbol, unless there are none
--     single_worked, several_worked    items that use one symbol, and more than one: nothing is added, something is
--     newest_last                      where something was added, the newest wire is the last
use Prim.Native.Nat.{ℕ, suc, ◌<◌}
use native.Mathlib.Nat.{zero-lt-suc}
use native.Mathlib.Omega.{arith}
use mathlib.Core.Path.{◌≡◌, refl, sym, ◌∙◌, ap}
use mathlib.Core.Bool.{Bool, true, false, cond, not, ◌&&◌, ◌||◌, true≢false, false≢true, and_assoc, or_assoc, or-true}
use mathlib.Core.List.{List, [], ◌∷◌, ◌++◌, map-append, append-nil, reverse_aux}
use mathlib.Core.Logic.{◌⊎◌, inl, inr}
use borrow.Author.Tests.{not-true}
use lib.ListN.{length, get_or, length-append}
use Rattle.basics.specs.Folds.{some, every}
use Rattle.basics.proofs.Tests.{and_left, and_right, and_both, or_left, or_right}
use Rattle.basics.proofs.Folds.{fold-append}
use Rattle.description.specs.Listing.{symbol_wire}
use Rattle.description.specs.Run.{newest_outer}
use Rattle.description.specs.Grammar.{Items, none, symbol, group, empty, uses, symbols, known, same_symbol}
use Rattle.description.specs.Grammar.{Event, used, addition, worked, further, event_wires, last_outer, addition_of}
use Rattle.wires.specs.declared.Symbol.{Symbol}
use Rattle.description.specs.declared.PlacedSymbol.{PlacedSymbol}
use Rattle.description.specs.declared.Listed.{Listed}

pub symbols-group : (o : ℕ) (inside : Items) (c : ℕ) (is : Items) → symbols (group o inside c is) ≡ symbols inside ++ symbols is
symbols-group o inside c is = map-append (λ (p : PlacedSymbol). p.symbol) (uses inside) (uses is)

module _ (shares : ℕ) (names : List ℕ) (o : ℕ) (inside : Items) (c : ℕ) (is : Items) where
  abbrev inner : Bool
  inner = every (known shares names) (symbols inside)

  abbrev after : Bool
  after = every (known shares names) (symbols is)

  known-parts : every (known shares names) (symbols (group o inside c is)) ≡ (inner && after)
  known-parts =
      ap (every (known shares names)) (symbols-group o inside c is)
      ∙ fold-append ◌&&◌ true (λ b. refl) and_assoc (known shares names) (symbols inside) (symbols is)

  pub known-group : every (known shares names) (symbols (group o inside c is)) ≡ true → (inner ≡ true) × (after ≡ true)
  known-group k = let both = sym known-parts ∙ k in (and_left inner after both, and_right inner after both)

  pub group-known : inner ≡ true → after ≡ true → every (known shares names) (symbols (group o inside c is)) ≡ true
  group-known h k = known-parts ∙ and_both inner after h k

abbrev pub whole : Items → Bool
whole none = true
whole (symbol p is) = whole is
whole (group o inside c is) = not (empty inside) && (whole inside && whole is)

-- ---- events in two parts

abbrev pub adds : Event → Bool
adds (used p) = false
adds (addition l offset size) = true

abbrev pub last_used : List Event → PlacedSymbol → PlacedSymbol
last_used [] q = q
last_used (used p ∷ es) q = last_used es p
last_used (addition l offset size ∷ es) q = last_used es q

abbrev pub seen_after : List Event → List Symbol → List Symbol
seen_after [] seen = seen
seen_after (used p ∷ es) seen = cond (some (same_symbol p.symbol) seen) (seen_after es seen) (seen_after es (p.symbol ∷ seen))
seen_after (addition l offset size ∷ es) seen = seen_after es seen

pub wires-append : (es fs : List Event) (seen : List Symbol)
    → event_wires (es ++ fs) seen ≡ event_wires es seen ++ event_wires fs (seen_after es seen)
wires-append [] fs seen = refl
wires-append (used p ∷ es) fs seen =
    go (some (same_symbol p.symbol) seen) (wires-append es fs seen) (wires-append es fs (p.symbol ∷ seen))
  where
    go : (b : Bool) → event_wires (es ++ fs) seen ≡ event_wires es seen ++ event_wires fs (seen_after es seen)
        → event_wires (es ++ fs) (p.symbol ∷ seen) ≡ event_wires es (p.symbol ∷ seen) ++ event_wires fs (seen_after es (p.symbol ∷ seen))
        → cond b (event_wires (es ++ fs) seen) (symbol_wire p ∷ event_wires (es ++ fs) (p.symbol ∷ seen))
        ≡ cond b (event_wires es seen) (symbol_wire p ∷ event_wires es (p.symbol ∷ seen))
        ++ event_wires fs (cond b (seen_after es seen) (seen_after es (p.symbol ∷ seen)))
    go true h k = h
    go false h k = ap {B = List Listed} (λ ws. symbol_wire p ∷ ws) k
wires-append (addition l offset size ∷ es) fs seen = ap {B = List Listed} (λ ws. addition_of l offset size ∷ ws) (wires-append es fs seen)

pub seen-append : (es fs : List Event) (seen : List Symbol) → seen_after (es ++ fs) seen ≡ seen_after fs (seen_after es seen)
seen-append [] fs seen = refl
seen-append (used p ∷ es) fs seen =
    go (some (same_symbol p.symbol) seen) (seen-append es fs seen) (seen-append es fs (p.symbol ∷ seen))
  where
    go : (b : Bool) → seen_after (es ++ fs) seen ≡ seen_after fs (seen_after es seen)
        → seen_after (es ++ fs) (p.symbol ∷ seen) ≡ seen_after fs (seen_after es (p.symbol ∷ seen))
        → cond b (seen_after (es ++ fs) seen) (seen_after (es ++ fs) (p.symbol ∷ seen))
        ≡ seen_after fs (cond b (seen_after es seen) (seen_after es (p.symbol ∷ seen)))
    go true h k = h
    go false h k = k
seen-append (addition l offset size ∷ es) fs seen = seen-append es fs seen

pub last-append : (es fs : List Event) (q : PlacedSymbol) → last_used (es ++ fs) q ≡ last_used fs (last_used es q)
last-append [] fs q = refl
last-append (used p ∷ es) fs q = last-append es fs p
last-append (addition l offset size ∷ es) fs q = last-append es fs q

-- ---- whether something is added

pub adds_append : (es fs : List Event) → some adds (es ++ fs) ≡ (some adds es || some adds fs)
adds_append = fold-append ◌||◌ false (λ b. refl) or_assoc adds

further_adds : (is : Items) (l : List Symbol) (first : ℕ) → empty is ≡ false → some adds (further is l first) ≡ true
further_adds none l first h = absurd (true≢false h)
further_adds (symbol p is) l first h = refl
further_adds (group o inside c is) l first h = adds_append (worked inside) _ ∙ or-true (some adds (worked inside))

none_or_some : (is : Items) → (is ≡ none) ⊎ (empty is ≡ false)
none_or_some none = inl refl
none_or_some (symbol p is) = inr refl
none_or_some (group o inside c is) = inr refl

module _ (o : ℕ) (inside : Items) (c : ℕ) (is : Items) (w : whole (group o inside c is) ≡ true) where
  filled_inside : empty inside ≡ false
  filled_inside = not-true (empty inside) (and_left (not (empty inside)) (whole inside && whole is) w)

  whole-inside : whole inside ≡ true
  whole-inside = and_left (whole inside) (whole is) (and_right (not (empty inside)) (whole inside && whole is) w)

  whole_after : whole is ≡ true
  whole_after = and_right (whole inside) (whole is) (and_right (not (empty inside)) (whole inside && whole is) w)

  -- where a group is all there is
  uses-inside : is ≡ none → uses inside ≡ uses (group o inside c is)
  uses-inside e = sym (append-nil (uses inside)) ∙ ap (λ k. uses inside ++ uses k) (sym e)

-- items that are not none use a symbol
pub some-used : (is : Items) → whole is ≡ true → empty is ≡ false → 0 < length (uses is)
some-used none w h = absurd (true≢false h)
some-used (symbol p is) w h = zero-lt-suc (length (uses is))
some-used (group o inside c is) w h =
    let size = length-append (uses inside) (uses is) in
    let positive = some-used inside (whole-inside o inside c is w) (filled_inside o inside c is w) in
    omega (arith, size, positive)

pub single_worked : (is : Items) (p : PlacedSymbol) → whole is ≡ true → uses is ≡ p ∷ [] → worked is ≡ used p ∷ []
single_worked none p w e = let z : ◌≡◌ {A = ℕ} 0 1 = ap length e in absurd (omega (arith, z))
single_worked (symbol q is) p w e = go (none_or_some is)
  where
    go : (is ≡ none) ⊎ (empty is ≡ false) → worked (symbol q is) ≡ used p ∷ []
    go (inl f) =
        ap (λ k. worked (symbol q k)) f ∙ ap {B = List Event} (λ (r : PlacedSymbol). used r ∷ []) (ap (λ l. get_or l 0 p) e)
    go (inr f) = let size = ap length e in let positive = some-used is w f in absurd (omega (arith, size, positive))
single_worked (group o inside c is) p w e = go (none_or_some is) (single_worked inside p (whole-inside o inside c is w))
  where
    go : (is ≡ none) ⊎ (empty is ≡ false) → (uses inside ≡ p ∷ [] → worked inside ≡ used p ∷ []) → worked (group o inside c is) ≡ used p ∷ []
    go (inl f) ih = ap (λ k. worked (group o inside c k)) f ∙ append-nil (worked inside) ∙ ih (uses-inside o inside c is w f ∙ e)
    go (inr f) ih =
        let size = sym (length-append (uses inside) (uses is)) ∙ ap length e in
        let first = some-used inside (whole-inside o inside c is w) (filled_inside o inside c is w) in
        let second = some-used is (whole_after o inside c is w) f in
        absurd (omega (arith, size, first, second))

pub several_worked : (is : Items) (p q : PlacedSymbol) (ps : List PlacedSymbol) → whole is ≡ true → uses is ≡ p ∷ q ∷ ps
    → some adds (worked is) ≡ true
several_worked none p q ps w e = let z : ◌≡◌ {A = ℕ} 0 (suc (suc (length ps))) = ap length e in absurd (omega (arith, z))
several_worked (symbol r is) p q ps w e = go (none_or_some is)
  where
    go : (is ≡ none) ⊎ (empty is ≡ false) → some adds (worked (symbol r is)) ≡ true
    go (inl f) = let size = ap (λ k. length (uses (symbol r k))) (sym f) ∙ ap length e in absurd (omega (arith, size))
    go (inr f) = further_adds is (r.symbol ∷ []) r.place f
several_worked (group o inside c is) p q ps w e = go (none_or_some is) (several_worked inside p q ps (whole-inside o inside c is w))
  where
    go : (is ≡ none) ⊎ (empty is ≡ false) → (uses inside ≡ p ∷ q ∷ ps → some adds (worked inside) ≡ true)
        → some adds (worked (group o inside c is)) ≡ true
    go (inl f) ih =
        adds_append (worked inside) (further is (symbols inside) o)
        ∙ or_left (some adds (worked inside)) (some adds (further is (symbols inside) o)) (ih (uses-inside o inside c is w f ∙ e))
    go (inr f) ih =
        adds_append (worked inside) (further is (symbols inside) o)
        ∙ or_right (some adds (worked inside)) (some adds (further is (symbols inside) o)) (further_adds is (symbols inside) o f)

-- ---- the newest wire

-- events with an addition make a wire
some-listed : (es : List Event) (seen : List Symbol) → some adds es ≡ true → 0 < length (event_wires es seen)
some-listed [] seen h = absurd (false≢true h)
some-listed (used p ∷ es) seen h = go (some (same_symbol p.symbol) seen) (some-listed es seen h)
  where
    go : (b : Bool) → 0 < length (event_wires es seen)
        → 0 < length (cond b (event_wires es seen) (symbol_wire p ∷ event_wires es (p.symbol ∷ seen)))
    go true k = k
    go false k = zero-lt-suc (length (event_wires es (p.symbol ∷ seen)))
some-listed (addition l offset size ∷ es) seen h = zero-lt-suc (length (event_wires es seen))

newest_of : (n : ℕ) (ws old : List Listed) → 0 < length ws → newest_outer n (reverse_aux ws old) ≡ reverse_aux (last_outer n ws) old
newest_of n [] old h = absurd (omega (arith, h))
newest_of n (w ∷ []) old h = refl
newest_of n (w ∷ v ∷ ws) old h = newest_of n (v ∷ ws) (w ∷ old) (zero-lt-suc (length ws))

pub newest_last : (n : ℕ) (es : List Event) (seen : List Symbol) (old : List Listed) → some adds es ≡ true
    → newest_outer n (reverse_aux (event_wires es seen) old) ≡ reverse_aux (last_outer n (event_wires es seen)) old
newest_last n es seen old h = newest_of n (event_wires es seen) old (some-listed es seen h)
