-- How many wires a description has: one for each addition, one for each distinct symbol, one more for each line that is a single symbol.
--     events_count            events make a wire for each addition and each distinct symbol
--     single, all_symbols      a line that is a single symbol; the symbols of lines
--     line-count, lines-count     the wires of a line that uses more than one symbol, of such lines
use Prim.Native.Nat.{ℕ, suc, ◌+◌, ◌-◌}
use native.Mathlib.Omega.{arith}
use mathlib.Core.Path.{◌≡◌, refl, sym, ◌∙◌, ap, ap₂}
use mathlib.Core.Bool.{Bool, true, false, cond, not, ◌&&◌, true≢false}
use mathlib.Core.List.{List, [], ◌∷◌, ◌++◌, map}
use borrow.Author.Tests.{not-true, ne_eqb}
use lib.Dec.{eqb}
use lib.ListN.{length, length-append}
use Rattle.basics.specs.Folds.{fold, every, count, one_if}
use Rattle.basics.proofs.Tests.{and_left, and_right}
use Rattle.basics.proofs.Folds.{fold-append}
use Rattle.wires.specs.declared.Symbol.{Symbol}
use Rattle.description.specs.Listing.{symbol_wire, outer_wire}
use Rattle.description.specs.Grammar.{Items, none, symbol, group, empty, uses, symbols}
use Rattle.description.specs.Grammar.{Event, used, addition, worked, further, event_wires, last_outer, outered, line_wires, lines_wires}
use Rattle.description.specs.declared.PlacedSymbol.{PlacedSymbol}
use Rattle.description.specs.declared.Listed.{Listed}
use Rattle.description.proofs.Distinct.{amid, distinct, distinct_append}
use Rattle.description.proofs.Events.{symbols-group, whole, adds, some-used}

-- the symbols that events use
abbrev used_by : List Event → List Symbol
used_by [] = []
used_by (used p ∷ es) = p.symbol ∷ used_by es
used_by (addition l offset size ∷ es) = used_by es

used-append : (ds es : List Event) → used_by (ds ++ es) ≡ used_by ds ++ used_by es
used-append [] es = refl
used-append (used p ∷ ds) es = ap {B = List Symbol} (λ l. p.symbol ∷ l) (used-append ds es)
used-append (addition l offset size ∷ ds) es = used-append ds es

pub events_count : (es : List Event) (seen : List Symbol) → length (event_wires es seen) ≡ count adds es + distinct seen (used_by es)
events_count [] seen = refl
events_count (used p ∷ es) seen = go (amid seen p.symbol) (events_count es seen) (events_count es (p.symbol ∷ seen))
  where
    go : (b : Bool) → length (event_wires es seen) ≡ count adds es + distinct seen (used_by es)
        → length (event_wires es (p.symbol ∷ seen)) ≡ count adds es + distinct (p.symbol ∷ seen) (used_by es)
        → length (cond b (event_wires es seen) (symbol_wire p ∷ event_wires es (p.symbol ∷ seen)))
        ≡ 0 + count adds es + cond b (distinct seen (used_by es)) (1 + distinct (p.symbol ∷ seen) (used_by es))
    go true old new = omega (arith, old)
    go false old new = omega (arith, new)
events_count (addition l offset size ∷ es) seen = let more = events_count es seen in omega (arith, more)

count-append : (ds es : List Event) → count adds (ds ++ es) ≡ count adds ds + count adds es
count-append = fold-append ◌+◌ 0 (λ n. omega arith) (λ k m n. omega arith) (λ e. one_if (adds e))

-- what items use and add: of a group so many additions as it has symbols, less one; after other items, one for each symbol
record Worked (is : Items) : Type 0 where
  uses-first : used_by (worked is) ≡ symbols is
  uses-further : (l : List Symbol) (first : ℕ) → used_by (further is l first) ≡ symbols is
  adds_first : empty is ≡ false → 1 + count adds (worked is) ≡ length (symbols is)
  adds_further : (l : List Symbol) (first : ℕ) → count adds (further is l first) ≡ length (symbols is)

items-worked : (is : Items) → whole is ≡ true → Worked is
items-worked none w =
    record { uses-first = refl; uses-further = λ l first. refl; adds_first = λ f. absurd (true≢false f); adds_further = λ l first. refl }
items-worked (symbol p is) w =
    let more = items-worked is w in
    record {
      uses-first = ap {B = List Symbol} (λ l. p.symbol ∷ l) (more.uses-further (p.symbol ∷ []) p.place);
      uses-further = λ l first. ap {B = List Symbol} (λ k. p.symbol ∷ k) (more.uses-further (l ++ (p.symbol ∷ [])) first);
      adds_first = λ f. let rest = more.adds_further (p.symbol ∷ []) p.place in omega (arith, rest);
      adds_further = λ l first. let rest = more.adds_further (l ++ (p.symbol ∷ [])) first in omega (arith, rest);
    }
items-worked (group o inside c is) w =
    let filled = not-true (empty inside) (and_left (not (empty inside)) (whole inside && whole is) w) in
    let both = and_right (not (empty inside)) (whole inside && whole is) w in
    let ins = items-worked inside (and_left (whole inside) (whole is) both) in
    let more = items-worked is (and_right (whole inside) (whole is) both) in
    let size = ap length (symbols-group o inside c is) ∙ length-append (symbols inside) (symbols is) in
    let one = ins.adds_first filled in
    record {
      uses-first = used-append (worked inside) (further is (symbols inside) o)
          ∙ ap₂ {C = List Symbol} (λ k l. k ++ l) ins.uses-first (more.uses-further (symbols inside) o) ∙ sym (symbols-group o inside c is);
      uses-further = λ l first. used-append (worked inside) _
          ∙ ap₂ {C = List Symbol} (λ j k. j ++ k) ins.uses-first (more.uses-further (l ++ symbols inside) first) ∙ sym (symbols-group o inside c is);
      adds_first = λ f. let parts = count-append (worked inside) (further is (symbols inside) o) in
          let rest = more.adds_further (symbols inside) o in
          omega (arith, parts, rest, one, size);
      adds_further = λ l first.
          let parts = count-append (worked inside) (addition (l ++ symbols inside) first (c + 1 - first) ∷ further is (l ++ symbols inside) first) in
          let rest = more.adds_further (l ++ symbols inside) first in
          omega (arith, parts, rest, one, size);
    }

-- ---- lines

last-length : (n : ℕ) (ws : List Listed) → length (last_outer n ws) ≡ length ws
last-length n [] = refl
last-length n (w ∷ []) = refl
last-length n (w ∷ v ∷ ws) = ap suc (last-length n (v ∷ ws))

-- a line that is a single symbol has an outer wire of its own
abbrev pub single : Items → Bool
single is = eqb (length (symbols is)) 1

pub line-count : (is : Items) (seen : List Symbol) (n : ℕ) → whole is ≡ true → empty is ≡ false
    → 1 + length (line_wires seen n is) ≡ length (symbols is) + distinct seen (symbols is) + one_if (single is)
line-count is seen n w f = go (uses is) refl
  where
    size : 1 + length (event_wires (worked is) seen) ≡ length (symbols is) + distinct seen (symbols is)
    size =
        let made = events_count (worked is) seen in
        let done = items-worked is w in
        let added = done.adds_first f in
        let named = ap (distinct seen) done.uses-first in
        omega (arith, made, added, named)

    go : (us : List PlacedSymbol) → uses is ≡ us
        → 1 + length (outered n us (event_wires (worked is) seen)) ≡ length (symbols is) + distinct seen (symbols is) + one_if (single is)
    go [] e =
        let some = some-used is w f in
        let none-used = ap length e in
        absurd (omega (arith, some, none-used))
    go (p ∷ []) e =
        let alone : one_if (single is) ≡ 1 = ap (λ (us : List PlacedSymbol). one_if (eqb (length (map (λ u. u.symbol) us)) 1)) e in
        let more = length-append (event_wires (worked is) seen) (outer_wire n p ∷ []) in
        omega (arith, size, alone, more)
    go (p ∷ q ∷ ps) e =
        let several : one_if (single is) ≡ 0 =
        ap (λ (us : List PlacedSymbol). one_if (eqb (length (map (λ u. u.symbol) us)) 1)) e ∙ ap (λ (b : Bool). one_if b) (ne_eqb (suc (suc (length (map (λ u. u.symbol) ps)))) 1 (λ z. omega (arith, z))) in
        let same_length = last-length n (event_wires (worked is) seen) in
        omega (arith, size, several, same_length)

abbrev pub all_symbols : List Items → List Symbol
all_symbols = fold ◌++◌ [] symbols

pub lines-count : (lines : List Items) (seen : List Symbol) (n : ℕ) → every (λ is. not (empty is) && whole is) lines ≡ true
    → length lines + length (lines_wires lines seen n)
    ≡ length (all_symbols lines) + distinct seen (all_symbols lines) + count single lines
lines-count [] seen n g = refl
lines-count (is ∷ lines) seen n g =
    let first = and_left (not (empty is) && whole is) (every (λ is. not (empty is) && whole is) lines) g in
    let here =
    line-count is seen n (and_right (not (empty is)) (whole is) first) (not-true (empty is) (and_left (not (empty is)) (whole is) first)) in
    let rest = lines-count lines (symbols is ++ seen) (n + 1) (and_right (not (empty is) && whole is) (every (λ is. not (empty is) && whole is) lines) g) in
    let wires = length-append (line_wires seen n is) (lines_wires lines (symbols is ++ seen) (n + 1)) in
    let names = length-append (symbols is) (all_symbols lines) in
    let parts = distinct_append seen (symbols is) (all_symbols lines) in
    omega (arith, here, rest, wires, names, parts)
