-- The run follows what a text spells.
--     symbol_long      a symbol has two bytes or more
--     symbol-inside    a symbol that is spelled ends inside the text
--     symbol-word      and is the longest run of its bytes there
--     spelled-run      from where items begin, the run comes to where they end, in the state after them
use Prim.Native.Nat.{ℕ, ◌+◌, ◌≤◌, ◌<◌}
use native.Mathlib.Omega.{arith}
use mathlib.Core.Path.{◌≡◌, refl, sym, ◌∙◌, ap}
use mathlib.Core.Bool.{Bool, true, false, cond}
use mathlib.Core.List.{List, [], ◌∷◌, ◌++◌}
use borrow.Author.Tests.{ne_eqb}
use lib.Dec.{eqb, ltb}
use lib.ListN.{length, drop, get_or}
use Rattle.limits.specs.Limits.{max_shares}
use Rattle.basics.specs.Folds.{every}
use Rattle.basics.proofs.Tests.{and_left, and_right}
use Rattle.description.specs.Bytes.{space, opening, closing, word}
use Rattle.description.specs.Symbols.{spelling, formed, symbol_length, symbol_read}
use Rattle.description.specs.Run.{State, run_at, max_depth, placed, took, opened, closed}
use Rattle.description.specs.Grammar.{Items, Bytes, empty, Spelled, end, spaced, a_symbol, a_group, depth, symbols, known}
use Rattle.wires.specs.declared.Symbol.{Symbol}
use Rattle.wires.specs.declared.Symbol.TheVariants.{Product, ShareA, ShareB, Mask}
use Rattle.description.proofs.Running.{drop_byte}
use Rattle.description.proofs.Spelling.{Declares, known_read, spelling-length, spelling-word}
use Rattle.description.proofs.Numbers.{larger-max}
use Rattle.description.proofs.Places.{bytes_inside, bytes_rest, byte_inside, byte_at, word-joined}
use Rattle.description.proofs.Passing.{at_space, at_opening, at_closing, at_symbol}
use Rattle.description.proofs.Events.{known-group}
use Rattle.description.proofs.After.{outside, after_items, after_around, after_lines, after_filled}

pub symbol_long : (u : Symbol) → 2 ≤ symbol_length u
symbol_long (Product i j) = omega arith
symbol_long (ShareA i) = omega arith
symbol_long (ShareB j) = omega arith
symbol_long (Mask k) = go (ltb k 10)
  where
    go : (b : Bool) → 2 ≤ cond b 2 3
    go true = omega arith
    go false = omega arith

module _ (text : List ℕ) where
  pub symbol-inside : (p : ℕ) (u : Symbol) → Bytes text p (spelling u) → p + symbol_length u ≤ length text
  symbol-inside p u e =
      let size = spelling-length u in
      let long = symbol_long u in
      let h = bytes_inside text p (spelling u) e (omega (arith, size, long)) in
      omega (arith, size, h)

  pub symbol-word : (p : ℕ) (u : Symbol) → formed u ≡ true → Bytes text p (spelling u) → word (drop (p + symbol_length u) text) ≡ []
      → word (drop p text) ≡ spelling u
  symbol-word p u f b w =
      ap word (bytes_rest text p (spelling u) b ∙ ap (λ (k : ℕ). spelling u ++ drop (p + k) text) (spelling-length u))
      ∙ spelling-word u f (drop (p + symbol_length u) text) w

  module _ (shares declared : ℕ) (names : List ℕ) (few : shares ≤ max_shares) (d : Declares declared names) where
    not-all : (s : State) → s.lines < shares → eqb s.lines shares ≡ false
    not-all s h = ne_eqb s.lines shares (λ e. omega (arith, e, h))

    spelled-symbol : (p : ℕ) (s : State) (u : Symbol) → s.lines < shares → formed u ≡ true → Bytes text p (spelling u)
        → word (drop (p + symbol_length u) text) ≡ [] → known shares names u ≡ true
        → run_at shares declared text p s ≡ run_at shares declared text (p + symbol_length u) (took (placed p u) s)
    spelled-symbol p s u early f b w k =
        let size = spelling-length u in
        let long = symbol_long u in
        let fits = symbol-inside p u b in
        let inside : p < length text = omega (arith, long, fits) in
        let is_is_word = symbol-word p u f b w in
        let word_size : length (word (drop p text)) ≡ symbol_length u = ap length is_is_word ∙ size in
        let first_size : length (word (get_or text p 0 ∷ drop (p + 1) text)) ≡ symbol_length u =
        ap (λ l. length (word l)) (sym (drop_byte text p inside)) ∙ word_size in
        at_symbol shares declared text p s inside (not-all s early)
        (word-joined (get_or text p 0) (drop (p + 1) text) (omega (arith, first_size, long))) u
        (ap (symbol_read shares declared) is_is_word ∙ known_read shares declared names u few d k) (omega (arith, word_size, long))
        ∙ ap (λ (k : ℕ). run_at shares declared text (p + k) (took (placed p u) s)) word_size

    pub spelled-run : {p q : ℕ} {is : Items} → Spelled text p is q → (s : State) → (empty is ≡ false → s.lines < shares)
        → every (known shares names) (symbols is) ≡ true → length s.around + depth is ≤ max_depth
        → run_at shares declared text p s ≡ run_at shares declared text q (after_items is s)
    spelled-run end s early k h = refl
    spelled-run (spaced {p = p} b r) s early k h =
        at_space shares declared text p s (byte_inside text p space b) (byte_at text p space b) ∙ spelled-run r s early k h
    spelled-run (a_symbol {p = p} {is = is} u f b w r) s early k h =
        spelled-symbol p s u (early refl) f b w (and_left (known shares names u) (every (known shares names) (symbols is)) k)
        ∙ spelled-run r (took (placed p u) s) (λ e. early refl) (and_right (known shares names u) (every (known shares names) (symbols is)) k) h
    spelled-run (a_group {p = p} {c = c} {inside = inside} {is = is} b r f e k) s early known h =
        let parts = known-group shares names p inside c is known in
        let deeper = larger-max (depth inside + 1) (depth is) in
        let t = after_items inside (opened p s) in
        let same_lines = after_lines inside (opened p s) in
        let earlier = early refl in
        at_opening shares declared text p s (byte_inside text p opening b) (not-all s earlier) (byte_at text p opening b)
        (ne_eqb (length s.around) max_depth (λ x. omega (arith, x, h, deeper)))
        ∙ spelled-run r (opened p s) (λ x. earlier) parts.0 (omega (arith, h, deeper))
        ∙ at_closing shares declared text c t (byte_inside text c closing e) (not-all t (omega (arith, same_lines, earlier)))
        (outside p s) s.around (byte_at text c closing e) (after_around inside (opened p s)) (after_filled inside (opened p s) f)
        ∙ spelled-run k (closed c (outside p s) s.around t) (λ x. omega (arith, same_lines, earlier)) parts.1 (omega (arith, h, deeper))
