-- The rest of a text where the run over it is done: what it spells.
--     Read            items that the text spells from a place up to a place, known ones, with so many parentheses open around them
--     read_none, read-space, read-symbol, read-group     no item, and one thing more before items
--     After           what follows an output line: the text's end, or a line end and further lines
--     LineRest        the rest of a text from inside a line, with no parenthesis open
--     GroupRest, Rest     the rest of a text, with parentheses open
--     rest-before     the rest of a text, from something before it on
--     Found           so many output lines that the text spells from a place on, within the limits
--     line-found      the rest from the start of a line on
use Prim.Native.Nat.{ℕ, suc, ◌+◌, ◌≤◌}
use native.Mathlib.Omega.{arith}
use mathlib.Core.Path.{◌≡◌, refl, ◌∙◌, ap, subst}
use mathlib.Core.Bool.{Bool, true, false, cond, not, ◌||◌}
use mathlib.Core.List.{List, [], ◌∷◌}
use borrow.Author.Tests.{le-leb}
use lib.Dec.{leb}
use lib.ListN.{length, drop}
use Rattle.basics.specs.Folds.{every, one_if}
use Rattle.basics.proofs.Tests.{and_both}
use Rattle.description.specs.Bytes.{space, line_end, opening, closing, word}
use Rattle.description.specs.Symbols.{spelling, formed, symbol_length}
use Rattle.description.specs.Run.{Around, max_depth, placed}
use Rattle.description.specs.Grammar.{Items, none, symbol, group, Byte, Bytes, empty, counted, symbols, depth, known}
use Rattle.description.specs.Grammar.{Spelled, end, spaced, a_symbol, a_group, Lines, last, line}
use Rattle.wires.specs.declared.Symbol.{Symbol}
use Rattle.description.proofs.Numbers.{larger-max}
use Rattle.description.proofs.Events.{group-known}

module _ (text : List ℕ) (shares : ℕ) (names : List ℕ) where
  -- with j parentheses open around them
  pub record Read (j p q : ℕ) : Type 0 where
    pub items : Items
    pub spelled : Spelled text p items q
    pub allowed : every (known shares names) (symbols items) ≡ true
    pub shallow : depth items + j ≤ max_depth

  abbrev pub read_none : (j p : ℕ) → j ≤ max_depth → Read j p p
  read_none j p h = record { items = none; spelled = end; allowed = refl; shallow = omega (arith, h) }

  abbrev pub read-space : (j p q : ℕ) → Byte text p space → Read j (p + 1) q → Read j p q
  read-space j p q b r = record { items = r.items; spelled = spaced b r.spelled; allowed = r.allowed; shallow = r.shallow }

  abbrev pub read-symbol : (j p q : ℕ) (u : Symbol) → formed u ≡ true → Bytes text p (spelling u) → word (drop (p + symbol_length u) text) ≡ []
      → known shares names u ≡ true → Read j (p + symbol_length u) q → Read j p q
  read-symbol j p q u f b w k r = record {
    items = symbol (placed p u) r.items;
    spelled = a_symbol u f b w r.spelled;
    allowed = and_both (known shares names u) (every (known shares names) (symbols r.items)) k r.allowed;
    shallow = r.shallow;
  }

  abbrev pub read-group : (j p c q : ℕ) → Byte text p opening → (inner : Read (suc j) (p + 1) c) → empty inner.items ≡ false → Byte text c closing
      → Read j (c + 1) q → Read j p q
  read-group j p c q b inner f e r =
      let deep = inner.shallow in
      let after = r.shallow in
      let deeper = larger-max (depth inner.items + 1) (depth r.items) in
      record {
        items = group p inner.items c r.items;
        spelled = a_group b inner.spelled f e r.spelled;
        allowed = group-known shares names p inner.items c r.items inner.allowed r.allowed;
        shallow = omega (arith, deep, after, deeper);
      }

  pub data After (q : ℕ) : List Items → Type 0 where
    text_end : q ≡ length text → After q []
    more_lines : {lines : List Items} → Byte text q line_end → Lines text (q + 1) lines → After q lines

  -- n lines are done before this one, which is an output line if it has an item, before the place p or from there on
  pub record LineRest (filled : Bool) (p n : ℕ) : Type 0 where
    pub till : ℕ
    pub here : Read 0 p till
    pub lines : List Items
    pub after : After till lines
    pub count : n + (one_if (filled || not (empty here.items)) + length lines) ≡ shares
    pub shallow : every (λ is. leb (depth is) max_depth) lines ≡ true
    pub allowed : every (λ is. every (known shares names) (symbols is)) lines ≡ true

  -- j parentheses open, the rest of the innermost group, which has an item, and then Next
  pub record GroupRest (j : ℕ) (filled : Bool) (p : ℕ) (Next : ℕ → Type 0) : Type 0 where
    pub till : ℕ
    pub here : Read j p till
    pub close : Byte text till closing
    pub has-item : (filled || not (empty here.items)) ≡ true
    pub next : Next (till + 1)

  -- a group that has just been closed is an item of the one around it
  abbrev pub Rest : List Around → Bool → ℕ → ℕ → Type 0
  Rest [] filled n p = LineRest filled p n
  Rest (g ∷ around) filled n p = GroupRest (length (g ∷ around)) filled p (Rest around true n)

  pub rest-before : (around : List Around) (filled filled' : Bool) (n p p' : ℕ)
      → (f : (q : ℕ) → Read (length around) p' q → Read (length around) p q)
      → ((q : ℕ) (r : Read (length around) p' q) → (filled || not (empty (f q r).items)) ≡ (filled' || not (empty r.items)))
      → Rest around filled' n p' → Rest around filled n p
  rest-before [] filled filled' n p p' f e r = record {
    till = r.till;
    here = f r.till r.here;
    lines = r.lines;
    after = r.after;
    count = ap (λ (b : Bool). n + (one_if b + length r.lines)) (e r.till r.here) ∙ r.count;
    shallow = r.shallow;
    allowed = r.allowed;
  }
  rest-before (g ∷ around) filled filled' n p p' f e r = record {
    till = r.till;
    here = f r.till r.here;
    close = r.close;
    has-item = e r.till r.here ∙ r.has-item;
    next = r.next;
  }

  -- ---- whole lines

  pub record Found (p n : ℕ) : Type 0 where
    pub lines : List Items
    pub spelled : Lines text p lines
    pub count : length lines ≡ n
    pub shallow : every (λ is. leb (depth is) max_depth) lines ≡ true
    pub allowed : every (λ is. every (known shares names) (symbols is)) lines ≡ true

  counted-every : (f : Items → Bool) (b : Bool) (is : Items) (lines : List Items) → f is ≡ true → every f lines ≡ true
      → every f (cond b lines (is ∷ lines)) ≡ true
  counted-every f true is lines h k = k
  counted-every f false is lines h k = and_both (f is) (every f lines) h k

  counted-length : (b : Bool) (is : Items) (lines : List Items) → length (cond b lines (is ∷ lines)) ≡ one_if (not b) + length lines
  counted-length true is lines = omega arith
  counted-length false is lines = omega arith

  -- a line from its start on
  pub line-found : (p n m : ℕ) → n + m ≡ shares → LineRest false p n → Found p m
  line-found p n m h r =
      let is = r.here.items in
      let deep = r.here.shallow in
      let counts = r.count in
      let size = counted-length (empty is) is r.lines in
      record {
        lines = counted is r.lines;
        spelled = lines_of r.lines r.after;
        count = omega (arith, h, counts, size);
        shallow =
            counted-every (λ is. leb (depth is) max_depth) (empty is) is r.lines (le-leb (depth is) max_depth (omega (arith, deep))) r.shallow;
        allowed = counted-every (λ is. every (known shares names) (symbols is)) (empty is) is r.lines r.here.allowed r.allowed;
      }
    where
      lines_of : (lines : List Items) → After r.till lines → Lines text p (counted r.here.items lines)
      lines_of lines (text_end e) = last (subst (λ (q : ℕ). Spelled text p r.here.items q) e r.here.spelled)
      lines_of lines (more_lines b l) = line r.here.spelled b l
