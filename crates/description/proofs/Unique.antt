-- The grammar is unambiguous: a text spells one description.
--     spelled-once      two descriptions that a text spells are the same
use Rattle.std.specs.Prelude.{Some}
use Prim.Native.Nat.{ℕ, ◌+◌, ◌<◌}
use native.Mathlib.Omega.{arith}
use mathlib.Core.Path.{◌≡◌, refl, sym, ◌∙◌, ap, ap₂, subst}
use mathlib.Core.Bool.{Bool, true, false, cond, ◌||◌}
use mathlib.Core.List.{List, [], ◌∷◌, ◌++◌, append_assoc}
use borrow.Author.Tests.{leb-true}
use lib.Dec.{eqb, leb}
use lib.ListN.{length, drop, get_or, take-append-drop}
use lib.Seq.{drop_at, drop-length}
use Rattle.basics.specs.Folds.{every}
use Rattle.basics.proofs.Tests.{and_left, and_right}
use Rattle.description.specs.Bytes.{space, line_end, opening, closing, comma, bracket, letter_r, figure, word}
use Rattle.description.specs.Symbols.{max_mask, mask_name, name_length, spelling, formed, symbol_length, mask_at}
use Rattle.description.specs.Run.{placed}
use Rattle.description.specs.Grammar.{Items, none, symbol, group, Description, Byte, Bytes, counted, further-names, joined, header_text}
use Rattle.description.specs.Grammar.{Spelled, end, spaced, a_symbol, a_group, Lines, last, line, Spells}
use Rattle.wires.specs.declared.Symbol.{Symbol}
use Rattle.description.proofs.Names.{name_length_lem, digit_here, name_read}
use Rattle.description.proofs.Spelling.{spelling-length, spelled_by, spelling_back}
use Rattle.description.proofs.Places.{byte_inside, bytes_rest, word-joined, joined_byte}
use Rattle.description.proofs.Following.{symbol_long, symbol-word}

-- ---- items

-- what begins at a byte; nothing where items stop: at a closing parenthesis, at a line end, at the text's end
data Beginning : Type 0 where
  nothing a-space some-group some-symbol : Beginning

abbrev begins : List ℕ → Beginning
begins [] = nothing
begins (c ∷ l) = cond (eqb c closing || eqb c line_end) nothing (cond (eqb c space) a-space (cond (eqb c opening) some-group some-symbol))

module _ (text : List ℕ) where
  abbrev Stops : ℕ → Type 0
  Stops q = begins (drop q text) ≡ nothing

  byte_begins : (p c : ℕ) → Byte text p c → begins (drop p text) ≡ begins (c ∷ [])
  byte_begins p c b = ap begins (bytes_rest text p (c ∷ []) b)

  joined-begins : (l : List ℕ) → 0 < length (word l) → begins l ≡ some-symbol
  joined-begins [] h = absurd (omega (arith, h))
  joined-begins (c ∷ l) h = let apart = joined_byte c (word-joined c l h) in simp (apart.2, apart.4, apart.0, apart.1)

  symbol-begins : (p : ℕ) (s : Symbol) → formed s ≡ true → Bytes text p (spelling s) → word (drop (p + symbol_length s) text) ≡ []
      → begins (drop p text) ≡ some-symbol
  symbol-begins p s f b w =
      let size = ap length (symbol-word text p s f b w) ∙ spelling-length s in
      let long = symbol_long s in
      joined-begins (drop p text) (omega (arith, size, long))

  -- items that begin with a symbol, with a group
  record WithSymbol (p : ℕ) (is : Items) (q : ℕ) : Type 0 where
    first : Symbol
    others : Items
    can : formed first ≡ true
    here : Bytes text p (spelling first)
    parted : word (drop (p + symbol_length first) text) ≡ []
    rest : Spelled text (p + symbol_length first) others q
    are : is ≡ symbol (placed p first) others

  record WithGroup (p : ℕ) (is : Items) (q : ℕ) : Type 0 where
    inside : Items
    close : ℕ
    others : Items
    within : Spelled text (p + 1) inside close
    closes : Byte text close closing
    rest : Spelled text (close + 1) others q
    are : is ≡ group p inside close others

  -- what items are, by what begins at their place
  abbrev Begun : Beginning → ℕ → Items → ℕ → Type 0
  Begun nothing p is q = (is ≡ none) × (p ≡ q)
  Begun a-space p is q = Spelled text (p + 1) is q
  Begun some-group p is q = WithGroup p is q
  Begun some-symbol p is q = WithSymbol p is q

  begun : {p q : ℕ} {is : Items} → Spelled text p is q → Stops q → Begun (begins (drop p text)) p is q
  begun (end {p = p}) h = subst (λ (b : Beginning). Begun b p none p) (sym h) (refl, refl)
  begun (spaced {p = p} {q = q} {is = is} b s) h = subst (λ (b : Beginning). Begun b p is q) (sym (byte_begins p space b)) s
  begun (a_symbol {p = p} {q = q} {is = is} s f b w r) h =
      subst (λ (b : Beginning). Begun b p (symbol (placed p s) is) q) (sym (symbol-begins p s f b w))
      (record { first = s; others = is; can = f; here = b; parted = w; rest = r; are = refl })
  begun (a_group {p = p} {c = c} {q = q} {inside = inside} {is = is} b i f e r) h =
      subst (λ (b : Beginning). Begun b p (group p inside c is) q) (sym (byte_begins p opening b))
      (record { inside = inside; close = c; others = is; within = i; closes = e; rest = r; are = refl })

  -- items from one place on are the same, and stop at the same place
  items-once : {p q r : ℕ} {is js : Items} → Spelled text p is q → Spelled text p js r → Stops q → Stops r → (is ≡ js) × (q ≡ r)
  items-once {r = r} {js = js} (end {p = p}) t h k =
      let v = subst (λ (b : Beginning). Begun b p js r) h (begun t k) in
      (sym v.0, v.1)
  items-once {r = r} {js = js} (spaced {p = p} b s) t h k =
      items-once s (subst (λ (b : Beginning). Begun b p js r) (byte_begins p space b) (begun t k)) h k
  items-once {r = r} {js = js} (a_symbol {p = p} {is = is} s f b w rest) t h k =
      let v = subst (λ (b : Beginning). Begun b p js r) (symbol-begins p s f b w) (begun t k) in
      let u = v.first in
      let bytes : spelling s ≡ spelling u = sym (symbol-word text p s f b w) ∙ symbol-word text p u v.can v.here v.parted in
      let same : s ≡ u = sym (spelling_back s f) ∙ ap spelled_by bytes ∙ spelling_back u v.can in
      let more = items-once rest (subst (λ (x : Symbol). Spelled text (p + symbol_length x) v.others r) (sym same) v.rest) h k in
      (ap₂ {C = Items} (λ x y. symbol (placed p x) y) same more.0 ∙ sym v.are, more.1)
  items-once {r = r} {js = js} (a_group {p = p} {c = c} {inside = inside} {is = is} b s f e rest) t h k =
      let v = subst (λ (b : Beginning). Begun b p js r) (byte_begins p opening b) (begun t k) in
      let within = items-once s v.within (byte_begins c closing e) (byte_begins v.close closing v.closes) in
      let more = items-once rest (subst (λ (x : ℕ). Spelled text (x + 1) v.others r) (sym within.1) v.rest) h k in (
        ap₂ {C = Items} (λ x y. group p x c y) within.0 more.0
            ∙ ap {B = Items} (λ x. group p v.inside x v.others) within.1 ∙ sym v.are,
        more.1,
      )

  -- ---- lines

  end_stops : Stops (length text)
  end_stops = ap begins (drop-length text)

  -- the output lines from one place on
  lines-once : {p : ℕ} {ls ms : List Items} → Lines text p ls → Lines text p ms → ls ≡ ms
  lines-once (last s) (last t) = ap {B = List Items} (λ is. counted is []) (items-once s t end_stops end_stops).0
  lines-once (last s) (line {q = r} t c m) =
      let stop = (items-once s t end_stops (byte_begins r line_end c)).1 in
      absurd (omega (arith, stop, byte_inside text r line_end c))
  lines-once (line {q = q} s b l) (last t) =
      let stop = (items-once s t (byte_begins q line_end b) end_stops).1 in
      absurd (omega (arith, stop, byte_inside text q line_end b))
  lines-once (line {q = q} {lines = ls} s b l) (line {q = r} {lines = ms} t c m) =
      let here = items-once s t (byte_begins q line_end b) (byte_begins r line_end c) in
      let more = lines-once l (subst (λ (x : ℕ). Lines text (x + 1) ms) (sym here.1) m) in
      ap₂ {C = List Items} (λ x y. counted x y) here.0 more

-- ---- the header

-- a name and what follows it, where no digit follows
name_once : (k l : ℕ) (s t : List ℕ) → leb k max_mask ≡ true → leb l max_mask ≡ true → digit_here s ≡ false → digit_here t ≡ false
    → mask_name k ++ s ≡ mask_name l ++ t → (k ≡ l) × (s ≡ t)
name_once k l s t low low' d d' e =
    let number : Some k ≡ Some l =
    sym (name_read k s (leb-true k max_mask low) d) ∙ ap mask_at e ∙ name_read l t (leb-true l max_mask low') d' in
    let same : k ≡ l = cc in (
      same,
      sym (drop_at (mask_name k) s (name_length k) (name_length_lem k)) ∙ ap₂ (λ (x : ℕ) w. drop (name_length x) w) same e
          ∙ drop_at (mask_name l) t (name_length l) (name_length_lem l),
    )

further-digit : (ks rest : List ℕ) → digit_here (further-names ks ++ (bracket ∷ rest)) ≡ false
further-digit [] rest = refl
further-digit (k ∷ ks) rest = refl

-- names up to the bracket that closes the list
further-once : (ks ls s t : List ℕ) → every (λ k. leb k max_mask) ks ≡ true → every (λ k. leb k max_mask) ls ≡ true
    → further-names ks ++ (bracket ∷ s) ≡ further-names ls ++ (bracket ∷ t) → ks ≡ ls
further-once [] [] s t low low' e = refl
further-once [] (l ∷ ls) s t low low' e = let z : ◌≡◌ {A = ℕ} bracket comma = ap (λ w. get_or w 0 0) e in absurd (omega (arith, z))
further-once (k ∷ ks) [] s t low low' e = let z : ◌≡◌ {A = ℕ} comma bracket = ap (λ w. get_or w 0 0) e in absurd (omega (arith, z))
further-once (k ∷ ks) (l ∷ ls) s t low low' e =
    let all : List ℕ → Bool = every (λ k. leb k max_mask) in
    let first =
    name_once k l (further-names ks ++ (bracket ∷ s)) (further-names ls ++ (bracket ∷ t)) (and_left (leb k max_mask) (all ks) low)
    (and_left (leb l max_mask) (all ls) low') (further-digit ks s) (further-digit ls t)
    (sym (append_assoc (mask_name k) (further-names ks) (bracket ∷ s)) ∙ ap (drop 2) e ∙ append_assoc (mask_name l) (further-names ls) (bracket ∷ t)) in
    ap₂ {C = List ℕ} (λ x xs. x ∷ xs) first.0
    (further-once ks ls s t (and_right (leb k max_mask) (all ks) low) (and_right (leb l max_mask) (all ls) low') first.1)

joined_once : (ks ls s t : List ℕ) → every (λ k. leb k max_mask) ks ≡ true → every (λ k. leb k max_mask) ls ≡ true
    → joined ks ++ (bracket ∷ s) ≡ joined ls ++ (bracket ∷ t) → ks ≡ ls
joined_once [] [] s t low low' e = refl
joined_once [] (l ∷ ls) s t low low' e = let z : ◌≡◌ {A = ℕ} bracket letter_r = ap (λ w. get_or w 0 0) e in absurd (omega (arith, z))
joined_once (k ∷ ks) [] s t low low' e = let z : ◌≡◌ {A = ℕ} letter_r bracket = ap (λ w. get_or w 0 0) e in absurd (omega (arith, z))
joined_once (k ∷ ks) (l ∷ ls) s t low low' e = further-once (k ∷ ks) (l ∷ ls) s t low low' (ap {B = List ℕ} (λ w. comma ∷ space ∷ w) e)

module _ (text : List ℕ) (d : Description) (s : Spells text d) where
  abbrev after : List ℕ
  after = drop (length (header_text d.order d.names)) text

  -- the text is the two header lines and what follows them
  whole : text ≡ header_text d.order d.names ++ after
  whole = sym (take-append-drop (length (header_text d.order d.names)) text) ∙ ap (λ w. w ++ after) s.header

  order_there : get_or text 8 0 ≡ figure d.order
  order_there = ap (λ l. get_or l 8 0) whole

  names_there : drop 19 text ≡ joined d.names ++ (bracket ∷ after)
  names_there = ap (drop 19) whole ∙ append_assoc (joined d.names) (bracket ∷ []) after

pub spelled-once : (text : List ℕ) (d e : Description) → Spells text d → Spells text e → d ≡ e
spelled-once text d e s t =
    let there = order_there text d s in
    let there' = order_there text e t in
    let orders : d.order ≡ e.order = omega (arith, there, there') in
    let names : d.names ≡ e.names =
    joined_once d.names e.names (after text d s) (after text e t) s.name_numbers t.name_numbers
    (sym (names_there text d s) ∙ names_there text e t) in
    let starts = ap₂ (λ (x : ℕ) (ks : List ℕ). length (header_text x ks)) orders names in
    let lines : d.lines ≡ e.lines =
    lines-once text s.output_lines (subst (λ (at : ℕ). Lines text at e.lines) (sym starts) t.output_lines) in
    ap₂ {C = Description} (λ x ks. record { order = x; names = ks; lines = d.lines }) orders names
    ∙ ap {B = Description} (λ ls. record { order = e.order; names = e.names; lines = ls }) lines
