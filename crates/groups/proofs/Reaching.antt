-- Where the run stands when a part of a text has been read.
--     stands-lines, fewer      the lines done, in the progress and in the state
--     symbol-known             a run of bytes that is a symbol has its length, and the symbol's bit stands within a record
--     word_taken               the longest run, taken from the text
--     word_fits, word_some     the longest run lies in the text, and is not empty where a byte does not part
--     once, put-begun          a wire at most for each test; the first item's place after an item is put
--     symbol-small             the symbol's bit stands within a record
--     symbol_went, symbol_wrong     the answers to a run of bytes
use Rattle.std.specs.Prelude.{Option, Some, None, Result, Ok, Err}
use Prim.Native.Nat.{ℕ, suc, ◌+◌, ◌-◌, ◌≤◌, ◌<◌}
use native.Mathlib.Omega.{arith}
use mathlib.Core.Path.{◌≡◌, refl, sym, ◌∙◌, ap, subst}
use mathlib.Core.Bool.{Bool, true, false, cond, not, ◌&&◌}
use mathlib.Core.List.{List, [], ◌∷◌}
use borrow.Author.Tests.{ltb-true, eqb-true, ne_eqb}
use lib.Dec.{eqb}
use lib.ListN.{length, take, drop, get_or, length-drop}
use lib.Seq.{take_at, length-take-le}
use Rattle.limits.specs.Limits.{max_shares, max_masks}
use Rattle.basics.specs.Folds.{one_if}
use Rattle.basics.proofs.Tests.{and_left, and_right}
use Rattle.wires.specs.declared.Symbol.{Symbol}
use Rattle.wires.specs.declared.Symbol.TheVariants.{Product, ShareA, ShareB, Mask}
use Rattle.records.specs.Words.{bit}
use Rattle.record_words.specs.Symbols.{is_in, Small}
use Rattle.description.specs.Bytes.{letter_s, letter_a, letter_b, parts, word}
use Rattle.description.specs.Symbols.{name_length, mask_at, share_digit, product_read, share_read, named_read, symbol_read, symbol_length, share_of}
use Rattle.records.specs.Layout.{plus_sum}
use Rattle.description.specs.Listing.{put_into}
use Rattle.description.specs.Run.{State, run_at, placed, took, symbol_item, symbol_refusal}
use Rattle.description.specs.declared.Item.{Item}
use Rattle.description.specs.declared.Group.{Group}
use Rattle.description.specs.declared.SymbolFault.{SymbolFault}
use Rattle.description.specs.declared.SymbolFault.TheVariants.{NoSuch, NotDeclared}
use Rattle.description.proofs.Names.{read_name}
use Rattle.description.proofs.Spelling.{figure-share}
use Rattle.description.proofs.Running.{drop_byte}
use Rattle.description.proofs.Places.{word-rest, word-inside}
use Rattle.description.proofs.Following.{symbol_long}
use Rattle.description.proofs.Passing.{at_symbol, at_fault}
use Rattle.listing.specs.declared.Progress.{Progress}
use Rattle.listing.specs.Progress.{Stands, took_progress, Follows}
use Rattle.groups.specs.Going.{Within, ItemWent, Stops}

pub stands-lines : {table : List ℕ} {p : Progress} {s : State} → Stands table p s → s.lines ≡ p.lines
stands-lines h = ap (λ (t : State). t.lines) h.state

pub fewer : {table : List ℕ} {p : Progress} {s : State} {shares : ℕ} → Stands table p s → p.lines < shares → eqb s.lines shares ≡ false
fewer {table} {p} {s} {shares} h less = ne_eqb s.lines shares (λ e. omega (arith, e, stands-lines h, less))

-- ---- symbols

no_symbol : {A : Type 0} {s : Symbol} → (Err NoSuch) ≡ Ok s → A
no_symbol e = let z : ◌≡◌ {A = ℕ} 0 1 = cc in absurd (omega (arith, z))

low_digit : (n c : ℕ) → n ≤ max_shares → share_digit n c ≡ true → share_of c < max_shares
low_digit n c h e = omega (arith, ltb-true (share_of c) n (figure-share n c e).1, h)

module _ (n : ℕ) (few : n ≤ max_shares) where
  known-product : (c : ℕ) (w : List ℕ) (s : Symbol) → product_read n w ≡ Ok s → (length (c ∷ w) ≡ symbol_length s) × Small s
  known-product c [] s e = no_symbol e
  known-product c (i ∷ []) s e = no_symbol e
  known-product c (i ∷ j ∷ []) s e = go (share_digit n i && share_digit n j) refl e
    where
      go : (b : Bool) → (share_digit n i && share_digit n j) ≡ b → cond b (Ok (Product (share_of i) (share_of j))) (Err NoSuch) ≡ Ok s
          → (3 ≡ symbol_length s) × Small s
      go true t e =
          let f : Product (share_of i) (share_of j) ≡ s = cc in (
            ap symbol_length f,
            subst Small f (
              low_digit n i few (and_left (share_digit n i) (share_digit n j) t),
              low_digit n j few
                  (and_right (share_digit n i) (share_digit n j) t),
            ),
          )
      go false t e = no_symbol e
  known-product c (i ∷ j ∷ k ∷ l) s e = no_symbol e

  known-share : (share : ℕ → Symbol) → ((i : ℕ) → 2 ≡ symbol_length (share i)) → ((i : ℕ) → i < max_shares → Small (share i)) → (c : ℕ) (w : List ℕ)
      (s : Symbol) → share_read share n w ≡ Ok s → (length (c ∷ w) ≡ symbol_length s) × Small s
  known-share share two small c [] s e = no_symbol e
  known-share share two small c (i ∷ []) s e = go (share_digit n i) refl e
    where
      go : (b : Bool) → share_digit n i ≡ b → cond b (Ok (share (share_of i))) (Err NoSuch) ≡ Ok s → (2 ≡ symbol_length s) × Small s
      go true t e =
          let f : share (share_of i) ≡ s = cc in (two (share_of i) ∙ ap symbol_length f, subst Small f (small (share_of i) (low_digit n i few t)))
      go false t e = no_symbol e
  known-share share two small c (i ∷ j ∷ l) s e = no_symbol e

known-mask : (declared : ℕ) (w : List ℕ) (s : Symbol) → named_read declared (length w) (mask_at w) ≡ Ok s
    → (length w ≡ symbol_length s) × Small s
known-mask declared w s e = go (mask_at w) refl e
  where
    go : (name : Option ℕ) → mask_at w ≡ name → named_read declared (length w) name ≡ Ok s → (length w ≡ symbol_length s) × Small s
    go None m e = no_symbol e
    go (Some k) m e = sized (eqb (length w) (name_length k)) refl e
      where
        sized : (b : Bool) → eqb (length w) (name_length k) ≡ b
            → cond b (cond (bit declared k) (Ok (Mask k)) (Err NotDeclared)) (Err NoSuch) ≡ Ok s → (length w ≡ symbol_length s) × Small s
        sized false t e = no_symbol e
        sized true t e = there (bit declared k) e
          where
            there : (b : Bool) → cond b (Ok (Mask k)) (Err NotDeclared) ≡ Ok s → (length w ≡ symbol_length s) × Small s
            there true e =
                let f : Mask k ≡ s = cc in
                let low = (read_name w k m).low in
                let less : k < max_masks = omega (arith, low) in
                (eqb-true (length w) (name_length k) t ∙ ap symbol_length f, subst Small f less)
            there false e = let z : ◌≡◌ {A = ℕ} 0 1 = cc in absurd (omega (arith, z))

symbol-known : (n declared : ℕ) (w : List ℕ) (s : Symbol) → n ≤ max_shares → symbol_read n declared w ≡ Ok s
    → (length w ≡ symbol_length s) × Small s
symbol-known n declared [] s few e = no_symbol e
symbol-known n declared (c ∷ w) s few e = product (eqb c letter_s) e
  where
    mask : (b : Bool) → cond b (share_read ShareB n w) (named_read declared (length (c ∷ w)) (mask_at (c ∷ w))) ≡ Ok s
        → (length (c ∷ w) ≡ symbol_length s) × Small s
    mask true e = known-share n few ShareB (λ i. refl) (λ i h. h) c w s e
    mask false e = known-mask declared (c ∷ w) s e

    share : (b : Bool)
        → cond b (share_read ShareA n w) (cond (eqb c letter_b) (share_read ShareB n w) (named_read declared (length (c ∷ w)) (mask_at (c ∷ w)))) ≡ Ok s
        → (length (c ∷ w) ≡ symbol_length s) × Small s
    share true e = known-share n few ShareA (λ i. refl) (λ i h. h) c w s e
    share false e = mask (eqb c letter_b) e

    product : (b : Bool)
        → cond b (product_read n w)
        (cond (eqb c letter_a) (share_read ShareA n w)
        (cond (eqb c letter_b) (share_read ShareB n w) (named_read declared (length (c ∷ w)) (mask_at (c ∷ w)))))
        ≡ Ok s
        → (length (c ∷ w) ≡ symbol_length s) × Small s
    product true e = known-product n few c w s e
    product false e = share (eqb c letter_a) e

word_taken : (l : List ℕ) → take (length (word l)) l ≡ word l
word_taken l = ap (take (length (word l))) (word-rest l) ∙ take_at (word l) (drop (length (word l)) l) (length (word l)) refl

pub word_fits : (text : List ℕ) (at size : ℕ) → at ≤ length text → size ≡ length (word (drop at text)) → at + size ≤ length text
word_fits text at size h e =
    let left = length-drop at text in let inside = word-inside (drop at text) in omega (arith, h, e, left, inside)

pub word_some : (text : List ℕ) (at size : ℕ) → at < length text → parts (get_or text at 0) ≡ false → size ≡ length (word (drop at text))
    → 1 ≤ length (take (at + size - at) (drop at text))
word_some text at size h joined e =
    let left = length-drop at text in
    let inside = word-inside (drop at text) in
    let taken = length-take-le (at + size - at) (drop at text) (omega (arith, e, inside)) in
    let f : length (word (drop at text)) ≡ suc (length (word (drop (at + 1) text))) =
    ap (λ l. length (word l)) (drop_byte text at h)
    ∙ ap (λ (b : Bool). length (cond {A = List ℕ} b [] (get_or text at 0 ∷ word (drop (at + 1) text)))) joined in
    omega (arith, e, f, taken)

pub once : (b : Bool) → one_if b ≤ 1
once true = omega arith
once false = omega arith

pub put-begun : (g : Group) (item : Item) (n : ℕ) → g.first ≤ n → item.from ≤ n → (put_into g item).first ≤ n
put-begun g item n h k = go g.filled
  where
    go : (b : Bool)
        → (cond {A = Group} b (record { sum = plus_sum g.sum item.sum; filled = true; first = g.first })
        (record { sum = item.sum; filled = true; first = item.from })).first ≤ n
    go true = h
    go false = k

-- ---- the answers to a run of bytes

module _ (shares declared : ℕ) (text table : List ℕ) (p : Progress) (few : shares ≤ max_shares) (w : Within (length text) p) (less : p.at < length text)
    (fewer-lines : p.lines < shares) (joined : parts (get_or text p.at 0) ≡ false) (size : ℕ)
    (sized : size ≡ length (word (drop p.at text))) where
  -- the part of the text that is read
  abbrev part : List ℕ
  part = take (p.at + size - p.at) (drop p.at text)

  -- what was read of the text is the longest run
  read_word : (answer : Result Symbol SymbolFault) → answer ≡ symbol_read shares declared part
      → symbol_read shares declared (word (drop p.at text)) ≡ answer
  read_word answer e =
      let whole : p.at + size - p.at ≡ length (word (drop p.at text)) = omega (arith, sized) in
      sym (e ∙ ap (λ (k : ℕ). symbol_read shares declared (take k (drop p.at text))) whole
      ∙ ap (symbol_read shares declared) (word_taken (drop p.at text)))

  pub symbol_wrong : (answer : Result Symbol SymbolFault) (fault : SymbolFault) → answer ≡ symbol_read shares declared part → answer ≡ Err fault
      → (room : ℕ) → Stops shares declared text room table p (symbol_refusal fault) p.at
  unfolding Stops
  symbol_wrong answer fault e f room s stands deep =
      at_fault shares declared text p.at s less (fewer stands fewer-lines) joined fault (read_word answer e ∙ f)

  module _ (answer : Result Symbol SymbolFault) (symbol : Symbol) (e : answer ≡ symbol_read shares declared part)
      (f : answer ≡ Ok symbol) where
    there : symbol_read shares declared (word (drop p.at text)) ≡ Ok symbol
    there = read_word answer e ∙ f

    long : (length (word (drop p.at text)) ≡ symbol_length symbol) × Small symbol
    long = symbol-known shares declared (word (drop p.at text)) symbol few there

    pub symbol-small : Small symbol
    symbol-small = long.1

    took-within : Within (length text) (took_progress (placed p.at symbol) p)
    took-within =
        let left = length-drop p.at text in
        let inside = word-inside (drop p.at text) in
        let two = symbol_long symbol in
        let used = once (not (is_in symbol p.seen)) in
        let added = once p.group.filled in
        let n = long.0 in
        record {
          inside = omega (arith, left, inside, n, less);
          few = omega (arith, used, added, two, w.few);
          begun = put-begun p.group (symbol_item (placed p.at symbol)) (p.at + symbol_length symbol) (omega (arith, w.begun)) (omega arith);
          small = symbol-small;
        }

    pub symbol_went : (table' : List ℕ) (q : Progress) → q ≡ took_progress (placed p.at symbol) p → Follows table p table' q (took (placed p.at symbol))
        → (room : ℕ) → ItemWent shares declared text room table p table' q
    unfolding Follows
    symbol_went table' q eq follows room =
        let two = symbol_long symbol in
        let place = ap (λ (r : Progress). r.at) eq in
        record {
          within = subst (Within (length text)) (sym eq) took-within;
          same_lines = ap (λ (r : Progress). r.lines) eq;
          forward = omega (arith, place, two);
          reached =
              λ s stands deep.
              record {
                state = took (placed p.at symbol) s;
                stands = follows s stands;
                enclosed = refl;
                goes =
                    (let some : 0 < length (word (drop p.at text)) = omega (arith, long.0, two) in
                    at_symbol shares declared text p.at s less (fewer stands fewer-lines) joined symbol there some
                    ∙ ap (λ (k : ℕ). run_at shares declared text k (took (placed p.at symbol) s))
                    (ap (λ (k : ℕ). p.at + k) long.0 ∙ sym place));
              };
        }
