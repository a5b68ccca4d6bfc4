-- The symbols seen: the run keeps them as a sum, the grammar as a list.
--     SeenBy          a sum names just the symbols of a list, among those of the order and the declared masks
--     none_seen       before the output lines, no symbol
--     symbol-seen     one symbol used more, listed only at its first use
--     after_seen      after items, their symbols too
use Prim.Native.Nat.{ℕ, ◌≤◌}
use mathlib.Core.Path.{◌≡◌, refl, sym, ◌∙◌, ap}
use mathlib.Core.Bool.{Bool, true, false, cond, ◌||◌, xor, true≢false, false≢true, or_assoc, or_comm}
use mathlib.Core.List.{List, [], ◌∷◌, ◌++◌}
use lib.Dec.{leb}
use Rattle.limits.specs.Limits.{max_shares}
use Rattle.basics.specs.Folds.{some, every}
use Rattle.basics.proofs.Tests.{and_left, and_right, xor-false, false-xor}
use Rattle.basics.proofs.Folds.{fold-append}
use Rattle.records.specs.Layout.{no_sum, plus_sum}
use Rattle.records.specs.declared.sums.Sum.{Sum}
use Rattle.record_words.specs.Symbols.{symbol_sum, is_in}
use Rattle.record_words.proofs.Naming.{none_in, symbol_more}
use Rattle.description.specs.Bytes.{same}
use Rattle.description.specs.Symbols.{max_mask, spelling}
use Rattle.description.specs.Run.{State, took, opened, closed}
use Rattle.description.specs.Grammar.{Items, none, symbol, group, symbols, known, same_symbol}
use Rattle.wires.specs.declared.Symbol.{Symbol}
use Rattle.description.proofs.Spelling.{known-formed, known_small, same-spelled, spelled_same}
use Rattle.description.proofs.Places.{same_bytes}
use Rattle.description.proofs.Events.{symbols-group, known-group}
use Rattle.description.proofs.After.{outside, after_items}

-- a symbol that is spelled as another is seen with it
seen_alike : (u v : Symbol) (l : List Symbol) → same_symbol u v ≡ true → some (same_symbol u) l ≡ some (same_symbol v) l
seen_alike u v l e = ap (λ w. some (λ t. same w (spelling t)) l) (same_bytes (spelling u) (spelling v) e)

seen_swapped : (f : Symbol → Bool) (j k l : List Symbol) → some f (j ++ (k ++ l)) ≡ some f ((k ++ j) ++ l)
seen_swapped f j k l =
    let parts = fold-append ◌||◌ false (λ b. refl) or_assoc f in
    parts j (k ++ l) ∙ ap (λ (b : Bool). some f j || b) (parts k l) ∙ sym (or_assoc (some f j) (some f k) (some f l))
    ∙ ap (λ (b : Bool). b || some f l) (or_comm (some f j) (some f k) ∙ sym (parts k j)) ∙ sym (parts (k ++ j) l)

module _ (shares : ℕ) (names : List ℕ) where
  abbrev pub SeenBy : Sum → List Symbol → Type 0
  SeenBy t l = (u : Symbol) → known shares names u ≡ true → is_in u t ≡ some (same_symbol u) l

  pub none_seen : SeenBy no_sum []
  none_seen u k = none_in u

  module _ (few : shares ≤ max_shares) (low : every (λ k. leb k max_mask) names ≡ true) where
    module _ (t : Sum) (l : List Symbol) (v : Symbol) (seen : SeenBy t l) (known-v : known shares names v ≡ true) where
      -- not seen before
      fresh : is_in v t ≡ false → SeenBy (plus_sum t (symbol_sum v)) (v ∷ l)
      fresh new u k =
          symbol_more u v t (same_symbol u v) (known_small shares names v few low known-v)
          (same-spelled u v (known-formed shares names u few low k) (known-formed shares names v few low known-v)) (spelled_same u v)
          ∙ go (same_symbol u v) refl (is_in u t) refl
        where
          go : (a : Bool) → same_symbol u v ≡ a → (b : Bool) → is_in u t ≡ b → xor b a ≡ (a || some (same_symbol u) l)
          go false e b f = xor-false b ∙ sym f ∙ seen u k
          go true e true f = absurd (true≢false (sym f ∙ seen u k ∙ seen_alike u v l e ∙ sym (seen v known-v) ∙ new))
          go true e false f = false-xor true

      -- seen before
      again : is_in v t ≡ true → SeenBy t (v ∷ l)
      again old u k = seen u k ∙ go (same_symbol u v) refl
        where
          go : (a : Bool) → same_symbol u v ≡ a → some (same_symbol u) l ≡ (a || some (same_symbol u) l)
          go true e = seen_alike u v l e ∙ sym (seen v known-v) ∙ old
          go false e = refl

      pub symbol-seen : SeenBy (cond (is_in v t) t (plus_sum t (symbol_sum v))) (cond (some (same_symbol v) l) l (v ∷ l))
      symbol-seen = go (is_in v t) refl (some (same_symbol v) l) (seen v known-v)
        where
          go : (a : Bool) → is_in v t ≡ a → (b : Bool) → is_in v t ≡ b → SeenBy (cond a t (plus_sum t (symbol_sum v))) (cond b l (v ∷ l))
          go true e true f = seen
          go true e false f = absurd (true≢false (sym e ∙ f))
          go false e true f = absurd (false≢true (sym e ∙ f))
          go false e false f = fresh e

      used-seen : SeenBy (cond (is_in v t) t (plus_sum t (symbol_sum v))) (v ∷ l)
      used-seen = go (is_in v t) refl
        where
          go : (a : Bool) → is_in v t ≡ a → SeenBy (cond a t (plus_sum t (symbol_sum v))) (v ∷ l)
          go true e = again e
          go false e = fresh e

    pub after_seen : (is : Items) (s : State) (l : List Symbol) → SeenBy s.seen l → every (known shares names) (symbols is) ≡ true
        → SeenBy (after_items is s).seen (symbols is ++ l)
    after_seen none s l h k u j = h u j
    after_seen (symbol p is) s l h k u j =
        after_seen is (took p s) (p.symbol ∷ l)
        (used-seen s.seen l p.symbol h (and_left (known shares names p.symbol) (every (known shares names) (symbols is)) k))
        (and_right (known shares names p.symbol) (every (known shares names) (symbols is)) k) u j
        ∙ seen_swapped (same_symbol u) (symbols is) (p.symbol ∷ []) l
    after_seen (group o inside c is) s l h k u j =
        let parts = known-group shares names o inside c is k in
        after_seen is (closed c (outside o s) s.around (after_items inside (opened o s))) (symbols inside ++ l)
        (after_seen inside (opened o s) l h parts.0) parts.1 u j
        ∙ seen_swapped (same_symbol u) (symbols is) (symbols inside) l ∙ ap (λ m. some (same_symbol u) (m ++ l)) (sym (symbols-group o inside c is))
