-- The run lists the wires of the events of the items that it reads.
--     Follows           from one state to another the run has listed the wires of events, and kept what it has seen, added and used last
--     worked_follows    the items of a group, from its start on, and their sum
use Prim.Native.Nat.{ℕ, ◌-◌, ◌≤◌}
use mathlib.Core.Path.{◌≡◌, refl, sym, ◌∙◌, ap, ap₂}
use mathlib.Core.Bool.{Bool, true, false, cond, ◌||◌, true≢false, false≢true, or_assoc, or-false}
use mathlib.Core.List.{List, [], ◌∷◌, ◌++◌, append-nil, append_assoc, reverse_aux, reverse_aux-append}
use lib.Dec.{leb}
use Rattle.limits.specs.Limits.{max_shares}
use Rattle.basics.specs.Folds.{some, every}
use Rattle.basics.proofs.Tests.{and_left, and_right}
use Rattle.records.specs.Layout.{plus_sum}
use Rattle.record_words.specs.Symbols.{is_in, symbol_sum}
use Rattle.record_words.proofs.Naming.{sum-none}
use Rattle.records.specs.declared.sums.Sum.{Sum}
use Rattle.description.specs.Symbols.{max_mask}
use Rattle.description.specs.Listing.{symbol_wire, addition_wire, empty_group}
use Rattle.description.specs.Run.{State, put, took, within, opened, symbol_item, group_item}
use Rattle.description.specs.Run as Run
use Rattle.description.specs.Grammar.{Items, none, symbol, group, symbols, known, sum_of, same_symbol, addition_of}
use Rattle.description.specs.Grammar.{Event, used, addition, worked, further, event_wires}
use Rattle.wires.specs.declared.Symbol.{Symbol}
use Rattle.description.specs.declared.PlacedSymbol.{PlacedSymbol}
use Rattle.description.specs.declared.Listed.{Listed}
use Rattle.description.specs.declared.Item.{Item}
use Rattle.description.specs.declared.Group.{Group}
use Rattle.description.proofs.Events.{known-group, symbols-group, adds, last_used, seen_after}
use Rattle.description.proofs.Events.{wires-append, seen-append, last-append, adds_append}
use Rattle.description.proofs.Sums.{sum-append}
use Rattle.description.proofs.Seeing.{SeenBy, symbol-seen}
use Rattle.description.proofs.After.{after_items}

-- the group has items, from this place on, that add up these symbols
record Holds (g : Group) (l : List Symbol) (first : ℕ) : Type 0 where
  is_filled : g.filled ≡ true
  adds_up : g.sum ≡ sum_of l
  begins : g.first ≡ first

module _ (shares : ℕ) (names : List ℕ) where
  pub record Follows (es : List Event) (seen : List Symbol) (s t : State) : Type 0 where
    pub listed : t.wires ≡ reverse_aux (event_wires es seen) s.wires
    pub seen_by : SeenBy shares names t.seen (seen_after es seen)
    pub additions : t.added ≡ (s.added || some adds es)
    pub last_use : t.last ≡ last_used es s.last

  follows_none : (s : State) (seen : List Symbol) → SeenBy shares names s.seen seen → Follows [] seen s s
  follows_none s seen h = record { listed = refl; seen_by = h; additions = sym (or-false s.added); last_use = refl }

  follows_both : (es fs : List Event) (seen : List Symbol) (s t u : State) → Follows es seen s t → Follows fs (seen_after es seen) t u
      → Follows (es ++ fs) seen s u
  follows_both es fs seen s t u f g = record {
    listed = g.listed ∙ ap (reverse_aux (event_wires fs (seen_after es seen))) f.listed
        ∙ sym (ap (λ ws. reverse_aux ws s.wires) (wires-append es fs seen)
        ∙ reverse_aux-append (event_wires es seen) (event_wires fs (seen_after es seen)) s.wires);
    seen_by = λ x k. g.seen_by x k ∙ ap (some (same_symbol x)) (sym (seen-append es fs seen));
    additions = g.additions ∙ ap (λ (b : Bool). b || some adds fs) f.additions ∙ or_assoc s.added (some adds es) (some adds fs)
        ∙ ap (λ (b : Bool). s.added || b) (sym (adds_append es fs));
    last_use = g.last_use ∙ ap (last_used fs) f.last_use ∙ sym (last-append es fs s.last);
  }

  -- the state after the items in parentheses, before their group is put into the one around it
  abbrev inner : ℕ → Items → State → State
  inner o inside s = within s.group s.around (after_items inside (opened o s))

  follows_inside : (o : ℕ) (inside : Items) (s : State) (es : List Event) (seen : List Symbol)
      → Follows es seen (opened o s) (after_items inside (opened o s)) → Follows es seen s (inner o inside s)
  follows_inside o inside s es seen f =
      record { listed = f.listed; seen_by = f.seen_by; additions = f.additions; last_use = f.last_use }

  -- the state where the innermost group has an item, or has none
  abbrev filled_so : Bool → State → State
  filled_so b s = within (record { sum = s.group.sum; filled = b; first = s.group.first }) s.around s

  -- an item put into a group that has none
  put_first : (item : Item) (s : State) (seen k : List Symbol) → s.group.filled ≡ false → item.sum ≡ sum_of k
      → SeenBy shares names s.seen seen
      → Follows [] seen s (put item s) × Holds (put item s).group k item.from
  put_first item s seen k e a h =
      let after : Bool → State = λ b. put item (filled_so b s) in (
        record {
          listed = ap (λ (b : Bool). (after b).wires) e;
          seen_by = h;
          additions = ap (λ (b : Bool). (after b).added) e;
          last_use = refl;
        },
        record {
          is_filled = ap (λ (b : Bool). (after b).group.filled) e;
          adds_up = ap (λ (b : Bool). (after b).group.sum) e ∙ a;
          begins = ap (λ (b : Bool). (after b).group.first) e;
        },
      )

  -- an item added
  put-further : (item : Item) (s : State) (seen k l : List Symbol) (first : ℕ) → Holds s.group l first → item.sum ≡ sum_of k
      → SeenBy shares names s.seen seen
      → Follows (addition (l ++ k) first (item.end - first) ∷ []) seen s (put item s) × Holds (put item s).group (l ++ k) first
  put-further item s seen k l first holds a h =
      let after : Bool → State = λ b. put item (filled_so b s) in
      let e = holds.is_filled in
      let total : plus_sum s.group.sum item.sum ≡ sum_of (l ++ k) = ap₂ plus_sum holds.adds_up a ∙ sym (sum-append l k) in
      let wire : addition_wire s.group item ≡ addition_of (l ++ k) first (item.end - first) =
      ap₂ (λ (x : Sum) (f : ℕ). record { sum = x; outer = false; line = 0; offset = f; length = item.end - f }) total holds.begins in (
        record {
          listed = ap (λ (b : Bool). (after b).wires) e ∙ ap {B = List Listed} (λ (w : Listed). w ∷ s.wires) wire;
          seen_by = h;
          additions = ap (λ (b : Bool). (after b).added) e;
          last_use = refl;
        },
        record {
          is_filled = ap (λ (b : Bool). (after b).group.filled) e;
          adds_up = ap (λ (b : Bool). (after b).group.sum) e ∙ total;
          begins = ap (λ (b : Bool). (after b).group.first) e ∙ holds.begins;
        },
      )

  -- an item and what was worked out for it, then the items after it
  module _ (es : List Event) (item : Item) (is : Items) (seen k : List Symbol) (s t : State) (before : Follows es seen s t)
      (a : item.sum ≡ sum_of k) where
    abbrev Goes : List Event → List Symbol → Type 0
    Goes fs l = Follows fs seen s (after_items is (put item t)) × ((after_items is (put item t)).group.sum ≡ sum_of (l ++ symbols is))

    abbrev Rest : List Symbol → ℕ → Type 0
    Rest l first =
        Holds (put item t).group l first → Follows (further is l first) (seen_after es seen) (put item t) (after_items is (put item t))
        × ((after_items is (put item t)).group.sum ≡ sum_of (l ++ symbols is))

    item-first : t.group.filled ≡ false → Rest k item.from → Goes (es ++ further is k item.from) k
    item-first e rest =
        let seen' = seen_after es seen in
        let now = put_first item t seen' k e a before.seen_by in
        let more = rest now.1 in (
          follows_both es (further is k item.from) seen s t (after_items is (put item t)) before
              (follows_both [] (further is k item.from) seen' t (put item t) (after_items is (put item t)) now.0 more.0),
          more.1,
        )

    item-further : (l : List Symbol) (first : ℕ) → Holds t.group l first → Rest (l ++ k) first
        → Goes (es ++ (addition (l ++ k) first (item.end - first) ∷ further is (l ++ k) first)) (l ++ k)
    item-further l first holds rest =
        let seen' = seen_after es seen in
        let sum = addition (l ++ k) first (item.end - first) in
        let now = put-further item t seen' k l first holds a before.seen_by in
        let more = rest now.1 in (
          follows_both es (sum ∷ further is (l ++ k) first) seen s t (after_items is (put item t)) before
              (follows_both (sum ∷ []) (further is (l ++ k) first) seen' t (put item t) (after_items is (put item t)) now.0 more.0),
          more.1,
        )

  module _ (few : shares ≤ max_shares) (low : every (λ k. leb k max_mask) names ≡ true) where
    follows_used : (p : PlacedSymbol) (s : State) (seen : List Symbol) → SeenBy shares names s.seen seen → known shares names p.symbol ≡ true
        → Follows (used p ∷ []) seen s (Run.used p s)
    follows_used p s seen h k = record {
      listed = go (is_in p.symbol s.seen) (some (same_symbol p.symbol) seen) (h p.symbol k);
      seen_by = symbol-seen shares names few low s.seen seen p.symbol h k;
      additions = sym (or-false s.added);
      last_use = refl;
    }
      where
        go : (a b : Bool) → a ≡ b → cond a s.wires (symbol_wire p ∷ s.wires) ≡ reverse_aux (cond b [] (symbol_wire p ∷ [])) s.wires
        go true true e = refl
        go true false e = absurd (true≢false e)
        go false true e = absurd (false≢true e)
        go false false e = refl

    abbrev Allowed : Items → Type 0
    Allowed is = every (known shares names) (symbols is) ≡ true

    mutual
      pub worked_follows : (is : Items) (s : State) (seen : List Symbol) → s.group ≡ empty_group → Allowed is → SeenBy shares names s.seen seen
          → Follows (worked is) seen s (after_items is s) × ((after_items is s).group.sum ≡ sum_of (symbols is))
      worked_follows none s seen e k h = (follows_none s seen h, ap (λ (g : Group). g.sum) e)
      worked_follows (symbol p is) s seen e k h =
          let one = follows_used p s seen h (and_left (known shares names p.symbol) (every (known shares names) (symbols is)) k) in
          item-first (used p ∷ []) (symbol_item p) is seen (p.symbol ∷ []) s (Run.used p s) one (sym (sum-none (symbol_sum p.symbol)))
          (ap (λ (g : Group). g.filled) e)
          (λ g. further_follows is (took p s) (seen_after (used p ∷ []) seen) (p.symbol ∷ []) p.place g
          (and_right (known shares names p.symbol) (every (known shares names) (symbols is)) k) one.seen_by)
      worked_follows (group o inside c is) s seen e k h =
          let parts = known-group shares names o inside c is k in
          let one = worked_follows inside (opened o s) seen refl parts.0 h in
          let item = group_item o c (after_items inside (opened o s)).group in
          let both = item-first (worked inside) item is seen (symbols inside) s (inner o inside s)
          (follows_inside o inside s (worked inside) seen one.0) one.1 (ap (λ (g : Group). g.filled) e)
          (λ g. further_follows is (put item (inner o inside s)) (seen_after (worked inside) seen) (symbols inside) o g parts.1
          one.0.seen_by) in
          (both.0, both.1 ∙ ap sum_of (sym (symbols-group o inside c is)))

      further_follows : (is : Items) (s : State) (seen l : List Symbol) (first : ℕ) → Holds s.group l first → Allowed is
          → SeenBy shares names s.seen seen
          → Follows (further is l first) seen s (after_items is s) × ((after_items is s).group.sum ≡ sum_of (l ++ symbols is))
      further_follows none s seen l first g k h = (follows_none s seen h, g.adds_up ∙ ap sum_of (sym (append-nil l)))
      further_follows (symbol p is) s seen l first holds k h =
          let one = follows_used p s seen h (and_left (known shares names p.symbol) (every (known shares names) (symbols is)) k) in
          let both = item-further (used p ∷ []) (symbol_item p) is seen (p.symbol ∷ []) s (Run.used p s) one (sym (sum-none (symbol_sum p.symbol)))
          l first holds
          (λ g. further_follows is (took p s) (seen_after (used p ∷ []) seen) (l ++ (p.symbol ∷ [])) first g
          (and_right (known shares names p.symbol) (every (known shares names) (symbols is)) k) one.seen_by) in
          (both.0, both.1 ∙ ap sum_of (append_assoc l (p.symbol ∷ []) (symbols is)))
      further_follows (group o inside c is) s seen l first holds k h =
          let parts = known-group shares names o inside c is k in
          let one = worked_follows inside (opened o s) seen refl parts.0 h in
          let item = group_item o c (after_items inside (opened o s)).group in
          let both = item-further (worked inside) item is seen (symbols inside) s (inner o inside s)
          (follows_inside o inside s (worked inside) seen one.0) one.1 l first holds
          (λ g. further_follows is (put item (inner o inside s)) (seen_after (worked inside) seen) (l ++ symbols inside) first g parts.1
          one.0.seen_by) in
          (both.0, both.1 ∙ ap sum_of (append_assoc l (symbols inside) (symbols is) ∙ ap (λ m. l ++ m) (sym (symbols-group o inside c is))))
