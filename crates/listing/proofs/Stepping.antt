-- The code's steps follow the run's: what each leaves as progress and in the table stands for what the run makes of the state.
--     follow               a step that follows for every list of groups around and of wires
--     Step                 the progress is the one named, and it follows the run's step
--     used_again, used-first     a later use of a symbol, its first use
--     put_first, put-added       the first item of a group, any other
--     took-step            a symbol used and put
--     line-added, line_single    the end of a line with an addition, of a single symbol
--     symbol-short         a symbol has at most three bytes
--     used-wires           a use lists at most one wire
use Prim.Native.Nat.{ℕ, ◌+◌, ◌-◌, ◌≤◌}
use native.Mathlib.Omega.{arith}
use mathlib.Core.Path.{◌≡◌, refl, sym, ◌∙◌, ap, ap₂, subst}
use mathlib.Core.Bool.{Bool, true, false, cond, not, ◌||◌, true≢false, or-true, or-false}
use mathlib.Core.List.{List, ◌∷◌}
use lib.Dec.{ltb}
use Rattle.basics.specs.Folds.{one_if}
use Rattle.wires.specs.declared.Symbol.{Symbol}
use Rattle.wires.specs.declared.Symbol.TheVariants.{Product, ShareA, ShareB, Mask}
use Rattle.records.specs.Layout.{plus_sum}
use Rattle.record_words.specs.Symbols.{symbol_sum, is_in}
use Rattle.records.specs.declared.sums.Sum.{Sum}
use Rattle.description.specs.Symbols.{symbol_length}
use Rattle.description.specs.Listing.{symbol_wire, made_outer, outer_wire, empty_group, addition_wire}
use Rattle.description.specs.Run.{Around, State, used, put, took, symbol_item, line_done, newest_outer}
use Rattle.description.specs.declared.PlacedSymbol.{PlacedSymbol}
use Rattle.description.specs.declared.Item.{Item}
use Rattle.description.specs.declared.Group.{Group}
use Rattle.description.specs.declared.Listed.{Listed}
use Rattle.listing.specs.declared.Progress.{Progress}
use Rattle.listing.specs.Progress.{Held, Stands, state_of, used_progress, put_progress, took_progress, line_progress, Follows, Lists, MakesOuter}

abbrev Step : List ℕ → Progress → List ℕ → Progress → Progress → (State → State) → Type 0
Step table p table' q named f = (q ≡ named) × Follows table p table' q f

-- a record with these fields
abbrev progress : ℕ → ℕ → Sum → ℕ → Bool → PlacedSymbol → Group → Progress
progress at wires seen lines added last group =
    record { at = at; wires = wires; seen = seen; lines = lines; added = added; last = last; group = group }

pub follow : (table table' : List ℕ) (p q : Progress) (f : State → State)
    → ((around : List Around) (ws : List Listed) → Held table p.wires ws → Stands table' q (f (state_of p around ws)))
    → Follows table p table' q f
unfolding Follows
follow table table' p q f h s stands =
    subst (λ (u : State). Stands table' q (f u)) (sym stands.state) (h s.around s.wires stands.held)

-- the step, where the progress is the one named
stepped : (table table' : List ℕ) (p q named : Progress) (f : State → State) → q ≡ named → Follows table p table' named f
    → Step table p table' q named f
stepped table table' p q named f e h = (e, subst (λ (u : Progress). Follows table p table' u f) (sym e) h)

-- a wire counted or not, and listed or not
counted : (table table' : List ℕ) (n : ℕ) (w : Listed) (ws : List Listed) (b : Bool) → (b ≡ true → table' ≡ table)
    → (b ≡ false → Lists table n table' w) → Held table n ws → Held table' (n + one_if (not b)) (cond b ws (w ∷ ws))
unfolding Lists
counted table table' n w ws true same lists held =
    let e : n + 0 ≡ n = omega arith in
    subst (λ (l : List ℕ). Held l (n + 0) ws) (sym (same refl)) (subst (λ (k : ℕ). Held table k ws) (sym e) held)
counted table table' n w ws false same lists held = lists refl ws held

module _ (table : List ℕ) (p : Progress) (known : PlacedSymbol) where
  follows_used : (table' : List ℕ) → (is_in known.symbol p.seen ≡ true → table' ≡ table)
      → (is_in known.symbol p.seen ≡ false → Lists table p.wires table' (symbol_wire known))
      → Follows table p table' (used_progress known p) (used known)
  follows_used table' same lists =
      follow table table' p (used_progress known p) (used known)
      (λ around ws held.
      record { state = refl; held = counted table table' p.wires (symbol_wire known) ws (is_in known.symbol p.seen) same lists held })

  -- the progress after a use, by whether it is a later one
  abbrev after : Bool → Progress
  after b =
      progress p.at (p.wires + one_if (not b)) (cond b p.seen (plus_sum p.seen (symbol_sum known.symbol))) p.lines p.added known
      p.group

  pub used_again : is_in known.symbol p.seen ≡ true
      → Step table p table (progress p.at p.wires p.seen p.lines p.added known p.group) (used_progress known p) (used known)
  used_again e =
      let z : p.wires ≡ p.wires + 0 = omega arith in
      stepped table table p (progress p.at p.wires p.seen p.lines p.added known p.group) (used_progress known p) (used known)
      (ap (λ (n : ℕ). progress p.at n p.seen p.lines p.added known p.group) z ∙ ap after (sym e))
      (follows_used table (λ _. refl) (λ f. absurd (true≢false (sym e ∙ f))))

  pub used-first : (table' : List ℕ) (w : Listed) (sum more : Sum) → is_in known.symbol p.seen ≡ false → w ≡ symbol_wire known
      → Lists table p.wires table' w → sum ≡ symbol_sum known.symbol → more ≡ plus_sum p.seen sum
      → Step table p table' (progress p.at (p.wires + 1) more p.lines p.added known p.group) (used_progress known p) (used known)
  used-first table' w sum more e ew lists es em =
      stepped table table' p (progress p.at (p.wires + 1) more p.lines p.added known p.group) (used_progress known p) (used known)
      (ap (λ (s : Sum). progress p.at (p.wires + 1) s p.lines p.added known p.group)
      (em ∙ ap (λ (s : Sum). plus_sum p.seen s) es)
      ∙ ap after (sym e))
      (follows_used table' (λ f. absurd (true≢false (sym f ∙ e))) (λ _. subst (λ (v : Listed). Lists table p.wires table' v) ew lists))

module _ (table : List ℕ) (p : Progress) (item : Item) where
  follows_put : (table' : List ℕ) → (p.group.filled ≡ false → table' ≡ table)
      → (p.group.filled ≡ true → Lists table p.wires table' (addition_wire p.group item))
      → Follows table p table' (put_progress item p) (put item)
  unfolding Lists
  follows_put table' same lists =
      follow table table' p (put_progress item p) (put item)
      (λ around ws held. record { state = refl; held = go around ws p.group.filled same lists held })
    where
      go : (around : List Around) (ws : List Listed) (b : Bool) → (b ≡ false → table' ≡ table)
          → (b ≡ true → Lists table p.wires table' (addition_wire p.group item)) → Held table p.wires ws
          → Held table' (p.wires + one_if b) (cond b (addition_wire p.group item ∷ ws) ws)
      go around ws true same lists held = lists refl ws held
      go around ws false same lists held =
          let e : p.wires + 0 ≡ p.wires = omega arith in
          subst (λ (l : List ℕ). Held l (p.wires + 0) ws) (sym (same refl)) (subst (λ (k : ℕ). Held table k ws) (sym e) held)

  abbrev begun : Group
  begun = record { sum = item.sum; filled = true; first = item.from }

  abbrev grown : Group
  grown = record { sum = plus_sum p.group.sum item.sum; filled = true; first = p.group.first }

  -- the progress after an item, by whether the group had one
  abbrev after_put : Bool → Progress
  after_put b =
      progress item.end (p.wires + one_if b) p.seen p.lines (p.added || b) p.last (cond b grown begun)

  pub put_first : p.group.filled ≡ false
      → Step table p table (progress item.end p.wires p.seen p.lines p.added p.last
      (record { sum = item.sum; filled = true; first = item.from }))
      (put_progress item p) (put item)
  put_first e =
      let z : p.wires ≡ p.wires + 0 = omega arith in
      stepped table table p (progress item.end p.wires p.seen p.lines p.added p.last begun) (put_progress item p) (put item)
      (ap₂ (λ (n : ℕ) (b : Bool). progress item.end n p.seen p.lines b p.last begun) z (sym (or-false p.added)) ∙ ap after_put (sym e))
      (follows_put table (λ _. refl) (λ f. absurd (true≢false (sym f ∙ e))))

  pub put-added : (table' : List ℕ) (total : Sum) → p.group.filled ≡ true → total ≡ plus_sum p.group.sum item.sum
      → Lists table p.wires table' (record { sum = total; outer = false; line = 0; offset = p.group.first; length = item.end - p.group.first })
      → Step table p table'
      (progress item.end (p.wires + 1) p.seen p.lines true p.last (record { sum = total; filled = true; first = p.group.first }))
      (put_progress item p) (put item)
  put-added table' total e et lists =
      stepped table table' p
      (progress item.end (p.wires + 1) p.seen p.lines true p.last (record { sum = total; filled = true; first = p.group.first }))
      (put_progress item p) (put item)
      (ap₂
      (λ (s : Sum) (b : Bool).
      progress item.end (p.wires + 1) p.seen p.lines b p.last (record { sum = s; filled = true; first = p.group.first }))
      et (sym (or-true p.added))
      ∙ ap after_put (sym e))
      (follows_put table' (λ f. absurd (true≢false (sym e ∙ f)))
      (λ _.
      subst
      (λ (s : Sum).
      Lists table p.wires table' (record { sum = s; outer = false; line = 0; offset = p.group.first; length = item.end - p.group.first }))
      et lists))

pub took-step : (t₀ t₁ t₂ : List ℕ) (p q r : Progress) (known : PlacedSymbol) (item : Item) → q ≡ used_progress known p
    → Follows t₀ p t₁ q (used known) → item ≡ symbol_item known → r ≡ put_progress item q → Follows t₁ q t₂ r (put item)
    → Step t₀ p t₂ r (took_progress known p) (took known)
unfolding Follows
took-step t₀ t₁ t₂ p q r known item eq f ei er g =
    (er ∙ ap₂ put_progress ei eq, λ s stands. subst (λ (i : Item). Stands t₂ r (put i (used known s))) ei (g (used known s) (f s stands)))

module _ (table : List ℕ) (p : Progress) where
  follows_line : (table' : List ℕ) → (p.added ≡ true → MakesOuter table p.wires table' p.lines)
      → (p.added ≡ false → Lists table p.wires table' (outer_wire p.lines p.last)) → Follows table p table' (line_progress p) line_done
  unfolding Lists MakesOuter
  follows_line table' makes lists =
      follow table table' p (line_progress p) line_done
      (λ around ws held. record { state = refl; held = go ws p.added makes lists held })
    where
      go : (ws : List Listed) (b : Bool) → (b ≡ true → MakesOuter table p.wires table' p.lines)
          → (b ≡ false → Lists table p.wires table' (outer_wire p.lines p.last)) → Held table p.wires ws
          → Held table' (p.wires + one_if (not b)) (cond b (newest_outer p.lines ws) (outer_wire p.lines p.last ∷ ws))
      go ws true makes lists held =
          let e : p.wires + 0 ≡ p.wires = omega arith in
          subst (λ (k : ℕ). Held table' k (newest_outer p.lines ws)) (sym e) (makes refl ws held)
      go ws false makes lists held = lists refl ws held

  -- the progress after a line, by whether it has an addition
  abbrev after_line_lem : Bool → Progress
  after_line_lem b = progress p.at (p.wires + one_if (not b)) p.seen (p.lines + 1) false p.last empty_group

  pub line-added : (table' : List ℕ) (g : Group) → p.added ≡ true → g ≡ empty_group → MakesOuter table p.wires table' p.lines
      → Step table p table' (progress p.at p.wires p.seen (p.lines + 1) false p.last g) (line_progress p) line_done
  line-added table' g e eg makes =
      let z : p.wires ≡ p.wires + 0 = omega arith in
      stepped table table' p (progress p.at p.wires p.seen (p.lines + 1) false p.last g) (line_progress p) line_done
      (ap₂ (λ (n : ℕ) (h : Group). progress p.at n p.seen (p.lines + 1) false p.last h) z eg ∙ ap after_line_lem (sym e))
      (follows_line table' (λ _. makes) (λ f. absurd (true≢false (sym e ∙ f))))

  pub line_single : (table' : List ℕ) (g : Group) (w : Listed) → p.added ≡ false → g ≡ empty_group → w ≡ symbol_wire p.last
      → Lists table p.wires table' (made_outer p.lines w)
      → Step table p table' (progress p.at (p.wires + 1) p.seen (p.lines + 1) false p.last g) (line_progress p) line_done
  line_single table' g w e eg ew lists =
      stepped table table' p (progress p.at (p.wires + 1) p.seen (p.lines + 1) false p.last g) (line_progress p) line_done
      (ap (λ (h : Group). progress p.at (p.wires + 1) p.seen (p.lines + 1) false p.last h) eg ∙ ap after_line_lem (sym e))
      (follows_line table' (λ f. absurd (true≢false (sym f ∙ e)))
      (λ _. subst (λ (v : Listed). Lists table p.wires table' (made_outer p.lines v)) ew lists))

pub symbol-short : (s : Symbol) → symbol_length s ≤ 3
symbol-short (Product i j) = omega arith
symbol-short (ShareA i) = omega arith
symbol-short (ShareB j) = omega arith
symbol-short (Mask k) = go (ltb k 10)
  where
    go : (b : Bool) → cond {A = ℕ} b 2 3 ≤ 3
    go true = omega arith
    go false = omega arith

-- a use leaves the group, and lists at most one wire
pub used-wires : (known : PlacedSymbol) (p q : Progress) → q ≡ used_progress known p → q.wires ≤ p.wires + 1
used-wires known p q e = subst (λ (r : Progress). r.wires ≤ p.wires + 1) (sym e) (go (is_in known.symbol p.seen))
  where
    go : (b : Bool) → p.wires + one_if (not b) ≤ p.wires + 1
    go true = omega arith
    go false = omega arith
