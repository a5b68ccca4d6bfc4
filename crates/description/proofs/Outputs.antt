-- The run over output lines that a text spells: it is done, and has listed their wires.
--     lines-run    the run over output lines within the limits is done, and has listed their wires
use Prim.Native.Nat.{ℕ, ◌+◌, ◌≤◌}
use native.Mathlib.Omega.{arith}
use mathlib.Core.Path.{◌≡◌, refl, sym, ◌∙◌, ap, ap₂}
use mathlib.Core.Bool.{Bool, true, false, cond, not, ◌&&◌, ◌||◌, true≢false}
use mathlib.Core.List.{List, [], ◌∷◌, ◌++◌, append-nil, reverse_aux, reverse, reverse_aux-append, reverse-reverse}
use borrow.Author.Tests.{le-ltb, leb-true}
use lib.Dec.{leb}
use lib.ListN.{length}
use Rattle.limits.specs.Limits.{max_shares}
use Rattle.basics.specs.Folds.{some, every}
use Rattle.basics.proofs.Tests.{and_left, and_right, and_both}
use Rattle.description.specs.Symbols.{max_mask}
use Rattle.description.specs.Bytes.{line_end}
use Rattle.description.specs.Listing.{empty_group, outer_wire}
use Rattle.description.specs.Run.{State, done, refused, go, finish, line_step, line_done, newest_outer, run_at, max_depth, start}
use Rattle.description.specs.Grammar.{Items, none, symbol, group, Byte, empty, counted, symbols, depth, known}
use Rattle.description.specs.Grammar.{Spelled, end, spaced, a_symbol, a_group, Lines, last, line}
use Rattle.description.specs.Grammar.{uses, worked, event_wires, outered, line_wires, lines_wires}
use Rattle.wires.specs.declared.Symbol.{Symbol}
use Rattle.description.specs.declared.PlacedSymbol.{PlacedSymbol}
use Rattle.description.specs.declared.Listed.{Listed}
use Rattle.description.specs.declared.Group.{Group}
use Rattle.description.specs.declared.Refusal.TheVariants.{WrongLineCount}
use Rattle.description.proofs.Running.{run_end}
use Rattle.description.proofs.Spelling.{Declares}
use Rattle.description.proofs.Places.{byte_inside, byte_at}
use Rattle.description.proofs.Passing.{at_line_end}
use Rattle.description.proofs.Events.{whole, adds, last_used, some-used, single_worked, several_worked, newest_last}
use Rattle.description.proofs.After.{after_items, after_around, after_lines, after_filled}
use Rattle.description.proofs.Seeing.{SeenBy, none_seen, after_seen}
use Rattle.description.proofs.Tracing.{Follows, worked_follows}
use Rattle.description.proofs.Following.{spelled-run}

-- no group of items that are spelled is empty
spelled-whole : {text : List ℕ} {p q : ℕ} {is : Items} → Spelled text p is q → whole is ≡ true
spelled-whole end = refl
spelled-whole (spaced b r) = spelled-whole r
spelled-whole (a_symbol u f b w r) = spelled-whole r
spelled-whole (a_group {inside = inside} {is = is} b r f e k) =
    and_both (not (empty inside)) (whole inside && whole is) (ap not f) (and_both (whole inside) (whole is) (spelled-whole r) (spelled-whole k))

-- the wires at a line's end, by the line's number, whether it has an addition, its last symbol, and the wires listed
abbrev ended : ℕ → Bool → PlacedSymbol → List Listed → List Listed
ended n added p ws = cond added (newest_outer n ws) (outer_wire n p ∷ ws)

module _ (shares : ℕ) (names : List ℕ) (few : shares ≤ max_shares) (low : every (λ k. leb k max_mask) names ≡ true) where
  -- after an output line its wires are listed, the outer one among them
  line-wires : (is : Items) (s : State) (seen : List Symbol) → whole is ≡ true → empty is ≡ false → s.group ≡ empty_group → s.added ≡ false
      → every (known shares names) (symbols is) ≡ true → SeenBy shares names s.seen seen
      → (line_done (after_items is s)).wires ≡ reverse_aux (line_wires seen s.lines is) s.wires
  line-wires is s seen w f clear unadded k h = by_uses (uses is) refl
    where
      t : State
      t = after_items is s

      n : ℕ
      n = s.lines

      traced : Follows shares names (worked is) seen s t
      traced = (worked_follows shares names few low is s seen clear k h).0

      told : (added : Bool) (p : PlacedSymbol) → t.added ≡ added → t.last ≡ p
          → ended t.lines t.added t.last t.wires ≡ ended n added p (reverse_aux (event_wires (worked is) seen) s.wires)
      told added p d e =
          ap₂ (λ (m : ℕ) (ws : List Listed). ended m t.added t.last ws) (after_lines is s) traced.listed
          ∙ ap₂ (λ (b : Bool) (q : PlacedSymbol). ended n b q (reverse_aux (event_wires (worked is) seen) s.wires)) d e

      by_uses : (us : List PlacedSymbol) → uses is ≡ us
          → ended t.lines t.added t.last t.wires ≡ reverse_aux (outered n us (event_wires (worked is) seen)) s.wires
      by_uses [] e =
          let positive = some-used is w f in
          let size = ap length e in
          absurd (omega (arith, positive, size))
      by_uses (p ∷ []) e =
          let alone = single_worked is p w e in
          told false p (traced.additions ∙ ap₂ (λ a es. a || some adds es) unadded alone)
          (traced.last_use ∙ ap (λ es. last_used es s.last) alone)
          ∙ sym (reverse_aux-append (event_wires (worked is) seen) (outer_wire n p ∷ []) s.wires)
      by_uses (p ∷ q ∷ ps) e =
          let several = several_worked is p q ps w e in
          told true t.last (traced.additions ∙ ap₂ ◌||◌ unadded several) refl ∙ newest_last n (worked is) seen s.wires several

-- ---- the lines

module _ (text : List ℕ) (shares declared : ℕ) (names : List ℕ) (few : shares ≤ max_shares) (d : Declares declared names) where
  -- the state before output lines
  record Before (s : State) (seen : List Symbol) (lines : List Items) : Type 0 where
    clear : s.group ≡ empty_group
    alone : s.around ≡ []
    unadded : s.added ≡ false
    seen_by : SeenBy shares names s.seen seen
    count : s.lines + length lines ≡ shares
    shallow : every (λ is. leb (depth is) max_depth) lines ≡ true
    allowed : every (λ is. every (known shares names) (symbols is)) lines ≡ true

  abbrev Done : ℕ → State → List Symbol → List Items → Type 0
  Done p s seen lines =
      (t : State) × (run_at shares declared text p s ≡ done t) × (t.wires ≡ reverse_aux (lines_wires lines seen s.lines) s.wires)

  -- the text's end, with all lines done
  at_end : (s t : State) → s.around ≡ [] → cond s.group.filled (line_done s) s ≡ t → t.lines ≡ shares
      → run_at shares declared text (length text) s ≡ done t
  at_end s t e f n =
      run_end shares declared text (length text) s (omega arith) ∙ ap (λ around. finish shares (length text) (line_step around s)) e
      ∙ ap (λ (x : State). finish shares (length text) (go 0 x)) f
      ∙ ap (λ (b : Bool). cond b (refused WrongLineCount (length text)) (done t)) (le-ltb t.lines shares (omega (arith, n)))

  not_filled : (s : State) → s.group ≡ empty_group → cond s.group.filled (line_done s) s ≡ s
  not_filled s e = ap (λ (g : Group). cond g.filled (line_done s) s) e

  module _ (s : State) (seen : List Symbol) where
    -- an output line
    module _ (is : Items) (lines : List Items) (w : whole is ≡ true) (f : empty is ≡ false) (h : Before s seen (is ∷ lines)) where
      abbrev t : State
      t = after_items is s

      allowed-line : every (known shares names) (symbols is) ≡ true
      allowed-line = and_left (every (known shares names) (symbols is)) (every (λ is. every (known shares names) (symbols is)) lines) h.allowed

      line-run : (p q : ℕ) → Spelled text p is q → run_at shares declared text p s ≡ run_at shares declared text q t
      line-run p q r =
          let few-deep =
          leb-true (depth is) max_depth
          (and_left (leb (depth is) max_depth) (every (λ is. leb (depth is) max_depth) lines) h.shallow) in
          let outermost = ap length h.alone in
          let counted = h.count in
          spelled-run text shares declared names few d r s (λ e. omega (arith, counted)) allowed-line (omega (arith, few-deep, outermost))

      line_filled : cond t.group.filled (line_done t) t ≡ line_done t
      line_filled = ap (λ (b : Bool). cond b (line_done t) t) (after_filled is s f)

      line_alone : t.around ≡ []
      line_alone = after_around is s ∙ h.alone

      wires_of-line : (line_done t).wires ≡ reverse_aux (line_wires seen s.lines is) s.wires
      wires_of-line = line-wires shares names few d.low is s seen w f h.clear h.unadded allowed-line h.seen_by

      after_line : Before (line_done t) (symbols is ++ seen) lines
      after_line =
          let same_lines = after_lines is s in
          let counted = h.count in
          record {
            clear = refl;
            alone = line_alone;
            unadded = refl;
            seen_by = after_seen shares names few d.low is s seen h.seen_by allowed-line;
            count = omega (arith, same_lines, counted);
            shallow = and_right (leb (depth is) max_depth) (every (λ is. leb (depth is) max_depth) lines) h.shallow;
            allowed =
                and_right (every (known shares names) (symbols is)) (every (λ is. every (known shares names) (symbols is)) lines) h.allowed;
          }

      -- a line before others
      line-next : (p q : ℕ) → Spelled text p is q → Byte text q line_end → Done (q + 1) (line_done t) (symbols is ++ seen) lines
          → Done p s seen (is ∷ lines)
      line-next p q r b rest = (
        rest.0,
        line-run p q r ∙ at_line_end shares declared text q t (byte_inside text q line_end b) (byte_at text q line_end b) line_alone
            ∙ ap (run_at shares declared text (q + 1)) line_filled ∙ rest.1,
        rest.2
            ∙ ap₂ (λ (n : ℕ) (ws : List Listed). reverse_aux (lines_wires lines (symbols is ++ seen) (n + 1)) ws) (after_lines is s) wires_of-line
            ∙ sym (reverse_aux-append (line_wires seen s.lines is) (lines_wires lines (symbols is ++ seen) (s.lines + 1)) s.wires),
      )

    -- the last line
    line-last : (p : ℕ) (is : Items) → empty is ≡ false → Before s seen (is ∷ []) → Spelled text p is (length text) → Done p s seen (is ∷ [])
    line-last p is f h r =
        let w = spelled-whole r in
        let counted = (after_line is [] w f h).count in (
          line_done (after_items is s),
          line-run is [] w f h p (length text) r
              ∙ at_end (after_items is s) (line_done (after_items is s)) (line_alone is [] w f h) (line_filled is [] w f h) (omega (arith, counted)),
          wires_of-line is [] w f h ∙ ap (λ ws. reverse_aux ws s.wires) (sym (append-nil (line_wires seen s.lines is))),
        )

    -- a line without items
    blank-run : (p q : ℕ) → Spelled text p none q → s.around ≡ [] → run_at shares declared text p s ≡ run_at shares declared text q s
    blank-run p q r e =
        let outermost = ap length e in
        spelled-run text shares declared names few d r s (λ f. absurd (true≢false f)) refl (omega (arith, outermost))

    blank-last : (p : ℕ) → Spelled text p none (length text) → Before s seen [] → Done p s seen []
    blank-last p r h =
        let counted = h.count in
        (s, blank-run p (length text) r h.alone ∙ at_end s s h.alone (not_filled s h.clear) (omega (arith, counted)), refl)

    blank-next : (p q : ℕ) (lines : List Items) → Spelled text p none q → Byte text q line_end → Before s seen lines → Done (q + 1) s seen lines
        → Done p s seen lines
    blank-next p q lines r b h rest = (
      rest.0,
      blank-run p q r h.alone ∙ at_line_end shares declared text q s (byte_inside text q line_end b) (byte_at text q line_end b) h.alone
          ∙ ap (run_at shares declared text (q + 1)) (not_filled s h.clear) ∙ rest.1,
      rest.2,
    )

  lines-done : {p : ℕ} {lines : List Items} → Lines text p lines → (s : State) (seen : List Symbol) → Before s seen lines
      → Done p s seen lines
  lines-done (last {p = p} {is = is} r) s seen h = go is r h
    where
      go : (is : Items) → Spelled text p is (length text) → Before s seen (counted is []) → Done p s seen (counted is [])
      go none r h = blank-last s seen p r h
      go (symbol u is) r h = line-last s seen p (symbol u is) refl h r
      go (group o inside c is) r h = line-last s seen p (group o inside c is) refl h r
  lines-done (line {p = p} {q = q} {is = is} {lines = lines} r b l) s seen h =
      go is r h (λ s seen h. lines-done l s seen h)
    where
      go : (is : Items) → Spelled text p is q → Before s seen (counted is lines)
          → ((s : State) (seen : List Symbol) → Before s seen lines → Done (q + 1) s seen lines) → Done p s seen (counted is lines)
      go none r h rest = blank-next s seen p q lines r b h (rest s seen h)
      go (symbol u is) r h rest =
          let full = symbol u is in
          line-next s seen full lines (spelled-whole r) refl h p q r b
          (rest (line_done (after_items full s)) (symbols full ++ seen) (after_line s seen full lines (spelled-whole r) refl h))
      go (group o inside c is) r h rest =
          let full = group o inside c is in
          line-next s seen full lines (spelled-whole r) refl h p q r b
          (rest (line_done (after_items full s)) (symbols full ++ seen) (after_line s seen full lines (spelled-whole r) refl h))

  pub lines-run : (at : ℕ) (lines : List Items) → Lines text at lines → length lines ≡ shares
      → every (λ is. leb (depth is) max_depth) lines ≡ true → every (λ is. every (known shares names) (symbols is)) lines ≡ true
      → (t : State) × (run_at shares declared text at start ≡ done t) × (reverse t.wires ≡ lines_wires lines [] 0)
  lines-run at lines l n shallow allowed =
      let r = lines-done l start [] (record {
        clear = refl;
        alone = refl;
        unadded = refl;
        seen_by = none_seen shares names;
        count = omega (arith, n);
        shallow = shallow;
        allowed = allowed;
      }) in
      (r.0, r.1, ap reverse r.2 ∙ reverse-reverse (lines_wires lines [] 0))
