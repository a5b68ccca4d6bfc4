-- An item: a bar, a parenthesis too many, a group in parentheses.
--     item-bar, item_deep              a bar; a parenthesis opened when sixteen are open
--     inside_stopped, inside-closed    the group inside stops the run; it ends, and is closed or not
use Rattle.std.specs.Prelude.{Result, Ok, Err}
use Prim.Native.Nat.{ℕ, ◌+◌, ◌-◌, ◌≤◌, ◌<◌}
use native.Mathlib.Omega.{arith}
use mathlib.Core.Path.{◌≡◌, ◌∙◌, ap}
use mathlib.Core.List.{List, ◌∷◌}
use borrow.Author.Tests.{eq-eqb, ne_eqb}
use lib.ListN.{length, get_or}
use Rattle.description.specs.Bytes.{opening, bar}
use Rattle.description.specs.Run.{Around, State, run_at, max_depth, opened}
use Rattle.description.specs.declared.Fault.{Fault}
use Rattle.description.specs.declared.Group.{Group}
use Rattle.description.specs.declared.Refusal.{Refusal}
use Rattle.description.specs.declared.Refusal.TheVariants.{Bar, NestedTooDeep}
use Rattle.description.proofs.Passing.{at_bar, at_opening, too_deep}
use Rattle.listing.specs.declared.Progress.{Progress}
use Rattle.listing.specs.Progress.{Stands}
use Rattle.groups.specs.Going.{entered, ItemReads, GroupWent, Stops, CloseReads, outside}
use Rattle.groups.proofs.Reaching.{fewer}
use Rattle.groups.proofs.Closing.{stands-group}

module _ (shares declared : ℕ) (text : List ℕ) (room : ℕ) (table : List ℕ) (p : Progress) (inside : p.at < length text)
    (less : p.lines < shares) where
  pub item-bar : get_or text p.at 0 ≡ bar → Stops shares declared text room table p Bar p.at
  unfolding Stops
  item-bar e s stands deep = at_bar shares declared text p.at s inside (fewer stands less) e

  pub item_deep : get_or text p.at 0 ≡ opening → room ≡ 0 → Stops shares declared text room table p NestedTooDeep p.at
  unfolding Stops
  item_deep e none s stands deep =
      too_deep shares declared text p.at s inside (fewer stands less) e (eq-eqb (length s.around) max_depth (omega (arith, deep, none)))

  module _ (e : get_or text p.at 0 ≡ opening) (some : room ≡ 0 → ⊥) where
    stands-entered : (s : State) → Stands table p s → Stands table (entered p) (opened p.at s)
    stands-entered s h = record {
      state =
          ap
          (λ (t : State). record {
            group = (entered p).group;
            around = record { group = s.group; opened = p.at } ∷ s.around;
            wires = s.wires;
            seen = t.seen;
            lines = t.lines;
            added = t.added;
            last = t.last;
          })
          h.state;
      held = h.held;
    }

    deeper : (s : State) → length s.around + room ≡ max_depth → length (opened p.at s).around + (room - 1) ≡ max_depth
    deeper s deep = omega (arith, deep, ne some)
      where
        ne : (room ≡ 0 → ⊥) → 1 ≤ room
        ne f = omega (arith, f)

    opens : (s : State) → Stands table p s → length s.around + room ≡ max_depth
        → run_at shares declared text p.at s ≡ run_at shares declared text (p.at + 1) (opened p.at s)
    opens s stands deep =
        at_opening shares declared text p.at s inside (fewer stands less) e
        (ne_eqb (length s.around) max_depth (λ f. some (omega (arith, deep, f))))

    pub inside_stopped : (why : Refusal) (offset : ℕ) → Stops shares declared text (room - 1) table (entered p) why offset
        → Stops shares declared text room table p why offset
    unfolding Stops
    inside_stopped why offset stops s stands deep =
        opens s stands deep ∙ stops (opened p.at s) (stands-entered s stands) (deeper s deep)

    -- the group around is the progress's
    enclosing : (s : State) → Stands table p s
        → record { group = s.group; opened = p.at } ∷ s.around ≡ outside shares declared text p.group p.at ∷ s.around
    enclosing s stands = ap {B = List Around} (λ (g : Group). record { group = g; opened = p.at } ∷ s.around) (stands-group stands)

    pub inside-closed : (table₁ table₂ : List ℕ) (inner : Progress) (r : Result Progress Fault)
        → GroupWent shares declared text (room - 1) table (entered p) table₁ inner
        → CloseReads shares declared text p.group p.at table₁ inner table₂ r → ItemReads shares declared text room table p table₂ r
    unfolding Stops
    inside-closed table₁ table₂ inner (Ok q) went closes = record {
      within = closes.within;
      same_lines = closes.same_lines ∙ went.same_lines;
      forward = omega (arith, went.forward, closes.forward);
      reached =
          λ s stands deep.
          let r = went.reached (opened p.at s) (stands-entered s stands) (deeper s deep) in
          let out = closes.reached r.state s.around r.stands (r.enclosed ∙ enclosing s stands) in
          record {
            state = out.state;
            stands = out.stands;
            enclosed = out.enclosed;
            goes = opens s stands deep ∙ r.goes ∙ out.goes;
          };
    }
    inside-closed table₁ table₂ inner (Err fault) went closes = λ s stands deep.
        let r = went.reached (opened p.at s) (stands-entered s stands) (deeper s deep) in
        opens s stands deep ∙ r.goes ∙ closes r.state s.around r.stands (r.enclosed ∙ enclosing s stands)
