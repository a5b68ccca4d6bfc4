-- The end of a group: where a parenthesis closes it, and where none does.
--     stands-group                                 the group of a state, in the progress
--     close_at_end, close_at_line, close_empty     no closing parenthesis, or nothing inside
--     close_went                                   the group is an item of the one around it
use Rattle.std.specs.Prelude.{Err}
use Prim.Native.Nat.{ℕ, ◌+◌, ◌≤◌, ◌<◌}
use native.Mathlib.Omega.{arith}
use mathlib.Core.Path.{◌≡◌, refl, sym, ◌∙◌, ap, ap₂, subst}
use mathlib.Core.Bool.{true, false}
use mathlib.Core.List.{List}
use lib.ListN.{length, get_or}
use Rattle.description.specs.Bytes.{closing}
use Rattle.description.specs.Run.{Around, State, run_at, finish, line_step, within, put, group_item}
use Rattle.description.specs.declared.Group.{Group}
use Rattle.description.specs.declared.Refusal.TheVariants.{WrongParenthesis}
use Rattle.description.proofs.Running.{run_end}
use Rattle.description.proofs.Passing.{wrong_end, at_closing, nothing-inside}
use Rattle.listing.specs.declared.Progress.{Progress}
use Rattle.listing.specs.Progress.{Stands, put_progress, Follows}
use Rattle.groups.specs.Going.{Within, Ends, CloseReads, CloseWent, outside}
use Rattle.groups.proofs.Reaching.{fewer, once, put-begun}

pub stands-group : {table : List ℕ} {p : Progress} {s : State} → Stands table p s → s.group ≡ p.group
stands-group h = ap (λ (t : State). t.group) h.state

module _ (text : List ℕ) (outer : Group) (from : ℕ) (table : List ℕ) (p : Progress) where
  pub close_at_end : (table' : List ℕ) → p.at ≡ length text → (shares declared : ℕ) → p.lines < shares
      → CloseReads shares declared text outer from table p table' (Err (record { why = WrongParenthesis; offset = p.at }))
  close_at_end table' e shares declared less s around stands f =
      run_end shares declared text p.at s (omega (arith, e)) ∙ ap (λ around. finish shares p.at (line_step around s)) f

  pub close_at_line : (table' : List ℕ) → p.at < length text → (get_or text p.at 0 ≡ closing → ⊥) → Ends text p.at → (shares declared : ℕ)
      → p.lines < shares → CloseReads shares declared text outer from table p table' (Err (record { why = WrongParenthesis; offset = p.at }))
  unfolding Ends
  close_at_line table' inside other ends shares declared less s around stands f =
      wrong_end shares declared text p.at s inside (outside shares declared text outer from) around (ends inside other) f

  pub close_empty : (table' : List ℕ) → p.at < length text → get_or text p.at 0 ≡ closing → p.group.filled ≡ false → (shares declared : ℕ)
      → p.lines < shares → CloseReads shares declared text outer from table p table' (Err (record { why = WrongParenthesis; offset = p.at }))
  close_empty table' inside e empty shares declared less s around stands f =
      nothing-inside shares declared text p.at s inside (fewer stands less) (outside shares declared text outer from) around e f
      (ap (λ (g : Group). g.filled) (stands-group stands) ∙ empty)

  -- the progress back in the group around
  abbrev back : Progress
  back = record { at = p.at; wires = p.wires; seen = p.seen; lines = p.lines; added = p.added; last = p.last; group = outer }

  stands_back : (s : State) (around : List Around) → Stands table p s → Stands table back (within outer around s)
  stands_back s around h = record {
    state =
        ap (λ (t : State). record { group = outer; around = around; wires = s.wires; seen = t.seen; lines = t.lines; added = t.added; last = t.last })
        h.state;
    held = h.held;
  }

  pub close_went : (table' : List ℕ) (q : Progress) → Within (length text) p → p.at < length text → get_or text p.at 0 ≡ closing
      → p.group.filled ≡ true → outer.first ≤ from → from < p.at → q ≡ put_progress (group_item from p.at p.group) back
      → Follows table back table' q (put (group_item from p.at p.group)) → (shares declared : ℕ) → p.lines < shares
      → CloseWent shares declared text outer from table p table' q
  unfolding Follows
  close_went table' q w inside e full begun before eq follows shares declared less = record {
    within = subst (Within (length text)) (sym eq) (record {
      inside = omega (arith, inside);
      few = (let a = once outer.filled in omega (arith, a, w.few));
      begun = put-begun outer (group_item from p.at p.group) (p.at + 1) (omega (arith, begun, before)) (omega (arith, before));
      small = w.small;
    });
    same_lines = ap (λ (r : Progress). r.lines) eq;
    forward = (let place = ap (λ (r : Progress). r.at) eq in omega (arith, place));
    reached =
        λ s around stands f.
        record {
          state = put (group_item from p.at p.group) (within outer around s);
          stands = follows (within outer around s) (stands_back s around stands);
          enclosed = refl;
          goes =
              at_closing shares declared text p.at s inside (fewer stands less) (outside shares declared text outer from) around e f
              (ap (λ (g : Group). g.filled) (stands-group stands) ∙ full)
              ∙ ap₂ (λ (g : Group) (k : ℕ). run_at shares declared text k (put (group_item from p.at g) (within outer around s)))
              (stands-group stands)
              (sym (ap (λ (r : Progress). r.at) eq));
        };
  }
