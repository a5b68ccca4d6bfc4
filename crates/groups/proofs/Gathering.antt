-- The items of a group, one after the other: where the run stands before each.
--     Gone                            what holds before each turn
--     gone-space                      past a space
--     gone_stopped, gone-ended        an item that stops the run, the group's end
--     ends-closing, ends-line, ends_text      the places where a group ends
use Prim.Native.Nat.{ℕ, ◌+◌, ◌≤◌, ◌<◌}
use native.Mathlib.Omega.{arith}
use mathlib.Core.Path.{◌≡◌, refl, sym, ◌∙◌, ap, subst}
use mathlib.Core.List.{List}
use lib.ListN.{length, get_or}
use Rattle.description.specs.Bytes.{space, line_end, closing}
use Rattle.description.specs.Run.{State, run_at, max_depth}
use Rattle.description.specs.declared.Refusal.{Refusal}
use Rattle.description.proofs.Passing.{at_space}
use Rattle.listing.specs.declared.Progress.{Progress}
use Rattle.listing.specs.Progress.{Stands}
use Rattle.groups.specs.Going.{Within, Ends, Reached, GroupWent, Stops}

pub record Gone (shares declared : ℕ) (text : List ℕ) (room : ℕ) (table₀ : List ℕ) (p : Progress) (table : List ℕ) (q : Progress)
    (at : ℕ) : Type 0 where
  pub place : at ≡ q.at
  pub within : Within (length text) q
  pub same_lines : q.lines ≡ p.lines
  pub forward : p.at ≤ at
  pub reached : (s : State) → Stands table₀ p s → length s.around + room ≡ max_depth → Reached shares declared text p.at s s.around table q

module _ (shares declared : ℕ) (text : List ℕ) (room : ℕ) (table₀ : List ℕ) (p : Progress) where
  module _ (table : List ℕ) (q : Progress) (at : ℕ) (g : Gone shares declared text room table₀ p table q at) where
    -- the progress past a space
    abbrev past : Progress
    past =
        record { at = at + 1; wires = q.wires; seen = q.seen; lines = q.lines; added = q.added; last = q.last; group = q.group }

    pub gone-space : at < length text → get_or text at 0 ≡ space → Gone shares declared text room table₀ p table past (at + 1)
    gone-space inside e = record {
      place = refl;
      within = record {
        inside = omega (arith, inside);
        few = omega (arith, g.within.few, g.place);
        begun = omega (arith, g.within.begun, g.place);
        small = g.within.small;
      };
      same_lines = g.same_lines;
      forward = omega (arith, g.forward);
      reached =
          λ s stands deep.
          let r = g.reached s stands deep in
          record {
            state = r.state;
            stands = record { state = r.stands.state; held = r.stands.held };
            enclosed = r.enclosed;
            goes =
                r.goes ∙ ap (λ (k : ℕ). run_at shares declared text k r.state) (sym g.place)
                ∙ at_space shares declared text at r.state inside e;
          };
    }

    pub gone_stopped : (why : Refusal) (offset : ℕ) → Stops shares declared text room table q why offset
        → Stops shares declared text room table₀ p why offset
    unfolding Stops
    gone_stopped why offset i s stands deep =
        let r = g.reached s stands deep in
        r.goes ∙ i r.state r.stands (ap (λ around. length around + room) r.enclosed ∙ deep)

    pub gone-ended : Ends text at → GroupWent shares declared text room table₀ p table q
    gone-ended ends = record {
      within = g.within;
      same_lines = g.same_lines;
      forward = omega (arith, g.forward, g.place);
      ends = subst (Ends text) g.place ends;
      reached = g.reached;
    }

pub ends-closing : (text : List ℕ) (at : ℕ) → get_or text at 0 ≡ closing → Ends text at
unfolding Ends
ends-closing text at e inside other = absurd (other e)

pub ends-line : (text : List ℕ) (at : ℕ) → get_or text at 0 ≡ line_end → Ends text at
unfolding Ends
ends-line text at e inside other = e

pub ends_text : (text : List ℕ) (at : ℕ) → length text ≤ at → Ends text at
unfolding Ends
ends_text text at h inside other = absurd (omega (arith, h, inside))
