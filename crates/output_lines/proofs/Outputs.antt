-- The output lines, one after the other.
--     line_stopped, line-finished      the group of a line stops the run; it ends, and the line with it
--     Past                             what holds before each line
--     past_start, past_line            before the first, past one more
--     past_stopped, past_few, past_all      a line that stops the run; too few lines at the text's end, and all of them
use Rattle.std.specs.Prelude.{Result, Ok, Err}
use Prim.Native.Nat.{ℕ, ◌+◌, ◌≤◌, ◌<◌}
use native.Mathlib.Omega.{arith}
use mathlib.Core.Path.{◌≡◌, refl, sym, ◌∙◌, ap, subst}
use mathlib.Core.Bool.{Bool, true, false, cond}
use mathlib.Core.List.{List, []}
use borrow.Author.Tests.{ltb-true, ltb-false, lt-ltb, le-ltb}
use lib.Dec.{ltb}
use lib.ListN.{length}
use Rattle.description.specs.Run.{State, start, done, refused, run_at, finish, line_step, line_done, go, max_depth}
use Rattle.description.specs.declared.Fault.{Fault}
use Rattle.description.specs.declared.Refusal.TheVariants.{WrongLineCount}
use Rattle.description.proofs.Running.{run_end}
use Rattle.listing.specs.declared.Progress.{Progress}
use Rattle.groups.specs.Going.{Within, Reached, GroupWent, Stops}
use Rattle.groups.proofs.Reaching.{stands-lines}
use Rattle.groups.proofs.Closing.{stands-group}
use Rattle.output_lines.specs.Going.{LineWent, LineReads, AllRead, start_progress}

-- no group is open at a line's start
shallow : (s : State) → s.around ≡ [] → length s.around + 16 ≡ max_depth
shallow s alone = ap (λ around. length around + 16) alone

module _ (shares declared : ℕ) (text table : List ℕ) (p : Progress) where
  pub line_stopped : (table' : List ℕ) (fault : Fault) → Stops shares declared text 16 table p fault.why fault.offset
      → LineReads shares declared text table p table' (Err fault)
  unfolding Stops
  line_stopped table' fault stops s stands alone = stops s stands (shallow s alone)

  pub line-finished : (table₁ table₂ : List ℕ) (inner : Progress) (r : Result Progress Fault) → GroupWent shares declared text 16 table p table₁ inner
      → LineReads shares declared text table₁ inner table₂ r → LineReads shares declared text table p table₂ r
  line-finished table₁ table₂ inner (Ok q) went ends = record {
    within = ends.within;
    most-lines = ends.most-lines;
    blank = ends.blank;
    forward = (omega (arith, went.forward, ends.forward.0), moved (ltb inner.at (length text)) refl);
    reached =
        λ s stands alone.
        let r = went.reached s stands (shallow s alone) in
        let out = ends.reached r.state r.stands (r.enclosed ∙ alone) in
        record { state = out.state; stands = out.stands; enclosed = out.enclosed; goes = r.goes ∙ out.goes };
  }
    where
      moved : (b : Bool) → ltb inner.at (length text) ≡ b → p.at < length text → p.at < q.at
      moved true e less = let f = ends.forward.1 (ltb-true inner.at (length text) e) in omega (arith, f, went.forward)
      moved false e less = let all = ltb-false inner.at (length text) e in omega (arith, all, less, ends.forward.0)
  line-finished table₁ table₂ inner (Err fault) went ends = λ s stands alone.
      let r = went.reached s stands (shallow s alone) in r.goes ∙ ends r.state r.stands (r.enclosed ∙ alone)

pub record Past (shares declared : ℕ) (text : List ℕ) (from : ℕ) (table : List ℕ) (q : Progress) (at : ℕ) : Type 0 where
  pub place : at ≡ q.at
  pub within : Within (length text) q
  pub most-lines : q.lines ≤ shares
  pub blank : q.group.filled ≡ false
  pub reached : Reached shares declared text from start [] table q

module _ (shares declared : ℕ) (text : List ℕ) (from : ℕ) where
  pub past_start : (table : List ℕ) (p : Progress) → from ≤ length text → p ≡ start_progress from → Past shares declared text from table p p.at
  past_start table p inside e =
      subst (λ (q : Progress). Past shares declared text from table q q.at) (sym e) (record {
        place = refl;
        within = record { inside = inside; few = omega arith; begun = omega arith; small = omega arith };
        most-lines = omega arith;
        blank = refl;
        reached = record {
          state = start;
          stands = record { state = refl; held = record { count = refl; records = λ _. refl } };
          enclosed = refl;
          goes = refl;
        };
      })

  module _ (table : List ℕ) (q : Progress) (at : ℕ) (g : Past shares declared text from table q at) where
    pub past_line : (table' : List ℕ) (next : Progress) → LineWent shares declared text table q table' next
        → Past shares declared text from table' next next.at
    past_line table' next l =
        let r = g.reached in
        let out = l.reached r.state r.stands r.enclosed in
        record {
          place = refl;
          within = l.within;
          most-lines = l.most-lines;
          blank = l.blank;
          reached = record { state = out.state; stands = out.stands; enclosed = out.enclosed; goes = r.goes ∙ out.goes };
        }

    pub past_stopped : (table' : List ℕ) (fault : Fault) → LineReads shares declared text table q table' (Err fault)
        → run_at shares declared text from start ≡ refused fault.why fault.offset
    past_stopped table' fault l = let r = g.reached in r.goes ∙ l r.state r.stands r.enclosed

    module _ (all : length text ≤ at) where
      -- at the text's end, by whether lines are too few
      at_end : (few : Bool) → ltb q.lines shares ≡ few
          → run_at shares declared text from start ≡ cond few (refused WrongLineCount at) (done g.reached.state)
      at_end few e =
          let r = g.reached in
          let s = r.state in
          r.goes ∙ ap (λ (k : ℕ). run_at shares declared text k s) (sym g.place) ∙ run_end shares declared text at s all
          ∙ ap (λ around. finish shares at (line_step around s)) r.enclosed
          ∙ ap (λ (b : Bool). finish shares at (go 0 (cond b (line_done s) s))) (ap (λ h. h.filled) (stands-group r.stands) ∙ g.blank)
          ∙ ap (λ (b : Bool). cond b (refused WrongLineCount at) (done s))
          (ap (λ (n : ℕ). ltb n shares) (stands-lines r.stands) ∙ e)

      pub past_few : q.lines < shares → run_at shares declared text from start ≡ refused WrongLineCount at
      past_few less = at_end true (lt-ltb q.lines shares less)

      pub past_all : shares ≤ q.lines → AllRead shares declared text from table q
      past_all enough = record {
        within = g.within;
        all_lines = g.most-lines;
        state = g.reached.state;
        stands = g.reached.stands;
        finished = at_end false (le-ltb q.lines shares enough);
      }
