-- The ends of lines and of the text: where the run stands when a line has been read, and when all have.
--     skips_all                             spaces passed over
--     over_stopped, over_went               a line too many; a line that is skipped after the last
--     finish-closing, finish-line, finish-blank     a closing parenthesis with none open; the end of an output line, of one that is skipped
use Rattle.std.specs.Prelude.{Ok, Err}
use Rattle.std.specs.List.{position_or_len}
use Prim.Native.Nat.{ℕ, ◌+◌, ◌≤◌, ◌<◌}
use native.Mathlib.Omega.{arith}
use mathlib.Core.Path.{◌≡◌, refl, sym, ◌∙◌, ap, subst}
use mathlib.Core.Bool.{Bool, true, false, cond, not, true≢false}
use mathlib.Core.List.{List, [], ◌∷◌}
use borrow.Author.Tests.{ltb-true, ltb-false, eq-eqb, ne_eqb, eqb-true, eqb-false}
use lib.Dec.{eqb, ltb}
use lib.ListN.{length, drop, get_or, drop_of_length-le, length-drop}
use Rattle.description.specs.Bytes.{space, line_end, closing, ended}
use Rattle.description.specs.Run.{State, go, refused, run_at, finish, line_step, line_done}
use Rattle.description.specs.declared.Refusal.TheVariants.{WrongParenthesis, WrongLineCount}
use Rattle.description.proofs.Running.{drop_byte, run_end}
use Rattle.description.proofs.Passing.{at_space, at_line_end, at_over, not_open}
use Rattle.listing.specs.declared.Progress.{Progress}
use Rattle.listing.specs.Progress.{Stands, line_progress, Follows}
use Rattle.groups.specs.Going.{Within}
use Rattle.groups.proofs.Reaching.{stands-lines, fewer, once}
use Rattle.groups.proofs.Closing.{stands-group}
use Rattle.output_lines.specs.Going.{Skips, LineWent, LineReads, next_line}

-- ---- spaces

module _ (text : List ℕ) (from : ℕ) where
  -- from one place to another
  abbrev Passed : ℕ → Type 0
  Passed at = (shares declared : ℕ) (s : State) → run_at shares declared text from s ≡ run_at shares declared text at s

  -- the bytes from a place on are no spaces before the first other
  skips_from : (l : List ℕ) (at : ℕ) → drop at text ≡ l → from ≤ at → at ≤ length text → Passed at
      → Skips text from (at + position_or_len (λ c. not (eqb c space)) l)
  skips_from [] at e forward inside passed =
      let all = ap length e in
      let left = length-drop at text in
      let here : at + 0 ≡ at = omega arith in
      rw here
      record { inside = inside; forward = forward; other = λ less. absurd (omega (arith, all, left, less)); passes = passed }
  skips_from (c ∷ l) at e forward inside passed = go (eqb c space) refl (skips_from l (at + 1))
    where
      less : at < length text
      less = let all = ap length e in let left = length-drop at text in omega (arith, all, left)

      both : get_or text at 0 ∷ drop (at + 1) text ≡ c ∷ l
      both = sym (drop_byte text at less) ∙ e

      first : get_or text at 0 ≡ c
      first = ap (λ (k : List ℕ). get_or k 0 0) both

      after : drop (at + 1) text ≡ l
      after = ap (λ (k : List ℕ). drop 1 k) both

      go : (b : Bool) → eqb c space ≡ b
          → (drop (at + 1) text ≡ l → from ≤ at + 1 → at + 1 ≤ length text → Passed (at + 1)
          → Skips text from (at + 1 + position_or_len (λ c. not (eqb c space)) l))
          → Skips text from (at + cond (not (not b)) (1 + position_or_len (λ c. not (eqb c space)) l) 0)
      go true f again =
          let k = position_or_len (λ c. not (eqb c space)) l in
          let place : at + 1 + k ≡ at + (1 + k) = omega arith in
          subst (Skips text from) place
          (again after (omega (arith, forward)) (omega (arith, less))
          (λ shares declared s. passed shares declared s ∙ at_space shares declared text at s less (first ∙ eqb-true c space f)))
      go false f again =
          let here : at + 0 ≡ at = omega arith in
          subst (Skips text from) (sym here)
          (record { inside = inside; forward = forward; other = λ h g. eqb-false c space f (sym first ∙ g); passes = passed })

  pub skips_all : from ≤ length text → Skips text from (from + position_or_len (λ c. not (eqb c space)) (drop from text))
  skips_all inside = skips_from (drop from text) from refl (omega arith) inside (λ shares declared s. refl)

-- ---- a line's end

-- the place past a line's end
abbrev past : ℕ → ℕ → ℕ
past size at = cond (ltb at size) (at + 1) at

past_forward : (size at : ℕ) → at ≤ size → (at ≤ past size at) × (past size at ≤ size) × (at < size → at < past size at)
past_forward size at h = go (ltb at size) refl
  where
    go : (b : Bool) → ltb at size ≡ b → (at ≤ cond b (at + 1) at) × (cond b (at + 1) at ≤ size) × (at < size → at < cond b (at + 1) at)
    go true e = let less = ltb-true at size e in (omega arith, omega (arith, less), λ _. omega arith)
    go false e = let all = ltb-false at size e in (omega arith, h, λ less. absurd (omega (arith, all, less)))

-- the run goes on past a line's end, with the line done where it has an item
end_goes : (shares declared : ℕ) (text : List ℕ) (at : ℕ) (s : State) → at ≤ length text → (at < length text → get_or text at 0 ≡ line_end)
    → s.around ≡ []
    → run_at shares declared text at s ≡ run_at shares declared text (past (length text) at) (cond s.group.filled (line_done s) s)
end_goes shares declared text at s inside here alone = at_end (ltb at (length text)) refl
  where
    closed : (b : Bool) → s.group.filled ≡ b → line_step (cond b (line_done s) s).around (cond b (line_done s) s) ≡ line_step s.around s
    closed true e =
        ap (λ around. line_step around (line_done s)) alone
        ∙ sym (ap (λ around. line_step around s) alone ∙ ap (λ (b : Bool). go 0 (cond b (line_done s) s)) e)
    closed false e = refl

    at_end : (b : Bool) → ltb at (length text) ≡ b
        → run_at shares declared text at s ≡ run_at shares declared text (cond b (at + 1) at) (cond s.group.filled (line_done s) s)
    at_end true e = let less = ltb-true at (length text) e in at_line_end shares declared text at s less (here less) alone
    at_end false e =
        let all = ltb-false at (length text) e in
        run_end shares declared text at s all ∙ ap (finish shares at) (sym (closed s.group.filled refl))
        ∙ sym (run_end shares declared text at (cond s.group.filled (line_done s) s) all)

-- a progress past a line's end stands for the same state
stands_past : {table : List ℕ} {p : Progress} {s : State} (size : ℕ) → Stands table p s → Stands table (next_line size p) s
stands_past size h = record { state = h.state; held = h.held }

past_within : (size : ℕ) (p : Progress) → Within size p → Within size (next_line size p)
past_within size p w =
    let f = past_forward size p.at w.inside in
    record { inside = f.1; few = omega (arith, w.few, f.0); begun = omega (arith, w.begun, f.0); small = w.small }

-- ---- after the last output line

module _ (text : List ℕ) (p : Progress) (at : ℕ) (skips : Skips text p.at at) where
  pub over_stopped : ended (drop at text) ≡ false → (declared : ℕ) (table : List ℕ)
      → LineReads p.lines declared text table p table (Err (record { why = WrongLineCount; offset = at }))
  over_stopped e declared table s stands alone = at_byte (ltb at (length text)) refl
    where
      at_byte : (b : Bool) → ltb at (length text) ≡ b → run_at p.lines declared text p.at s ≡ refused WrongLineCount at
      at_byte true f =
          let less = ltb-true at (length text) f in
          let other : eqb (get_or text at 0) line_end ≡ false = ap ended (sym (drop_byte text at less)) ∙ e in
          skips.passes p.lines declared s
          ∙ at_over p.lines declared text at s less (ne_eqb (get_or text at 0) space (skips.other less)) other
          (eq-eqb s.lines p.lines (stands-lines stands))
      at_byte false f =
          absurd (true≢false (ap ended (sym (drop_of_length-le text (ltb-false at (length text) f))) ∙ e))

  -- the progress past the spaces
  abbrev here : Progress
  here = record { at = at; wires = p.wires; seen = p.seen; lines = p.lines; added = p.added; last = p.last; group = p.group }

  line-end_there : ended (drop at text) ≡ true → at < length text → get_or text at 0 ≡ line_end
  line-end_there e less = eqb-true (get_or text at 0) line_end (ap ended (sym (drop_byte text at less)) ∙ e)

  pub over_went : Within (length text) p → p.group.filled ≡ false → ended (drop at text) ≡ true → (q : Progress)
      → q ≡ next_line (length text) here → (declared : ℕ) (table : List ℕ) → LineReads p.lines declared text table p table (Ok q)
  over_went w blank e q eq declared table =
      subst (LineWent p.lines declared text table p table) (sym eq) (record {
        within = past_within (length text) here (record {
          inside = skips.inside;
          few = omega (arith, w.few, skips.forward);
          begun = omega (arith, w.begun, skips.forward);
          small = w.small;
        });
        most-lines = omega arith;
        blank = blank;
        forward = (omega (arith, skips.forward, f.0), λ less. moved less);
        reached =
            λ s stands alone.
            record {
              state = s;
              stands = stands_past (length text) (record { state = stands.state; held = stands.held });
              enclosed = alone;
              goes =
                  skips.passes p.lines declared s
                  ∙ end_goes p.lines declared text at s skips.inside (line-end_there e) alone
                  ∙ ap (λ (b : Bool). run_at p.lines declared text (past (length text) at) (cond b (line_done s) s))
                  (ap (λ g. g.filled) (stands-group stands) ∙ blank);
            };
      })
    where
      f : (at ≤ past (length text) at) × (past (length text) at ≤ length text) × (at < length text → at < past (length text) at)
      f = past_forward (length text) at skips.inside

      moved : p.at < length text → p.at < past (length text) at
      moved less = go_on (ltb at (length text)) refl
        where
          go_on : (b : Bool) → ltb at (length text) ≡ b → p.at < past (length text) at
          go_on true h = let there = f.2 (ltb-true at (length text) h) in omega (arith, there, skips.forward)
          go_on false h = let all = ltb-false at (length text) h in omega (arith, all, less, f.0)

-- ---- the end of a line

module _ (text table : List ℕ) (p : Progress) where
  pub finish-closing : (table' : List ℕ) → p.at < length text → get_or text p.at 0 ≡ closing → (shares declared : ℕ) → p.lines < shares
      → LineReads shares declared text table p table' (Err (record { why = WrongParenthesis; offset = p.at }))
  finish-closing table' inside e shares declared less s stands alone =
      not_open shares declared text p.at s inside (fewer stands less) e alone

  module _ (w : Within (length text) p) (here : p.at < length text → get_or text p.at 0 ≡ line_end) where
    onward : (p.at ≤ past (length text) p.at) × (past (length text) p.at ≤ length text)
        × (p.at < length text → p.at < past (length text) p.at)
    onward = past_forward (length text) p.at w.inside

    pub finish-blank : p.group.filled ≡ false → (q : Progress) → q ≡ next_line (length text) p → (shares declared : ℕ) → p.lines < shares
        → LineReads shares declared text table p table (Ok q)
    finish-blank blank q eq shares declared less =
        subst (LineWent shares declared text table p table) (sym eq) (record {
          within = past_within (length text) p w;
          most-lines = omega (arith, less);
          blank = blank;
          forward = (onward.0, onward.2);
          reached =
              λ s stands alone.
              record {
                state = s;
                stands = stands_past (length text) stands;
                enclosed = alone;
                goes =
                    end_goes shares declared text p.at s w.inside here alone
                    ∙ ap (λ (b : Bool). run_at shares declared text (past (length text) p.at) (cond b (line_done s) s))
                    (ap (λ g. g.filled) (stands-group stands) ∙ blank);
              };
        })

    done-within : Within (length text) (line_progress p)
    done-within = record {
      inside = w.inside;
      few = (let one = once (not p.added) in omega (arith, one, w.few));
      begun = omega arith;
      small = w.small;
    }

    pub finish-line : p.group.filled ≡ true → (table' : List ℕ) (r q : Progress) → r ≡ line_progress p → Follows table p table' r line_done
        → q ≡ next_line (length text) r → (shares declared : ℕ) → p.lines < shares → LineReads shares declared text table p table' (Ok q)
    unfolding Follows
    finish-line full table' r q er follows eq shares declared less =
        subst (LineWent shares declared text table p table') (sym (eq ∙ ap (next_line (length text)) er)) (record {
          within = past_within (length text) (line_progress p) done-within;
          most-lines = omega (arith, less);
          blank = refl;
          forward = (onward.0, onward.2);
          reached =
              λ s stands alone.
              record {
                state = line_done s;
                stands = stands_past (length text) (subst (λ (u : Progress). Stands table' u (line_done s)) er (follows s stands));
                enclosed = alone;
                goes =
                    end_goes shares declared text p.at s w.inside here alone
                    ∙ ap (λ (b : Bool). run_at shares declared text (past (length text) p.at) (cond b (line_done s) s))
                    (ap (λ g. g.filled) (stands-group stands) ∙ full);
              };
        })
