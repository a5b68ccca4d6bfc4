-- The whole text: its header, and what is then read into a table of the code's own.
--     lines-refused, lines-many, lines_scratched     the output lines are turned down, have too many wires, are read
--     second_line_lem, second_wrong, second_declared     where the second line starts; it is wrong; it declares masks
--     second_inside, masks-inside           what the two header lines give lies within the limits
--     fault_kept                            the fault that `ok_or` gives where nothing is there
--     text_long, first_wrong, first_given   a text too long; a wrong first line; one that gives an order
use Rattle.std.specs.Prelude.{Option, Some, None, Result, Ok, Err, ok_or}
use Prim.Native.Nat.{ℕ, ◌+◌, ◌≤◌, ◌<◌}
use native.Mathlib.Omega.{arith}
use mathlib.Core.Path.{◌≡◌, refl, sym, ◌∙◌, ap, subst}
use mathlib.Core.Bool.{Bool, true, false, cond}
use mathlib.Core.List.{List, [], reverse}
use borrow.Author.Tests.{ltb-true, ltb-false, lt-ltb, le-ltb}
use lib.Dec.{ltb}
use lib.ListN.{length, drop, drop_of_length-le, length-reverse}
use lib.Seq.{drop-length}
use Rattle.limits.specs.Limits.{max_order, max_wires}
use Rattle.description.specs.Header.{order_line, masks_line}
use Rattle.description.specs.Run.{Outcome, Reading, refused, read, turned_down, start, run_at, listed, second_line, after_masks, after_order, reading, max_text, second_at}
use Rattle.description.specs.declared.Fault.{Fault}
use Rattle.description.specs.declared.Listed.{Listed}
use Rattle.description.specs.declared.Masks.{Masks}
use Rattle.description.specs.declared.Refusal.TheVariants.{TextTooLong, WrongOrderLine, WrongMasksLine, TooManyWires}
use Rattle.description.proofs.HeaderLines.{header-spelled}
use Rattle.listing.specs.declared.Progress.{Progress}
use Rattle.output_lines.specs.Going.{AllRead}
use Rattle.scratch_reader.specs.Answers.{tableless}
use Rattle.scratch_reader.specs.Scratch.{OutcomeRead, LinesListed, SecondReads, ScratchReads}
use Rattle.scratch_reader.specs.declared.Reading.{Reading as Figures}

module _ (text : List ℕ) (order : ℕ) (m : Masks) where
  pub lines-refused : (scratch : List ℕ) (fault : Fault)
      → run_at (order + 1) m.declared text m.end start ≡ refused fault.why fault.offset
      → LinesListed text order m scratch (Err fault)
  lines-refused scratch fault e = ap (λ (o : Outcome). tableless text (listed order m.count o)) e

  module _ (scratch : List ℕ) (q : Progress) (r : AllRead (order + 1) m.declared text m.end scratch q) where
    abbrev found : List Listed
    found = reverse r.state.wires

    -- the code has counted them all
    counted : q.wires ≡ length found
    counted = r.stands.held.count ∙ sym (length-reverse r.state.wires)

    by_count : (many : Bool) → ltb max_wires (length found) ≡ many
        → tableless text (listed order m.count (run_at (order + 1) m.declared text m.end start))
        ≡ cond many (turned_down TooManyWires (length text)) (read order m.count found)
    by_count many e =
        ap (λ (o : Outcome). tableless text (listed order m.count o)) r.finished
        ∙ ap (λ (b : Bool). cond {A = Reading} b (turned_down TooManyWires (length text)) (read order m.count found)) e

    pub lines-many : max_wires < q.wires → LinesListed text order m scratch (Err (record { why = TooManyWires; offset = (length text) }))
    lines-many many = by_count true (lt-ltb max_wires (length found) (omega (arith, counted, many)))

    pub lines_scratched : order ≤ max_order → q.wires ≤ max_wires
        → LinesListed text order m scratch (Ok (record { order = order; shares = order + 1; masks = m.count; wires = q.wires }))
    lines_scratched low few = record {
      listed-wires = found;
      reads = by_count false (le-ltb max_wires (length found) (omega (arith, counted, few)));
      same_shares = refl;
      low = low;
      few = few;
      count = counted;
      records = r.stands.held.records few;
    }

-- ---- the second line

-- a second line that is absent is wrong, wherever it is looked for
absent : (at : ℕ) → masks_line at [] ≡ None
unfolding masks_line
absent at = refl

pub second_line_lem : (text : List ℕ) (from : ℕ) → from ≡ second_line text → masks_line from (drop from text) ≡ masks_line second_at (drop second_at text)
second_line_lem text from e = ap (λ (k : ℕ). masks_line k (drop k text)) e ∙ go (ltb (length text) second_at) refl
  where
    go : (b : Bool) → ltb (length text) second_at ≡ b
        → masks_line (cond b (length text) second_at) (drop (cond b (length text) second_at) text) ≡ masks_line second_at (drop second_at text)
    go true f =
        let less = ltb-true (length text) second_at f in
        ap (masks_line (length text)) (drop-length text) ∙ absent (length text)
        ∙ sym (ap (masks_line second_at) (drop_of_length-le text {i = second_at} (omega (arith, less))) ∙ absent second_at)
    go false f = refl

pub second_inside : (text : List ℕ) (from : ℕ) → from ≡ second_line text → from ≤ length text
second_inside text from e = subst (λ (k : ℕ). k ≤ length text) (sym e) (go (ltb (length text) second_at) refl)
  where
    go : (b : Bool) → ltb (length text) second_at ≡ b → cond b (length text) second_at ≤ length text
    go true f = omega arith
    go false f = ltb-false (length text) second_at f

module _ (text : List ℕ) (order from : ℕ) (line : Option Masks) (start-there : from ≡ second_line text) (e : line ≡ masks_line from (drop from text)) where
  -- what was read as the second line
  there : line ≡ masks_line second_at (drop second_at text)
  there = e ∙ second_line_lem text from start-there

  pub second_wrong : (scratch : List ℕ) → line ≡ None → SecondReads text order scratch (Err (record { why = WrongMasksLine; offset = from }))
  second_wrong scratch f =
      ap (λ (l : Option Masks). tableless text (after_masks text order l)) (sym there ∙ f) ∙ ap (λ (k : ℕ). turned_down WrongMasksLine k) (sym start-there)

  pub second_declared : (m : Masks) (scratch : List ℕ) (r : Result Figures Fault) → line ≡ Some m → LinesListed text order m scratch r
      → SecondReads text order scratch r
  second_declared m scratch r f reads =
      subst (λ (o : Reading). OutcomeRead (tableless text o) scratch r) (sym (ap (after_masks text order) (sym there ∙ f))) reads

  pub masks-inside : (m : Masks) → order_line text ≡ Some order → line ≡ Some m
      → (order ≤ max_order) × (m.end ≤ length text)
  masks-inside m o f =
      let h = header-spelled text order m o (sym there ∙ f) in (h.1.digit.1, h.1.inside)

-- ---- a fault for what is not there

pub fault_kept : {A : Type 0} (o : Option A) (kept given : Fault) → ◌≡◌ {A = Result A Fault} (Err given) (ok_or o kept) → o ≡ None → given ≡ kept
fault_kept (Some x) kept given e n = let z : ◌≡◌ {A = ℕ} 0 1 = cc in absurd (omega (arith, z))
fault_kept None kept given e n = cc

-- ---- the first line

module _ (text scratch : List ℕ) where
  pub text_long : max_text < length text → ScratchReads text scratch (Err (record { why = TextTooLong; offset = max_text }))
  text_long h =
      ap (λ (b : Bool). tableless text (cond b (turned_down TextTooLong max_text) (after_order text (order_line text)))) (lt-ltb max_text (length text) h)

  module _ (short : length text ≤ max_text) (line : Option ℕ) (e : line ≡ order_line text) where
    -- a text that is not too long
    begins : reading text ≡ after_order text line
    begins =
        ap (λ (b : Bool). cond b (turned_down TextTooLong max_text) (after_order text (order_line text))) (le-ltb max_text (length text) short)
        ∙ ap (after_order text) (sym e)

    pub first_wrong : line ≡ None → ScratchReads text scratch (Err (record { why = WrongOrderLine; offset = 0 }))
    first_wrong f = ap (tableless text) (begins ∙ ap (after_order text) f)

    pub first_given : (order : ℕ) (r : Result Figures Fault) → line ≡ Some order → SecondReads text order scratch r → ScratchReads text scratch r
    first_given order r f reads = subst (λ (o : Reading). OutcomeRead (tableless text o) scratch r) (sym (begins ∙ ap (after_order text) f)) reads
