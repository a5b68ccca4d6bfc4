-- The text of every order is read without refusal, and its table computes the product.
--     Fits               the order's text, masks and wires are within the limits of a text
--     written-fits       so are the orders that are written
--     isw_limits, isw_printable     the text is within the limits, and the gadget can be written out
--     isw_wires_lem          so many wires
--     isw_value          the outer wires' values add up to the product
--     isw_reads          it is read as the product
use Rattle.std.specs.Prelude.{Ok}
use Prim.Native.Nat.{ℕ, ◌+◌, ◌*◌, ◌≤◌}
use native.Mathlib.Omega.{arith}
use mathlib.Core.Path.{◌≡◌, refl, sym, ◌∙◌, ap, ap₂, subst}
use mathlib.Core.Logic.{⊎_elim}
use mathlib.Core.Bool.{Bool, true, false, not, ◌&&◌, xor}
use mathlib.Core.List.{List, [], ◌∷◌, ◌++◌, map}
use borrow.Author.Tests.{leb-true}
use lib.Dec.{eqb, leb}
use lib.ListN.{length, take}
use Rattle.limits.specs.Limits.{max_order, max_masks, max_wires, record_bytes}
use Rattle.basics.specs.Told.{values}
use Rattle.basics.specs.Folds.{parity, every, count, one_if, up_to}
use Rattle.basics.proofs.Tests.{and_left, and_right}
use Rattle.basics.proofs.Folds.{fold-map, fold_unit, every_at, up_to-length}
use Rattle.wires.specs.Function.{AddUpTo}
use Rattle.wires.specs.declared.Symbol.{Symbol}
use Rattle.wires.proofs.Function.{computes-exactly}
use Rattle.records.specs.Layout.{wires}
use Rattle.table.specs.Answers.{function_check}
use Rattle.table.proofs.Conditions.{function_chain, accepted_exactly, sound_none}
use Rattle.description.specs.Run.{max_text, reading, read}
use Rattle.description.specs.Listing.{wire_of}
use Rattle.description.specs.Grammar.{Description, Limits, Spells, empty, symbols, known, wires_of, header_text}
use Rattle.description.specs.Printing.{text_of}
use Rattle.description.proofs.Laying.{laid_out}
use Rattle.description.proofs.Joining.{names-low, names-once, names-count}
use Rattle.description.proofs.Printing.{Printable, printed-spells, printed-read, laid_limits, laid_symbols, laid_empty, laid_whole, laid_fold, laid_count}
use Rattle.description.proofs.Outers.{symbol_value, lines-value}
use Rattle.description.proofs.Distinct.{distinct}
use Rattle.description.proofs.Counting.{all_symbols, single, lines-count}
use Rattle.description.proofs.Events.{whole}
use Rattle.reader.specs.Answers.{gives, ReadLent, read_text}
use Rattle.reader.specs.Reads.{ReadsGrammar}
use Rattle.scratch_reader.specs.declared.Reading.{Reading as Figures}
use Rattle.reader.proofs.Telling.{large-enough, reads_grammar}
use Rattle.isw_gadget.specs.Pairs.{pairs}
use Rattle.isw_gadget.specs.Text.{isw_text}
use Rattle.isw_gadget.proofs.Gadget.{line, isw}
use Rattle.isw_gadget.specs.Answers.{max_isw_order}
use Rattle.isw_gadget.specs.Reads.{isw_wires, ReadAsProduct}
use Rattle.isw_gadget.proofs.Sums.{mapped_length}
use Rattle.isw_gadget.proofs.Lines.{good_lines, shallow-lines, known-lines, isw_printed}
use Rattle.isw_gadget.proofs.Product.{isw_product}
use Rattle.isw_gadget.proofs.Symbols.{uses-count, several}
use Rattle.isw_gadget.proofs.Distinct.{distinct-count}

-- ---- the limits

pub record Fits (d : ℕ) : Type 0 where
  pub low : 1 ≤ d
  pub high : d ≤ max_order
  pub short : length (isw_text d) ≤ max_text
  pub few-masks : pairs d ≤ max_masks
  pub few-wires : isw_wires d ≤ max_wires

abbrev fitting : ℕ → Bool
fitting d = leb d max_order && (leb (length (isw_text d)) max_text && (leb (pairs d) max_masks && leb (isw_wires d) max_wires))

-- by running the test over the orders that are written
pub written-fits : (d : ℕ) → 1 ≤ d → d ≤ max_isw_order → Fits d
unfolding isw_text up_to
written-fits d l h =
    let all = every_at (max_isw_order + 1) d fitting refl (omega (arith, h)) in
    let text = and_right (leb d max_order) (leb (length (isw_text d)) max_text && (leb (pairs d) max_masks && leb (isw_wires d) max_wires)) all in
    let masks = and_right (leb (length (isw_text d)) max_text) (leb (pairs d) max_masks && leb (isw_wires d) max_wires) text in
    record {
      low = l;
      high = leb-true d max_order (and_left (leb d max_order) (leb (length (isw_text d)) max_text && (leb (pairs d) max_masks && leb (isw_wires d) max_wires)) all);
      short = leb-true (length (isw_text d)) max_text (and_left (leb (length (isw_text d)) max_text) (leb (pairs d) max_masks && leb (isw_wires d) max_wires) text);
      few-masks = leb-true (pairs d) max_masks (and_left (leb (pairs d) max_masks) (leb (isw_wires d) max_wires) masks);
      few-wires = leb-true (isw_wires d) max_wires (and_right (leb (pairs d) max_masks) (leb (isw_wires d) max_wires) masks);
    }

pub lines-many : (d : ℕ) → length (isw d).lines ≡ d + 1
lines-many d = mapped_length (line d) (up_to (d + 1)) ∙ up_to-length (d + 1)

module _ (d : ℕ) (f : Fits d) where
  pub isw_limits : Limits (text_of (isw d)) (isw d)
  isw_limits = record {
    short = subst (λ (l : List ℕ). length l ≤ max_text) (sym (isw_printed d)) f.short;
    line-count = lines-many d;
    shallow = shallow-lines d;
    all_known = known-lines d;
  }

  pub isw_printable : Printable (isw d)
  isw_printable = record {
    order-digit = (f.low, f.high);
    name_numbers = names-low (pairs d) f.few-masks;
    names-once = names-once (pairs d);
    good_lines = good_lines d;
  }

  abbrev laid_isw : Description
  laid_isw = laid_out (isw d)

  abbrev at : ℕ
  at = length (header_text d (up_to (pairs d)))

  -- ---- its wires

  laid_good : every (λ is. not (empty is) && whole is) laid_isw.lines ≡ true
  laid_good =
      laid_fold ◌&&◌ true (λ is. not (empty is) && whole is)
      (λ p is. ap₂ (λ (a b : Bool). not a && b) (laid_empty p is) (laid_whole p is)) at (isw d).lines
      ∙ good_lines d

  laid_all : all_symbols laid_isw.lines ≡ all_symbols (isw d).lines
  laid_all = laid_fold ◌++◌ [] symbols laid_symbols at (isw d).lines

  no_single : count single laid_isw.lines ≡ 0
  no_single =
      laid_fold ◌+◌ 0 (λ is. one_if (single is)) (λ p is. ap (λ (l : List Symbol). one_if (eqb (length l) 1)) (laid_symbols p is)) at (isw d).lines
      ∙ fold-map ◌+◌ 0 (line d) (λ is. one_if (single is)) (up_to (d + 1))
      ∙ fold_unit ◌+◌ 0 (λ k. omega arith) (λ i. one_if (single (line d i))) (up_to (d + 1)) (λ i. ap (λ (b : Bool). one_if b) (several d i f.low))

  pub isw_wires_lem : length (wires_of laid_isw) ≡ isw_wires d
  isw_wires_lem =
      let counted = lines-count laid_isw.lines [] 0 laid_good in
      let lines = laid_count at (isw d).lines ∙ lines-many d in
      let used = ap length laid_all ∙ uses-count d in
      let named = ap (distinct []) laid_all ∙ distinct-count d f.few-masks in
      let none = no_single in
      omega (arith, counted, lines, used, named, none)

  -- ---- its function

  laid_known : every (λ is. every (known (d + 1) (up_to (pairs d))) (symbols is)) laid_isw.lines ≡ true
  laid_known = (laid_limits (text_of (isw d)) (isw d) isw_limits).all_known

  pub isw_value : AddUpTo 1 (d + 1) (pairs d) (map wire_of (wires_of laid_isw))
  isw_value x r =
      let high = f.high in
      lines-value (d + 1) (pairs d) (up_to (pairs d)) (omega (arith, high)) (names-low (pairs d) f.few-masks) x r laid_isw.lines [] 0 laid_good laid_known
      ∙ laid_fold xor false (λ is. parity (symbol_value (d + 1) (pairs d) x r) (symbols is))
      (λ p is. ap (parity (symbol_value (d + 1) (pairs d) x r)) (laid_symbols p is)) at (isw d).lines
      ∙ isw_product d x r

  -- ---- what is told of it

  isw_reading : reading (isw_text d) ≡ read d (pairs d) (wires_of laid_isw)
  isw_reading =
      ap reading (sym (isw_printed d)) ∙ printed-read (isw d) isw_printable isw_limits
      ∙ ap (λ (m : ℕ). read d m (wires_of laid_isw)) (names-count (pairs d))

  module _ (table : List ℕ) (room : record_bytes * isw_wires d ≤ length table) where
    abbrev held : List ℕ
    held = (read_text (isw_text d) table).held

    told : (read_text (isw_text d) table).told ≡ gives d (d + 1) (pairs d) (isw_wires d)
    told =
        let few = f.few-wires in
        let size = isw_wires_lem in
        ap (λ (l : ReadLent). l.told)
        (large-enough (isw_text d) table d (pairs d) (wires_of laid_isw) isw_reading (omega (arith, few, size)) (omega (arith, room, size)))
        ∙ ap (gives d (d + 1) (pairs d)) isw_wires_lem

    -- what is given of it
    abbrev given : Figures
    given = record { order = d; shares = d + 1; masks = pairs d; wires = isw_wires d }

    grammar : ReadsGrammar (Ok given) (isw_text d) (length table) held
    grammar =
        reads_grammar (isw_text d) table (Ok given) held
        (ap (λ t. record { told = t; held = held }) (sym told))

    same-wires : wires (take (record_bytes * isw_wires d) held) ≡ map wire_of (wires_of laid_isw)
    same-wires =
        (grammar.read-gives given refl laid_isw
        (subst (λ (l : List ℕ). Spells l laid_isw) (isw_printed d) (printed-spells (isw d) isw_printable isw_limits))).same-wires

    sum_is : AddUpTo 1 (d + 1) (pairs d) (wires (take (record_bytes * isw_wires d) held))
    sum_is = subst (AddUpTo 1 (d + 1) (pairs d)) (sym same-wires) isw_value

    says_product : function_check (take (record_bytes * isw_wires d) held) (d + 1) (pairs d) 1 ≡ values (1 ∷ [])
    says_product =
        let records = take (record_bytes * isw_wires d) held in
        let sound = (accepted_exactly records (d + 1) (pairs d)).0 (sym (grammar.read-passes given refl)) in
        (function_chain records (d + 1) (pairs d) 1).none
        (sound_none records (d + 1) (pairs d) sound (⊎_elim (λ h. omega (arith, h)) (λ h. omega (arith, h)), tt))
        ∙ ap (λ (b : Bool). values (one_if b ∷ [])) ((computes-exactly 1 (d + 1) (pairs d) (wires records)).1 sum_is)

  pub isw_reads : ReadAsProduct d (isw_text d)
  isw_reads = record { read = told; product = says_product; adds_up = sum_is }
