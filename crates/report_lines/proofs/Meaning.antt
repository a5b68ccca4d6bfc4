-- What the report says of a gadget, in the words of the grammar and of the watcher.
--     refused-report                       the report, where reading tells a refusal
--     turned_told, large-told              what reading tells of a text that is turned down, and of one with too many wires
--     read-report                          the report on a text that was read
--     function-told, yes_exactly           what the function check tells of a table that passes the tests: yes exactly where the outer wires add up
--     product-sum, product-copy, sum-copy  no two of the three functions are what the outer wires add up to
--     named                                which function is named, by the three answers
--     function_accepted, read_accepted     of a text that was read neither the function check nor a verdict is refused
--     says_function                        what the function line says
--     says                                 what the report says of a text that spells a description within the limits
--     refuses                              and of any other
use Prim.Native.Nat.{ℕ, ◌+◌, ◌*◌, ◌≤◌, ◌<◌}
use native.Mathlib.Omega.{arith}
use mathlib.Core.Path.{◌≡◌, refl, sym, ◌∙◌, ap, ap₂, subst}
use mathlib.Core.Logic.{◌↔◌, ◌⊎◌, inl, inr, ⊎_elim}
use mathlib.Core.Bool.{Bool, true, false, cond, not, ◌&&◌, xor, false≢true}
use mathlib.Core.List.{List, [], ◌∷◌, ◌++◌}
use lib.Dec.{ltb, leb, eqb}
use lib.ListN.{length, length-replicate, drop}
use lib.Seq.{take_at}
use borrow.Author.Tests.{le-leb, ltb-true, ltb-false}
use Rattle.limits.specs.Limits.{max_wires, record_bytes, max_table_bytes}
use Rattle.basics.specs.Folds.{one_if}
use Rattle.basics.specs.Quoted.{bytes}
use Rattle.basics.specs.Told.{values, refusal}
use Rattle.basics.proofs.Tests.{xor-false, false-xor, xor_self}
use Rattle.basics.proofs.Folds.{fold_pick}
use Rattle.basics.proofs.Conditions.{values-refusal}
use Rattle.wires.specs.Wires.{Wire, Input}
use Rattle.wires.specs.Function.{operand, function_of, AddUpTo, computes}
use Rattle.wires.proofs.Function.{computes-exactly}
use Rattle.records.specs.Layout.{wires}
use Rattle.table.specs.Answers.{table_check, function_check}
use Rattle.table.proofs.Conditions.{accepted_exactly, tested-answer}
use Rattle.verdict_answers.specs.Answers.{verdict_of}
use Rattle.verdict_answers.specs.Jobs.{Ordered}
use Rattle.verdict_answers.proofs.Conditions.{verdict_ordered}
use Rattle.description.specs.declared.Listed.{Listed}
use Rattle.description.specs.declared.Refusal.{Refusal}
use Rattle.description.specs.Listing.{records_of}
use Rattle.description.specs.Grammar.{Description, Spells, Limits, wires_of}
use Rattle.description.specs.Run.{Reading, read, turned_down, reading, refusal_number}
use Rattle.description.proofs.Encoding.{length-records}
use Rattle.description.proofs.Exactly.{spelled-read, read-spelled}
use Rattle.description.proofs.Tables.{wires_mean, table_passes}
use Rattle.reader.specs.Answers.{ReadTold, ReadLent, refused, lent_reading, read_text}
use Rattle.reader.proofs.Telling.{too_large_lem, large-enough}
use Rattle.reader.specs.Reads.{Readable}
use Rattle.pages.proofs.Writing.{apart}
use Rattle.verdict_lines.specs.Lines.{empty_set, notion_line}
use Rattle.verdict_lines.proofs.Meaning.{line_says}
use Rattle.figure_lines.specs.Figures.{order_line, says_yes, function_line, refused_line}
use Rattle.report_lines.specs.Report.{checked, empty_table, reported, read_reported, report}
use Rattle.report_lines.specs.Meaning.{table_of, shares_of, masks_of, Computes, NamesFunction, ReportSays, Refuses}

-- ---- what reading comes to

module _ (text : List ℕ) where
  refused-report : (number offset : ℕ) → (read_text text empty_table).told ≡ refused number offset → report text ≡ refused_line number offset
  unfolding report
  refused-report number offset e = ap (λ (t : ReadTold). reported t (read_text text empty_table).held) e

  turned_told : (why : Refusal) (offset : ℕ) → reading text ≡ turned_down why offset
      → (read_text text empty_table).told ≡ refused (refusal_number why) offset
  turned_told why offset e = ap (λ (r : Reading). (lent_reading text empty_table r).told) e

  module _ (order masks : ℕ) (ws : List Listed) (e : reading text ≡ read order masks ws) where
    large-told : max_wires < length ws → (read_text text empty_table).told ≡ refused 10 (length text)
    large-told h = ap (λ (lent : ReadLent). lent.told) (too_large_lem text empty_table order masks ws e (inl h))

    read-report : length ws ≤ max_wires
        → report text ≡ order_line order (order + 1) masks (length ws) ++ checked (records_of ws) order (order + 1) masks
    unfolding report
    read-report few =
        let room = length-replicate {A = ℕ} max_table_bytes 0 in
        ap read_reported (large-enough text empty_table order masks ws e few (omega (arith, room, few)))
        ∙ ap (λ (l : List ℕ). order_line order (order + 1) masks (length ws) ++ checked l order (order + 1) masks)
        (take_at (records_of ws) (drop (record_bytes * length ws) empty_table) (record_bytes * length ws) (length-records ws))

-- ---- the function

module _ (table : List ℕ) (shares masks : ℕ) (sound : values [] ≡ table_check table shares masks) (function : ℕ) (low : 1 ≤ function)
    (high : function ≤ 3) where
  function-told : function_check table shares masks function ≡ values (one_if (computes function shares masks (wires table)) ∷ [])
  function-told =
      let answer = values (one_if (computes function shares masks (wires table)) ∷ []) in
      tested-answer table shares masks refusal (cond (not (leb 1 function && leb function 3)) (refusal 20) answer) ((accepted_exactly table shares masks).0 sound)
      ∙ simp (le-leb 1 function low, le-leb function 3 high)

  yes_exactly : (says_yes (function_check table shares masks function) ≡ true) ↔ AddUpTo function shares masks (wires table)
  yes_exactly =
      let test = computes function shares masks (wires table) in
      let exactly = computes-exactly function shares masks (wires table) in
      let same : says_yes (function_check table shares masks function) ≡ test = ap says_yes function-told ∙ one test in
      (λ e. exactly.0 (sym same ∙ e), λ h. same ∙ exactly.1 h)
    where
      one : (b : Bool) → says_yes (values (one_if b ∷ [])) ≡ b
      one true = refl
      one false = refl

-- the input whose first shares alone may be 1, that of a being 1, tells the three functions apart
module _ (d : Description) where
  abbrev input : Bool → Input
  input b = record { of_a = λ i. cond (eqb i 0) true false; of_b = λ j. cond (eqb j 0) b false }

  first-share : (b : Bool) → operand (shares_of d) (λ i. cond (eqb i 0) b false) ≡ b
  first-share b = fold_pick xor false false-xor xor-false (shares_of d) 0 (λ i. b) (omega arith)

  same-value : (f g : ℕ) (b : Bool) → Computes d f → Computes d g
      → cond (eqb f 1) b (cond (eqb f 2) (xor true b) true) ≡ cond (eqb g 1) b (cond (eqb g 2) (xor true b) true)
  same-value f g b p q = sym (is f) ∙ sym (p (input b) (λ k. false)) ∙ q (input b) (λ k. false) ∙ is g
    where
      is : (f : ℕ) → function_of f (shares_of d) (input b) ≡ cond (eqb f 1) b (cond (eqb f 2) (xor true b) true)
      is f = ap₂ (λ (x y : Bool). cond (eqb f 1) (x && y) (cond (eqb f 2) (xor x y) x)) (first-share true) (first-share b)

  product-sum : Computes d 1 → Computes d 2 → ⊥
  product-sum p q = false≢true (same-value 1 2 false p q ∙ xor-false true)

  product-copy : Computes d 1 → Computes d 3 → ⊥
  product-copy p q = false≢true (same-value 1 3 false p q)

  sum-copy : Computes d 2 → Computes d 3 → ⊥
  sum-copy p q = false≢true (sym (xor_self true) ∙ same-value 2 3 true p q)

-- the four lines differ in the first letter of the name
named : (d : Description) (p s c : Bool) → (p ≡ true) ↔ Computes d 1 → (s ≡ true) ↔ Computes d 2 → (c ≡ true) ↔ Computes d 3
    → NamesFunction d (bytes "function " ++ cond p (bytes "product") (cond s (bytes "sum") (cond c (bytes "copy") (bytes "other"))) ++ bytes "\n")
named d true s c product sum copy = record {
  product = (λ e. product.0 refl, λ h. refl);
  sum = (λ e. absurd (apart 9 e refl), λ h. absurd (product-sum d (product.0 refl) h));
  copy = (λ e. absurd (apart 9 e refl), λ h. absurd (product-copy d (product.0 refl) h));
  other = (λ e. absurd (apart 9 e refl), λ none. absurd (none.0 (product.0 refl)));
  named = inl refl;
}
named d false true c product sum copy = record {
  product = (λ e. absurd (apart 9 e refl), λ h. absurd (false≢true (product.1 h)));
  sum = (λ e. sum.0 refl, λ h. refl);
  copy = (λ e. absurd (apart 9 e refl), λ h. absurd (sum-copy d (sum.0 refl) h));
  other = (λ e. absurd (apart 9 e refl), λ none. absurd (none.1 (sum.0 refl)));
  named = inr (inl refl);
}
named d false false true product sum copy = record {
  product = (λ e. absurd (apart 9 e refl), λ h. absurd (false≢true (product.1 h)));
  sum = (λ e. absurd (apart 9 e refl), λ h. absurd (false≢true (sum.1 h)));
  copy = (λ e. copy.0 refl, λ h. refl);
  other = (λ e. absurd (apart 9 e refl), λ none. absurd (none.2 (copy.0 refl)));
  named = inr (inr (inl refl));
}
named d false false false product sum copy = record {
  product = (λ e. absurd (apart 9 e refl), λ h. absurd (false≢true (product.1 h)));
  sum = (λ e. absurd (apart 9 e refl), λ h. absurd (false≢true (sum.1 h)));
  copy = (λ e. absurd (apart 9 e refl), λ h. absurd (false≢true (copy.1 h)));
  other = (λ e. (λ h. false≢true (product.1 h), λ h. false≢true (sum.1 h), λ h. false≢true (copy.1 h)), λ none. refl);
  named = inr (inr (inr refl));
}

-- ---- a text that spells a description within the limits

module _ (text : List ℕ) (d : Description) (spells : Spells text d) (limits : Limits text d) (few : length (wires_of d) ≤ max_wires) where
  sound : values [] ≡ table_check (table_of d) (shares_of d) (masks_of d)
  sound = sym (table_passes text d spells limits few)

  module _ (function : ℕ) (low : 1 ≤ function) (high : function ≤ 3) where
    pub function_accepted : (k : ℕ) → function_check (table_of d) (shares_of d) (masks_of d) function ≡ refusal k → ⊥
    function_accepted k e =
        values-refusal (one_if (computes function (shares_of d) (masks_of d) (wires (table_of d))) ∷ []) k
        (sym (function-told (table_of d) (shares_of d) (masks_of d) sound function low high) ∙ e)

    computed : (says_yes (function_check (table_of d) (shares_of d) (masks_of d) function) ≡ true) ↔ Computes d function
    computed =
        subst
        (λ (l : List Wire).
        (says_yes (function_check (table_of d) (shares_of d) (masks_of d) function) ≡ true) ↔ AddUpTo function (shares_of d) (masks_of d) l)
        (wires_mean text d spells limits) (yes_exactly (table_of d) (shares_of d) (masks_of d) sound function low high)

  says_function : NamesFunction d (function_line (table_of d) (shares_of d) (masks_of d))
  unfolding function_line
  says_function =
      let yes : ℕ → Bool = λ function. says_yes (function_check (table_of d) (shares_of d) (masks_of d) function) in
      named d (yes 1) (yes 2) (yes 3) (computed 1 (omega arith) (omega arith)) (computed 2 (omega arith) (omega arith))
      (computed 3 (omega arith) (omega arith))

  module _ (notion : ℕ) (known : (notion ≡ 1) ⊎ (notion ≡ 2)) where
    ordered : Ordered (table_of d) (shares_of d) (masks_of d) notion d.order empty_set
    ordered = record {
      sound = sound;
      known = λ wrong. ⊎_elim wrong.0 wrong.1 known;
      low = spells.order-digit.0;
      high = omega arith;
      room = spells.order-digit.1;
    }

    pub read_accepted : (k : ℕ) → (verdict_of (table_of d) (shares_of d) (masks_of d) notion d.order empty_set).told ≡ refusal k → ⊥
    read_accepted k e =
        let tells = (verdict_ordered (table_of d) (shares_of d) (masks_of d) notion d.order empty_set).1 ordered in
        values-refusal tells.0 k (sym tells.1 ∙ e)

-- ---- the report

pub says : (text : List ℕ) (d : Description) → Spells text d → Limits text d → length (wires_of d) ≤ max_wires → ReportSays text d
unfolding checked
says text d spells limits few = record {
  function = function_line (table_of d) (shares_of d) (masks_of d);
  ni = notion_line (table_of d) (shares_of d) (masks_of d) 1 d.order;
  sni = notion_line (table_of d) (shares_of d) (masks_of d) 2 d.order;
  lines = read-report text d.order (masks_of d) (wires_of d) (spelled-read text d spells limits) few;
  names = says_function text d spells limits few;
  says_ni = line_says (table_of d) (shares_of d) (masks_of d) 1 d.order (ordered text d spells limits few 1 (inl refl));
  says_sni = line_says (table_of d) (shares_of d) (masks_of d) 2 d.order (ordered text d spells limits few 2 (inr refl));
}

pub refuses : (text : List ℕ) → (Readable text max_table_bytes → ⊥) → Refuses text
refuses text never = by_reading (reading text) refl
  where
    turned : (number offset : ℕ) → (read_text text empty_table).told ≡ refused number offset → Refuses text
    turned number offset e = record { number = number; offset = offset; told = e; line = refused-report text number offset e }

    by_reading : (r : Reading) → reading text ≡ r → Refuses text
    by_reading (turned_down why offset) e = turned (refusal_number why) offset (turned_told text why offset e)
    by_reading (read order masks ws) e = by_size (ltb max_wires (length ws)) refl
      where
        by_size : (large : Bool) → ltb max_wires (length ws) ≡ large → Refuses text
        by_size true f = turned 10 (length text) (large-told text order masks ws e (ltb-true max_wires (length ws) f))
        by_size false f =
            let s = read-spelled text order masks ws e in
            let few = subst (λ (l : List Listed). length l ≤ max_wires) s.same-wires (ltb-false max_wires (length ws) f) in
            absurd (never (record {
              description = s.description;
              spells = s.spells;
              limits = s.limits;
              few-wires = few;
              table_room = omega (arith, few);
            }))
