-- A text is read exactly when it spells a description within the limits, and the wires read are that description's.
--     SpelledBy       a description that a text spells, within the limits, with this order, mask count and wires
--     spelled-read    what spells a description within the limits is read, into its order, mask count and wires
--     read-spelled    what is read spells such a description
--     spelled-limits  and the one description that it spells is within the limits
use Rattle.std.specs.Prelude.{Option, Some, None}
use Prim.Native.Nat.{ℕ, ◌+◌, ◌≤◌}
use native.Mathlib.Omega.{arith}
use mathlib.Core.Path.{◌≡◌, refl, sym, ◌∙◌, ap, ap₂, subst}
use mathlib.Core.Bool.{Bool, true, false, cond}
use mathlib.Core.List.{List}
use borrow.Author.Tests.{le-ltb, ltb-false}
use lib.Dec.{ltb}
use lib.ListN.{length, drop}
use Rattle.description.specs.Header.{order_line, masks_line}
use Rattle.description.specs.Run.{read, turned_down, reading, listed, after_masks, after_order, Outcome, done, refused, run_at, start, second_at, max_text}
use Rattle.description.specs.Grammar.{Description, Spells, Limits, Lines, wires_of, mask_count, header_text}
use Rattle.description.specs.declared.Listed.{Listed}
use Rattle.description.specs.declared.Masks.{Masks}
use Rattle.description.specs.declared.Refusal.TheVariants.{TextTooLong}
use Rattle.description.proofs.HeaderLines.{HeaderRead, header_read, header-spelled}
use Rattle.description.proofs.Outputs.{lines-run}
use Rattle.description.proofs.Found.{run-lines}
use Rattle.description.proofs.Unique.{spelled-once}

pub record SpelledBy (text : List ℕ) (order masks : ℕ) (ws : List Listed) : Type 0 where
  pub description : Description
  pub spells : Spells text description
  pub limits : Limits text description
  pub same-order : order ≡ description.order
  pub same-masks : masks ≡ mask_count description.names
  pub same-wires : ws ≡ wires_of description

pub spelled-read : (text : List ℕ) (d : Description) → Spells text d → Limits text d
    → reading text ≡ read d.order (mask_count d.names) (wires_of d)
spelled-read text d s l =
    let h = header_read text d.order d.names s.order-digit s.name_numbers s.names-once s.header s.header-end in
    let m = h.1.0 in
    let r = h.1.1.1 in
    let low = s.order-digit.1 in
    let out =
    lines-run text (d.order + 1) m.declared d.names (omega (arith, low)) r.declares (length (header_text d.order d.names)) d.lines
    s.output_lines l.line-count l.shallow l.all_known in
    ap (λ (b : Bool). cond b (turned_down TextTooLong max_text) (after_order text (order_line text))) (le-ltb max_text (length text) l.short)
    ∙ ap (after_order text) h.0 ∙ ap (after_masks text d.order) h.1.1.0
    ∙ ap₂ (λ (masks at : ℕ). listed d.order masks (run_at (d.order + 1) m.declared text at start)) r.count r.end
    ∙ ap (listed d.order (mask_count d.names)) out.1 ∙ ap (read d.order (mask_count d.names)) out.2

pub read-spelled : (text : List ℕ) (order masks : ℕ) (ws : List Listed) → reading text ≡ read order masks ws → SpelledBy text order masks ws
read-spelled text order masks ws e = by_length (ltb max_text (length text)) refl e
  where
    -- the description that was found is the one that is read
    found : (d : Description) → Spells text d → Limits text d → SpelledBy text order masks ws
    found d s l =
        let f : read order masks ws ≡ read d.order (mask_count d.names) (wires_of d) = sym e ∙ spelled-read text d s l in
        record { description = d; spells = s; limits = l; same-order = cc; same-masks = cc; same-wires = cc }

    by_run : length text ≤ max_text → (n : ℕ) (m : Masks) (o : Outcome) → (names : List ℕ) × HeaderRead text n m names
        → run_at (n + 1) m.declared text m.end start ≡ o → listed n m.count o ≡ read order masks ws → SpelledBy text order masks ws
    by_run short n m (refused why at) h f g = let z : ◌≡◌ {A = ℕ} 0 1 = cc in absurd (omega (arith, z))
    by_run short n m (done t) h f g =
        let r = h.1 in
        let low = r.digit.1 in
        let ls = run-lines text (n + 1) m.declared h.0 (omega (arith, low)) r.declares m.end t r.inside f in
        found (record { order = n; names = h.0; lines = ls.lines })
        (record {
          order-digit = r.digit;
          name_numbers = r.declares.low;
          names-once = r.names-once;
          header = r.header;
          header-end = r.header-end;
          output_lines = subst (λ (at : ℕ). Lines text at ls.lines) r.end ls.spelled;
        })
        (record { short = short; line-count = ls.count; shallow = ls.shallow; all_known = ls.allowed })

    by_masks : length text ≤ max_text → (n : ℕ) → order_line text ≡ Some n → (line : Option Masks) → masks_line second_at (drop second_at text) ≡ line
        → after_masks text n line ≡ read order masks ws → SpelledBy text order masks ws
    by_masks short n h None f g = let z : ◌≡◌ {A = ℕ} 0 1 = cc in absurd (omega (arith, z))
    by_masks short n h (Some m) f g =
        by_run short n m (run_at (n + 1) m.declared text m.end start) (header-spelled text n m h f) refl g

    by_order : length text ≤ max_text → (line : Option ℕ) → order_line text ≡ line → after_order text line ≡ read order masks ws
        → SpelledBy text order masks ws
    by_order short None f g = let z : ◌≡◌ {A = ℕ} 0 1 = cc in absurd (omega (arith, z))
    by_order short (Some n) f g = by_masks short n f (masks_line second_at (drop second_at text)) refl g

    by_length : (long : Bool) → ltb max_text (length text) ≡ long
        → cond long (turned_down TextTooLong max_text) (after_order text (order_line text)) ≡ read order masks ws → SpelledBy text order masks ws
    by_length true h f = let z : ◌≡◌ {A = ℕ} 0 1 = cc in absurd (omega (arith, z))
    by_length false h f = by_order (ltb-false max_text (length text) h) (order_line text) refl f

pub spelled-limits : (text : List ℕ) (order masks : ℕ) (ws : List Listed) → reading text ≡ read order masks ws
    → (d : Description) → Spells text d → Limits text d
spelled-limits text order masks ws e d s =
    let r = read-spelled text order masks ws e in
    subst (Limits text) (spelled-once text r.description d r.spells s) r.limits
