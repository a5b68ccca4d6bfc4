-- A text that is turned down before its output lines are read (scope, "What each operation turns down").
--     too_long         1: over 4,096 bytes, offset 4,096, before all else
--     first_wrong      2: first line wrong, offset 0
--     second_wrong     3: second line wrong or absent, offset where it starts or the text's length
--     second_inside, second_absent     where that is
--     after_header     else what the run over the output lines comes to
use Rattle.std.specs.Prelude.{Option, Some, None}
use Prim.Native.Nat.{ℕ, ◌+◌, ◌≤◌, ◌<◌}
use mathlib.Core.Path.{◌≡◌, refl, ◌∙◌, ap}
use mathlib.Core.Bool.{Bool, cond}
use mathlib.Core.List.{List}
use borrow.Author.Tests.{lt-ltb, le-ltb}
use lib.ListN.{length, drop}
use Rattle.description.specs.Header.{order_line, masks_line}
use Rattle.description.specs.Run.{turned_down, listed, start, run_at, max_text, second_at, second_line, after_masks, after_order, reading}
use Rattle.description.specs.declared.Masks.{Masks}
use Rattle.description.specs.declared.Refusal.TheVariants.{TextTooLong, WrongOrderLine, WrongMasksLine}
use Rattle.description.proofs.HeaderLines.{FirstLine, order-exactly, HeaderRead, header-spelled}

module _ (text : List ℕ) where
  pub too_long : 4096 < length text → reading text ≡ turned_down TextTooLong 4096
  too_long h = ap (λ (b : Bool). cond b (turned_down TextTooLong max_text) (after_order text (order_line text))) (lt-ltb max_text (length text) h)

  module _ (short : length text ≤ 4096) where
    in_length : reading text ≡ after_order text (order_line text)
    in_length = ap (λ (b : Bool). cond b (turned_down TextTooLong max_text) (after_order text (order_line text))) (le-ltb max_text (length text) short)

    pub first_wrong : ((order : ℕ) → FirstLine text order → ⊥) → reading text ≡ turned_down WrongOrderLine 0
    first_wrong none = in_length ∙ go (order_line text) refl
      where
        go : (line : Option ℕ) → order_line text ≡ line → after_order text line ≡ turned_down WrongOrderLine 0
        go None e = refl
        go (Some order) e = absurd (none order ((order-exactly text order).0 e))

    module _ (order : ℕ) (first : FirstLine text order) where
      is-order : order_line text ≡ Some order
      is-order = (order-exactly text order).1 first

      second : reading text ≡ after_masks text order (masks_line second_at (drop second_at text))
      second = in_length ∙ ap (after_order text) is-order

      pub second_wrong : ((m : Masks) (names : List ℕ) → HeaderRead text order m names → ⊥) → reading text ≡ turned_down WrongMasksLine (second_line text)
      second_wrong none = second ∙ go (masks_line second_at (drop second_at text)) refl
        where
          go : (line : Option Masks) → masks_line second_at (drop second_at text) ≡ line → after_masks text order line ≡ turned_down WrongMasksLine (second_line text)
          go None e = refl
          go (Some m) e = let r = header-spelled text order m is-order e in absurd (none m r.0 r.1)

      pub after_header : (m : Masks) → masks_line second_at (drop second_at text) ≡ Some m
          → reading text ≡ listed order m.count (run_at (order + 1) m.declared text m.end start)
      after_header m e = second ∙ ap (after_masks text order) e

-- where the second line starts, or the text's length
pub second_inside : (text : List ℕ) → 10 ≤ length text → second_line text ≡ 10
second_inside text h = ap (λ (b : Bool). cond b (length text) second_at) (le-ltb (length text) second_at h)

pub second_absent : (text : List ℕ) → length text < 10 → second_line text ≡ length text
second_absent text h = ap (λ (b : Bool). cond b (length text) second_at) (lt-ltb (length text) second_at h)
