-- Where the run over the output lines is done, the text spells output lines within the limits.
--     run-lines    where the run is done, there are such lines
use Rattle.std.specs.Prelude.{Result, Ok, Err}
use Prim.Native.Nat.{ℕ, zero, suc, ◌+◌, ◌≤◌, ◌<◌}
use native.Mathlib.Omega.{arith}
use native.Mathlib.Decide.{dec_lt}
use mathlib.Core.Path.{◌≡◌, refl, sym, ◌∙◌, ap, subst}
use mathlib.Core.Bool.{Bool, true, false, false≢true, or-true}
use mathlib.Core.List.{List, [], ◌∷◌, ◌++◌}
use borrow.Author.Tests.{eqb-false, not-true}
use lib.Dec.{eqb}
use lib.ListN.{length, drop, get_or}
use lib.Seq.{drop-drop}
use Rattle.limits.specs.Limits.{max_shares}
use Rattle.description.specs.Bytes.{space, opening, closing, parts, word}
use Rattle.description.specs.Symbols.{spelling, symbol_length, symbol_read}
use Rattle.description.specs.Run.{State, Around, done, run_at, max_depth, start, placed, took, opened, closed, symbol_item, group_item}
use Rattle.description.specs.Grammar.{Bytes, empty}
use Rattle.wires.specs.declared.Symbol.{Symbol}
use Rattle.description.specs.declared.SymbolFault.{SymbolFault}
use Rattle.description.proofs.Spelling.{Declares, read_known, known-formed, spelling-length}
use Rattle.description.proofs.Places.{at_byte, rest-bytes, word-rest, word_after}
use Rattle.description.proofs.Steps.{Kind, is-space, is-line-end, is-other, kind_of_lem}
use Rattle.description.proofs.Steps.{Other, is-opening, is-bar, is-closing, is-joined, other_of}
use Rattle.description.proofs.Passing.{at_space, at_over, at_opening, at_closing, at_bar, at_symbol}
use Rattle.description.proofs.Passing.{too_deep, nothing-inside, not_open, at_fault}
use Rattle.description.proofs.After.{put_filled}
use Rattle.description.proofs.Following.{symbol_long, symbol-inside}
use Rattle.description.proofs.Ends.{Sound, From, Later, turned_down_lem, at_end, at_line}
use Rattle.description.proofs.Finding.{read_none, read-space, read-symbol, read-group, Rest, rest-before, line-found, Found}

module _ (text : List ℕ) (shares declared : ℕ) (names : List ℕ) (few : shares ≤ max_shares) (d : Declares declared names) where
  module _ (t : State) (p : ℕ) (s : State) (sound : Sound shares s) (run : run_at shares declared text p s ≡ done t)
      (inside : p < length text) (later : Later text shares declared names t p) where
    abbrev byte : ℕ
    byte = get_or text p 0

    found-space : byte ≡ space → From text shares names p s
    found-space e =
        rest-before text shares names s.around s.group.filled s.group.filled s.lines p (p + 1)
        (λ q r. read-space text shares names (length s.around) p q (at_byte text p space inside e) r) (λ q r. refl)
        (later (p + 1) (omega arith) (omega (arith, inside)) s sound (sym (at_space shares declared text p s inside e) ∙ run))

    module _ (fewer : eqb s.lines shares ≡ false) where
      room : s.lines < shares
      room = let within = sound.lines-within in let apart = eqb-false s.lines shares fewer in omega (arith, within, apart)

      found-opening : byte ≡ opening → From text shares names p s
      found-opening e = by (eqb (length s.around) max_depth) refl
        where
          by : (deep : Bool) → eqb (length s.around) max_depth ≡ deep → From text shares names p s
          by true h = absurd (turned_down_lem run (too_deep shares declared text p s inside fewer e h))
          by false h =
              let shallow = sound.few_open in
              let apart = eqb-false (length s.around) max_depth h in
              let r =
              later (p + 1) (omega arith) (omega (arith, inside)) (opened p s)
              (record { lines-within = sound.lines-within; in_line = λ x. absurd (false≢true x); few_open = omega (arith, shallow, apart) })
              (sym (at_opening shares declared text p s inside fewer e h) ∙ run) in
              rest-before text shares names s.around s.group.filled true s.lines p (r.till + 1)
              (λ q k. read-group text shares names (length s.around) p r.till q (at_byte text p opening inside e) r.here
              (not-true (empty r.here.items) r.has-item) r.close k)
              (λ q k. or-true s.group.filled) r.next

      found-closing : byte ≡ closing → From text shares names p s
      found-closing e = by s.around s.group.filled refl refl
        where
          by : (around : List Around) (filled : Bool) → s.around ≡ around → s.group.filled ≡ filled
              → Rest text shares names around filled s.lines p
          by [] filled f h = absurd (turned_down_lem run (not_open shares declared text p s inside fewer e f))
          by (g ∷ around) false f h = absurd (turned_down_lem run (nothing-inside shares declared text p s inside fewer g around e f h))
          by (g ∷ around) true f h =
              let shallow = sound.few_open in
              let one_less : length s.around ≡ suc (length around) = ap length f in
              record {
                till = p;
                here = read_none text shares names (length (g ∷ around)) p (omega (arith, shallow, one_less));
                close = at_byte text p closing inside e;
                has-item = refl;
                next = subst (λ (b : Bool). Rest text shares names around b s.lines (p + 1))
                    (put_filled g.group (group_item g.opened p s.group))
                    (later (p + 1) (omega arith) (omega (arith, inside)) (closed p g around s)
                    (record { lines-within = sound.lines-within; in_line = λ x. room; few_open = omega (arith, shallow, one_less) })
                    (sym (at_closing shares declared text p s inside fewer g around e f h) ∙ run));
              }

      found-symbol : parts byte ≡ false → From text shares names p s
      found-symbol joined = by (symbol_read shares declared (word (drop p text))) refl
        where
          by : (answer : Result Symbol SymbolFault) → symbol_read shares declared (word (drop p text)) ≡ answer → From text shares names p s
          by (Err fault) e = absurd (turned_down_lem run (at_fault shares declared text p s inside fewer joined fault e))
          by (Ok u) e =
              let both = read_known shares declared names (word (drop p text)) u few d e in
              let size : length (word (drop p text)) ≡ symbol_length u = ap length both.0 ∙ spelling-length u in
              let long = symbol_long u in
              let can = known-formed shares names u few d.low both.1 in
              let spelled : Bytes text p (spelling u) =
              rest-bytes text p (spelling u) (drop (length (word (drop p text))) (drop p text))
              (word-rest (drop p text) ∙ ap (λ w. w ++ drop (length (word (drop p text))) (drop p text)) both.0) in
              let parted : word (drop (p + symbol_length u) text) ≡ [] =
              ap (λ (k : ℕ). word (drop (p + k) text)) (sym size)
              ∙ ap word (sym (drop-drop (length (word (drop p text))) p text)) ∙ word_after (drop p text) in
              rest-before text shares names s.around s.group.filled true s.lines p (p + symbol_length u)
              (λ q r. read-symbol text shares names (length s.around) p q u can spelled parted both.1 r) (λ q r. or-true s.group.filled)
              (subst (λ (b : Bool). Rest text shares names s.around b s.lines (p + symbol_length u))
              (put_filled s.group (symbol_item (placed p u)))
              (later (p + symbol_length u) (omega (arith, long)) (symbol-inside text p u spelled) (took (placed p u) s)
              (record { lines-within = sound.lines-within; in_line = λ x. room; few_open = sound.few_open })
              (ap (λ (k : ℕ). run_at shares declared text (p + k) (took (placed p u) s)) (sym size)
              ∙ sym (at_symbol shares declared text p s inside fewer joined u e (omega (arith, size, long))) ∙ run)))

    found_byte : Kind byte → From text shares names p s
    found_byte (is-space e) = found-space e
    found_byte (is-line-end e) = at_line text shares declared names t p s sound run inside later e
    found_byte (is-other a b) = by (eqb s.lines shares) refl
      where
        other : eqb s.lines shares ≡ false → Other byte → From text shares names p s
        other h (is-opening e) = found-opening h e
        other h (is-bar e) = absurd (turned_down_lem run (at_bar shares declared text p s inside h e))
        other h (is-closing e) = found-closing h e
        other h (is-joined e) = found-symbol h e

        by : (full : Bool) → eqb s.lines shares ≡ full → From text shares names p s
        by true h = absurd (turned_down_lem run (at_over shares declared text p s inside a b h))
        by false h = other h (other_of byte a b)

  -- so many bytes are left, or fewer
  found_from : (left : ℕ) (t : State) (p : ℕ) → length text ≤ p + left → p ≤ length text → (s : State) → Sound shares s
      → run_at shares declared text p s ≡ done t → From text shares names p s
  found_from zero t p h i s sound run = at_end text shares declared names t p s sound run (omega (arith, h, i))
  found_from (suc left) t p h i s sound run =
      by (dec_lt p (length text)) (λ p' a b s' sound' run'. found_from left t p' (omega (arith, h, a)) b s' sound' run')
    where
      by : Dec (p < length text) → Later text shares declared names t p → From text shares names p s
      by (yes l) later = found_byte t p s sound run l later (kind_of_lem (get_or text p 0))
      by (no l) later = at_end text shares declared names t p s sound run (omega (arith, l, i))

  pub run-lines : (at : ℕ) (t : State) → at ≤ length text → run_at shares declared text at start ≡ done t → Found text shares names at shares
  run-lines at t h e =
      line-found text shares names at 0 shares (omega arith) (found_from (length text) t at (omega arith) h start
      (record { lines-within = omega arith; in_line = λ x. absurd (false≢true x); few_open = omega arith }) e)
