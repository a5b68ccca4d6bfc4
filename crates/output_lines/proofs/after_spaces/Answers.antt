-- `output_lines::after_spaces` meets its contract: the run passes over the spaces before the first other byte.
use Rattle.std.proofs.Common.{◌≡◌, ◌∙◌, ap, subst, sym, ℕ, ◌+◌, ◌-◌, Bool, not, length, take, drop, Option}
use Rattle.std.specs.Prelude.{unwrap_or}
use Rattle.std.specs.List.{position_or_len}
use Rattle.std.proofs.lemmas.List.{take_all, length-drop}
use native.Mathlib.Omega.{arith}
use lib.Dec.{eqb}
use Rattle.description.specs.Bytes.{space}
use Rattle.tokens.proofs.Runs.{place_or_end}
use Rattle.output_lines.specs.Going.{Skips}
use Rattle.output_lines.proofs.Ending.{skips_all}
use Rattle.output_lines.proofs.after_spaces.Goals as goal

pub returns : goal.returns
returns c =
    let text = c.args.text.now in
    let from = c.args.from in
    let other : ℕ → Bool = λ k. not (eqb k space) in
    let rest = take (length text - from) (drop from text) in
    let whole : rest ≡ drop from text = take_all _ _ (omega (arith, length-drop from text)) in
    let size : c.unwrap_or.result ≡ position_or_len other (drop from text) =
    c.unwrap_or.ensures ∙ ap (λ (r : Option ℕ). unwrap_or r (length rest)) c.first_other.ensures ∙ place_or_end other rest
    ∙ ap (position_or_len other) whole in
    subst (λ (n : ℕ). Skips text from (from + n)) (sym size) (skips_all text from c.requires)
