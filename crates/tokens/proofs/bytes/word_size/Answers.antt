-- `tokens::bytes::word_size` meets its contract: the bytes before the first that parts are the symbol's.
use Rattle.std.proofs.Common.{◌≡◌, ◌∙◌, ap, ℕ, ◌-◌, List, length, take, drop, Option}
use Rattle.std.specs.Prelude.{unwrap_or}
use Rattle.std.proofs.lemmas.List.{take_all, length-drop}
use native.Mathlib.Omega.{arith}
use Rattle.description.specs.Bytes.{word}
use Rattle.tokens.proofs.Runs.{word_position}
use Rattle.tokens.proofs.bytes.word_size.Goals as goal

pub returns : goal.returns
returns c =
    let text = c.args.text.now in
    let at = c.args.at in
    let rest = take (length text - at) (drop at text) in
    let whole : rest ≡ drop at text = take_all _ _ (omega (arith, length-drop at text)) in
    c.unwrap_or.ensures ∙ ap (λ (r : Option ℕ). unwrap_or r (length rest)) c.first_parting-parting.ensures ∙ word_position rest
    ∙ ap (λ (l : List ℕ). length (word l)) whole
