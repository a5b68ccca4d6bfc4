-- `tokens::bytes::stands` meets its contract: the library's test of the first bytes is that of two runs of bytes.
use Rattle.std.proofs.Common.{◌≡◌, ◌∙◌, ap, ℕ, ◌-◌, List, length, take, drop}
use Rattle.std.proofs.lemmas.List.{take_all, length-drop}
use native.Mathlib.Omega.{arith}
use lib.Dec.{eqb}
use lib.Pointwise.{pointwise}
use Rattle.tokens.proofs.Runs.{same_bytes}
use Rattle.tokens.proofs.bytes.stands.Goals as goal

pub returns : goal.returns
returns c =
    let text = c.args.text.now in
    let at = c.args.at in
    let bytes = c.args.bytes.now in
    let whole : take (length text - at) (drop at text) ≡ drop at text = take_all _ _ (omega (arith, length-drop at text)) in
    c.starts_with.ensures.value
    ∙ ap (λ (l : List ℕ). pointwise eqb bytes (take (length bytes) l)) whole
    ∙ same_bytes (take (length bytes) (drop at text)) bytes
