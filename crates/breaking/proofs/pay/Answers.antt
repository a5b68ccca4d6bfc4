-- `breaking::pay` meets its contract: under NI a wire pays, under SNI where it is an inner one.
use native.Mathlib.Omega.{arith}
use mathlib.Core.Path.{◌∙◌}
use mathlib.Core.Bool.{not}
use Rattle.records.proofs.Words.{byte-once}
use Rattle.breaking.proofs.Paying.{ni-pays, sni-pays}
use Rattle.breaking.proofs.pay.Goals as goal

pub returns-in-Ni : goal.returns-in-Ni
returns-in-Ni c = (ni-pays _ _ c.in-Ni.is, omega arith)

pub returns-in-Sni : goal.returns-in-Sni
returns-in-Sni c =
    let inner = byte-once (not c.is_outer.result) in
    (c.from.ensures ∙ inner.0 ∙ sni-pays _ _ _ c.in-Sni.is c.is_outer.ensures, omega (arith, c.from.ensures, inner.1))
