-- `running::exchanged` meets its contract: one record leaves, one enters.
use native.Mathlib.Omega.{arith}
use mathlib.Core.Path.{◌∙◌, ap}
use Rattle.wires.specs.Wires.{plus}
use Rattle.records.specs.Layout.{wire_at}
use Rattle.running.proofs.exchanged.Goals as goal

pub returns : goal.returns
returns c = record { sum_value = c.with_wire.ensures ∙ ap (λ t. plus t (wire_at c.args.table.now c.args.enters).terms) c.with_wire-left.ensures; leaves_value = omega (arith, c.pay.ensures.0, c.pay-2.ensures.0, c.requires.2) }
