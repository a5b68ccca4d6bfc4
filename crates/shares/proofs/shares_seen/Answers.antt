-- `shares::shares_seen` meets its contract: rows, or columns, united with the single bits; for b with the operands exchanged.
use mathlib.Core.Path.{refl, ◌∙◌}
use native.Mathlib.Omega.{arith}
use lib.Bits.{or_lt}
use Rattle.limits.specs.Limits.{max_shares}
use Rattle.wires.specs.Wires.{swap}
use Rattle.records.specs.Layout.{terms_of}
use Rattle.shares.proofs.Shares.{row_products, column_products, seen_bits}
use Rattle.shares.proofs.shares_seen.Goals as goal

pub returns : goal.returns
returns c =
    let sum = c.args.sum in
    let rows = c.rows.ensures in
    let columns = c.columns.ensures in
    record {
      a_bound = (or_lt max_shares _ _ rows.0 (omega arith), λ i h. seen_bits (terms_of sum) _ _ _ i (rows.1 i h ∙ row_products sum.products sum.masks sum.shares_a sum.shares_b i) c.from.ensures refl);
      b_bound = (or_lt max_shares _ _ columns.0 (omega arith), λ j h. seen_bits (swap (terms_of sum)) _ _ _ j (columns.1 j h ∙ column_products sum.products sum.masks sum.shares_a sum.shares_b j h) c.from-2.ensures refl);
    }
