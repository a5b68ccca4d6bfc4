-- `reader::text_part_check` meets its contract: each refusal where its test is the first to fail.
use native.Mathlib.Omega.{arith}
use Rattle.reader.proofs.Parts.{place_small}
use Rattle.reader.proofs.text_part_check.Goals as goal

pub overflow_add-place : goal.overflow_add-place
overflow_add-place c =
    let a = c.args in
    let byte = c.type_inv.table in
    let place = c.text_place-place.ensures in
    let small = place_small a.table.now a.wire (λ i. (byte i).fits) c.if-table-wire.false in
    record { fits = omega (arith, place.1, place.2, small.0, small.1) }
