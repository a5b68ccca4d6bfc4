-- `reader::text_part` meets its contract: what the check tells says where the part stands, and that it lies within the text.
use Prim.Native.Nat.{ℕ, ◌+◌}
use native.Mathlib.Nat.{add_comm}
use mathlib.Core.Path.{refl, sym, ◌∙◌, ap}
use Rattle.reader.proofs.Parts.{part-told, start-told}
use Rattle.reader.proofs.text_part.Goals as goal

pub returns-in-Err : goal.returns-in-Err
returns-in-Err c =
    let a = c.args in
    let no = sym c.in-Err.ensures in
    let none = (start-told a.text.now a.table.now a.wire).0 _ no in record { result_value = sym ((part-told a.text.now a.table.now a.wire).0 _ no); ref_ptr_value = (refl, add_comm 0 a.text.ref_ptr.1 ∙ ap (λ (k : ℕ). a.text.ref_ptr.1 + k) (sym none)) }
