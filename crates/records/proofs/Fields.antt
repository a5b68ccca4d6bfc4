-- The fields of a record, as the code reads them.
--     two_bytes                     the number of two bytes
--     field_at                      a field of a wire's record stands at its place in the table
--     byte_at                       a field of one byte
--     place_fields                  what a record says of the text
--     record_inside                 a wire's record lies within the table
use Prim.Native.Nat.{ℕ, zero, suc, ◌+◌, ◌-◌, ◌*◌, ◌≤◌, ◌<◌}
use native.Mathlib.Nat.{div-mul-le_self, add-zero}
use native.Mathlib.Omega.{arith}
use mathlib.Core.Path.{◌≡◌, sym, ◌∙◌, ap}
use mathlib.Core.List.{List, [], ◌∷◌}
use lib.ListN.{length, take, drop, get_or}
use lib.Seq.{drop-cons, drop-drop, take-take, take-nil}
use Rattle.limits.specs.Limits.{record_bytes}
use Rattle.records.specs.Words.{number}
use Rattle.records.specs.Layout.{field, line_of, offset_of, length_of, record_at, wire_count}

-- the byte at p, and what follows it
step : (l : List ℕ) (p q : ℕ) → suc p ≡ q → p < length l → drop p l ≡ get_or l p 0 ∷ drop q l
step l p q e h = drop-cons l p 0 h ∙ ap {B = List ℕ} (λ (n : ℕ). get_or l p 0 ∷ drop n l) e

pub byte_at : (l : List ℕ) (p : ℕ) → p < length l → number (take 1 (drop p l)) ≡ get_or l p 0
byte_at l p h = ap (λ (k : List ℕ). number (take 1 k)) (drop-cons l p 0 h) ∙ add-zero (get_or l p 0)

pub two_bytes : (l : List ℕ) (at a b : ℕ) → at + 2 ≤ length l → a ≡ get_or l at 0 → b ≡ get_or l (at + 1) 0 → a + 256 * b ≡ number (take 2 (drop at l))
two_bytes l at a b h ea eb =
    let e : number (take 2 (drop at l)) ≡ get_or l at 0 + 256 * (get_or l (at + 1) 0 + 256 * 0) =
    ap (λ (k : List ℕ). number (take 2 k))
    (step l at (at + 1) (omega arith) (omega arith) ∙ ap {B =
    List ℕ} (λ (k : List ℕ). get_or l at 0 ∷ k) (step l (at + 1) (at + 2) (omega arith) (omega arith))) in
    omega (arith, ea, eb, e)

pub record_inside : (table : List ℕ) (wire : ℕ) → wire < wire_count table → record_bytes * wire + record_bytes ≤ length table
record_inside table wire h =
    let m : wire_count table * record_bytes ≤ length table = div-mul-le_self (length table) record_bytes in
    omega (arith, m, h)

drop-take : (a k n : ℕ) (l : List ℕ) → a + k ≡ n → drop a (take n l) ≡ take k (drop a l)
drop-take zero k n l e = let m : n ≡ k = omega (arith, e) in ap (λ (x : ℕ). take x l) m
drop-take (suc a) k zero l e = let z : ⊥ = omega (arith, e) in absurd z
drop-take (suc a) k (suc n) [] e = sym (take-nil k)
drop-take (suc a) k (suc n) (x ∷ l) e = drop-take a k n l (omega (arith, e))

-- within a record's bytes
pub field_at : (table : List ℕ) (wire at size : ℕ) → at + size ≤ record_bytes
    → field at size (record_at table wire) ≡ number (take size (drop (record_bytes * wire + at) table))
field_at table wire at size h =
    ap number
    (ap (take size) (drop-take at (record_bytes - at) record_bytes (drop (record_bytes * wire) table) (omega arith))
    ∙ take-take size (record_bytes - at) (drop at (drop (record_bytes * wire) table)) (omega arith)
    ∙ ap (take size) (drop-drop at (record_bytes * wire) table))

pub place_fields : (table : List ℕ) (wire x y z : ℕ) → wire < wire_count table → x ≡ get_or table (record_bytes * wire + 19) 0
    → y ≡ number (take 2 (drop (record_bytes * wire + 20) table)) → z ≡ number (take 2 (drop (record_bytes * wire + 22) table))
    → (x ≡ line_of (record_at table wire)) × (y ≡ offset_of (record_at table wire)) × (z ≡ length_of (record_at table wire))
place_fields table wire x y z h ex ey ez =
    let r = record_inside table wire h in (
      ex ∙ sym (byte_at table (record_bytes * wire + 19) (omega (arith, r))) ∙ sym (field_at table wire 19 1 (omega arith)),
      ey ∙ sym (field_at table wire 20 2 (omega arith)),
      ez ∙ sym (field_at table wire 22 2 (omega arith)),
    )
