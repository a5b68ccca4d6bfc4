-- Sums of records: what the code's words stand for.
--     words_zero           words that are all 0 stand for no terms
--     words_added          words added without carry stand for the sum
--     words_of_record      the words that the code reads are the record's
--     record_added         the same, added to a sum
--     outer_byte           the byte that tells an outer wire
--     set-inside           every wire of a set is one of the table's
--     total_more           the sum with one wire more of a set
--     whole_set, whole_table     all wires of the set, of the table
--     outers_taken, outers_left     the sum of the outer wires with one wire more of the table, an outer or an inner one
use Prim.Native.Nat.{ℕ, suc, ◌+◌, ◌*◌, ◌≤◌, ◌<◌}
use native.Mathlib.Omega.{arith}
use mathlib.Core.Path.{◌≡◌, sym, ◌∙◌, ap, ap₂}
use mathlib.Core.Bool.{Bool, true, false, cond, ◌&&◌, and-false}
use mathlib.Core.List.{List, [], ◌∷◌, ◌++◌, map, map-append}
use lib.Bits.{bit_xor}
use borrow.Author.Tests.{ltb-true}
use lib.Dec.{ltb}
use lib.ListN.{length, take, drop, get_or}
use lib.Seq.{take_all}
use Rattle.limits.specs.Limits.{record_bytes}
use Rattle.basics.specs.Folds.{up_to}
use Rattle.basics.proofs.Tests.{xor-and}
use Rattle.basics.proofs.Folds.{fold-append, fold_more, up_to-last, keep_append, every_place}
use Rattle.wires.specs.Wires.{Terms, Wire, none, plus, total, SumOfValues}
use Rattle.wires.specs.Function.{outers}
use Rattle.wires.proofs.Value.{terms_ext, plus_none, none-plus, plus_assoc, sum_of-values}
use Rattle.records.specs.Words.{bit, number}
use Rattle.records.specs.Layout.{decode_terms, field, outer_at, kind_of, record_at, wire_at, wire_count, wires, inside}
use Rattle.records.proofs.Words.{bit-zero, bit-xor}
use Rattle.records.proofs.Fields.{field_at, byte_at, record_inside}

pub words_zero : decode_terms 0 0 0 0 ≡ none
words_zero =
    terms_ext (decode_terms 0 0 0 0) none (λ i j. ap (λ (b : Bool). ltb j 8 && b) (bit-zero _) ∙ and-false (ltb j 8)) bit-zero bit-zero
    bit-zero

pub words_added : (p q k l a c b d : ℕ)
    → decode_terms (bit_xor p q) (bit_xor k l) (bit_xor a c) (bit_xor b d) ≡ plus (decode_terms p k a b) (decode_terms q l c d)
words_added p q k l a c b d =
    terms_ext (decode_terms (bit_xor p q) (bit_xor k l) (bit_xor a c) (bit_xor b d)) (plus (decode_terms p k a b) (decode_terms q l c d))
    (λ i j. ap (λ (b : Bool). ltb j 8 && b) (bit-xor p q _) ∙ xor-and (ltb j 8) (bit p _) (bit q _)) (bit-xor a c)
    (bit-xor b d) (bit-xor k l)

pub words_of_record : (table : List ℕ) (wire p k a b : ℕ) → wire < wire_count table → p ≡ number (take 8 (drop (record_bytes * wire) table))
    → k ≡ number (take 8 (drop (record_bytes * wire + 8) table)) → a ≡ get_or table (record_bytes * wire + 16) 0 → b ≡ get_or table (record_bytes * wire + 17) 0
    → decode_terms p k a b ≡ (wire_at table wire).terms
words_of_record table wire p k a b h ep ek ea eb =
    let r = record_inside table wire h in
    let zero : record_bytes * wire ≡ record_bytes * wire + 0 = omega arith in
    let f : p ≡ field 0 8 (record_at table wire) =
    ep ∙ ap (λ (x : ℕ). number (take 8 (drop x table))) zero ∙ sym (field_at table wire 0 8 (omega arith)) in
    let g : k ≡ field 8 8 (record_at table wire) = ek ∙ sym (field_at table wire 8 8 (omega arith)) in
    let c : a ≡ field 16 1 (record_at table wire) =
    ea ∙ sym (byte_at table (record_bytes * wire + 16) (omega (arith, r))) ∙ sym (field_at table wire 16 1 (omega arith)) in
    let d : b ≡ field 17 1 (record_at table wire) =
    eb ∙ sym (byte_at table (record_bytes * wire + 17) (omega (arith, r))) ∙ sym (field_at table wire 17 1 (omega arith)) in
    ap₂ (λ (x y : ℕ). decode_terms x y a b) f g
    ∙ ap₂ (λ (x y : ℕ). decode_terms (field 0 8 (record_at table wire)) (field 8 8 (record_at table wire)) x y) c d

pub record_added : (table : List ℕ) (wire q l c d p k a b : ℕ) → wire < wire_count table → p ≡ number (take 8 (drop (record_bytes * wire) table))
    → k ≡ number (take 8 (drop (record_bytes * wire + 8) table)) → a ≡ get_or table (record_bytes * wire + 16) 0 → b ≡ get_or table (record_bytes * wire + 17) 0
    → decode_terms (bit_xor q p) (bit_xor l k) (bit_xor c a) (bit_xor d b) ≡ plus (decode_terms q l c d) (wire_at table wire).terms
record_added table wire q l c d p k a b h ep ek ea eb =
    words_added q p l k c a d b ∙ ap (plus (decode_terms q l c d)) (words_of_record table wire p k a b h ep ek ea eb)

pub outer_byte : (table : List ℕ) (wire : ℕ) → wire < wire_count table → get_or table (record_bytes * wire + outer_at) 0 ≡ kind_of (record_at table wire)
outer_byte table wire h =
    let r = record_inside table wire h in sym (field_at table wire outer_at 1 (omega arith) ∙ byte_at table (record_bytes * wire + outer_at) (omega (arith, r)))

-- ---- one wire more

pub set-inside : (table set : List ℕ) (i : ℕ) → inside table set ≡ true → i < length set → get_or set i 0 < wire_count table
unfolding inside
set-inside table set i e h = ltb-true (get_or set i 0) (wire_count table) (every_place (λ w. ltb w (wire_count table)) set i 0 e h)

pub total_more : (table set : List ℕ) (i : ℕ) (t : Terms) → i < length set → t ≡ total (map (wire_at table) (take i set))
    → plus t (wire_at table (get_or set i 0)).terms ≡ total (map (wire_at table) (take (i + 1) set))
total_more table set i t h e =
    ap (λ (u : Terms). plus u (wire_at table (get_or set i 0)).terms) e
    ∙ sym (fold_more plus none none-plus plus_none plus_assoc (λ w. w.terms) (wire_at table) set i 0 h)

-- the outer wires among the first n + 1
outers-last : (table : List ℕ) (n : ℕ)
    → outers (map (wire_at table) (up_to (n + 1))) ≡ outers (map (wire_at table) (up_to n)) ++ cond (wire_at table n).outer (wire_at table n ∷ []) []
outers-last table n =
    let more : n + 1 ≡ suc n = omega arith in
    ap (λ (k : ℕ). outers (map (wire_at table) (up_to k))) more ∙ ap (λ l. outers (map (wire_at table) l)) (up_to-last n)
    ∙ ap outers (map-append (wire_at table) (up_to n) (n ∷ [])) ∙ keep_append (λ w. w.outer) (map (wire_at table) (up_to n)) (wire_at table n ∷ [])

total-append : (k l : List Wire) → total (k ++ l) ≡ plus (total k) (total l)
total-append = fold-append plus none none-plus plus_assoc (λ w. w.terms)

pub outers_taken : (table : List ℕ) (n : ℕ) (t : Terms) → (wire_at table n).outer ≡ true → t ≡ total (outers (map (wire_at table) (up_to n)))
    → plus t (wire_at table n).terms ≡ total (outers (map (wire_at table) (up_to (n + 1))))
outers_taken table n t o e =
    sym (ap total (outers-last table n ∙ ap (λ (b : Bool). outers (map (wire_at table) (up_to n)) ++ cond b (wire_at table n ∷ []) []) o)
    ∙ total-append (outers (map (wire_at table) (up_to n))) (wire_at table n ∷ []) ∙ ap₂ plus (sym e) (plus_none (wire_at table n).terms))

pub outers_left : (table : List ℕ) (n : ℕ) (t : Terms) → (wire_at table n).outer ≡ false → t ≡ total (outers (map (wire_at table) (up_to n)))
    → t ≡ total (outers (map (wire_at table) (up_to (n + 1))))
outers_left table n t o e =
    sym (ap total (outers-last table n ∙ ap (λ (b : Bool). outers (map (wire_at table) (up_to n)) ++ cond b (wire_at table n ∷ []) []) o)
    ∙ total-append (outers (map (wire_at table) (up_to n))) [] ∙ plus_none (total (outers (map (wire_at table) (up_to n)))) ∙ sym e)

pub whole_set : (table set : List ℕ) (i : ℕ) (t : Terms) → length set ≤ i → t ≡ total (map (wire_at table) (take i set))
    → (t ≡ total (map (wire_at table) set)) × SumOfValues t (map (wire_at table) set)
whole_set table set i t h e =
    let w : t ≡ total (map (wire_at table) set) = e ∙ ap (λ l. total (map (wire_at table) l)) (take_all i set h) in
    (w, sum_of-values t (map (wire_at table) set) w)

pub whole_table : (table : List ℕ) (i : ℕ) (t : Terms) → i ≡ wire_count table → t ≡ total (outers (map (wire_at table) (up_to i)))
    → (t ≡ total (outers (wires table))) × SumOfValues t (outers (wires table))
whole_table table i t h e =
    let w : t ≡ total (outers (wires table)) = e ∙ ap (λ (n : ℕ). total (outers (map (wire_at table) (up_to n)))) h in
    (w, sum_of-values t (outers (wires table)) w)
