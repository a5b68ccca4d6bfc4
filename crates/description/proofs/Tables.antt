-- The records of a description's wires as a table: what the operations on a table then say.
--     wires_mean       its wires are the listed ones
--     places_mean      its records name the places of the listed wires
--     parts_within     the part of the text that a record names lies in the text
--     table_passes     the table passes the tests
use Prim.Native.Nat.{ℕ, ◌+◌, ◌≤◌, ◌<◌}
use native.Mathlib.Omega.{arith}
use mathlib.Core.Path.{◌≡◌, sym, ◌∙◌, ap, ap₂, subst}
use mathlib.Core.Bool.{false}
use mathlib.Core.List.{List, [], ◌∷◌, ◌++◌, map}
use lib.ListN.{length, get_or, length-append}
use lib.Seq.{get_or-append_seam}
use Rattle.limits.specs.Limits.{max_shares, max_masks, max_wires}
use Rattle.basics.specs.Told.{values}
use Rattle.wires.specs.Wires.{Wire}
use Rattle.wires.proofs.Narrow.{Within, within}
use Rattle.records.specs.Layout.{decode, kind_of, offset_of, length_of, record_at, wire_at, wire_count, wires, no_sum}
use Rattle.records.proofs.Bytes.{wires-none, wires_more}
use Rattle.record_words.proofs.Encoding.{kind_low}
use Rattle.table.specs.Answers.{table_check}
use Rattle.table.proofs.Conditions.{Sound, accepted_exactly}
use Rattle.description.specs.Listing.{encode, records_of, wire_of}
use Rattle.description.specs.Grammar.{Description, Spells, Limits, wires_of, mask_count}
use Rattle.description.specs.declared.Listed.{Listed}
use Rattle.description.proofs.Encoding.{length-encode, length-records, encoded_outer, encoded_offset, encoded_length}
use Rattle.description.proofs.Encoding.{decoded, record_of_lem, record_count}
use Rattle.description.proofs.Sums.{count_low}
use Rattle.description.proofs.Fitting.{All, all_at, Fits, wires_fit}

-- any wire, where a place needs one
abbrev any_wire : Listed
any_wire = record { sum = no_sum; outer = false; line = 0; offset = 0; length = 0 }

module _ (text : List ℕ) (shares masks : ℕ) where
  all_mean : (ws : List Listed) → All (Fits text shares masks) ws → wires (records_of ws) ≡ map wire_of ws
  all_mean [] h = wires-none
  all_mean (w ∷ ws) h =
      wires_more (encode w) (records_of ws) (length-encode w)
      ∙ ap₂ {C = List Wire} (λ v vs. v ∷ vs) (decoded w h.0.bounded) (all_mean ws h.1)

module _ (text : List ℕ) (d : Description) (s : Spells text d) (l : Limits text d) where
  abbrev ws : List Listed
  ws = wires_of d

  abbrev table : List ℕ
  table = records_of (wires_of d)

  pub wires_mean : wires (records_of (wires_of d)) ≡ map wire_of (wires_of d)
  wires_mean = all_mean text (d.order + 1) (mask_count d.names) ws (wires_fit text d s l)

  fits_at : (k : ℕ) → k < length ws → Fits text (d.order + 1) (mask_count d.names) (get_or ws k any_wire)
  fits_at k h = all_at (Fits text (d.order + 1) (mask_count d.names)) ws k any_wire (wires_fit text d s l) h

  pub places_mean : (before after : List Listed) (w : Listed) → wires_of d ≡ before ++ w ∷ after
      → (offset_of (record_at (records_of (wires_of d)) (length before)) ≡ w.offset)
      × (length_of (record_at (records_of (wires_of d)) (length before)) ≡ w.length)
  places_mean before after w e =
      let inside : length before < length ws =
      omega (arith, ap length e, length-append before (w ∷ after)) in
      let there : get_or ws (length before) any_wire ≡ w =
      ap (λ l. get_or l (length before) any_wire) e ∙ get_or-append_seam before w after any_wire in
      let at = record_of_lem ws (length before) any_wire inside ∙ ap encode there in
      let f : Fits text (d.order + 1) (mask_count d.names) w =
      subst (Fits text (d.order + 1) (mask_count d.names)) there (fits_at (length before) inside) in
      (ap offset_of at ∙ encoded_offset w f.bounded, ap length_of at ∙ encoded_length w f.bounded)

  pub parts_within : (k : ℕ) → k < length (wires_of d)
      → offset_of (record_at (records_of (wires_of d)) k) + length_of (record_at (records_of (wires_of d)) k) ≤ length text
  parts_within k h =
      let w : Listed = get_or ws k any_wire in
      let f = fits_at k h in
      let at = record_of_lem ws k any_wire h in
      subst (λ (n : ℕ). n ≤ length text)
      (sym (ap₂ ◌+◌ (ap offset_of at ∙ encoded_offset w f.bounded) (ap length_of at ∙ encoded_length w f.bounded)))
      f.part-within

  pub table_passes : length (wires_of d) ≤ max_wires → table_check (records_of (wires_of d)) (d.order + 1) (mask_count d.names) ≡ values []
  table_passes few = sym ((accepted_exactly table (d.order + 1) (mask_count d.names)).1 sound)
    where
      count : wire_count table ≡ length ws
      count = record_count ws

      bits : (k : ℕ) → k < wire_count table → Within max_shares max_masks (d.order + 1) (mask_count d.names) (wire_at table k).terms
      bits k h =
          let w : Listed = get_or ws k any_wire in
          let i : k < length ws = subst (λ (n : ℕ). k < n) count h in
          let f = fits_at k i in
          subst (λ (v : Wire). Within max_shares max_masks (d.order + 1) (mask_count d.names) v.terms)
          (sym (ap decode (record_of_lem ws k any_wire i) ∙ decoded w f.bounded))
          (within max_shares max_masks (d.order + 1) (mask_count d.names) (wire_of w).terms f.none-beyond)

      flag : (k : ℕ) → k < wire_count table → kind_of (record_at table k) ≤ 1
      flag k h =
          let w : Listed = get_or ws k any_wire in
          let i : k < length ws = subst (λ (n : ℕ). k < n) count h in
          subst (λ (n : ℕ). n ≤ 1) (sym (ap kind_of (record_of_lem ws k any_wire i) ∙ encoded_outer w)) (kind_low w.outer)

      sound : Sound table (d.order + 1) (mask_count d.names)
      sound =
          let low = s.order-digit.0 in
          let high = s.order-digit.1 in
          let size = length-records ws in
          record {
            low = omega (arith, low);
            high = omega (arith, high);
            few = count_low d.names s.name_numbers;
            whole = omega (arith, size);
            short = omega (arith, size, few);
            bits = bits;
            flag = flag;
          }
