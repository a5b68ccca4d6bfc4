-- What reading tells, and what the answer then says of the text's grammar.
--     tableless-read, tableless_down     what a text that is read with no table lent, or turned down, comes to with any table
--     read-refused, read_short, read_copied     the answer where the text is turned down, where the lent table is too short, and where the
--                        records are copied into it
--     too_large_lem, large-enough     which number a text that can be read is turned down with, and else what it gives
--     promised           both promises of reading, from its equation
--     reads_grammar      whatever is told as the definition tells it is read exactly when the text spells a description within the limits, and
--                        gives that description's wires
use Rattle.std.specs.Prelude.{Result, Ok, Err}
use Prim.Native.Nat.{ℕ, ◌+◌, ◌*◌, ◌%◌, ◌≤◌, ◌<◌}
use native.Mathlib.Nat.{mul_comm, mul-mod_left}
use native.Mathlib.Omega.{arith}
use mathlib.Core.Path.{◌≡◌, refl, sym, ◌∙◌, ap, ap₂, subst}
use mathlib.Core.Logic.{◌⊎◌, inl, inr}
use mathlib.Core.Bool.{Bool, true, false, cond, ◌||◌}
use mathlib.Core.List.{List, [], ◌∷◌, ◌++◌}
use borrow.Author.Tests.{ltb-true, ltb-false, lt-ltb, le-ltb}
use lib.Dec.{ltb}
use lib.ListN.{length, take, drop, length-append}
use lib.Seq.{take_at}
use Rattle.limits.specs.Limits.{max_wires, record_bytes}
use Rattle.basics.specs.Told.{values}
use Rattle.basics.proofs.Tests.{or_left, or_right, or-none}
use Rattle.records.specs.Layout.{wires}
use Rattle.table.specs.Answers.{table_check}
use Rattle.description.specs.Listing.{records_of}
use Rattle.description.specs.Grammar.{Description, Spells, Limits, wires_of, mask_count}
use Rattle.description.specs.Run.{Reading, read, turned_down, reading, refusal_number}
use Rattle.description.specs.declared.Fault.{Fault}
use Rattle.description.specs.declared.Listed.{Listed}
use Rattle.description.specs.declared.Refusal.{Refusal}
use Rattle.description.specs.declared.Refusal.TheVariants.{TooManyWires}
use Rattle.description.proofs.Encoding.{length-records, record_count}
use Rattle.description.proofs.Exactly.{spelled-read, read-spelled, spelled-limits}
use Rattle.description.proofs.Tables.{wires_mean, places_mean, parts_within, table_passes}
use Rattle.reader.specs.Answers.{ReadLent, gives, refused, read_told, too_large, lent_reading, read_text, part_check}
use Rattle.scratch_reader.specs.Answers.{tableless}
use Rattle.scratch_reader.specs.Scratch.{Scratched}
use Rattle.reader.specs.Reads.{Readable, Given, ReadsGrammar}
use Rattle.reader.proofs.Parts.{part-exactly}
use Rattle.scratch_reader.specs.declared.Reading.{Reading as Figures}

pub tableless-read : (text : List ℕ) (order masks : ℕ) (ws : List Listed) → tableless text (reading text) ≡ read order masks ws
    → (reading text ≡ read order masks ws) × (length ws ≤ max_wires)
tableless-read text order masks ws e = from (reading text) e
  where
    from : (r : Reading) → tableless text r ≡ read order masks ws → (r ≡ read order masks ws) × (length ws ≤ max_wires)
    from (turned_down why offset) e = let z : ◌≡◌ {A = ℕ} 0 1 = cc in absurd (omega (arith, z))
    from (read o m vs) e = sized (ltb max_wires (length vs)) refl e
      where
        sized : (b : Bool) → ltb max_wires (length vs) ≡ b → cond b (turned_down TooManyWires (length text)) (read o m vs) ≡ read order masks ws
            → (read o m vs ≡ read order masks ws) × (length ws ≤ max_wires)
        sized true g e = let z : ◌≡◌ {A = ℕ} 0 1 = cc in absurd (omega (arith, z))
        sized false g e =
            let same : vs ≡ ws = cc in (e, subst (λ (l : List Listed). length l ≤ max_wires) same (ltb-false max_wires (length vs) g))

module _ (text table : List ℕ) where
  -- "10: over 512 wires or lent table too short, at the text's length"; else the four values, and nothing past the last record
  module _ (order masks : ℕ) (ws : List Listed) (e : reading text ≡ read order masks ws) where
    by_size : (large : Bool) → too_large table (length ws) ≡ large
        → read_text text table
        ≡ cond large (record { told = refused 10 (length text); held = table })
        (record { told = gives order (order + 1) masks (length ws); held = records_of ws ++ drop (record_bytes * length ws) table })
    by_size large h =
        ap (lent_reading text table) e
        ∙ ap
        (λ (b : Bool).
        cond {A = ReadLent} b (record { told = refused 10 (length text); held = table })
        (record { told = gives order (order + 1) masks (length ws); held = records_of ws ++ drop (record_bytes * length ws) table }))
        h

    pub too_large_lem : (max_wires < length ws) ⊎ (length table < record_bytes * length ws) → read_text text table ≡ record { told = refused 10 (length text); held = table }
    too_large_lem (inl many) = by_size true (or_left (ltb max_wires (length ws)) (ltb (length table) (record_bytes * length ws)) (lt-ltb max_wires (length ws) many))
    too_large_lem (inr short) =
        by_size true
        (or_right (ltb max_wires (length ws)) (ltb (length table) (record_bytes * length ws)) (lt-ltb (length table) (record_bytes * length ws) short))

    pub large-enough : length ws ≤ max_wires → record_bytes * length ws ≤ length table
        → read_text text table
        ≡ record { told = gives order (order + 1) masks (length ws); held = records_of ws ++ drop (record_bytes * length ws) table }
    large-enough few room =
        by_size false (ap₂ ◌||◌ (le-ltb max_wires (length ws) few) (le-ltb (length table) (record_bytes * length ws) room))

  -- with no table lent, and with any
  pub tableless_down : (why : Refusal) (offset : ℕ) → tableless text (reading text) ≡ turned_down why offset
      → read_text text table ≡ record { told = refused (refusal_number why) offset; held = table }
  tableless_down why offset e = from (reading text) refl e
    where
      from : (r : Reading) → reading text ≡ r → tableless text r ≡ turned_down why offset
          → read_text text table ≡ record { told = refused (refusal_number why) offset; held = table }
      from (turned_down other place) f e = ap (lent_reading text table) (f ∙ e)
      from (read order masks ws) f e = sized (ltb max_wires (length ws)) refl e
        where
          sized : (b : Bool) → ltb max_wires (length ws) ≡ b
              → cond b (turned_down TooManyWires (length text)) (read order masks ws) ≡ turned_down why offset
              → read_text text table ≡ record { told = refused (refusal_number why) offset; held = table }
          sized true g e =
              too_large_lem order masks ws f (inl (ltb-true max_wires (length ws) g)) ∙ ap (lent_reading text table) e
          sized false g e = let z : ◌≡◌ {A = ℕ} 0 1 = cc in absurd (omega (arith, z))

  pub read-refused : (why : Refusal) (offset : ℕ) → tableless text (reading text) ≡ turned_down why offset
      → read_told (Err (record { why = why; offset = offset })) table ≡ read_text text table
  read-refused why offset e = sym (tableless_down why offset e)

  -- the same for the wires that the code counted
  module _ (scratch : List ℕ) (order shares masks wires : ℕ) (s : Scratched (tableless text (reading text)) scratch order shares masks wires) where
    reads : reading text ≡ read order masks s.listed-wires
    reads = (tableless-read text order masks s.listed-wires s.reads).0

    pub read_short : length table < record_bytes * wires → read_told (Err (record { why = TooManyWires; offset = (length text) })) table ≡ read_text text table
    read_short h = sym (too_large_lem order masks s.listed-wires reads (inr (omega (arith, s.count, h))))

    pub read_copied : (held : List ℕ) → record_bytes * wires ≤ length table
        → held ≡ take (record_bytes * wires) scratch ++ drop (record_bytes * wires) table
        → read_told (Ok (record { order = order; shares = shares; masks = masks; wires = wires })) held ≡ read_text text table
    read_copied held room e =
        ap₂ (λ (n : ℕ) (l : List ℕ). read_told (Ok (record { order = order; shares = n; masks = masks; wires = wires })) l) s.same_shares
        (e ∙ ap (λ (l : List ℕ). l ++ drop (record_bytes * wires) table) s.records)
        ∙ ap
        (λ (n : ℕ). read_told (Ok (record { order = order; shares = (order + 1); masks = masks; wires = n })) (records_of s.listed-wires ++ drop (record_bytes * n) table))
        s.count
        ∙ sym (large-enough order masks s.listed-wires reads (omega (arith, s.count, s.few)) (omega (arith, s.count, room)))

  -- ---- the grammar

  -- what a text that is told as read gives: it spells a description, and there is room for its wires
  record Granted (order shares masks wires : ℕ) (held : List ℕ) : Type 0 where
    listed-wires : List Listed
    reads : reading text ≡ read order masks listed-wires
    same_shares : shares ≡ order + 1
    same_count : wires ≡ length listed-wires
    few : length listed-wires ≤ max_wires
    room : record_bytes * length listed-wires ≤ length table
    holds : held ≡ records_of listed-wires ++ drop (record_bytes * length listed-wires) table

  granted : (order shares masks wires : ℕ) (held : List ℕ) → read_told (Ok (record { order = order; shares = shares; masks = masks; wires = wires })) held ≡ read_text text table
      → Granted order shares masks wires held
  granted order shares masks wires held e = from (reading text) refl e
    where
      from : (r : Reading) → reading text ≡ r → read_told (Ok (record { order = order; shares = shares; masks = masks; wires = wires })) held ≡ lent_reading text table r
          → Granted order shares masks wires held
      from (turned_down why offset) f e =
          let same : gives order shares masks wires ≡ refused (refusal_number why) offset = ap (λ (l : ReadLent). l.told) e in
          let z : ◌≡◌ {A = ℕ} 0 1 = cc in absurd (omega (arith, z))
      from (read o m ws) f e = sized (too_large table (length ws)) refl e
        where
          sized : (b : Bool) → too_large table (length ws) ≡ b
              → read_told (Ok (record { order = order; shares = shares; masks = masks; wires = wires })) held
              ≡ cond b (record { told = refused 10 (length text); held = table })
              (record { told = gives o (o + 1) m (length ws); held = records_of ws ++ drop (record_bytes * length ws) table })
              → Granted order shares masks wires held
          sized true g e =
              let same : gives order shares masks wires ≡ refused 10 (length text) = ap (λ (l : ReadLent). l.told) e in
              let z : ◌≡◌ {A = ℕ} 0 1 = cc in absurd (omega (arith, z))
          sized false g e =
              let h = or-none (ltb max_wires (length ws)) (ltb (length table) (record_bytes * length ws)) g in
              let same : gives order shares masks wires ≡ gives o (o + 1) m (length ws) = ap (λ (l : ReadLent). l.told) e in
              let eo : o ≡ order = cc in
              let em : m ≡ masks = cc in
              let es : shares ≡ o + 1 = cc in
              record {
                listed-wires = ws;
                reads = f ∙ ap₂ (λ (x y : ℕ). read x y ws) eo em;
                same_shares = es ∙ ap (λ (x : ℕ). x + 1) eo;
                same_count = (let ew : wires ≡ length ws = cc in ew);
                few = ltb-false max_wires (length ws) h.0;
                room = ltb-false (length table) (record_bytes * length ws) h.1;
                holds = ap (λ (l : ReadLent). l.held) e;
              }

  -- the records stand at the start of the table
  held-records : (order shares masks wires : ℕ) (held : List ℕ) (g : Granted order shares masks wires held)
      → take (record_bytes * wires) held ≡ records_of g.listed-wires
  held-records order shares masks wires held g =
      ap₂ (λ (n : ℕ) (l : List ℕ). take (record_bytes * n) l) g.same_count g.holds
      ∙ take_at (records_of g.listed-wires) (drop (record_bytes * length g.listed-wires) table) (record_bytes * length g.listed-wires)
      (length-records g.listed-wires)

  -- the wires, and the parts of the text, of the records that stand in the table
  module _ (order shares masks count : ℕ) (held : List ℕ) (g : Granted order shares masks count held) (d : Description) (spells : Spells text d) where
    limits : Limits text d
    limits = spelled-limits text order masks g.listed-wires g.reads d spells

    same : read order masks g.listed-wires ≡ read d.order (mask_count d.names) (wires_of d)
    same = sym g.reads ∙ spelled-read text d spells limits

    same_list : g.listed-wires ≡ wires_of d
    same_list = let e = same in cc

    records : take (record_bytes * count) held ≡ records_of (wires_of d)
    records = held-records order shares masks count held g ∙ ap records_of same_list

    few-wires : length (wires_of d) ≤ max_wires
    few-wires = subst (λ (ws : List Listed). length ws ≤ max_wires) same_list g.few

    multiple : (n : ℕ) → record_bytes * n % record_bytes ≡ 0
    multiple n = ap (λ (k : ℕ). k % record_bytes) (mul_comm record_bytes n) ∙ mul-mod_left n record_bytes

    parts : (before after : List Listed) (w : Listed) → wires_of d ≡ before ++ w ∷ after
        → part_check text (records_of (wires_of d)) (length before) ≡ values (w.offset ∷ w.length ∷ [])
    parts before after w e =
        let known : length before < length (wires_of d) = omega (arith, ap length e, length-append before (w ∷ after)) in
        let size = length-records (wires_of d) in
        let place = places_mean text d spells limits before after w e in
        let within = parts_within text d spells limits (length before) known in
        (part-exactly text (records_of (wires_of d)) (length before) w.offset w.length).1 (record {
          whole = ap (λ (n : ℕ). n % record_bytes) size ∙ multiple (length (wires_of d));
          short = omega (arith, size, few-wires);
          known = subst (λ (n : ℕ). length before < n) (sym (record_count (wires_of d))) known;
          same-offset = sym place.0;
          same_size = sym place.1;
          inside = omega (arith, within, place.0, place.1);
        })

    given : Given text d order shares masks count held
    given =
        let e = same in
        let eo : order ≡ d.order = cc in
        let em : masks ≡ mask_count d.names = cc in
        record {
          same-order = eo;
          same_shares = g.same_shares ∙ ap (λ (n : ℕ). n + 1) eo;
          same-masks = em;
          same_count = g.same_count ∙ ap length same_list;
          same-records = records;
          same-wires = ap wires records ∙ wires_mean text d spells limits;
          same_parts =
              λ before after w f. ap (λ (l : List ℕ). part_check text l (length before)) records ∙ parts before after w f;
        }

  passes : (order shares masks count : ℕ) (held : List ℕ) → Granted order shares masks count held
      → table_check (take (record_bytes * count) held) shares masks ≡ values []
  passes order shares masks count held g =
      let s = read-spelled text order masks g.listed-wires g.reads in
      let d = s.description in
      let v = given order shares masks count held g d s.spells in
      ap₂ (λ (n m : ℕ). table_check (take (record_bytes * count) held) n m) v.same_shares v.same-masks
      ∙ ap (λ (l : List ℕ). table_check l (d.order + 1) (mask_count d.names)) v.same-records
      ∙ table_passes text d s.spells s.limits (few-wires order shares masks count held g d s.spells)

  readable : (order shares masks wires : ℕ) (held : List ℕ) → Granted order shares masks wires held → Readable text (length table)
  readable order shares masks wires held g =
      let s = read-spelled text order masks g.listed-wires g.reads in
      record {
        description = s.description;
        spells = s.spells;
        limits = s.limits;
        few-wires = subst (λ (ws : List Listed). length ws ≤ max_wires) s.same-wires g.few;
        table_room = subst (λ (ws : List Listed). record_bytes * length ws ≤ length table) s.same-wires g.room;
      }

  -- a readable text is told as read
  readable_told : (r : Readable text (length table)) → let d = r.description in let ws = wires_of d in
      read_text text table
      ≡ record {
        told = gives d.order (d.order + 1) (mask_count d.names) (length ws);
        held = records_of ws ++ drop (record_bytes * length ws) table;
      }
  readable_told r =
      let d = r.description in
      large-enough d.order (mask_count d.names) (wires_of d) (spelled-read text d r.spells r.limits) r.few-wires r.table_room

  pub reads_grammar : (answer : Result Figures Fault) (held : List ℕ) → read_told answer held ≡ read_text text table
      → ReadsGrammar answer text (length table) held
  reads_grammar (Ok r) held e =
      let g = granted r.order r.shares r.masks r.wires held e in
      record {
        read-exactly = (λ _. readable r.order r.shares r.masks r.wires held g, λ _ fault f. let z : ◌≡◌ {A = ℕ} 0 1 = cc in absurd (omega (arith, z)));
        read-gives =
            λ q f d spells.
            given q.order q.shares q.masks q.wires held
            (granted q.order q.shares q.masks q.wires held (ap (λ (a : Result Figures Fault). read_told a held) (sym f) ∙ e)) d spells;
        read-passes =
            λ q f.
            passes q.order q.shares q.masks q.wires held
            (granted q.order q.shares q.masks q.wires held (ap (λ (a : Result Figures Fault). read_told a held) (sym f) ∙ e));
      }
  reads_grammar (Err fault) held e = record {
    read-exactly = (
      λ never. absurd (never fault refl),
      λ r other f.
          let h : refused (refusal_number fault.why) fault.offset
          ≡ gives r.description.order (r.description.order + 1) (mask_count r.description.names) (length (wires_of r.description)) =
          ap (λ (l : ReadLent). l.told) (e ∙ readable_told r) in
          let z : ◌≡◌ {A = ℕ} 0 1 = cc in absurd (omega (arith, z)),
    );
    read-gives = λ q f d spells. let z : ◌≡◌ {A = ℕ} 0 1 = cc in absurd (omega (arith, z));
    read-passes = λ q f. let z : ◌≡◌ {A = ℕ} 0 1 = cc in absurd (omega (arith, z));
  }

  -- both promises of reading
  pub promised : (answer : Result Figures Fault) (held : List ℕ) → read_told answer held ≡ read_text text table
      → (read_told answer held ≡ read_text text table) × ReadsGrammar answer text (length table) held
  promised answer held e = (e, reads_grammar answer held e)
