-- What the entry tells, and what its answer says.
--     read_says, refused_says      reading and the set counts say the same as the definition, of a text that is read and of one that is turned down
--     sized, down                  the two answers, by what stands in them
--     gave, turned_down_lem            both promises of the entry, on its two paths
--     spelled-figures, figures-spelled     it answers exactly where the text spells a description within the limits, with that description's figures
use Prim.Native.Nat.{ℕ, suc, ◌+◌, ◌-◌, ◌*◌, ◌≤◌, ◌<◌}
use native.Mathlib.Omega.{arith}
use mathlib.Core.Path.{◌≡◌, refl, sym, ◌∙◌, ap, subst}
use mathlib.Core.Logic.{◌↔◌, inr}
use mathlib.Core.Bool.{Bool, true, false, cond}
use mathlib.Core.List.{List}
use borrow.Author.Tests.{ltb-true, lt-ltb, le-ltb}
use lib.Dec.{ltb}
use lib.ListN.{length, length-replicate}
use Rattle.limits.specs.Limits.{max_order, max_wires, max_size, max_table_bytes, record_bytes}
use Rattle.counts.specs.Counts.{binom}
use Rattle.description.specs.Run.{Reading, read, turned_down, reading, refusal_number}
use Rattle.description.specs.Grammar.{wires_of, mask_count}
use Rattle.description.specs.declared.Listed.{Listed}
use Rattle.description.specs.declared.Refusal.{Refusal}
use Rattle.description.specs.declared.Refusal.TheVariants.{TooManyWires}
use Rattle.description.proofs.Exactly.{spelled-read, read-spelled}
use Rattle.reader.specs.Answers.{ReadLent}
use Rattle.reader.specs.Reads.{Readable}
use Rattle.scratch_reader.specs.Answers.{tableless}
use Rattle.scratch_reader.specs.Scratch.{Scratched}
use Rattle.reader.proofs.Telling.{tableless-read, tableless_down, too_large_lem, large-enough}
use Rattle.plan_text.specs.Answers.{figures, size_told, counted, size_of, check_size}
use Rattle.plan_text.specs.Says.{OverMany, Figures, SizeSays}
use Rattle.std.specs.Prelude.{Result, Ok, Err}
use Rattle.description.specs.declared.Fault.{Fault}
use Rattle.plan_text.specs.declared.CheckSize.{CheckSize}
use Rattle.sets_by_size.proofs.Counting.{counted-length, counted_at, counted-rest, zeros}
use Rattle.plan_text.proofs.Ten.{Low, below-ten}

-- the two answers, by what stands in them
abbrev pub sized : ℕ → ℕ → ℕ → ℕ → ℕ → List ℕ → Result CheckSize Fault
sized order shares masks wires bytes sets = Ok (record { order = order; shares = shares; masks = masks; wires = wires; bytes = bytes; sets = sets })

abbrev pub down : Refusal → ℕ → Result CheckSize Fault
down why offset = Err (record { why = why; offset = offset })

module _ (text : List ℕ) where
  -- ---- a text that is read

  module _ (order masks : ℕ) (ws : List Listed) (e : reading text ≡ read order masks ws) (few : length ws ≤ max_wires) (low : order ≤ max_order) where
    abbrev wires : ℕ
    wires = length ws

    figured : Figures text (counted wires order) order (order + 1) masks wires (record_bytes * wires)
    figured = record {
      reads = λ table room. ap (λ (l : ReadLent). l.told) (large-enough text table order masks ws e few room);
      short = λ table less. ap (λ (l : ReadLent). l.told) (too_large_lem text table order masks ws e (inr less));
      counts = λ size first last.
          let next : suc (size - 1) ≡ size = omega (arith, first) in
          let number = counted_at wires order (size - 1) (omega (arith, first, last)) ∙ ap (binom wires) next in
          simp (le-ltb max_wires wires few, le-ltb max_size size (omega (arith, last, low)), number);
    }

    pub read_says : SizeSays (sized order (order + 1) masks wires (record_bytes * wires) (counted wires order)) text
    read_says = (figured, counted-length wires order low, λ k beyond. counted-rest wires order k beyond)

  -- ---- a text that is turned down

  over_many : (why : Refusal) (offset : ℕ) → tableless text (reading text) ≡ turned_down why offset → (refusal_number why ≡ 10) ↔ OverMany text
  over_many why offset e = (from (reading text) refl (below-ten text) e, back)
    where
      from : (r : Reading) → reading text ≡ r → Low r → tableless text r ≡ turned_down why offset → refusal_number why ≡ 10 → OverMany text
      from (turned_down other place) f low e ten =
          let same : other ≡ why = cc in absurd (omega (arith, low, ap refusal_number same, ten))
      from (read order masks ws) f low e ten = sized (ltb max_wires (length ws)) refl e
        where
          sized : (b : Bool) → ltb max_wires (length ws) ≡ b → cond b (turned_down TooManyWires (length text)) (read order masks ws) ≡ turned_down why offset
              → OverMany text
          sized true g e =
              let s = read-spelled text order masks ws f in
              record {
                description = s.description;
                spells = s.spells;
                limits = s.limits;
                many = subst (λ (l : List Listed). max_wires < length l) s.same-wires (ltb-true max_wires (length ws) g);
              }
          sized false g e = let z : ◌≡◌ {A = ℕ} 0 1 = cc in absurd (omega (arith, z))

      back : OverMany text → refusal_number why ≡ 10
      back o =
          let d = o.description in
          let down = ap (tableless text) (spelled-read text d o.spells o.limits)
          ∙ ap (λ (b : Bool). cond {A = Reading} b (turned_down TooManyWires (length text)) (read d.order (mask_count d.names) (wires_of d)))
          (lt-ltb max_wires (length (wires_of d)) o.many) in
          let both = sym e ∙ down in
          let same : why ≡ TooManyWires = cc in
          ap refusal_number same

  pub refused_says : (why : Refusal) (offset : ℕ) → tableless text (reading text) ≡ turned_down why offset → SizeSays (down why offset) text
  refused_says why offset e = (
    record { whatever = λ table. ap (λ (l : ReadLent). l.told) (tableless_down text table why offset e); ten = over_many why offset e },
    length-replicate {A = ℕ} max_order 0,
    zeros max_order,
  )

-- ---- the paths of the entry

module _ (text : List ℕ) where
  abbrev Promised : Result CheckSize Fault → Type 0
  Promised answer = (size_told answer ≡ check_size text) × SizeSays answer text

  pub turned_down_lem : (why : Refusal) (offset : ℕ) → tableless text (reading text) ≡ turned_down why offset → Promised (down why offset)
  turned_down_lem why offset e = (sym (ap size_of e), refused_says text why offset e)

  pub gave : (scratch : List ℕ) (order shares masks wires : ℕ) (sets : List ℕ)
      → Scratched (tableless text (reading text)) scratch order shares masks wires
      → sets ≡ counted wires order → Promised (sized order shares masks wires (record_bytes * wires) sets)
  gave scratch order shares masks wires sets s e =
      let ws = s.listed-wires in
      let r = tableless-read text order masks ws s.reads in
      let all : sets ≡ counted (length ws) order = e ∙ ap (λ (n : ℕ). counted n order) s.count in
      let of : (n m : ℕ) (l : List ℕ) → n ≡ order + 1 → m ≡ length ws → l ≡ counted (length ws) order
      → Promised (sized order n masks m (record_bytes * m) l) =
      λ n m l f g h. subst (λ (k : ℕ). Promised (sized order k masks m (record_bytes * m) l)) (sym f)
      (subst (λ (k : ℕ). Promised (sized order (order + 1) masks k (record_bytes * k) l)) (sym g)
      (subst (λ (k : List ℕ). Promised (sized order (order + 1) masks (length ws) (record_bytes * length ws) k)) (sym h)
      (sym (ap size_of s.reads), read_says text order masks ws r.0 r.1 s.low))) in
      of shares wires sets s.same_shares s.count all

-- ---- when it answers

module _ (text : List ℕ) where
  -- a text that any table can hold is answered with its description's figures
  pub spelled-figures : (r : Readable text max_table_bytes) → let d = r.description in
      (check_size text).told ≡ figures d.order (d.order + 1) (mask_count d.names) (length (wires_of d)) (record_bytes * length (wires_of d))
  spelled-figures r =
      let d = r.description in
      let e = spelled-read text d r.spells r.limits in
      ap (λ (o : Reading). (size_of (tableless text o)).told) e
      ∙ ap
      (λ (b : Bool).
      (size_of (cond b (turned_down TooManyWires (length text)) (read d.order (mask_count d.names) (wires_of d)))).told)
      (le-ltb max_wires (length (wires_of d)) r.few-wires)

  -- and no other text is answered
  pub figures-spelled : (o h m w b : ℕ) → figures o h m w b ≡ (check_size text).told → Readable text max_table_bytes
  figures-spelled o h m w b e = go (tableless text (reading text)) refl e
    where
      go : (r : Reading) → tableless text (reading text) ≡ r → figures o h m w b ≡ (size_of r).told → Readable text max_table_bytes
      go (turned_down why offset) f e = let z : ◌≡◌ {A = ℕ} 0 1 = cc in absurd (omega (arith, z))
      go (read order masks ws) f e =
          let r = tableless-read text order masks ws f in
          let s = read-spelled text order masks ws r.0 in
          let few : length (wires_of s.description) ≤ max_wires = subst (λ (l : List Listed). length l ≤ max_wires) s.same-wires r.1 in
          record {
            description = s.description;
            spells = s.spells;
            limits = s.limits;
            few-wires = few;
            table_room = omega (arith, few);
          }
