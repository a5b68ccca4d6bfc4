-- What the entry tells, in the law's words and without those of `SizeSays`: "The figures are reading's and the set counts' own; a text that reading
-- turns down gets its number and offset, 10 here only for over 512 wires."
--     told-read, told-short     reading tells the same figures, into every table of so many bytes and into none that is shorter
--     told-count, told-rest     the set count tells the same number of each size from 1 to the order; above it stands 0
--     told-total                all sets together are the sum itself
--     told-refused, refused-sets     reading refuses with the same number and offset, whatever the table; then there are no sets
--     told-ten, told-many       10 is told of descriptions of over 512 wires alone, and of all of these that are within the limits, at the text's end
use Prim.Native.Nat.{ℕ, ◌+◌, ◌-◌, ◌*◌, ◌≤◌, ◌<◌}
use native.Mathlib.Omega.{arith}
use mathlib.Core.Path.{◌≡◌, refl, sym, ◌∙◌, ap, ap₂, subst}
use mathlib.Core.Bool.{Bool, cond}
use mathlib.Core.List.{List, [], ◌∷◌}
use borrow.Author.Tests.{lt-ltb}
use lib.ListN.{length, get_or, replicate}
use Rattle.limits.specs.Limits.{max_order, max_wires, record_bytes}
use Rattle.basics.specs.Told.{values}
use Rattle.basics.specs.Folds.{fold}
use Rattle.sets.specs.Answers.{set_count}
use Rattle.description.specs.Run.{Reading, read, turned_down, reading, refusal_number}
use Rattle.description.specs.Grammar.{Description, Spells, Limits, wires_of, mask_count}
use Rattle.description.specs.declared.Refusal.{Refusal}
use Rattle.description.specs.declared.Refusal.TheVariants.{TooManyWires}
use Rattle.description.proofs.Exactly.{spelled-read, read-spelled}
use Rattle.scratch_reader.specs.Answers.{tableless}
use Rattle.reader.specs.Answers as reader
use Rattle.reader.specs.Answers.{gives, read_text}
use Rattle.reader.proofs.Telling.{tableless-read}
use Rattle.plan_text.specs.Answers.{figures, refused, size_of, check_size, set_counts, counted, total_of}
use Rattle.plan_text.specs.Says.{OverMany, SizeSays}
use Rattle.std.specs.Prelude.{Result}
use Rattle.description.specs.declared.Fault.{Fault}
use Rattle.plan_text.specs.declared.CheckSize.{CheckSize}
use Rattle.sets_by_size.proofs.Totals.{total_exact}
use Rattle.plan_text.proofs.Sizing.{sized, read_says, refused_says}

module _ (text : List ℕ) where
  -- a text of which the definition tells figures has been read
  record Told (o h m w b : ℕ) : Type 0 where
    few : w ≤ max_wires
    low : o ≤ max_order
    sets : (check_size text).sets ≡ counted w o
    says : SizeSays (sized o h m w b (counted w o)) text

  module _ (o h m w b : ℕ) (e : figures o h m w b ≡ (check_size text).told) where
    told : Told o h m w b
    told = go (tableless text (reading text)) refl e
      where
        go : (r : Reading) → tableless text (reading text) ≡ r → figures o h m w b ≡ (size_of r).told → Told o h m w b
        go (turned_down why offset) f e = let z : ◌≡◌ {A = ℕ} 0 1 = cc in absurd (omega (arith, z))
        go (read order masks ws) f e =
            let r = tableless-read text order masks ws f in
            let d = read-spelled text order masks ws r.0 in
            let same-order : o ≡ order = cc in
            let same_shares : h ≡ order + 1 = cc in
            let same-masks : m ≡ masks = cc in
            let same-wires : w ≡ length ws = cc in
            let same_bytes : b ≡ record_bytes * length ws = cc in
            let low : order ≤ max_order = omega (arith, d.same-order, d.spells.order-digit.1) in
            let counts : counted w o ≡ counted (length ws) order = ap₂ counted same-wires same-order in
            let answer : sized o h m w b (counted w o) ≡ sized order (order + 1) masks (length ws) (record_bytes * length ws) (counted (length ws) order) = cc in
            record {
              few = omega (arith, same-wires, r.1);
              low = omega (arith, same-order, low);
              sets = ap (λ (r : Reading). (size_of r).sets) f ∙ sym counts;
              says = subst (λ (a : Result CheckSize Fault). SizeSays a text) (sym answer) (read_says text order masks ws r.0 r.1 low);
            }

    -- "The figures are reading's"
    pub told-read : (table : List ℕ) → b ≤ length table → (read_text text table).told ≡ gives o h m w
    told-read = told.says.0.reads

    pub told-short : (table : List ℕ) → length table < b → (read_text text table).told ≡ reader.refused 10 (length text)
    told-short = told.says.0.short

    -- "and the set counts' own"
    pub told-count : (size : ℕ) → 1 ≤ size → size ≤ o → set_count w size ≡ values (get_or (check_size text).sets (size - 1) 0 ∷ [])
    told-count size first last =
        told.says.0.counts size first last ∙ ap (λ (l : List ℕ). values (get_or l (size - 1) 0 ∷ [])) (sym told.sets)

    pub told-rest : (length (check_size text).sets ≡ max_order) × ((k : ℕ) → o ≤ k → get_or (check_size text).sets k 0 ≡ 0)
    told-rest = (
      ap (λ (l : List ℕ). length l) told.sets ∙ told.says.1,
      λ k beyond. ap (λ (l : List ℕ). get_or l k 0) told.sets ∙ told.says.2 k beyond,
    )

    pub told-total : total_of (check_size text).sets ≡ fold ◌+◌ 0 (λ n. n) (set_counts w o)
    told-total = ap total_of told.sets ∙ total_exact w o told.few told.low

  -- a text of which it tells a refusal has been turned down
  record Down (number offset : ℕ) : Type 0 where
    why : Refusal
    same_number : number ≡ refusal_number why
    outcome : tableless text (reading text) ≡ turned_down why offset

  module _ (number offset : ℕ) (e : refused number offset ≡ (check_size text).told) where
    down : Down number offset
    down = go (tableless text (reading text)) refl e
      where
        go : (r : Reading) → tableless text (reading text) ≡ r → refused number offset ≡ (size_of r).told → Down number offset
        go (read order masks ws) f e = let z : ◌≡◌ {A = ℕ} 0 1 = cc in absurd (omega (arith, z))
        go (turned_down reason place) f e =
            let same_place : offset ≡ place = cc in
            record { why = reason; same_number = cc; outcome = f ∙ ap (turned_down reason) (sym same_place) }

    -- "a text that reading turns down gets its number and offset"
    pub told-refused : (table : List ℕ) → (read_text text table).told ≡ reader.refused number offset
    told-refused table =
        (refused_says text down.why offset down.outcome).0.whatever table ∙ ap (λ (n : ℕ). reader.refused n offset) (sym down.same_number)

    pub refused-sets : (check_size text).sets ≡ replicate max_order 0
    refused-sets = ap (λ (r : Reading). (size_of r).sets) down.outcome

    -- "10 here only for over 512 wires"
    pub told-ten : number ≡ 10 → OverMany text
    told-ten ten = (refused_says text down.why offset down.outcome).0.ten.0 (sym down.same_number ∙ ten)

  -- and for all of these
  pub told-many : (d : Description) → Spells text d → Limits text d → max_wires < length (wires_of d) → (check_size text).told ≡ refused 10 (length text)
  told-many d spells limits many =
      ap (λ (r : Reading). (size_of (tableless text r)).told) (spelled-read text d spells limits)
      ∙ ap (λ (b : Bool). (size_of (cond {A = Reading} b (turned_down TooManyWires (length text)) (read d.order (mask_count d.names) (wires_of d)))).told)
      (lt-ltb max_wires (length (wires_of d)) many)
