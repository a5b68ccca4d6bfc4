-- The paths of the function that tells the size of a check: what each tells, and what its numbers mean, from what the entry promises of the answer.
--     size_low                                   there is a number of sets for each size up to the order
--     size_gave, size_short, size_refused
--     size_read, size_too_short, size_count, size_turned_down, size_ten     what a caller has of it: reading and the set count give him the same numbers
--     size_room, size_buffer                     when 16 is not given; what the buffer then holds
--     size_read_status, size_16, size_16_due, size_offset     which status is due; the offset is as it was but for a refusal of reading
use Prim.Native.Nat.{ℕ, suc, ◌+◌, ◌-◌, ◌≤◌, ◌<◌}
use native.Mathlib.Omega.{arith}
use mathlib.Core.Path.{◌≡◌, refl, sym, ◌∙◌, ap, ap₂, subst}
use mathlib.Core.Logic.{◌⊎◌, ⊎_elim}
use mathlib.Core.Bool.{Bool, true, false, cond}
use mathlib.Core.List.{List, [], ◌∷◌, ◌++◌}
use borrow.Author.Tests.{lt-ltb, le-ltb, eqb-true, eqb-false}
use lib.Dec.{eqb, ltb}
use lib.ListN.{length, get_or, take, drop, take-append-drop, replicate, length-replicate}
use lib.Seq.{take_at, drop_at, length-take-le, get_or-take, ext_get_or}
use Rattle.limits.specs.Limits.{max_order, max_wires, max_size, max_table_bytes}
use Rattle.basics.specs.Told.{Told, values}
use Rattle.std.specs.Prelude.{Ok, Err}
use Rattle.description.specs.declared.Fault.{Fault}
use Rattle.description.specs.Run.{refusal_number}
use Rattle.counts.specs.Counts.{binom}
use Rattle.sets.specs.Answers.{set_count}
use Rattle.description.specs.Grammar.{Description, Spells, wires_of, mask_count}
use Rattle.description.proofs.Exactly.{spelled-read, spelled-limits}
use Rattle.reader.specs.Answers.{ReadTold, ReadLent, gives, read_text}
use Rattle.reader.proofs.Telling.{large-enough}
use Rattle.reader.specs.Reads.{Readable}
use Rattle.verdict_answers.specs.Answers.{written}
use Rattle.plan_text.specs.declared.CheckSize.{CheckSize}
use Rattle.plan_text.specs.Answers.{Sized, size_told, set_counts, check_size}
use Rattle.plan_text.specs.Says.{OverMany, Refuses, SizeSays}
use Rattle.plan_text.proofs.Counting.{counts-length, counts_at}
use Rattle.plan_text.proofs.Sizing.{spelled-figures, figures-spelled}
use Rattle.call_answers.specs.Calls.{Called, got, answered, read_answered, lent_read, size_answered}
use Rattle.call_answers.specs.Meaning.{Kept, CheckSizeSays}
use Rattle.call_answers.proofs.Answering.{kept_0}
use Rattle.call_answers.proofs.Reading.{read_number}

module _ (text buffer : List ℕ) where
  abbrev SizePromise : ℕ → ℕ → ℕ → ℕ → ℕ → ℕ → ℕ → List ℕ → List ℕ → ℕ → Type 0
  SizePromise status order shares masks wires bytes offset held before offset-before =
      (got status (order ∷ shares ∷ masks ∷ wires ∷ bytes ∷ offset ∷ []) held ≡ size_answered (check_size text) before offset-before buffer)
      × (Kept status (order ∷ shares ∷ masks ∷ wires ∷ bytes ∷ []) before held buffer
      × CheckSizeSays status order shares masks wires bytes offset offset-before text buffer held)

  module _ (order-before shares-before masks-before wires-before bytes-before offset-before : ℕ) where
    abbrev before : List ℕ
    before = order-before ∷ shares-before ∷ masks-before ∷ wires-before ∷ bytes-before ∷ []

    module _ (size : CheckSize) (told : size_told (Ok size) ≡ check_size text) (says : SizeSays (Ok size) text) where
      abbrev o : ℕ
      o = size.order

      -- a text that can be read is told with its description's order
      read-order : (r : Readable text max_table_bytes) → r.description.order ≡ o
      read-order r = let same = ap (λ (s : Sized). s.told) told ∙ spelled-figures text r in cc

      abbrev figured : List ℕ
      figured = o ∷ size.shares ∷ size.masks ∷ size.wires ∷ size.bytes ∷ offset-before ∷ []

      abbrev called : Bool → Called
      called short = cond short (got 16 (before ++ offset-before ∷ []) buffer) (got 0 figured (written (take o size.sets) buffer))

      tells : size_answered (check_size text) before offset-before buffer ≡ called (ltb (length buffer) o)
      tells = ap (λ (s : Sized). size_answered s before offset-before buffer) (sym told)

      readable : Readable text max_table_bytes
      readable = figures-spelled text o size.shares size.masks size.wires size.bytes (ap (λ (s : Sized). s.told) told)

      -- as many numbers stand beside the answer
      pub size_low : o ≤ length size.sets
      size_low = omega (arith, readable.spells.order-digit.1, read-order readable, says.1)

      pub size_short : (status : ℕ) → length buffer < o → status ≡ 16
          → SizePromise status order-before shares-before masks-before wires-before bytes-before offset-before buffer before offset-before
      size_short status less s = (
        ap (λ (n : ℕ). got n (before ++ offset-before ∷ []) buffer) s ∙ sym (tells ∙ ap called (lt-ltb (length buffer) o less)),
        (
          λ no. (refl, refl),
          record {
            figures = λ zero. absurd (omega (arith, s, zero));
            past_kept = λ zero. absurd (omega (arith, s, zero));
            refuses = λ no other. absurd (other s);
            offset-kept = λ is. refl;
            short-exactly = (λ is. (readable, omega (arith, less, read-order readable)), λ r. s);
          },
        ),
      )

      -- the code copies the part of the numbers up to the order
      pub size_gave : (held : List ℕ) → o ≤ length buffer → held ≡ take o size.sets ++ drop (length (take o size.sets)) buffer
          → SizePromise 0 o size.shares size.masks size.wires size.bytes offset-before held before offset-before
      size_gave held room f =
          let few : length (take o size.sets) ≡ o = length-take-le o size.sets size_low in
          let front : take o held ≡ take o size.sets = ap (take o) f ∙ take_at (take o size.sets) (drop (length (take o size.sets)) buffer) o few in
          let rest : drop o held ≡ drop o buffer =
          ap (drop o) f ∙ drop_at (take o size.sets) (drop (length (take o size.sets)) buffer) o few ∙ ap (λ (n : ℕ). drop n buffer) few in (
            ap (λ (l : List ℕ). got 0 figured l) f ∙ sym (tells ∙ ap called (le-ltb (length buffer) o room)),
            (
              kept_0 _ _ _ _,
              record {
                figures = λ zero. record {
                  reads = says.0.reads;
                  short = says.0.short;
                  counts = λ k first last.
                      let at : k - 1 < o = omega (arith, first, last) in
                      says.0.counts k first last
                      ∙ ap (λ (n : ℕ). values (n ∷ []))
                      (sym (get_or-take o size.sets (k - 1) 0 at) ∙ ap (λ (l : List ℕ). get_or l (k - 1) 0) (sym front) ∙ get_or-take o held (k - 1) 0 at);
                };
                past_kept = λ zero. rest;
                refuses = λ no other. absurd (no refl);
                offset-kept = λ is. refl;
                short-exactly = (λ is. absurd (omega (arith, is)), λ r. absurd (omega (arith, r.1, read-order r.0, room)));
              },
            ),
          )

    pub size_refused : (fault : Fault) → size_told (Err fault) ≡ check_size text → SizeSays (Err fault) text → (status : ℕ) → status ≡ refusal_number fault.why
        → SizePromise status order-before shares-before masks-before wires-before bytes-before fault.offset buffer before offset-before
    size_refused fault told says status s =
        let positive = (read_number fault.why).0 in
        let small = (read_number fault.why).1 in (
          ap (λ (n : ℕ). got n (before ++ fault.offset ∷ []) buffer) s ∙ ap (λ (t : Sized). size_answered t before offset-before buffer) told,
          (
            λ no. (refl, refl),
            record {
              figures = λ zero. absurd (omega (arith, s, zero, positive));
              past_kept = λ zero. absurd (omega (arith, s, zero, positive));
              refuses = λ no other. subst (λ (n : ℕ). Refuses text n fault.offset) (sym s) says.0;
              offset-kept = ⊎_elim (λ is. absurd (omega (arith, s, is, positive))) (λ is. absurd (omega (arith, s, is, small)));
              short-exactly = (
                λ is. absurd (omega (arith, s, is, small)),
                λ r.
                    let both = ap (λ (t : Sized). t.told) told ∙ spelled-figures text r.0 in
                    let z : ◌≡◌ {A = ℕ} 0 1 = cc in absurd (omega (arith, z)),
              );
            },
          ),
        )

-- ---- what a caller in C has of it

module _ (order shares masks wires bytes offset offset-before : ℕ) (text buffer held : List ℕ)
    (says : CheckSizeSays 0 order shares masks wires bytes offset offset-before text buffer held) where
  -- a table of so many bytes is read with the same four numbers
  pub size_read : (table numbers : List ℕ) (place : ℕ) → bytes ≤ length table
      → lent_read (read_text text table) numbers place ≡ got 0 (order ∷ shares ∷ masks ∷ wires ∷ place ∷ []) (read_text text table).held
  size_read table numbers place room =
      ap (λ (t : ReadTold). read_answered t numbers place (read_text text table).held) ((says.figures refl).reads table room)

  -- every shorter one is refused
  pub size_too_short : (table numbers : List ℕ) (place : ℕ) → length table < bytes
      → lent_read (read_text text table) numbers place ≡ got 10 (numbers ++ length text ∷ []) (read_text text table).held
  size_too_short table numbers place less =
      ap (λ (t : ReadTold). read_answered t numbers place (read_text text table).held) ((says.figures refl).short table less)

  -- and the set count writes the number that stands in the buffer
  pub size_count : (size before : ℕ) → 1 ≤ size → size ≤ order
      → answered (set_count wires size) (before ∷ []) [] ≡ got 0 (get_or held (size - 1) 0 ∷ []) []
  size_count size before first last = ap (λ (t : Told). answered t (before ∷ []) []) ((says.figures refl).counts size first last)

-- a text that is turned down is so by reading too, with the same status at the same place, whatever the table
pub size_turned_down : (status order shares masks wires bytes offset offset-before : ℕ) (text buffer held : List ℕ)
    → CheckSizeSays status order shares masks wires bytes offset offset-before text buffer held → (status ≡ 0 → ⊥) → (status ≡ 16 → ⊥)
    → (table numbers : List ℕ) (place : ℕ)
    → lent_read (read_text text table) numbers place ≡ got status (numbers ++ offset ∷ []) (read_text text table).held
size_turned_down status order shares masks wires bytes offset offset-before text buffer held says fails other table numbers place =
    ap (λ (t : ReadTold). read_answered t numbers place (read_text text table).held) ((says.refuses fails other).whatever table)

-- "10 here only for over 512 wires"
pub size_ten : (status order shares masks wires bytes offset offset-before : ℕ) (text buffer held : List ℕ)
    → CheckSizeSays status order shares masks wires bytes offset offset-before text buffer held → status ≡ 10 → OverMany text
size_ten status order shares masks wires bytes offset offset-before text buffer held says is =
    (says.refuses (λ zero. omega (arith, is, zero)) (λ other. omega (arith, is, other))).ten.0 is

-- with room for the sizes of the highest order 16 is never given
pub size_room : (status order shares masks wires bytes offset offset-before : ℕ) (text buffer held : List ℕ)
    → CheckSizeSays status order shares masks wires bytes offset offset-before text buffer held → max_order ≤ length buffer → status ≡ 16 → ⊥
size_room status order shares masks wires bytes offset offset-before text buffer held says room is =
    let r = says.short-exactly.0 is in omega (arith, r.1, r.0.spells.order-digit.1, room)

-- the buffer's start has the numbers, and nothing past them is written: so its whole content is told
pub size_buffer : (order shares masks wires bytes offset offset-before : ℕ) (text buffer held : List ℕ)
    → CheckSizeSays 0 order shares masks wires bytes offset offset-before text buffer held → wires ≤ max_wires → order ≤ max_size → order ≤ length held
    → held ≡ set_counts wires order ++ drop order buffer
size_buffer order shares masks wires bytes offset offset-before text buffer held says few low room =
    let front : take order held ≡ set_counts wires order =
    ext_get_or 0 (take order held) (set_counts wires order) (length-take-le order held room ∙ sym (counts-length wires order))
    (λ k inside.
    let at : k < order = omega (arith, inside, length-take-le order held room) in
    let one : suc k - 1 ≡ k = omega arith in
    let told = sym (set_told_lem wires (suc k) few (omega (arith, at, low))) ∙ (says.figures refl).counts (suc k) (omega arith) (omega (arith, at)) in
    let number : binom wires (suc k) ≡ get_or held (suc k - 1) 0 = cc in
    get_or-take order held k 0 at ∙ ap (λ (n : ℕ). get_or held n 0) (sym one) ∙ sym number ∙ sym (counts_at wires order k at)) in
    sym (take-append-drop order held) ∙ ap₂ {C = List ℕ} ◌++◌ front (says.past_kept refl)
  where
    set_told_lem : (n k : ℕ) → n ≤ max_wires → k ≤ max_size → set_count n k ≡ values (binom n k ∷ [])
    set_told_lem n k a b = simp (le-ltb max_wires n a, le-ltb max_size k b)

-- which status is due: 0 where the text spells a description that any table can hold and the buffer has room for its order's sizes, 16 where it has
-- not; with any other the text spells none
module _ (status order shares masks wires bytes offset offset-before : ℕ) (text buffer held : List ℕ)
    (says : CheckSizeSays status order shares masks wires bytes offset offset-before text buffer held) where
  -- what the two of them have in common is that reading into the largest table reads the text
  reads_it : (r : Readable text max_table_bytes) → let d = r.description in
      (read_text text (replicate max_table_bytes 0)).told ≡ gives d.order (d.order + 1) (mask_count d.names) (length (wires_of d))
  reads_it r =
      let d = r.description in
      ap (λ (l : ReadLent). l.told)
      (large-enough text (replicate max_table_bytes 0) d.order (mask_count d.names) (wires_of d) (spelled-read text d r.spells r.limits) r.few-wires
      (omega (arith, r.table_room, length-replicate {A = ℕ} max_table_bytes 0)))

  -- a text that can be read is refused with nothing but 16
  pub size_read_status : Readable text max_table_bytes → (status ≡ 0 → ⊥) → status ≡ 16
  size_read_status r fails = go (eqb status 16) refl
    where
      go : (b : Bool) → eqb status 16 ≡ b → status ≡ 16
      go true e = eqb-true status 16 e
      go false e =
          let both = sym (reads_it r) ∙ (says.refuses fails (eqb-false status 16 e)).whatever (replicate max_table_bytes 0) in
          let z : ◌≡◌ {A = ℕ} 0 1 = cc in absurd (omega (arith, z))

  -- 16 is for a text that spells a description, whose order the buffer has no room for
  pub size_16 : status ≡ 16 → Readable text max_table_bytes × ((d : Description) → Spells text d → length buffer < d.order)
  size_16 is =
      let r = says.short-exactly.0 is in (
        r.0,
        λ d spells.
            let same = sym (spelled-read text r.0.description r.0.spells r.0.limits)
            ∙ spelled-read text d spells
            (spelled-limits text _ _ _ (spelled-read text r.0.description r.0.spells r.0.limits) d spells) in
            let order : r.0.description.order ≡ d.order = cc in
            omega (arith, r.1, order),
      )

  -- and every such text gets it
  pub size_16_due : (r : Readable text max_table_bytes) → length buffer < r.description.order → status ≡ 16
  size_16_due r less = says.short-exactly.1 (r, less)

  -- the offset is as it was but for a refusal of reading
  pub size_offset : (status ≡ 0) ⊎ (status ≡ 16) → offset ≡ offset-before
  size_offset = says.offset-kept
