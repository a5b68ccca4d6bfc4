-- The verdict's answers, path by path. Where a test refuses, nothing was written; else the search's result decides.
--     Promise, verdict_answer     the whole of a verdict's promise; its answer after the first tests
--     order-low, order-high, no_room, found_none, found-set     the verdict's answers
--     Passed                      all tests of a verdict passed
--     bytes, order_small, size_within     then the table's bytes, the order and the size that was found are within limits
use Prim.Native.Nat.{ℕ, ◌-◌, ◌≤◌, ◌<◌}
use native.Mathlib.Omega.{arith}
use mathlib.Core.Path.{◌≡◌, refl, sym, ◌∙◌, ap, ap₂}
use mathlib.Core.Bool.{cond, and-false}
use mathlib.Core.List.{List, [], ◌∷◌}
use borrow.Author.Tests.{le-leb, lt-leb, le-ltb, lt-ltb}
use lib.Dec.{ltb, leb}
use lib.ListN.{length, take, drop}
use lib.Seq.{take_at}
use Rattle.std.specs.Prelude.{Result, Ok, Err, Some, None}
use Rattle.limits.specs.Limits.{max_shares, max_masks, max_table_bytes, max_size}
use Rattle.basics.specs.Folds.{keep}
use Rattle.basics.specs.Told.{Lent, values, turned_down}
use Rattle.wires.specs.declared.Notion.{Notion}
use Rattle.records.specs.Layout.{wire_count}
use Rattle.table.proofs.Conditions.{accepted_exactly}
use Rattle.verdict_answers.specs.declared.Refusal.{Refusal}
use Rattle.verdict_answers.specs.declared.Refusal.TheVariants.{OrderOutOfRange, BufferTooShort}
use Rattle.verdict_answers.specs.declared.Judged.{Judged}
use Rattle.breaking.specs.Breaking.{is_breaking}
use Rattle.search.specs.Search.{searched, first, FirstSet}
use Rattle.verdict_answers.specs.Answers.{refusal_number, verdict_told, wrong_order, notion_of, written, first_shown, verdict_of}
use Rattle.verdict_answers.specs.Guarantee.{Guarantee}
use Rattle.verdict_answers.proofs.Conditions.{verdict_answered}
use Rattle.verdict_answers.proofs.Watching.{shown-none, holds, broken, refused}
use Rattle.opening.specs.Opening.{opened_told, opens}
use Rattle.opening.proofs.Admitting.{opened_for, short, opened-answer}
use Rattle.opening.proofs.Deciding.{searched_decided}

pub record Promise (answer : Result Judged Refusal) (held table : List ℕ) (shares masks notion order : ℕ) (buffer : List ℕ) : Type 0 where
  pub equation : verdict_told answer held ≡ verdict_of table shares masks notion order buffer
  pub guarantee : Guarantee answer table shares masks notion order held

module _ (table : List ℕ) (shares masks notion order : ℕ) (buffer : List ℕ) where
  abbrev pub verdict_answer : Lent
  verdict_answer =
      cond (wrong_order shares order) (turned_down 15 buffer)
      (cond (ltb (length buffer) order) (turned_down 16 buffer)
      (first_shown (keep (is_breaking (notion_of notion) table shares masks) (searched (wire_count table) order)) buffer))

  module _ (kind : Notion) (told : opened_told (Ok kind) ≡ opens table shares masks notion) where
    own_answer : verdict_of table shares masks notion order buffer ≡ verdict_answer
    own_answer =
        let o = opened_for table shares masks notion kind told in
        opened-answer table shares masks notion (λ number. turned_down number buffer) verdict_answer o.sound o.known

    turned : (why : Refusal) → turned_down (refusal_number why) buffer ≡ verdict_answer
        → Promise (Err why) buffer table shares masks notion order buffer
    turned why e = record { equation = e ∙ sym own_answer; guarantee = refused table shares masks notion order why buffer }

    pub order-low : order < 1 → Promise (Err OrderOutOfRange) buffer table shares masks notion order buffer
    order-low h = turned OrderOutOfRange (simp (lt-leb 1 order h))

    pub order-high : shares ≤ order → Promise (Err OrderOutOfRange) buffer table shares masks notion order buffer
    order-high h = turned OrderOutOfRange (simp (le-ltb order shares h, and-false (leb 1 order)))

    pub no_room : 1 ≤ order → order < shares → length buffer < order
        → Promise (Err BufferTooShort) buffer table shares masks notion order buffer
    no_room low high h = turned BufferTooShort (simp (le-leb 1 order low, lt-ltb order shares high, lt-ltb (length buffer) order h))

-- the tests of a verdict that lets the search begin
pub record Passed (table : List ℕ) (shares masks notion order : ℕ) (buffer : List ℕ) (kind : Notion) : Type 0 where
  pub told : opened_told (Ok kind) ≡ opens table shares masks notion
  pub low : 1 ≤ order
  pub high : order < shares
  pub room : order ≤ length buffer

module _ (table : List ℕ) (shares masks notion order : ℕ) (buffer : List ℕ) (kind : Notion)
    (p : Passed table shares masks notion order buffer kind) where
  pub bytes : length table ≤ max_table_bytes
  bytes = short table shares masks notion kind p.told

  pub order_small : order ≤ max_size
  order_small = omega (arith, p.high, (opened_for table shares masks notion kind p.told).sound.high)

  module _ (probes : List ℕ) where
    abbrev sets : List (List ℕ)
    sets = keep (is_breaking (notion_of notion) table shares masks) (searched (wire_count table) order)

    same : keep (is_breaking kind table max_shares max_masks) (searched (wire_count table) order) ≡ sets
    same = searched_decided table shares masks notion kind (opened_for table shares masks notion kind p.told) order

    shows : first_shown sets buffer ≡ verdict_of table shares masks notion order buffer
    shows =
        let o = opened_for table shares masks notion kind p.told in
        sym (verdict_answered table shares masks notion order buffer (record {
          sound = (accepted_exactly table shares masks).1 o.sound;
          known = o.known;
          low = p.low;
          high = p.high;
          room = p.room;
        }))

    pub found_none : FirstSet (is_breaking kind table max_shares max_masks) (searched (wire_count table) order) None probes
        → Promise (Ok Judged.Holds) buffer table shares masks notion order buffer
    found_none none =
        let e = sym same ∙ none in
        record {
          equation = ap (λ (l : List (List ℕ)). first_shown l buffer) (sym e) ∙ shows;
          guarantee = holds table shares masks notion order buffer e;
        }

    module _ (size : ℕ) (search : FirstSet (is_breaking kind table max_shares max_masks) (searched (wire_count table) order) (Some size) probes) where
      some : sets ≡ [] → ⊥
      some e = search.some (same ∙ e)

      long : size ≡ length (first sets)
      long = search.size_is ∙ ap (λ (l : List (List ℕ)). length (first l)) same

      front : take size probes ≡ first sets
      front = search.set_is ∙ ap first same

      pub size_within : size ≤ order
      size_within = go sets refl long
        where
          go : (l : List (List ℕ)) → sets ≡ l → size ≡ length (first l) → size ≤ order
          go [] e k = omega arith
          go (s ∷ later) e k = omega (arith, (shown-none table shares masks notion order s later e).1.few)

      pub found-set : (held : List ℕ) → held ≡ written (take (size - 0) probes) buffer
          → Promise (Ok (Judged.Broken size)) held table shares masks notion order buffer
      found-set held wrote = go sets refl long front
        where
          go : (l : List (List ℕ)) → sets ≡ l → size ≡ length (first l) → take size probes ≡ first l
              → Promise (Ok (Judged.Broken size)) held table shares masks notion order buffer
          go [] e k q = absurd (some e)
          go (s ∷ later) e k q =
              let all : size - 0 ≡ size = omega arith in
              let copied : held ≡ written s buffer =
              wrote ∙ ap (λ (l : List ℕ). written l buffer) (ap (λ (i : ℕ). take i probes) all ∙ q) in record {
                equation = ap₂ (λ (k : ℕ) (l : List ℕ). record { told = values (k ∷ []); held = l }) k copied
                    ∙ ap (λ (l : List (List ℕ)). first_shown l buffer) (sym e) ∙ shows;
                guarantee = broken table shares masks notion order size held s later e k
                    (ap₂ {C = List ℕ} take k copied ∙ take_at s (drop (length s) buffer) (length s) refl);
              }
