-- The turns of a descent in the terms of the code.
--     few-wires       the table has no more wires than tables may have
--     between         the next carrier, by the list of carriers
--     Descending      what holds before a turn of the loop over the carriers
--     turn_first, turn_shut, turn_masked, turn_deep, turn_last     the turns: before the first; a wire that is not open; one that is passed over as the last one;
--                     one that was descended with; after the last
--     child           the node of a descent with one more wire
--     wire_low, wire_in, wire_small, wire_fits, next_less, pay_few     the wire is below the top one, has a record and a mark; the limit falls; no more is paid than the size
use Prim.Native.Nat.{ℕ, suc, ◌+◌, ◌-◌, ◌≤◌, ◌<◌}
use native.Mathlib.Omega.{arith}
use mathlib.Core.Path.{◌≡◌, refl, sym, ◌∙◌, subst}
use mathlib.Core.Bool.{true}
use mathlib.Core.List.{List, map}
use lib.ListN.{length, get_or, set, length-map}
use lib.Seq.{set-set}
use Rattle.limits.specs.Limits.{max_shares, max_masks, max_wires, max_table_bytes}
use Rattle.basics.specs.Folds.{one_if}
use Rattle.wires.specs.declared.Notion.{Notion}
use Rattle.wires.specs.Wires.{plus, pays, masked}
use Rattle.records.specs.declared.sums.Sum.{Sum}
use Rattle.records.specs.Layout.{wire_at, wire_count, terms_of}
use Rattle.breaking.specs.Breaking.{is_breaking}
use Rattle.breaking.proofs.Paying.{at_most}
use Rattle.parts.specs.Parts.{members}
use Rattle.carriers.specs.Carriers.{carries, highest_at, Carriers}
use Rattle.carriers.proofs.Highest.{highest_most, highest_none, carrier_read}
use Rattle.choices.specs.Marks.{is_chosen}
use Rattle.descent.specs.Nodes.{Node, Looked}
use Rattle.choices.proofs.Marking.{read_open, read-not_open}
use Rattle.descent.proofs.Nodes.{node_chosen, node_closed}
use Rattle.descent.proofs.Ending.{masked-end}
use Rattle.descent.proofs.Turning.{Trying, Between, try_first, try_shut, try_open, try_last}

pub few-wires : (table : List ℕ) → length table ≤ max_table_bytes → wire_count table ≤ max_wires
few-wires table h = omega (arith, h)

pub between : (table carriers : List ℕ) (mask limit next : ℕ) → Carriers table carriers → mask < max_masks → limit ≤ wire_count table
    → next ≡ highest_at carriers mask limit → Between (carries table mask) next limit
between table carriers mask limit next list real inside e =
    let same = e ∙ carrier_read table carriers mask limit list real inside in record {
      most = omega (arith, same, highest_most (carries table mask) limit);
      none = λ w a b. highest_none (carries table mask) limit w (omega (arith, same, a)) b;
    }

pub record Descending (notion : Notion) (table carriers : List ℕ) (size top : ℕ) (sum : Sum) (paid left mask : ℕ) (first : List ℕ) (before : ℕ)
    (now : List ℕ) (least limit : ℕ) : Type 0 where
  pub list : Carriers table carriers
  pub few : wire_count table ≤ max_wires
  pub some : 0 < left
  pub real : mask < max_masks
  pub has : (terms_of sum).mask mask ≡ true
  pub node : Node notion table size top now sum paid left
  pub trying : Trying (is_breaking notion table max_shares max_masks) (wire_count table) size top (carries table mask) first before now least limit

module _ (notion : Notion) (table carriers : List ℕ) (size top : ℕ) (sum : Sum) (paid left mask : ℕ) (first : List ℕ) (before : ℕ) where
  pub turn_first : (limit : ℕ) → Carriers table carriers → length table ≤ max_table_bytes → 0 < left → mask < max_masks → (terms_of sum).mask mask ≡ true
      → Node notion table size top first sum paid left → limit ≡ highest_at carriers mask top
      → Descending notion table carriers size top sum paid left mask first before first before limit
  turn_first limit list bytes some real has node e = record {
    list = list;
    few = few-wires table bytes;
    some = some;
    real = real;
    has = has;
    node = node;
    trying = try_first notion table size top (carries table mask) first before sum paid left limit node
        (between table carriers mask top limit list real (omega (arith, node.top_in)) e);
  }

  module _ (now : List ℕ) (least limit : ℕ) (d : Descending notion table carriers size top sum paid left mask first before now least limit)
      (taken : 0 < limit) where
    abbrev wire : ℕ
    wire = limit - 1

    pub wire_low : wire < top
    wire_low = omega (arith, taken, d.trying.within)

    pub wire_in : wire < wire_count table
    wire_in = omega (arith, wire_low, d.node.top_in)

    pub wire_small : wire < max_wires
    wire_small = omega (arith, wire_in, d.few)

    pub wire_fits : wire < length now
    wire_fits = omega (arith, wire_small, d.node.room)

    at : limit ≡ suc wire
    at = omega (arith, taken)

    -- the next carrier
    module _ (next : ℕ) (e : next ≡ highest_at carriers mask wire) where
      gap : Between (carries table mask) next wire
      gap = between table carriers mask wire next d.list d.real (omega (arith, wire_in)) e

      pub next_less : next < limit
      next_less = omega (arith, gap.most, taken)

      -- with other marks and another rank kept
      with : (marks : List ℕ) (lower : ℕ) → Node notion table size top marks sum paid left
          → Trying (is_breaking notion table max_shares max_masks) (wire_count table) size top (carries table mask) first before marks lower next
          → Descending notion table carriers size top sum paid left mask first before marks lower next
      with marks lower node trying = record {
        list = d.list;
        few = d.few;
        some = d.some;
        real = d.real;
        has = d.has;
        node = node;
        trying = trying;
      }

      pub turn_shut : (get_or now wire 0 ≡ 0 → ⊥) → Descending notion table carriers size top sum paid left mask first before now least next
      turn_shut shut =
          with now least d.node
          (try_shut notion table size top (carries table mask) first before now least limit wire next d.trying at gap (read-not_open now wire shut))

      module _ (up : get_or now wire 0 ≡ 0) where
        pub turn_deep : (lower : ℕ) → Looked (is_breaking notion table max_shares max_masks) (wire_count table) size top (set now wire 2) least lower
            → Descending notion table carriers size top sum paid left mask first before (set (set now wire 2) wire 1) lower next
        turn_deep lower looked =
            subst (λ (marks : List ℕ). Descending notion table carriers size top sum paid left mask first before marks lower next)
            (sym (set-set now wire 2 1))
            (with (set now wire 1) lower
            (node_closed notion table size top now sum paid left wire d.node wire_low (read_open now wire up) wire_fits)
            (try_open notion table size top (carries table mask) first before now least limit wire next d.trying at gap lower wire_fits
            (read_open now wire up) looked))

        module _ (more : Sum) (added : terms_of more ≡ plus (terms_of sum) (wire_at table wire).terms) where
          pub child : (pay : ℕ) → pay ≡ one_if (pays notion (wire_at table wire)) → Node notion table size top (set now wire 2) more (paid + pay) (left - 1)
          child pay e =
              node_chosen notion table size top now sum paid left wire d.node wire_low (read_open now wire up) wire_fits more pay d.some added e

          pub turn_masked : left ≡ 1 → masked max_masks (terms_of more) ≡ true
              → Descending notion table carriers size top sum paid left mask first before (set now wire 1) least next
          turn_masked last still =
              let none : left - 1 ≡ 0 = omega (arith, last) in
              subst (λ (marks : List ℕ). Descending notion table carriers size top sum paid left mask first before marks least next)
              (set-set now wire 2 1)
              (turn_deep least
              (masked-end notion table size top (set now wire 2) more (paid + one_if (pays notion (wire_at table wire))) (left - 1)
              (child (one_if (pays notion (wire_at table wire))) refl) least none still))

  pub turn_last : (now : List ℕ) (least limit : ℕ) → Descending notion table carriers size top sum paid left mask first before now least limit
      → limit ≤ 0 → Looked (is_breaking notion table max_shares max_masks) (wire_count table) size top first before least
  turn_last now least limit d end =
      try_last notion table size top (carries table mask) first before now sum paid left least limit mask d.node d.trying (omega (arith, end))
      d.real d.has (λ w. refl)

pub pay_few : (notion : Notion) (table : List ℕ) (size top : ℕ) (marks : List ℕ) (sum : Sum) (paid left : ℕ)
    → Node notion table size top marks sum paid left → paid ≤ size
pay_few notion table size top marks sum paid left node =
    let l = members (wire_count table) (is_chosen marks) in
    omega (arith, node.paid_is, at_most notion (map (wire_at table) l), length-map l (wire_at table), node.size_is)
