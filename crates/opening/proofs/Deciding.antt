-- All bits of a record, or the gadget's own: the code's test over all bits of a record finds the sets that the gadget's shares and masks give.
--     decided              of a set
--     searched_decided     among the sets of all sizes up to an order
--     stretch_decided      among the sets at a range of ranks of one size
use Prim.Native.Nat.{ℕ, suc, ◌-◌}
use native.Mathlib.Omega.{arith}
use mathlib.Core.Path.{◌≡◌, ◌∙◌, ap}
use mathlib.Core.Bool.{Bool, true}
use mathlib.Core.List.{List, [], map}
use lib.ListN.{drop}
use Rattle.limits.specs.Limits.{max_shares, max_masks}
use Rattle.basics.specs.Folds.{keep}
use Rattle.wires.specs.declared.Notion.{Notion}
use Rattle.wires.specs.Wires.{breaks}
use Rattle.records.specs.Layout.{wire_at, wire_count}
use Rattle.table.proofs.Entries.{set_decided}
use Rattle.revolving.specs.Order.{revolving, set_at, is_set}
use Rattle.revolving.proofs.Revolving.{revolving-length, set_at-is-set}
use Rattle.breaking.specs.Breaking.{is_breaking}
use Rattle.search.specs.Search.{searched, stretch}
use Rattle.search.proofs.Keeping.{each_place, each_take, each-drop, keep_same}
use Rattle.running.proofs.Inside.{is-set-inside}
use Rattle.verdict_answers.specs.Answers.{notion_of}
use Rattle.verdict_answers.proofs.Watching.{each-searched}
use Rattle.opening.proofs.Admitting.{Opens}

module _ (table : List ℕ) (shares masks notion : ℕ) (kind : Notion) (o : Opens table shares masks notion kind) where
  abbrev wide : List ℕ → Bool
  wide = is_breaking kind table max_shares max_masks

  abbrev own : List ℕ → Bool
  own = is_breaking (notion_of notion) table shares masks

  pub decided : (k : ℕ) (s : List ℕ) → is_set (wire_count table) k s ≡ true → wide s ≡ own s
  unfolding is_breaking
  decided k s e =
      set_decided table shares masks o.sound kind s (is-set-inside table k s e)
      ∙ ap (λ (i : Notion). breaks i shares masks (map (wire_at table) s)) o.named

  pub searched_decided : (order : ℕ) → keep wide (searched (wire_count table) order) ≡ keep own (searched (wire_count table) order)
  searched_decided order =
      keep_same wide own (searched (wire_count table) order)
      (each-searched (wire_count table) (λ s. wide s ≡ own s) order (λ k b s e. decided (suc k) s e))

  pub stretch_decided : (k from to : ℕ) → keep wide (stretch (wire_count table) k from to) ≡ keep own (stretch (wire_count table) k from to)
  stretch_decided k from to =
      let all = revolving (wire_count table) k in
      keep_same wide own (stretch (wire_count table) k from to)
      (each_take (λ s. wide s ≡ own s) (to - from) (drop from all)
      (each-drop (λ s. wide s ≡ own s) from all
      (each_place (λ s. wide s ≡ own s) all []
      (λ i b. decided k (set_at (wire_count table) k i) (set_at-is-set (wire_count table) k i (omega (arith, revolving-length (wire_count table) k)))))))
