-- Demand 2 on the answers themselves, from what they tell.
--     verdict_finds      holds: no set to watch breaks; broken: the set shown is the first that does
--     range_finds        clean: no set at a rank of the range breaks; found: the set written is the first that does, at the rank given
use Prim.Native.Nat.{ℕ, ◌≤◌, ◌<◌}
use native.Mathlib.Omega.{arith}
use mathlib.Core.Path.{◌≡◌, sym, ◌∙◌, ap, subst}
use mathlib.Core.List.{List, [], ◌∷◌}
use lib.ListN.{length, take, drop}
use Rattle.std.specs.Prelude.{Result, Ok, Err}
use Rattle.basics.specs.Folds.{keep}
use Rattle.basics.specs.Told.{Lent, values}
use Rattle.records.specs.Layout.{wire_count}
use Rattle.counts.specs.Counts.{binom}
use Rattle.revolving.specs.Order.{set_at}
use Rattle.revolving.proofs.Rising.{is_set-parts}
use Rattle.revolving.proofs.Revolving.{set_at-is-set}
use Rattle.verdict_answers.specs.declared.Refusal.{Refusal}
use Rattle.verdict_answers.specs.declared.Judged.{Judged}
use Rattle.verdict_answers.specs.declared.Checked.{Checked}
use Rattle.breaking.specs.Breaking.{is_breaking}
use Rattle.search.specs.Search.{searched, stretch}
use Rattle.verdict_answers.specs.Answers.{refusal_number, verdict_told, range_told, notion_of, first_shown, first_ranked, verdict_of, range_check}
use Rattle.verdict_answers.specs.First.{FirstBreaking, FirstInRange, VerdictFinds, RangeFinds}
use Rattle.verdict_answers.specs.Jobs.{found, Ordered, Asked}
use Rattle.verdict_answers.proofs.Watching.{all_whole}
use Rattle.verdict_answers.proofs.Accepting.{written_front, written-rest, shown-parts, ranked-parts, shown-nil, ranked-nil}
use Rattle.verdict_answers.proofs.Conditions.{verdict_settled, range_settled, verdict_answered, range_answered, verdict_ordered, range_asked}
use Rattle.verdict_answers.proofs.First.{first-is, clean-exactly, finds-exactly}

module _ (table : List ℕ) (shares masks notion order : ℕ) (buffer held : List ℕ) where
  abbrev told_verdict : Lent
  told_verdict = verdict_of table shares masks notion order buffer

  abbrev breaking : List (List ℕ)
  breaking = keep (is_breaking (notion_of notion) table shares masks) (searched (wire_count table) order)

  ordered : (l : List ℕ) → values l ≡ told_verdict.told → Ordered table shares masks notion order buffer
  ordered l e = (verdict_ordered table shares masks notion order buffer).0 (l, sym e)

  answered : (l : List ℕ) → values l ≡ told_verdict.told → told_verdict ≡ first_shown breaking buffer
  answered l e = verdict_answered table shares masks notion order buffer (ordered l e)

  shown : (size : ℕ) → verdict_told (Ok (Judged.Broken size)) held ≡ first_shown breaking buffer
      → (drop size held ≡ drop size buffer) × FirstBreaking table shares masks notion order (take size held)
  shown size e =
      let r = shown-parts buffer size held breaking e in (
        written-rest buffer size held r.0 r.3 r.4,
        subst (FirstBreaking table shares masks notion order) (sym (written_front buffer size held r.0 r.3 r.4))
            (first-is table shares masks notion order r.0 r.1 r.2),
      )

  pub verdict_finds : (answer : Result Judged Refusal) → verdict_told answer held ≡ told_verdict
      → VerdictFinds answer table shares masks notion order buffer held
  verdict_finds (Ok Judged.Holds) e =
      let f = ap (λ (a : Lent). a.told) e in
      let shows = e ∙ answered [] f in
      let none = shown-nil buffer breaking (ap (λ (a : Lent). a.told) (sym shows)) in record {
        holds = λ same. (
          ap (λ (a : Lent). a.held) shows ∙ ap (λ (l : List (List ℕ)). (first_shown l buffer).held) none,
          all_whole table shares masks notion order none,
        );
        broken = λ size same. let z : ◌≡◌ {A = ℕ} 0 1 = cc in absurd (omega (arith, z));
        refused = λ why same. let z : ◌≡◌ {A = ℕ} 0 1 = cc in absurd (omega (arith, z));
      }
  verdict_finds (Ok (Judged.Broken size)) e =
      let f = ap (λ (a : Lent). a.told) e in record {
        holds = λ same. let z : ◌≡◌ {A = ℕ} 0 1 = cc in absurd (omega (arith, z));
        broken = λ other same. let k : size ≡ other = cc in
            subst (λ (i : ℕ). (drop i held ≡ drop i buffer) × FirstBreaking table shares masks notion order (take i held)) k
            (shown size (e ∙ answered (size ∷ []) f));
        refused = λ why same. let z : ◌≡◌ {A = ℕ} 0 1 = cc in absurd (omega (arith, z));
      }
  verdict_finds (Err why) e = record {
    holds = λ same. let z : ◌≡◌ {A = ℕ} 0 1 = cc in absurd (omega (arith, z));
    broken = λ size same. let z : ◌≡◌ {A = ℕ} 0 1 = cc in absurd (omega (arith, z));
    refused = λ other same.
        ap (λ (a : Lent). a.held) e ∙ (verdict_settled table shares masks notion order buffer).kept (refusal_number why) (ap (λ (a : Lent). a.told) (sym e));
  }

module _ (table : List ℕ) (shares masks notion size from to : ℕ) (buffer held : List ℕ) where
  abbrev told_range : Lent
  told_range = range_check table shares masks notion size from to buffer

  abbrev ranges : List (List ℕ)
  ranges = keep (is_breaking (notion_of notion) table shares masks) (stretch (wire_count table) size from to)

  abbrev Accepts : Type 0
  Accepts = Asked table shares masks notion size buffer × (from ≤ to) × (to ≤ binom (wire_count table) size)

  accepts : (l : List ℕ) → told_range.told ≡ values l → Accepts
  accepts l e = (range_asked table shares masks notion size from to buffer).0 (l, e)

  listed : Accepts → told_range ≡ first_ranked (wire_count table) ranges buffer
  listed o = range_answered table shares masks notion size from to buffer o.0 o.1 o.2

  placed : Accepts → (k rank : ℕ) → range_told (Ok (Checked.Found k rank)) held ≡ told_range
      → (k ≡ size) × (drop size held ≡ drop size buffer) × FirstInRange table shares masks notion size from to (take size held) rank
  placed o k rank e =
      let n = wire_count table in
      let r = ranked-parts buffer n k rank held ranges (e ∙ listed o) in
      let shows = listed o ∙ ap (λ (l : List (List ℕ)). first_ranked n l buffer) r.2 ∙ ap (λ (i : ℕ). found r.0 i buffer) (sym r.4) in
      let first = (finds-exactly table shares masks notion size from to buffer o.0 o.1 o.2 r.0 rank).0 shows in
      let counted : rank < binom n size = omega (arith, first.high, o.2) in
      let whole : size ≡ length r.0 =
      sym (is_set-parts n size (set_at n size rank) (set_at-is-set n size rank counted)).0 ∙ ap length first.stands in (
        r.3 ∙ sym whole,
        written-rest buffer size held r.0 whole r.5,
        subst (λ (t : List ℕ). FirstInRange table shares masks notion size from to t rank)
            (sym (written_front buffer size held r.0 whole r.5)) first,
      )

  pub range_finds : (answer : Result Checked Refusal) → range_told answer held ≡ told_range
      → RangeFinds answer table shares masks notion size from to buffer held
  range_finds (Ok Checked.Clean) e =
      let o = accepts [] (ap (λ (a : Lent). a.told) (sym e)) in
      let shows = e ∙ listed o in
      let none = ranked-nil buffer (wire_count table) ranges (ap (λ (a : Lent). a.told) (sym shows)) in record {
        clean = λ same. (
          ap (λ (a : Lent). a.held) shows ∙ ap (λ (l : List (List ℕ)). (first_ranked (wire_count table) l buffer).held) none,
          (clean-exactly table shares masks notion size from to buffer o.0 o.1 o.2).0
              (listed o ∙ ap (λ (l : List (List ℕ)). first_ranked (wire_count table) l buffer) none),
        );
        found = λ k rank same. let z : ◌≡◌ {A = ℕ} 0 1 = cc in absurd (omega (arith, z));
        refused = λ why same. let z : ◌≡◌ {A = ℕ} 0 1 = cc in absurd (omega (arith, z));
      }
  range_finds (Ok (Checked.Found k rank)) e =
      let o = accepts (k ∷ rank ∷ []) (ap (λ (a : Lent). a.told) (sym e)) in record {
        clean = λ same. let z : ◌≡◌ {A = ℕ} 0 1 = cc in absurd (omega (arith, z));
        found = λ other place same. let p : k ≡ other = cc in let q : rank ≡ place = cc in
            subst (λ (i : ℕ). (i ≡ size) × (drop size held ≡ drop size buffer)
            × FirstInRange table shares masks notion size from to (take size held) place) p
            (subst (λ (r : ℕ). (k ≡ size) × (drop size held ≡ drop size buffer)
            × FirstInRange table shares masks notion size from to (take size held) r) q
            (placed o k rank e));
        refused = λ why same. let z : ◌≡◌ {A = ℕ} 0 1 = cc in absurd (omega (arith, z));
      }
  range_finds (Err why) e = record {
    clean = λ same. let z : ◌≡◌ {A = ℕ} 0 1 = cc in absurd (omega (arith, z));
    found = λ k rank same. let z : ◌≡◌ {A = ℕ} 0 1 = cc in absurd (omega (arith, z));
    refused = λ other same.
        ap (λ (a : Lent). a.held) e ∙ (range_settled table shares masks notion size from to buffer).kept (refusal_number why)
        (ap (λ (a : Lent). a.told) (sym e));
  }
