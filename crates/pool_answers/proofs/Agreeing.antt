-- What the answers of a pool say of the table, if every clean report is true.
--     ordered                the verdict is not turned down either, with a buffer long enough
--     covered_whole          a set at a rank that a true clean report covers does not break
--     all_whole              where every rank is covered so, no set to watch breaks
--     pool_agrees            holds and broken agree with the verdict's answer
use Prim.Native.Nat.{ℕ, suc, ◌≤◌, ◌<◌}
use native.Mathlib.Omega.{arith}
use mathlib.Core.Path.{◌≡◌, refl, sym, ◌∙◌, ap, subst}
use mathlib.Core.Bool.{Bool, true, false, true≢false}
use mathlib.Core.List.{List, [], ◌∷◌, map}
use lib.ListN.{length}
use Rattle.limits.specs.Limits.{max_size}
use Rattle.std.specs.Prelude.{Result, Ok, Err}
use Rattle.basics.specs.Folds.{keep, up_to}
use Rattle.basics.specs.Told.{Lent}
use Rattle.basics.proofs.Folds.{up_to-length}
use Rattle.basics.proofs.Numbers.{alike}
use Rattle.wires.proofs.Breaks.{empty-breaks-nothing}
use Rattle.watcher.proofs.Choice.{no_choice}
use Rattle.records.specs.Layout.{wire_at, wire_count}
use Rattle.revolving.specs.Order.{set_at, rank_of}
use Rattle.revolving.proofs.Revolving.{set_at-is-set, set_of_rank}
use Rattle.breaking.specs.Breaking.{is_breaking}
use Rattle.search.specs.Search.{searched}
use Rattle.table.proofs.Conditions.{accepted_exactly}
use Rattle.filed_reports.specs.Bytes.{all_ones, report_at, report_count}
use Rattle.verdict_answers.specs.Answers.{notion_of, first_shown, verdict_of}
use Rattle.verdict_answers.specs.First.{NotAfter}
use Rattle.verdict_answers.specs.Guarantee.{Watched, HasChoice}
use Rattle.verdict_answers.specs.Jobs.{nothing, broken, Ordered, Asked}
use Rattle.verdict_answers.proofs.Accepting.{shown-nil}
use Rattle.verdict_answers.proofs.Conditions.{verdict_answered}
use Rattle.verdict_answers.proofs.First as first
use Rattle.verdict_answers.proofs.Watching as watching
use Rattle.verdict_answers.proofs.Watching.{set-watched, watched-set, all_choose}
use Rattle.pool_answers.specs.declared.Refusal.{Refusal}
use Rattle.pool_answers.specs.declared.Outcome.{Outcome}
use Rattle.pool_answers.specs.Answers.{pool_told, pool_of}
use Rattle.pool_answers.specs.Says.{IsCovered, NoneReported, AllCovered, FirstReported, Pooled}
use Rattle.pool_answers.specs.Agrees.{AllTrue, PoolAgrees}
use Rattle.pool_answers.proofs.Conditions.{pool_asked}
use Rattle.pool_answers.proofs.Saying.{within, holds-exactly, broken-exactly}

module _ (table : List ℕ) (shares masks notion order : ℕ) (reports : List ℕ) (p : Pooled table shares masks notion order reports) where
  abbrev n : ℕ
  n = wire_count table

  abbrev test : List ℕ → Bool
  test = is_breaking (notion_of notion) table shares masks

  pub order_small : order ≤ max_size
  order_small = omega (arith, p.high, ((accepted_exactly table shares masks).0 p.sound).high)

  pub ordered : (buffer : List ℕ) → order ≤ length buffer → Ordered table shares masks notion order buffer
  ordered buffer h = record { sound = p.sound; known = p.known; low = p.low; high = p.high; room = h }

  -- ---- holds

  module _ (true-reports : AllTrue table shares masks notion reports) (none : NoneReported reports) where
    clean-report : (i : ℕ) → i < report_count reports → (report_at reports i).found ≡ all_ones
    clean-report i h = go (alike (report_at reports i).found all_ones)
      where
        go : Dec ((report_at reports i).found ≡ all_ones) → (report_at reports i).found ≡ all_ones
        go (yes e) = e
        go (no d) =
            absurd (none (report_at reports i).size (report_at reports i).found (i, h, record { found = d; same = refl; here = refl }))

    covered_whole : (size rank : ℕ) → IsCovered reports size rank → test (set_at n size rank) ≡ false
    covered_whole size rank c =
        let i = c.0 in
        let f = p.filed i c.1 in
        let t = true-reports.clean i c.1 (clean-report i c.1) in
        let asked : Asked table shares masks notion (report_at reports i).size t.0 =
        record { sound = p.sound; known = p.known; small = omega (arith, f.high, order_small); room = t.1 } in
        ap (λ (k : ℕ). test (set_at n k rank)) (sym c.2.same)
        ∙ (first.clean-exactly table shares masks notion (report_at reports i).size (report_at reports i).from (report_at reports i).to t.0 asked
        f.rises f.ends).0 t.2 rank c.2.low c.2.high

    all_whole : AllCovered n order reports → (u : List ℕ) → Watched table order u → test u ≡ false
    unfolding is_breaking
    all_whole all [] w = empty-breaks-nothing (notion_of notion) shares masks
    all_whole all (x ∷ s) w =
        let there = set_of_rank n (suc (length s)) (x ∷ s) (watched-set table order (x ∷ s) w) in
        ap test (sym there.1)
        ∙ covered_whole (suc (length s)) (rank_of n (x ∷ s)) (all (suc (length s)) (rank_of n (x ∷ s)) (omega arith) w.few there.0)

    pub holds_too : AllCovered n order reports → (buffer : List ℕ) → order ≤ length buffer
        → verdict_of table shares masks notion order buffer ≡ nothing buffer
    holds_too all buffer h = (first.holds-exactly table shares masks notion order buffer (ordered buffer h)).1 (all_whole all)

    pub guarded : AllCovered n order reports → (set : List ℕ) → Watched table order set → HasChoice table shares masks notion set
    guarded all =
        let buffer = up_to order in
        let room : order ≤ length buffer = omega (arith, up_to-length order) in
        all_choose table shares masks notion order
        (shown-nil buffer (keep test (searched n order)) (ap (λ (a : Lent). a.told)
        (sym (verdict_answered table shares masks notion order buffer (ordered buffer room)) ∙ holds_too all buffer room)))

  -- ---- broken

  module _ (size rank : ℕ) (f : FirstReported reports size rank) where
    abbrev set : List ℕ
    set = set_at n size rank

    found-watched : Watched table order set
    found-watched =
        let w = within table shares masks notion order reports p size rank f.here in
        set-watched table order size set (set_at-is-set n size rank w.2) w.1

    pub found-breaks : test set ≡ true
    found-breaks =
        let s = f.here in
        ap (λ (k : ℕ). test (set_at n k rank)) (sym s.2.same) ∙ ap (λ (r : ℕ). test (set_at n (report_at reports s.0).size r)) (sym s.2.here)
        ∙ p.breaking s.0 s.1 s.2.found

    found_leaks : HasChoice table shares masks notion set → ⊥
    unfolding is_breaking
    found_leaks = no_choice (notion_of notion) shares masks (map (wire_at table) set) found-breaks

    abbrev Shows : List ℕ → Type 0
    Shows buffer = (s : List ℕ) × (verdict_of table shares masks notion order buffer ≡ broken s buffer) × NotAfter n s set

    found-shown : (buffer : List ℕ) → order ≤ length buffer → Shows buffer
    found-shown buffer h = go (keep test (searched n order)) refl
      where
        go : (l : List (List ℕ)) → keep test (searched n order) ≡ l → Shows buffer
        go [] e = absurd (true≢false (sym found-breaks ∙ watching.all_whole table shares masks notion order e set found-watched))
        go (s ∷ later) e =
            let shown = verdict_answered table shares masks notion order buffer (ordered buffer h) ∙ ap (λ (l : List (List ℕ)). first_shown l buffer) e in
            let first = (first.shows-exactly table shares masks notion order buffer (ordered buffer h) s).0 shown in
            (s, shown, first.first set found-watched found-breaks)

-- ---- of the code's answer

module _ (table : List ℕ) (shares masks notion order : ℕ) (reports : List ℕ) where
  pub pool_agrees : (answer : Result Outcome Refusal) → pool_told answer ≡ pool_of table shares masks notion order reports
      → PoolAgrees answer table shares masks notion order reports
  pool_agrees (Ok Outcome.Holds) e =
      let p = (pool_asked table shares masks notion order reports).0 (1 ∷ [], sym e) in
      let h = (holds-exactly table shares masks notion order reports p).0 (sym e) in record {
        holds = λ same clean. holds_too table shares masks notion order reports p clean h.0 h.1;
        guards = λ same clean. guarded table shares masks notion order reports p clean h.0 h.1;
        breaks = λ size rank same. let z : ◌≡◌ {A = ℕ} 0 1 = cc in absurd (omega (arith, z));
        shows = λ size rank same. let z : ◌≡◌ {A = ℕ} 0 1 = cc in absurd (omega (arith, z));
      }
  pool_agrees (Ok (Outcome.Broken size rank)) e =
      let p = (pool_asked table shares masks notion order reports).0 (2 ∷ size ∷ rank ∷ [], sym e) in
      let f = (broken-exactly table shares masks notion order reports p size rank).0 (sym e) in record {
        holds = λ same. let z : ◌≡◌ {A = ℕ} 0 1 = cc in absurd (omega (arith, z));
        guards = λ same. let z : ◌≡◌ {A = ℕ} 0 1 = cc in absurd (omega (arith, z));
        breaks = λ k r same. let i : size ≡ k = cc in let j : rank ≡ r = cc in
            subst (λ (x : ℕ). Watched table order (set_at (wire_count table) k x)
            × (is_breaking (notion_of notion) table shares masks (set_at (wire_count table) k x) ≡ true)
            × (HasChoice table shares masks notion (set_at (wire_count table) k x) → ⊥)) j
            (subst (λ (x : ℕ). Watched table order (set_at (wire_count table) x rank)
            × (is_breaking (notion_of notion) table shares masks (set_at (wire_count table) x rank) ≡ true)
            × (HasChoice table shares masks notion (set_at (wire_count table) x rank) → ⊥)) i (
              found-watched table shares masks notion order reports p size rank f,
              found-breaks table shares masks notion order reports p size rank f,
              found_leaks table shares masks notion order reports p size rank f,
            ));
        shows = λ k r same. let i : size ≡ k = cc in let j : rank ≡ r = cc in
            subst (λ (x : ℕ). (buffer : List ℕ) → order ≤ length buffer → (set : List ℕ)
            × (verdict_of table shares masks notion order buffer ≡ broken set buffer) × NotAfter (wire_count table) set (set_at (wire_count table) k x)) j
            (subst (λ (x : ℕ). (buffer : List ℕ) → order ≤ length buffer → (set : List ℕ)
            × (verdict_of table shares masks notion order buffer ≡ broken set buffer) × NotAfter (wire_count table) set (set_at (wire_count table) x rank)) i
            (found-shown table shares masks notion order reports p size rank f));
      }
  pool_agrees (Ok (Outcome.Uncovered size rank)) e = record {
    holds = λ same. let z : ◌≡◌ {A = ℕ} 0 1 = cc in absurd (omega (arith, z));
    guards = λ same. let z : ◌≡◌ {A = ℕ} 0 1 = cc in absurd (omega (arith, z));
    breaks = λ k r same. let z : ◌≡◌ {A = ℕ} 0 1 = cc in absurd (omega (arith, z));
    shows = λ k r same. let z : ◌≡◌ {A = ℕ} 0 1 = cc in absurd (omega (arith, z));
  }
  pool_agrees (Err why) e = record {
    holds = λ same. let z : ◌≡◌ {A = ℕ} 0 1 = cc in absurd (omega (arith, z));
    guards = λ same. let z : ◌≡◌ {A = ℕ} 0 1 = cc in absurd (omega (arith, z));
    breaks = λ k r same. let z : ◌≡◌ {A = ℕ} 0 1 = cc in absurd (omega (arith, z));
    shows = λ k r same. let z : ◌≡◌ {A = ℕ} 0 1 = cc in absurd (omega (arith, z));
  }
