-- The reports of a search that is divided over jobs: pooled, they tell what the verdict does; with one left out, its first rank.
--     report_there .. true_there   what stands in a list for a range check: its report, and what it answered
--     campaign_pooled, campaign_true     a pool takes the reports of any range checks, and the clean ones are true
--     gathered_pooled, gathered_true     the same of jobs, whatever is left out
--     job-covers, covers-job       a rank is covered exactly by the report of its job
--     jobs_missing                 with some jobs left out, of which one has a rank, and nothing found: uncovered, with a rank of one of them
--     jobs_pooled                  the reports of all jobs of all sizes pool to the verdict's answer
--     job_missing                  with one left out that has a rank, and nothing found: uncovered, with that job's first rank
use Prim.Native.Nat.{ℕ, suc, ◌≤◌, ◌<◌}
use native.Mathlib.Nat.{le_refl, le_trans}
use native.Mathlib.Decide.{dec_lt}
use native.Mathlib.Omega.{arith}
use mathlib.Core.Path.{◌≡◌, refl, sym, ◌∙◌, ap, ap₂, subst}
use mathlib.Core.Logic.{◌⊎◌, inl, inr, ⊎_elim}
use mathlib.Core.Bool.{Bool, true, false, true≢false}
use mathlib.Core.List.{List, [], ◌∷◌}
use lib.ListN.{length, take}
use Rattle.limits.specs.Limits.{max_wires, max_size}
use Rattle.std.specs.Prelude.{Result, Ok, Err}
use Rattle.basics.specs.Told.{Told, Lent, values}
use Rattle.basics.proofs.Numbers.{alike}
use Rattle.wires.specs.declared.Notion.{Notion}
use Rattle.wires.proofs.Breaks.{empty-breaks-nothing}
use Rattle.records.specs.Layout.{wire_count}
use Rattle.counts.specs.Counts.{binom}
use Rattle.counts.proofs.Binomial.{largest, counts_fit}
use Rattle.revolving.specs.Order.{set_at, rank_of}
use Rattle.revolving.proofs.Rising.{is_set-parts}
use Rattle.revolving.proofs.Revolving.{set_at-is-set, set_of_rank, rank_of-set}
use Rattle.breaking.specs.Breaking.{is_breaking}
use Rattle.table.specs.Answers.{table_check}
use Rattle.table.proofs.Conditions.{accepted_exactly}
use Rattle.division.specs.Answers.{job_ranks}
use Rattle.division.specs.Division.{start, HasRank}
use Rattle.division.proofs.Division.{start-within, job_of_rank, one-job, rank-counted}
use Rattle.division.proofs.Entries.{job-told}
use Rattle.filed_reports.specs.declared.Report.{Report}
use Rattle.filed_reports.specs.Bytes.{all_ones, report_at, report_count}
use Rattle.filed_reports.specs.Filed.{Filed, Covers, Finds}
use Rattle.filed_reports.proofs.Bytes.{read_at}
use Rattle.verdict_answers.specs.declared.Checked.{Checked}
use Rattle.verdict_answers.specs.declared.Refusal as verdict-refusal
use Rattle.verdict_answers.specs.Answers.{notion_of, range_told, range_check}
use Rattle.verdict_answers.specs.First.{NotAfter, FirstBreaking, FirstInRange, RangeFinds}
use Rattle.verdict_answers.specs.Conditions.{WrongNotion}
use Rattle.verdict_answers.specs.Guarantee.{Watched}
use Rattle.verdict_answers.specs.Jobs.{nothing, Ordered, Asked, Divided}
use Rattle.verdict_answers.proofs.Conditions.{range_asked}
use Rattle.verdict_answers.proofs.First.{shows-exactly}
use Rattle.verdict_answers.proofs.Finds.{range_finds}
use Rattle.verdict_answers.proofs.Watching.{set-watched, watched-set}
use Rattle.pool_answers.specs.Answers.{broken_told, uncovered_told, pool_of, report_of}
use Rattle.pool_answers.specs.Conditions.{Answered}
use Rattle.pool_answers.specs.Says.{Reported, IsCovered, NoneReported, AllCovered, FirstReported, FirstUncovered, Pooled}
use Rattle.pool_answers.specs.Agrees.{AllTrue}
use Rattle.pool_answers.specs.Gathered as gathered
use Rattle.pool_answers.specs.Gathered.{bytes_at, Campaign, JobReport, Gathered, All, But, PoolIsVerdict}
use Rattle.pool_answers.proofs.Filing.{filed-fits, Writes, is-written}
use Rattle.pool_answers.proofs.Saying.{within, uncovered-exactly, Found, Missing, Whole, three}
use Rattle.pool_answers.proofs.Agreeing.{holds_too, found-breaks}

no_wires : (notion : Notion) (table : List ℕ) (shares masks : ℕ) → is_breaking notion table shares masks [] ≡ false
unfolding is_breaking
no_wires notion table shares masks = empty-breaks-nothing notion shares masks

-- ---- what was filed from a range check's answer

module _ (table : List ℕ) (shares masks notion : ℕ) (reports : List ℕ) (size from to i : ℕ)
    (c : gathered.Checked table shares masks notion size from to (bytes_at reports i)) where
  abbrev wires : ℕ
  wires = wire_count table

  abbrev w : Writes notion size from to c.answer
  w = (is-written notion size from to c.answer c.lent (bytes_at reports i) c.files).0

  abbrev pub found_there : ℕ
  found_there = w.found

  pub report_there : report_at reports i ≡ report_of notion size from to found_there
  report_there = read_at reports i (report_of notion size from to w.found) (filed-fits (report_of notion size from to w.found) w.fileable)
      (is-written notion size from to c.answer c.lent (bytes_at reports i) c.files).1

  -- the range check was not turned down
  pub asked_there : Asked table shares masks notion size c.buffer × (from ≤ to) × (to ≤ binom wires size)
  asked_there = (range_asked table shares masks notion size from to c.buffer).0
      (go c.answer w.answered (ap (λ (a : Lent). a.told) (sym c.answers)))
    where
      go : (answer : Result Checked verdict-refusal.Refusal) → Answered size from to answer w.found
          → (range_check table shares masks notion size from to c.buffer).told ≡ (range_told answer c.held).told
          → (l : List ℕ) × ((range_check table shares masks notion size from to c.buffer).told ≡ values l)
      go (Ok Checked.Clean) a e = ([], e)
      go (Ok (Checked.Found k rank)) a e = (k ∷ rank ∷ [], e)
      go (Err why) a e = absurd a

  finds : RangeFinds c.answer table shares masks notion size from to c.buffer c.held
  finds = range_finds table shares masks notion size from to c.buffer c.held c.answer c.answers

  found_place : (answer : Result Checked verdict-refusal.Refusal) (found : ℕ) → Answered size from to answer found → (found ≡ all_ones → ⊥)
      → (from ≤ found) × (found < to) × (answer ≡ Ok (Checked.Found size found))
  found_place (Ok Checked.Clean) found a d = absurd (d a)
  found_place (Ok (Checked.Found k rank)) found a d = (
    omega (arith, a.1, a.3),
    omega (arith, a.2, a.3),
    ap₂ {C = Result Checked verdict-refusal.Refusal} (λ (k r : ℕ). Ok (Checked.Found k r)) a.0 (sym a.3),
  )
  found_place (Err why) found a d = absurd a

  wires-few : wires ≤ max_wires
  wires-few = omega (arith, ((accepted_exactly table shares masks).0 asked_there.0.sound).short)

  clean_place : (answer : Result Checked verdict-refusal.Refusal) (found : ℕ) → Answered size from to answer found → found ≡ all_ones → answer ≡ Ok Checked.Clean
  clean_place (Ok Checked.Clean) found a e = refl
  clean_place (Ok (Checked.Found k rank)) found a e =
      let most : binom wires size < largest = counts_fit wires size wires-few asked_there.0.small in
      let z : ⊥ = omega (arith, a.2, a.3, e, asked_there.2, most) in
      absurd z
  clean_place (Err why) found a e = absurd a

  pub first_there : (found_there ≡ all_ones → ⊥) → FirstInRange table shares masks notion size from to (take size c.held) found_there
  first_there d =
      let p = found_place c.answer w.found w.answered d in (finds.found size w.found p.2).2

  pub clean_there : found_there ≡ all_ones → range_check table shares masks notion size from to c.buffer ≡ nothing c.buffer
  clean_there e =
      let clean = clean_place c.answer w.found w.answered e in
      sym c.answers ∙ ap (λ (a : Result Checked verdict-refusal.Refusal). range_told a c.held) clean ∙ ap nothing (finds.clean clean).0

  pub filed_there : (order : ℕ) → 1 ≤ size → size ≤ order → Filed (binom wires) notion order (report_at reports i)
  filed_there order low few = subst (Filed (binom wires) notion order) (sym report_there) (record {
    same = refl;
    low = low;
    high = few;
    blank = refl;
    rises = asked_there.1;
    ends = asked_there.2;
    inside = λ d. let p = found_place c.answer w.found w.answered d in (p.0, p.1);
  })

  pub breaks_there : ((report_at reports i).found ≡ all_ones → ⊥)
      → is_breaking (notion_of notion) table shares masks (set_at wires (report_at reports i).size (report_at reports i).found) ≡ true
  breaks_there d =
      let f = first_there (λ e. d (ap (λ (r : Report). r.found) report_there ∙ e)) in
      ap (λ (r : Report). is_breaking (notion_of notion) table shares masks (set_at wires r.size r.found)) report_there
      ∙ ap (is_breaking (notion_of notion) table shares masks) f.stands ∙ f.breaking

  pub true_there : (report_at reports i).found ≡ all_ones → (b : List ℕ) × ((report_at reports i).size ≤ length b)
      × (range_check table shares masks notion (report_at reports i).size (report_at reports i).from (report_at reports i).to b ≡ nothing b)
  true_there e =
      subst (λ (r : Report). (b : List ℕ) × (r.size ≤ length b) × (range_check table shares masks notion r.size r.from r.to b ≡ nothing b))
      (sym report_there)
      (c.buffer, asked_there.0.room, clean_there (sym (ap (λ (r : Report). r.found) report_there) ∙ e))

-- the reports of a campaign are taken, and the clean ones are true
module _ (table : List ℕ) (shares masks notion order : ℕ) (reports : List ℕ) (sound : values [] ≡ table_check table shares masks)
    (known : WrongNotion notion → ⊥) (low : 1 ≤ order) (high : order < shares) (g : Campaign table shares masks notion order reports) where
  pub campaign_pooled : Pooled table shares masks notion order reports
  campaign_pooled = record {
    sound = sound;
    known = known;
    low = low;
    high = high;
    whole = g.whole;
    filed = λ i h. let e = g.each i h in filed_there table shares masks notion reports e.0 e.1 e.2 i e.5 order e.3 e.4;
    breaking = λ i h d. let e = g.each i h in breaks_there table shares masks notion reports e.0 e.1 e.2 i e.5 d;
  }

  pub campaign_true : AllTrue table shares masks notion reports
  campaign_true = record { clean = λ i h c. let e = g.each i h in true_there table shares masks notion reports e.0 e.1 e.2 i e.5 c }

-- ---- the jobs of a division

module _ (table : List ℕ) (shares masks notion order : ℕ) (jobs : ℕ → ℕ) (buffer reports : List ℕ) (ordered : Ordered table shares masks notion order buffer)
    (divided : (size : ℕ) → Divided (jobs size)) where
  abbrev n : ℕ
  n = wire_count table

  abbrev test : List ℕ → Bool
  test = is_breaking (notion_of notion) table shares masks

  abbrev bound : ℕ → ℕ → ℕ
  bound size i = start (binom n size) (jobs size) i

  order_small : order ≤ max_size
  order_small = omega (arith, ordered.high, ((accepted_exactly table shares masks).0 ordered.sound).high)

  few-wires : n ≤ max_wires
  few-wires = omega (arith, ((accepted_exactly table shares masks).0 ordered.sound).short)

  told : (size job : ℕ) → size ≤ order → job < jobs size → job_ranks n size job (jobs size) ≡ values (bound size job ∷ bound size (suc job) ∷ [])
  told size job few one = job-told n size (jobs size) few-wires (le_trans few order_small) (divided size).some (divided size).few job one

  abbrev Job : ℕ → ℕ → ℕ → Type 0
  Job size job i = gathered.Checked table shares masks notion size (bound size job) (bound size (suc job)) (bytes_at reports i)

  -- its bounds are the job's
  of_job : (size job i : ℕ) → size ≤ order → job < jobs size → JobReport table shares masks notion size (jobs size) job (bytes_at reports i) → Job size job i
  of_job size job i few one j =
      let p = j.told in
      let q = told size job few one in
      let low : j.from ≡ bound size job = cc in
      let high : j.to ≡ bound size (suc job) = cc in
      subst (λ (b : ℕ). gathered.Checked table shares masks notion size (bound size job) b (bytes_at reports i)) high
      (subst (λ (a : ℕ). gathered.Checked table shares masks notion size a j.to (bytes_at reports i)) low j.checked)

  covers_there : (size job i rank : ℕ) → Job size job i → HasRank (binom n size) (jobs size) job rank → Covers (report_at reports i) size rank
  covers_there size job i rank c h =
      subst (λ (r : Report). Covers r size rank) (sym (report_there table shares masks notion reports size (bound size job) (bound size (suc job)) i c))
      (record { same = refl; low = h.from; high = h.to })

  module _ (Left : ℕ → ℕ → Type 0) (g : Gathered Left table shares masks notion order jobs reports) where
    campaign : Campaign table shares masks notion order reports
    campaign = record {
      whole = g.whole;
      each = λ i h. let e = g.each i h in (e.0, e.6.from, e.6.to, e.2, e.3, e.6.checked);
    }

    pub gathered_pooled : Pooled table shares masks notion order reports
    gathered_pooled = campaign_pooled table shares masks notion order reports ordered.sound ordered.known ordered.low ordered.high campaign

    pub gathered_true : AllTrue table shares masks notion reports
    gathered_true = campaign_true table shares masks notion order reports ordered.sound ordered.known ordered.low ordered.high campaign

    pub job-covers : (size job rank : ℕ) → 1 ≤ size → size ≤ order → (Left size job → ⊥) → HasRank (binom n size) (jobs size) job rank
        → IsCovered reports size rank
    job-covers size job rank low few kept has =
        let s = g.all size job low few has.inside kept in
        (s.0, s.1, covers_there size job s.0 rank (of_job size job s.0 few has.inside s.2) has)

    -- the report of another job does not cover the rank
    pub covers-job : (size job rank : ℕ) → HasRank (binom n size) (jobs size) job rank → IsCovered reports size rank → Left size job → ⊥
    covers-job size job rank has c left =
        let e = g.each c.0 c.1 in
        let j = of_job e.0 e.1 c.0 e.3 e.4 e.6 in
        let here = report_there table shares masks notion reports e.0 (bound e.0 e.1) (bound e.0 (suc e.1)) c.0 j in
        let k : e.0 ≡ size = sym (ap (λ (r : Report). r.size) here) ∙ c.2.same in
        let low : bound e.0 e.1 ≤ rank = subst (λ (r : Report). r.from ≤ rank) here c.2.low in
        let high : rank < bound e.0 (suc e.1) = subst (λ (r : Report). rank < r.to) here c.2.high in
        let there : HasRank (binom n e.0) (jobs e.0) e.1 rank = record { inside = e.4; from = low; to = high } in
        let other : HasRank (binom n size) (jobs size) e.1 rank = subst (λ (x : ℕ). HasRank (binom n x) (jobs x) e.1 rank) k there in
        let i : job ≡ e.1 = one-job (binom n size) (jobs size) job e.1 rank (divided size).some has other in
        e.5 (subst (λ (x : ℕ). Left e.0 x) i (subst (λ (x : ℕ). Left x job) (sym k) left))

    -- with some left out, and nothing found, the pool names a rank of one of them
    module _ (decided : (size job : ℕ) → Dec (Left size job)) (none : NoneReported reports) (k job r : ℕ) (low : 1 ≤ k) (few : k ≤ order) (left : Left k job)
        (has : HasRank (binom n k) (jobs k) job r) where
      pub jobs_missing : (size rank i : ℕ) × (pool_of table shares masks notion order reports ≡ uncovered_told size rank) × Left size i
          × HasRank (binom n size) (jobs size) i rank
      jobs_missing = go (three table shares masks notion order reports gathered_pooled)
        where
          Answer : Type 0
          Answer = (size rank i : ℕ) × (pool_of table shares masks notion order reports ≡ uncovered_told size rank) × Left size i
              × HasRank (binom n size) (jobs size) i rank

          of : (size rank : ℕ) → FirstUncovered n order reports size rank → pool_of table shares masks notion order reports ≡ uncovered_told size rank → Answer
          of size rank u e = pick (job_of_rank (binom n size) (jobs size) rank (divided size).some u.counted)
            where
              pick : (i : ℕ) × HasRank (binom n size) (jobs size) i rank → Answer
              pick j = by (decided size j.0)
                where
                  by : Dec (Left size j.0) → Answer
                  by (yes l) = (size, rank, j.0, e, l, j.1)
                  by (no d) = absurd (u.here (job-covers size j.0 rank u.low u.high d j.1))

          go : Found table shares masks notion order reports gathered_pooled
              ⊎ (Missing table shares masks notion order reports gathered_pooled ⊎ Whole table shares masks notion order reports gathered_pooled)
              → Answer
          go (inl f) = absurd (none f.0 f.1 f.2.here)
          go (inr (inl m)) = of m.0 m.1 m.3 m.4
          go (inr (inr x)) =
              absurd (covers-job k job r has (x.1 k r low few (rank-counted (binom n k) (jobs k) job r (divided k).some has)) left)

  -- ---- all of them

  module _ (g : Gathered All table shares masks notion order jobs reports) where
    pooled-all : Pooled table shares masks notion order reports
    pooled-all = gathered_pooled All g

    whole : AllCovered n order reports
    whole size rank low few counted =
        let j = job_of_rank (binom n size) (jobs size) rank (divided size).some counted in
        job-covers All g size j.0 rank low few (λ z. z) j.1

    -- a set that breaks is at or after one that its job has found
    before_break : (u : List ℕ) → Watched table order u → test u ≡ true → 1 ≤ length u
        → (r : ℕ) × Reported reports (length u) r × (r ≤ rank_of n u)
    before_break u w breaks low =
        let there = set_of_rank n (length u) u (watched-set table order u w) in
        let j = job_of_rank (binom n (length u)) (jobs (length u)) (rank_of n u) (divided (length u)).some there.0 in
        let s = g.all (length u) j.0 low w.few j.1.inside (λ z. z) in
        let c = of_job (length u) j.0 s.0 w.few j.1.inside s.2 in
        go j.0 j.1 s.0 s.1 c
        (alike (found_there table shares masks notion reports (length u) (bound (length u) j.0) (bound (length u) (suc j.0)) s.0 c) all_ones)
        there.1
      where
        go : (job : ℕ) → HasRank (binom n (length u)) (jobs (length u)) job (rank_of n u) → (i : ℕ) → i < report_count reports → (c : Job (length u) job i)
            → Dec (found_there table shares masks notion reports (length u) (bound (length u) job) (bound (length u) (suc job)) i c ≡ all_ones)
            → set_at n (length u) (rank_of n u) ≡ u
            → (r : ℕ) × Reported reports (length u) r × (r ≤ rank_of n u)
        go job has i h c (yes e) stands =
            let clean = clean_there table shares masks notion reports (length u) (bound (length u) job) (bound (length u) (suc job)) i c e in
            let r = range_finds table shares masks notion (length u) (bound (length u) job) (bound (length u) (suc job)) c.buffer c.buffer
            (Ok Checked.Clean) (sym clean) in
            absurd (true≢false (sym breaks ∙ ap test (sym stands) ∙ (r.clean refl).1 (rank_of n u) has.from has.to))
        go job has i h c (no d) stands = (
          found,
          (
            i,
            h,
            subst (λ (r : Report). Finds r (length u) found)
                (sym (report_there table shares masks notion reports (length u) (bound (length u) job) (bound (length u) (suc job)) i c))
                (record { found = d; same = refl; here = refl }),
          ),
          later (dec_lt (rank_of n u) found),
        )
          where
            found : ℕ
            found = found_there table shares masks notion reports (length u) (bound (length u) job) (bound (length u) (suc job)) i c

            later : Dec (rank_of n u < found) → found ≤ rank_of n u
            later (yes less) =
                let f = first_there table shares masks notion reports (length u) (bound (length u) job) (bound (length u) (suc job)) i c d in
                absurd (true≢false (sym breaks ∙ ap test (sym stands) ∙ f.first (rank_of n u) has.from less))
            later (no more) = omega (arith, more)

    shown-first : (size rank : ℕ) → FirstReported reports size rank → FirstBreaking table shares masks notion order (set_at n size rank)
    shown-first size rank f =
        let place = within table shares masks notion order reports pooled-all size rank f.here in
        let is = set_at-is-set n size rank place.2 in record {
          watched = set-watched table order size (set_at n size rank) is place.1;
          breaking = found-breaks table shares masks notion order reports pooled-all size rank f;
          first = λ u w b. first u w b (is_set-parts n size (set_at n size rank) is).0 (rank_of-set n size rank place.2) (dec_lt 0 (length u));
        }
      where
        first : (u : List ℕ) → Watched table order u → test u ≡ true → length (set_at n size rank) ≡ size → rank_of n (set_at n size rank) ≡ rank
            → Dec (0 < length u) → NotAfter n (set_at n size rank) u
        first u w b long at (yes some) =
            let r = before_break u w b some in
            ⊎_elim (λ less. inl (omega (arith, less, long))) (λ same. inr (omega (arith, same.0, long), omega (arith, same.1, r.2, at)))
            (f.first (length u) r.0 r.1)
        first u w b long at (no none) = inl (empty u none b)
          where
            empty : (u : List ℕ) → (0 < length u → ⊥) → test u ≡ true → length (set_at n size rank) < length u
            empty [] d b = absurd (true≢false (sym b ∙ no_wires (notion_of notion) table shares masks))
            empty (x ∷ u) d b = absurd (d (omega arith))

    pub jobs_pooled : PoolIsVerdict table shares masks notion order buffer reports
    jobs_pooled = go (three table shares masks notion order reports pooled-all)
      where
        go : Found table shares masks notion order reports pooled-all
            ⊎ (Missing table shares masks notion order reports pooled-all ⊎ Whole table shares masks notion order reports pooled-all)
            → PoolIsVerdict table shares masks notion order buffer reports
        go (inl f) =
            let place = within table shares masks notion order reports pooled-all f.0 f.1 f.2.here in
            let set = set_at n f.0 f.1 in
            let long = (is_set-parts n f.0 set (set_at-is-set n f.0 f.1 place.2)).0 in
            inr (
              set,
              f.3 ∙ ap₂ {C = Told} broken_told (sym long) (sym (rank_of-set n f.0 f.1 place.2)),
              (shows-exactly table shares masks notion order buffer ordered set).1 (shown-first f.0 f.1 f.2),
            )
        go (inr (inl m)) = absurd (m.3.here (whole m.0 m.1 m.3.low m.3.high m.3.counted))
        go (inr (inr w)) = inl (w.2, holds_too table shares masks notion order reports pooled-all (gathered_true All g) w.0 w.1 buffer ordered.room)

  -- ---- all but one

  module _ (k job : ℕ) (g : Gathered (But k job) table shares masks notion order jobs reports) (low : 1 ≤ k) (few : k ≤ order) (one : job < jobs k)
      (some : start (binom n k) (jobs k) job < start (binom n k) (jobs k) (suc job)) (none : NoneReported reports) where
    first-rank : HasRank (binom n k) (jobs k) job (bound k job)
    first-rank = record { inside = one; from = le_refl (bound k job); to = some }

    other_size : (size rank : ℕ) → 1 ≤ size → size < k → rank < binom n size → IsCovered reports size rank
    other_size size rank start less counted =
        let j = job_of_rank (binom n size) (jobs size) rank (divided size).some counted in
        job-covers (But k job) g size j.0 rank start (omega (arith, less, few)) (λ b. omega (arith, less, b.0)) j.1

    before_it : (rank : ℕ) → rank < bound k job → IsCovered reports k rank
    before_it rank less =
        let counted : rank < binom n k = omega (arith, less, some, start-within (binom n k) (jobs k) (suc job) (divided k).some one) in
        let j = job_of_rank (binom n k) (jobs k) rank (divided k).some counted in
        job-covers (But k job) g k j.0 rank low few (λ b. earlier j.0 j.1 b.1) j.1
      where
        earlier : (i : ℕ) → HasRank (binom n k) (jobs k) i rank → i ≡ job → ⊥
        earlier i has same = let from : bound k job ≤ rank = subst (λ (x : ℕ). bound k x ≤ rank) same has.from in omega (arith, from, less)

    pub job_missing : pool_of table shares masks notion order reports ≡ uncovered_told k (start (binom n k) (jobs k) job)
    job_missing = (uncovered-exactly table shares masks notion order reports (gathered_pooled (But k job) g) k (bound k job)).1 (
      none,
      record {
        low = low;
        high = few;
        counted = omega (arith, some, start-within (binom n k) (jobs k) (suc job) (divided k).some one);
        here = λ c. covers-job (But k job) g k job (bound k job) first-rank c (refl, refl);
        smaller = other_size;
        before = before_it;
      },
    )
