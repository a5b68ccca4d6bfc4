-- What a range check answered, filed and pooled, is a report that the pool takes.
--     range_taken        it is filed, into any buffer of a report's length; a pool at any order from the size on takes it, and where clean it is true
--     barred_exactly     the bounds that a report may not have are those that 18 bars
--     job-filed          every job has a report
use Prim.Native.Nat.{ℕ, zero, suc, ◌≤◌, ◌<◌}
use native.Mathlib.Nat.{le_trans, le_of_suc-le-suc, not-suc-le-zero}
use native.Mathlib.Decide.{dec_lt}
use native.Mathlib.Omega.{arith}
use mathlib.Core.Path.{◌≡◌, refl, sym, ◌∙◌, ap}
use mathlib.Core.Logic.{◌↔◌, ◌⊎◌, inl, inr}
use mathlib.Core.Bool.{true}
use mathlib.Core.List.{List, [], ◌∷◌}
use lib.ListN.{length}
use Rattle.limits.specs.Limits.{max_wires, max_size}
use Rattle.std.specs.Prelude.{Result, Ok, Err}
use Rattle.basics.specs.Folds.{keep}
use Rattle.basics.specs.Told.{Lent, refusal}
use Rattle.basics.specs.Conditions.{First}
use Rattle.basics.proofs.Conditions.{values-refusal}
use Rattle.records.specs.Layout.{wire_count}
use Rattle.counts.specs.Counts.{binom}
use Rattle.counts.proofs.Binomial.{binom_wider}
use Rattle.revolving.specs.Order.{set_at, rank_of}
use Rattle.breaking.specs.Breaking.{is_breaking}
use Rattle.search.specs.Search.{stretch}
use Rattle.table.proofs.Conditions.{sound-exactly, accepted_exactly}
use Rattle.division.specs.Division.{start}
use Rattle.division.proofs.Division.{start-rises, start-within}
use Rattle.division.proofs.Entries.{job-told}
use Rattle.filed_reports.specs.declared.Report.{Report}
use Rattle.filed_reports.specs.Bytes.{report_bytes, all_ones, bytes_of_report}
use Rattle.filed_reports.specs.Filed.{Filed}
use Rattle.verdict_answers.specs.declared.Refusal.{Refusal}
use Rattle.verdict_answers.specs.declared.Checked.{Checked}
use Rattle.verdict_answers.specs.Answers as verdict-answers
use Rattle.verdict_answers.specs.Answers.{notion_of, first_ranked, range_told, range_check}
use Rattle.verdict_answers.specs.Conditions.{range_conditions}
use Rattle.verdict_answers.specs.Jobs.{Ordered, Asked, Divided}
use Rattle.verdict_answers.proofs.Conditions.{range_asked, range_settled, range_answered}
use Rattle.verdict_answers.proofs.Finds.{range_finds}
use Rattle.pool_answers.specs.Answers.{report_of, written, filed_report}
use Rattle.pool_answers.specs.Conditions.{Answered}
use Rattle.pool_answers.specs.Says.{Pooled}
use Rattle.pool_answers.specs.Agrees.{AllTrue}
use Rattle.pool_answers.specs.Gathered as gathered
use Rattle.pool_answers.specs.Gathered.{bytes_at, Campaign, JobReport}
use Rattle.pool_answers.proofs.Filing.{Fileable, Writes, Written, NotWritten, file_either, writes_only}
use Rattle.pool_answers.proofs.Gathering.{campaign_pooled, campaign_true}

module _ (table : List ℕ) (shares masks notion size from to : ℕ) (buffer : List ℕ) where
  -- what it answered, where it refused nothing
  abbrev Told : Result Checked Refusal → List ℕ → Type 0
  Told answer held = range_told answer held ≡ range_check table shares masks notion size from to buffer

  abbrev Accepts : Type 0
  Accepts = Asked table shares masks notion size buffer × (from ≤ to) × (to ≤ binom (wire_count table) size)

  -- the found rank of its report, which the bounds have between them and whose set breaks
  abbrev Finding : Result Checked Refusal → Type 0
  Finding answer = (found : ℕ) × Answered size from to answer found
      × ((found ≡ all_ones → ⊥) → (from ≤ found) × (found < to) × (is_breaking (notion_of notion) table shares masks (set_at (wire_count table) size found) ≡ true))

  accepts : (answer : Result Checked Refusal) (held : List ℕ) → Told answer held → ((why : Refusal) → answer ≡ Err why → ⊥) → Accepts
  accepts (Ok Checked.Clean) held e kept = (range_asked table shares masks notion size from to buffer).0 ([], ap (λ (a : Lent). a.told) (sym e))
  accepts (Ok (Checked.Found k rank)) held e kept =
      (range_asked table shares masks notion size from to buffer).0 (k ∷ rank ∷ [], ap (λ (a : Lent). a.told) (sym e))
  accepts (Err why) held e kept = absurd (kept why refl)

  finding : (answer : Result Checked Refusal) (held : List ℕ) → Told answer held → ((why : Refusal) → answer ≡ Err why → ⊥) → Finding answer
  finding (Ok Checked.Clean) held e kept = (all_ones, refl, λ d. absurd (d refl))
  finding (Ok (Checked.Found k rank)) held e kept =
      let f = (range_finds table shares masks notion size from to buffer held (Ok (Checked.Found k rank)) e).found k rank refl in
      let first = f.2 in (
        rank,
        (f.0, first.low, first.high, refl),
        λ d. (first.low, first.high, ap (is_breaking (notion_of notion) table shares masks) first.stands ∙ first.breaking),
      )
  finding (Err why) held e kept = absurd (kept why refl)

  module _ (order : ℕ) (low : 1 ≤ size) (few : size ≤ order) (fits : order < shares) (answer : Result Checked Refusal) (held : List ℕ) (e : Told answer held)
      (kept : (why : Refusal) → answer ≡ Err why → ⊥) where
    a : Accepts
    a = accepts answer held e kept

    f : Finding answer
    f = finding answer held e kept

    abbrev r : Report
    r = report_of notion size from to f.0

    filed : (wires k : ℕ) → wire_count table ≤ wires → size ≤ k → Filed (binom wires) notion k r
    filed wires k more h = record {
      same = refl;
      low = low;
      high = h;
      blank = refl;
      rises = a.1;
      ends = le_trans a.2 (binom_wider (wire_count table) wires size more);
      inside = λ d. let g = f.2 d in (g.0, g.1);
    }

    wires-few : wire_count table ≤ max_wires
    wires-few = omega (arith, ((accepted_exactly table shares masks).0 a.0.sound).short)

    fileable : Fileable r
    fileable = record { known = a.0.known; filed = filed max_wires max_size wires-few a.0.small }

    files : (lent : List ℕ) → length lent ≡ report_bytes
        → filed_report notion size from to answer lent ≡ written (report_of notion size from to f.0)
    files lent long = go (file_either notion size from to answer lent)
      where
        w : Writes notion size from to answer
        w = record { found = f.0; answered = f.1; fileable = fileable }

        go : Written notion size from to answer lent ⊎ NotWritten notion size from to answer lent
            → filed_report notion size from to answer lent ≡ written (report_of notion size from to f.0)
        go (inl x) = x.2 ∙ ap (λ (i : ℕ). written (report_of notion size from to i)) (writes_only notion size from to answer x.0 w)
        go (inr (inl d, y)) = absurd (d long)
        go (inr (inr d, y)) = absurd (d w)

    module _ (lent : List ℕ) (long : length lent ≡ report_bytes) where
      campaign : Campaign table shares masks notion order (bytes_of_report r)
      campaign = record { whole = refl; each = λ i h. (size, from, to, low, few, there i h) }
        where
          there : (i : ℕ) → i < 1 → gathered.Checked table shares masks notion size from to (bytes_at (bytes_of_report r) i)
          there zero h = record { buffer = buffer; answer = answer; held = held; answers = e; lent = lent; files = files lent long }
          there (suc i) h = absurd (not-suc-le-zero (le_of_suc-le-suc h))

      -- its bytes stand in the buffer, a pool of them is not turned down, and where it was clean the report is true
      pub range_taken : (found : ℕ) × Answered size from to answer found
          × (filed_report notion size from to answer lent ≡ written (report_of notion size from to found))
          × Pooled table shares masks notion order (bytes_of_report (report_of notion size from to found))
          × AllTrue table shares masks notion (bytes_of_report (report_of notion size from to found))
      range_taken = (
        f.0,
        f.1,
        files lent long,
        campaign_pooled table shares masks notion order (bytes_of_report r) a.0.sound a.0.known (le_trans low few) fits campaign,
        campaign_true table shares masks notion order (bytes_of_report r) a.0.sound a.0.known (le_trans low few) fits campaign,
      )

-- ---- bounds that 18 bars

module _ (table : List ℕ) (shares masks notion size from to : ℕ) (buffer : List ℕ) (asked : Asked table shares masks notion size buffer) where
  -- the bounds that a report may not have are those with which a range check is turned down by 18
  pub barred_exactly : ((range_check table shares masks notion size from to buffer).told ≡ refusal 18) ↔ ((to < from) ⊎ (binom (wire_count table) size < to))
  barred_exactly = (there, λ barred. ((range_settled table shares masks notion size from to buffer).settles.refused 18).1 (first barred))
    where
      there : (range_check table shares masks notion size from to buffer).told ≡ refusal 18 → (to < from) ⊎ (binom (wire_count table) size < to)
      there e = go (dec_lt to from) (dec_lt (binom (wire_count table) size) to)
        where
          go : Dec (to < from) → Dec (binom (wire_count table) size < to) → (to < from) ⊎ (binom (wire_count table) size < to)
          go (yes h) y = inl h
          go (no h) (yes y) = inr y
          go (no h) (no y) =
              let v = (range_asked table shares masks notion size from to buffer).1 (asked, omega (arith, h), omega (arith, y)) in
              absurd (values-refusal v.0 18 (sym v.1 ∙ e))

      first : (to < from) ⊎ (binom (wire_count table) size < to) → First (range_conditions table shares masks notion size from to buffer) 18
      first barred =
          let n = (sound-exactly table shares masks).1 ((accepted_exactly table shares masks).0 asked.sound) in
          inr (n.0, inr (n.1, inr (n.2, inr (asked.known, inr (λ h. omega (arith, h, asked.small), inr (λ h. omega (arith, h, asked.room), inl (barred, refl)))))))

-- ---- every job has a report

module _ (table : List ℕ) (shares masks notion order : ℕ) (jobs : ℕ → ℕ) (buffer : List ℕ) (ordered : Ordered table shares masks notion order buffer)
    (divided : (size : ℕ) → Divided (jobs size)) (size job : ℕ) (low : 1 ≤ size) (few : size ≤ order) (one : job < jobs size) where
  abbrev n : ℕ
  n = wire_count table

  abbrev from-job : ℕ
  from-job = start (binom n size) (jobs size) job

  abbrev to-job : ℕ
  to-job = start (binom n size) (jobs size) (suc job)

  asked-job : Asked table shares masks notion size buffer
  asked-job =
      let most = ((accepted_exactly table shares masks).0 ordered.sound).high in
      record { sound = ordered.sound; known = ordered.known; small = omega (arith, few, most, ordered.high); room = le_trans few ordered.room }

  -- what its range check answers
  answered-job : (answer : Result Checked Refusal) × (held : List ℕ)
      × (range_told answer held ≡ range_check table shares masks notion size from-job to-job buffer)
      × ((why : Refusal) → answer ≡ Err why → ⊥)
  answered-job = go (keep (is_breaking (notion_of notion) table shares masks) (stretch n size from-job to-job)) refl
    where
      shows : (l : List (List ℕ)) → keep (is_breaking (notion_of notion) table shares masks) (stretch n size from-job to-job) ≡ l
          → first_ranked n l buffer ≡ range_check table shares masks notion size from-job to-job buffer
      shows l e =
          ap (λ (x : List (List ℕ)). first_ranked n x buffer) (sym e)
          ∙ sym (range_answered table shares masks notion size from-job to-job buffer asked-job
          (start-rises (binom n size) (jobs size) job (divided size).some) (start-within (binom n size) (jobs size) (suc job) (divided size).some one))

      go : (l : List (List ℕ)) → keep (is_breaking (notion_of notion) table shares masks) (stretch n size from-job to-job) ≡ l
          → (answer : Result Checked Refusal) × (held : List ℕ) × (range_told answer held ≡ range_check table shares masks notion size from-job to-job buffer)
          × ((why : Refusal) → answer ≡ Err why → ⊥)
      go [] e = ((Ok Checked.Clean), buffer, shows [] e, λ why same. let z : ◌≡◌ {A = ℕ} 0 1 = cc in absurd (omega (arith, z)))
      go (s ∷ later) e = (
        Ok (Checked.Found (length s) (rank_of n s)),
        verdict-answers.written s buffer,
        shows (s ∷ later) e,
        λ why same. let z : ◌≡◌ {A = ℕ} 0 1 = cc in absurd (omega (arith, z)),
      )

  pub job-filed : (lent : List ℕ) → length lent ≡ report_bytes → (bytes : List ℕ) × (length bytes ≡ report_bytes)
      × JobReport table shares masks notion size (jobs size) job bytes
  job-filed lent long =
      let x = answered-job in
      let most = (accepted_exactly table shares masks).0 ordered.sound in
      let wires : n ≤ max_wires = omega (arith, most.short) in
      let t = range_taken table shares masks notion size from-job to-job buffer order low few ordered.high x.0 x.1 x.2 x.3 lent long in (
        bytes_of_report (report_of notion size from-job to-job t.0),
        refl,
        record {
          from = from-job;
          to = to-job;
          told = job-told n size (jobs size) wires asked-job.small (divided size).some (divided size).few job one;
          checked = record { buffer = buffer; answer = x.0; held = x.1; answers = x.2; lent = lent; files = t.2 };
        },
      )
