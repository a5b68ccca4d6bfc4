-- The starred examples of the scope ("Report program and examples") in one table: what is asked, and what is to be told.
--     Asked, asked       a question, and what the definition that the entry's promise cites tells
--     page, printed      a lent page, and the bytes of the report that it then holds
--     outers, counted    the numbers of the outer wires of a text that was read, and how many wires it has
--     wrapped            where a job would start whose product wraps at 32 bits
--     written            the set that was written
--     depended           on how many shares a set of a text's wires depends
--     empty_checked       the range check of the empty set, in a text's table
--     Case, Holds, AllHold     a line of the table, that it is so, and that every line of a table is
--     is, prints         a line; one of a report
--     text_a, text_b, text_c, order_two     the texts
--     starred            the table
--     AlsoInGeneral      the empty set breaks nothing in any table; rank 1 of pairs is {1,2} out of any number of wires from 3 on
use Rattle.std.specs.Prelude.{ℕ, ◌*◌, ◌/◌, ◌%◌, ◌^◌, ◌≤◌, ◌≡◌, false, List, [], ◌∷◌, take, replicate}
use Prim.Native.String.{String}
use Rattle.limits.specs.Limits.{max_wires, record_bytes}
use Rattle.basics.specs.Folds.{keep, up_to}
use Rattle.basics.specs.Quoted.{bytes}
use Rattle.basics.specs.Told.{Told, values, refusal}
use Rattle.records.specs.Layout.{wire_at}
use Rattle.counts.specs.Counts.{binom}
use Rattle.wires.specs.declared.Notion.{Notion}
use Rattle.sets.specs.Answers.{set_count, set_from_rank, rank_from_set}
use Rattle.division.specs.Answers.{job_ranks}
use Rattle.sets.specs.Visits.{SetTells}
use Rattle.breaking.specs.Breaking.{is_breaking}
use Rattle.verdict_answers.specs.Answers.{range_check, set_dependence}
use Rattle.reader.specs.Answers.{ReadTold, gives, refused, read_text}
use Rattle.verdict_lines.specs.Lines.{empty_set}
use Rattle.report_lines.specs.Report.{empty_table, max_report}
use Rattle.report_text.specs.Report.{report_text}

-- ---- questions

-- a page that is long enough for every report
abbrev page : List ℕ
page = replicate max_report 0

pub data Asked : Type 0 where
  -- the report on a text, whole
  report : List ℕ → Asked
  -- which wires of a text are outer
  outer_wires : List ℕ → Asked
  -- how many wires a text has
  wires_of : List ℕ → Asked
  -- how many sets of a size there are out of so many wires
  sets_of : (wires size : ℕ) → Asked
  -- the ranks of a job, and where a product of 32 bits would have it start
  ranks_of : (wires size job jobs : ℕ) → Asked
  wrapped_start : (wires size job jobs : ℕ) → Asked
  -- the set at a rank, and the rank of a set
  set_at : (wires size rank : ℕ) → Asked
  rank_of : (wires : ℕ) (set : List ℕ) → Asked
  -- on how many shares of a and of b a set of a text's wires depends, how many the notion allows it, and whether a mask is left
  depends_on : (text : List ℕ) (notion : ℕ) (set : List ℕ) → Asked
  -- whether the empty set, the only one of size 0, breaks a notion, in the table of a text
  empty_breaks : (text : List ℕ) (notion : ℕ) → Asked

-- the report's bytes, of which there are as many as are told
abbrev printed : Told → List ℕ → Told
printed (values []) page = values []
printed (values (size ∷ more)) page = values (take size page)
printed (refusal number) page = refusal number

-- of the wires that were read, those that are outer
abbrev outers : ReadTold → List ℕ → Told
outers (gives order shares masks wires) table = values (keep (λ wire. (wire_at table wire).outer) (up_to wires))
outers (refused number offset) table = refusal number

abbrev counted : ReadTold → Told
counted (gives order shares masks wires) = values (wires ∷ [])
counted (refused number offset) = refusal number

-- floor(job × count / jobs), the product cut to 32 bits
abbrev wrapped : ℕ → ℕ → ℕ → ℕ
wrapped count job jobs = job * count % 2 ^ 32 / jobs

-- the set that was written, of a size that is known
abbrev written : ℕ → Told → List ℕ → Told
written size (values v) buffer = values (take size buffer)
written size (refusal number) buffer = refusal number

-- the range check of the only set of size 0: clean has no value
abbrev empty_checked : ReadTold → List ℕ → ℕ → Told
empty_checked (gives order shares masks wires) table notion =
    (range_check (take (record_bytes * wires) table) shares masks notion 0 0 1 empty_set).told
empty_checked (refused number offset) table notion = refusal number

abbrev depended : ReadTold → List ℕ → ℕ → List ℕ → Told
depended (gives order shares masks wires) table notion set = set_dependence (take (record_bytes * wires) table) shares masks notion set
depended (refused number offset) table notion set = refusal number

-- what the promises of the entries tell
abbrev pub asked : Asked → Told
asked (report text) = printed (report_text text page).told (report_text text page).held
asked (outer_wires text) = outers (read_text text empty_table).told (read_text text empty_table).held
asked (wires_of text) = counted (read_text text empty_table).told
asked (sets_of wires size) = set_count wires size
asked (ranks_of wires size job jobs) = job_ranks wires size job jobs
asked (wrapped_start wires size job jobs) = values (wrapped (binom wires size) job jobs ∷ [])
asked (set_at wires size rank) = written size (set_from_rank wires size rank empty_set).told (set_from_rank wires size rank empty_set).held
asked (rank_of wires set) = rank_from_set wires set
asked (depends_on text notion set) = depended (read_text text empty_table).told (read_text text empty_table).held notion set
asked (empty_breaks text notion) = empty_checked (read_text text empty_table).told (read_text text empty_table).held notion

-- ---- the table

pub record Case : Type 0 where
  pub question : Asked
  pub answer : Told

abbrev pub Holds : Case → Type 0
Holds c = asked c.question ≡ c.answer

abbrev pub AllHold : List Case → Type 0
AllHold [] = Unit {0}
AllHold (c ∷ l) = Holds c × AllHold l

abbrev is : Asked → Told → Case
is question answer = record { question = question; answer = answer }

-- a report's lines
abbrev prints : String → String → Case
prints text lines = is (report (bytes text)) (values (bytes lines))

abbrev pub text_a : String
text_a = "ORDER = 1\nMASKS = [r0]\ns00 r0\ns11 ((r0 s01) s10)\n"

abbrev pub text_b : String
text_b = "ORDER = 1\nMASKS = [r0]\ns00 r0\ns11 (s01 s10) r0\n"

abbrev pub text_c : String
text_c = "ORDER = 1\nMASKS = []\na0 b0\na1 b1\n"

-- the order 2 example of source 002
abbrev pub order_two : String
order_two = "ORDER = 2\nMASKS = [r0, r1, r2]\ns00 r0 s01 s10 r1\ns11 r1 s12 s21 r2\ns22 r2 s20 s02 r0\n"

abbrev pub starred : List Case
starred =
    -- text A's whole report; its wires 2 and 8 are outer
    prints text_a "order 1 shares 2 masks 1 wires 9\nfunction product\nNI holds\nSNI holds\n"
    ∷ is (outer_wires (bytes text_a)) (values (2 ∷ 8 ∷ []))
    -- B: NI broken 6, SNI broken 6, product; both lines end in ` by both`, since wire 6 depends on two shares of each operand and pays for one
    ∷ prints text_b "order 1 shares 2 masks 1 wires 9\nfunction product\nNI broken 6 by both\nSNI broken 6 by both\n"
    ∷ is (depends_on (bytes text_b) 1 (6 ∷ [])) (values (2 ∷ 2 ∷ 1 ∷ 0 ∷ []))
    -- C: sum, NI holds, SNI broken 2; wire 2 is outer and pays for none
    ∷ prints text_c "order 1 shares 2 masks 0 wires 6\nfunction sum\nNI holds\nSNI broken 2 by both\n"
    ∷ is (depends_on (bytes text_c) 2 (2 ∷ [])) (values (1 ∷ 1 ∷ 0 ∷ 0 ∷ []))
    -- the empty text: 2 at 0; `()` on an output line: 6 at the second byte
    ∷ prints "" "refused 2 at 0\n"
    ∷ prints "ORDER = 1\nMASKS = []\n()\na1\n" "refused 6 at 22\n"
    ∷ prints "ORDER = 1\nMASKS = []\na0\n()\n" "refused 6 at 25\n"
    -- the order 2 example has 24 wires; 276 pairs; job 3 of 7 has ranks 118 to 156
    ∷ is (wires_of (bytes order_two)) (values (24 ∷ []))
    ∷ is (sets_of 24 2) (values (276 ∷ []))
    ∷ is (ranks_of 24 2 3 7) (values (118 ∷ 157 ∷ []))
    -- rank 1 of pairs is {1,2}
    ∷ is (set_at 24 2 1) (values (1 ∷ 2 ∷ []))
    ∷ is (rank_of 24 (1 ∷ 2 ∷ [])) (values (1 ∷ []))
    -- the empty set breaks nothing
    ∷ is (empty_breaks (bytes text_b) 1) (values [])
    ∷ is (empty_breaks (bytes text_b) 2) (values [])
    -- and, beyond the scope's own, a break of two wires at order 2, by a alone, and a function that is none of the three, with a break by b alone
    ∷ prints "ORDER = 2\nMASKS = [r0, r1]\na0 r0\na1 r1\n(a2 r0) r1\n"
    "order 2 shares 3 masks 2 wires 9\nfunction copy\nNI holds\nSNI broken 2 7 by a\n"
    ∷ prints "ORDER = 1\nMASKS = []\nb0\nb1\n" "order 1 shares 2 masks 0 wires 4\nfunction other\nNI holds\nSNI broken 1 by b\n"
    -- 512 wires, size 4: 2,829,877,120 sets; job 2 of 16 starts at 353,734,640, where a 32-bit product would say 85,299,184
    ∷ is (sets_of 512 4) (values (2829877120 ∷ []))
    ∷ is (ranks_of 512 4 2 16) (values (353734640 ∷ 530601960 ∷ []))
    ∷ is (wrapped_start 512 4 2 16) (values (85299184 ∷ []))
    ∷ []

-- ---- the two examples that speak of every table and every number of wires

pub record AlsoInGeneral : Type 0 where
  pub empty-set : (notion : Notion) (table : List ℕ) (shares masks : ℕ) → is_breaking notion table shares masks [] ≡ false
  pub rank-one : (wires : ℕ) → 3 ≤ wires → wires ≤ max_wires → SetTells wires 2 1 (1 ∷ 2 ∷ [])
