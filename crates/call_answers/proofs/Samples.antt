-- Examples, proved by running the definitions: what calls return, and what the lent numbers, of which each was 7 or more before, and buffers then hold.
--     statuses      what every answer and every refusal makes of status, numbers and buffer
--     numbering     the entries on wire counts
--     large         a count of more than 32 bits
--     tables        the function check, verdicts and a range check on the tables of the scope's texts A, B and C
--     texts         text A read, one of its parts, its report, and texts and buffers that are refused
use Prim.Native.Nat.{ℕ, ◌≤◌, ◌<◌}
use native.Mathlib.Omega.{arith}
use mathlib.Core.Path.{◌≡◌, refl, ap}
use mathlib.Core.Bool.{xor}
use mathlib.Core.List.{List, [], ◌∷◌, ◌++◌}
use borrow.Author.Tests.{lt-ltb, le-ltb}
use lib.ListN.{length, take, drop, replicate}
use Rattle.basics.specs.Folds.{up_to}
use Rattle.basics.specs.Quoted.{bytes}
use Rattle.basics.specs.Told.{values, refusal, turned_down}
use Rattle.wires.specs.Wires.{count_a, masked, breaks, beyond}
use Rattle.wires.specs.Function.{computes}
use Rattle.records.specs.Words.{bit}
use Rattle.counts.specs.Counts.{binom}
use Rattle.counts.proofs.Rows.{binom_row}
use Rattle.revolving.specs.Order.{revolving}
use Rattle.sets.specs.Answers.{set_count, set_from_rank, rank_from_set}
use Rattle.division.specs.Answers.{job_ranks}
use Rattle.table.specs.Answers.{function_check}
use Rattle.table.proofs.Examples.{table_a, table_b, table_c}
use Rattle.breaking.specs.Breaking.{is_breaking}
use Rattle.search.specs.Search.{searched}
use Rattle.verdict_answers.specs.Answers.{verdict_of, range_check}
use Rattle.description.specs.Header.{order_line, masks_line, names_from}
use Rattle.description.specs.Listing.{encode}
use Rattle.description.specs.Run.{run}
use Rattle.reader.specs.Answers.{gives, refused, read_text, part_check}
use Rattle.pages.specs.Decimal.{decimal}
use Rattle.verdict_lines.specs.Lines.{notion_line}
use Rattle.report_lines.specs.Report.{function_line, checked, report}
use Rattle.report_text.specs.Report.{report_text}
use Rattle.plan_text.specs.Answers.{figures, check_size}
use Rattle.plan_text.specs.Answers as plan
use Rattle.call_answers.specs.Calls.{Called, got, answered, lent_answered, lent_judged, lent_read, size_answered}

-- in general: whatever an entry tells, a refusal's number is the status, and then no number but reading's offset is altered; else the status is 0,
-- the values stand in the first of the numbers, and the others are as they were
pub statuses : ((number : ℕ) (numbers buffer : List ℕ) → answered (refusal number) numbers buffer ≡ got number numbers buffer)
    × ((told numbers buffer : List ℕ) → answered (values told) numbers buffer ≡ got 0 (told ++ drop (length told) numbers) buffer)
    × ((number : ℕ) (numbers buffer : List ℕ) → lent_answered (turned_down number buffer) numbers ≡ got number numbers buffer)
    × ((told numbers buffer : List ℕ) → lent_answered (record { told = values told; held = buffer }) numbers
    ≡ got 0 (told ++ drop (length told) numbers) buffer)
    × ((number : ℕ) (numbers buffer : List ℕ) → lent_judged (turned_down number buffer) numbers ≡ got number numbers buffer)
    × ((good : ℕ) (others buffer : List ℕ) → lent_judged (record { told = values []; held = buffer }) (good ∷ others) ≡ got 0 (1 ∷ others) buffer)
    × ((size : ℕ) (more numbers buffer : List ℕ) → lent_judged (record { told = values (size ∷ more); held = buffer }) numbers
    ≡ got 0 ((0 ∷ size ∷ more) ++ drop (length (0 ∷ size ∷ more)) numbers) buffer)
    × ((number place offset : ℕ) (numbers buffer : List ℕ) → lent_read (record { told = refused number place; held = buffer }) numbers offset
    ≡ got number (numbers ++ place ∷ []) buffer)
    × ((order shares masks wires offset : ℕ) (numbers buffer : List ℕ)
    → lent_read (record { told = gives order shares masks wires; held = buffer }) numbers offset
    ≡ got 0 (order ∷ shares ∷ masks ∷ wires ∷ offset ∷ []) buffer)
    × ((number place offset : ℕ) (counts numbers buffer : List ℕ) → size_answered (record { told = plan.refused number place; sets = counts }) numbers offset buffer
    ≡ got number (numbers ++ place ∷ []) buffer)
    × ((order shares masks wires bytes offset : ℕ) (counts numbers buffer : List ℕ) → length buffer < order
    → size_answered (record { told = figures order shares masks wires bytes; sets = counts }) numbers offset buffer ≡ got 16 (numbers ++ offset ∷ []) buffer)
    × ((order shares masks wires bytes offset : ℕ) (counts numbers buffer : List ℕ) → order ≤ length buffer
    → size_answered (record { told = figures order shares masks wires bytes; sets = counts }) numbers offset buffer
    ≡ got 0 (order ∷ shares ∷ masks ∷ wires ∷ bytes ∷ offset ∷ []) (take order counts ++ drop (length (take order counts)) buffer))
statuses = (
  λ number numbers buffer. refl,
  λ told numbers buffer. refl,
  λ number numbers buffer. refl,
  λ told numbers buffer. refl,
  λ number numbers buffer. refl,
  λ good others buffer. refl,
  λ size more numbers buffer. refl,
  λ number place offset numbers buffer. refl,
  λ order shares masks wires offset numbers buffer. refl,
  λ number place offset counts numbers buffer. refl,
  λ order shares masks wires bytes offset counts numbers buffer short.
      simp (lt-ltb (length buffer) order short),
  λ order shares masks wires bytes offset counts numbers buffer room.
      simp (le-ltb (length buffer) order room),
)

pub large : answered (set_count 512 5) (7 ∷ []) [] ≡ got 0 (287515515392 ∷ []) []
large = ap (λ (all : ℕ). got 0 (all ∷ []) []) (binom_row 512 5 (omega arith))

pub numbering : (answered (set_count 24 2) (7 ∷ []) [] ≡ got 0 (276 ∷ []) [])
    × (answered (set_count 513 8) (7 ∷ []) [] ≡ got 12 (7 ∷ []) [])
    × (lent_answered (set_from_rank 24 2 1 (7 ∷ 8 ∷ 9 ∷ [])) [] ≡ got 0 [] (1 ∷ 2 ∷ 9 ∷ []))
    × (lent_answered (set_from_rank 24 2 1 (7 ∷ [])) [] ≡ got 16 [] (7 ∷ []))
    × (answered (rank_from_set 24 (1 ∷ 2 ∷ [])) (7 ∷ []) [] ≡ got 0 (1 ∷ []) [])
    × (answered (rank_from_set 24 (2 ∷ 1 ∷ [])) (7 ∷ []) [] ≡ got 21 (7 ∷ []) [])
    × (answered (job_ranks 24 2 3 7) (7 ∷ 8 ∷ []) [] ≡ got 0 (118 ∷ 157 ∷ []) [])
    × (answered (job_ranks 24 2 7 7) (7 ∷ 8 ∷ []) [] ≡ got 19 (7 ∷ 8 ∷ []) [])
unfolding binom revolving
numbering = (refl, refl, refl, refl, refl, refl, refl, refl)

pub tables : (answered (function_check table_a 2 1 1) (7 ∷ []) [] ≡ got 0 (1 ∷ []) [])
    × (answered (function_check table_a 2 1 2) (7 ∷ []) [] ≡ got 0 (0 ∷ []) [])
    × (answered (function_check table_a 2 1 4) (7 ∷ []) [] ≡ got 20 (7 ∷ []) [])
    × (lent_judged (verdict_of table_a 2 1 1 1 (9 ∷ 9 ∷ [])) (7 ∷ 8 ∷ []) ≡ got 0 (1 ∷ 8 ∷ []) (9 ∷ 9 ∷ []))
    × (lent_judged (verdict_of table_b 2 1 1 1 (9 ∷ 9 ∷ [])) (7 ∷ 8 ∷ []) ≡ got 0 (0 ∷ 1 ∷ []) (6 ∷ 9 ∷ []))
    × (lent_judged (verdict_of table_c 2 0 2 1 (9 ∷ 9 ∷ [])) (7 ∷ 8 ∷ []) ≡ got 0 (0 ∷ 1 ∷ []) (2 ∷ 9 ∷ []))
    × (lent_judged (verdict_of table_b 2 1 1 2 (9 ∷ 9 ∷ [])) (7 ∷ 8 ∷ []) ≡ got 15 (7 ∷ 8 ∷ []) (9 ∷ 9 ∷ []))
    × (lent_judged (range_check table_b 2 1 1 1 3 9 (9 ∷ 9 ∷ [])) (7 ∷ 8 ∷ 9 ∷ []) ≡ got 0 (0 ∷ 1 ∷ 6 ∷ []) (6 ∷ 9 ∷ []))
    × (lent_judged (range_check table_b 2 1 1 1 3 6 (9 ∷ 9 ∷ [])) (7 ∷ 8 ∷ 9 ∷ []) ≡ got 0 (1 ∷ 8 ∷ 9 ∷ []) (9 ∷ 9 ∷ []))
    × (lent_judged (range_check table_b 2 1 1 1 6 3 (9 ∷ 9 ∷ [])) (7 ∷ 8 ∷ 9 ∷ []) ≡ got 18 (7 ∷ 8 ∷ 9 ∷ []) (9 ∷ 9 ∷ []))
unfolding searched is_breaking revolving breaks computes count_a masked beyond bit up_to xor binom
tables = (refl, refl, refl, refl, refl, refl, refl, refl, refl, refl)

abbrev text_a : List ℕ
text_a = bytes "ORDER = 1\nMASKS = [r0]\ns00 r0\ns11 ((r0 s01) s10)\n"

abbrev read_a : Called
read_a = lent_read (read_text text_a (replicate 217 5)) (7 ∷ 8 ∷ 9 ∷ 10 ∷ []) 11

-- the byte past the table of text A is as it was; wire 7 is computed by `(r0 s01) s10`, the twelve bytes from 35 on
pub texts : (read_a.status ≡ 0)
    × (read_a.numbers ≡ 1 ∷ 2 ∷ 1 ∷ 9 ∷ 11 ∷ [])
    × (drop 216 read_a.buffer ≡ 5 ∷ [])
    × (lent_read (read_text text_a (5 ∷ [])) (7 ∷ 8 ∷ 9 ∷ 10 ∷ []) 11 ≡ got 10 (7 ∷ 8 ∷ 9 ∷ 10 ∷ 49 ∷ []) (5 ∷ []))
    × (lent_read (read_text [] (5 ∷ [])) (7 ∷ 8 ∷ 9 ∷ 10 ∷ []) 11 ≡ got 2 (7 ∷ 8 ∷ 9 ∷ 10 ∷ 0 ∷ []) (5 ∷ []))
    × (size_answered (check_size text_a) (7 ∷ 8 ∷ 9 ∷ 10 ∷ 11 ∷ []) 12 (5 ∷ 6 ∷ []) ≡ got 0 (1 ∷ 2 ∷ 1 ∷ 9 ∷ 216 ∷ 12 ∷ []) (9 ∷ 6 ∷ []))
    × (size_answered (check_size text_a) (7 ∷ 8 ∷ 9 ∷ 10 ∷ 11 ∷ []) 12 [] ≡ got 16 (7 ∷ 8 ∷ 9 ∷ 10 ∷ 11 ∷ 12 ∷ []) [])
    × (size_answered (check_size []) (7 ∷ 8 ∷ 9 ∷ 10 ∷ 11 ∷ []) 12 [] ≡ got 2 (7 ∷ 8 ∷ 9 ∷ 10 ∷ 11 ∷ 0 ∷ []) [])
    × (answered (part_check text_a (take 216 read_a.buffer) 7) (7 ∷ 8 ∷ []) [] ≡ got 0 (35 ∷ 12 ∷ []) [])
    × (answered (part_check text_a (take 216 read_a.buffer) 9) (7 ∷ 8 ∷ []) [] ≡ got 21 (7 ∷ 8 ∷ []) [])
    × (lent_answered (report_text [] (replicate 16 5)) (7 ∷ []) ≡ got 0 (15 ∷ []) (bytes "refused 2 at 0\n" ++ 5 ∷ []))
    × (lent_answered (report_text [] (replicate 14 5)) (7 ∷ []) ≡ got 16 (7 ∷ []) (replicate 14 5))
unfolding order_line masks_line names_from run bit encode up_to xor beyond decimal function_line notion_line checked report binom
texts = (refl, refl, refl, refl, refl, refl, refl, refl, refl, refl, refl, refl)
