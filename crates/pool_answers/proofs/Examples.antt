-- Examples, proved by running the definitions.
--     pools            text A's table, of 9 wires, at order 1: holds, uncovered at the start, between two reports and at the end
--     breaks-shown     text B's, and a table that a pair breaks: what is shown
--     pool_refusals    the refusals of a pool, on both sides of their limits
--     numbers          every answer in numbers
--     holds-refused, later-refused, uncovered-refused, rank-refused, agrees_refused     what the promises in words turn away, whatever the code
use Prim.Native.Nat.{ℕ, zero, suc}
use native.Mathlib.Nat.{not-suc-le-zero}
use native.Mathlib.Omega.{arith}
use mathlib.Core.Path.{◌≡◌, refl, sym, ◌∙◌, ap}
use mathlib.Core.Logic.{⊎_elim}
use mathlib.Core.Bool.{xor}
use mathlib.Core.List.{List, [], ◌∷◌, ◌++◌, map}
use Rattle.std.specs.Prelude.{Ok}
use Rattle.basics.specs.Folds.{up_to}
use Rattle.basics.specs.Told.{Told, Lent, values, refusal}
use Rattle.basics.specs.Conditions.{Some}
use Rattle.wires.specs.Wires.{count_a, masked, breaks, beyond}
use Rattle.records.specs.Words.{bit}
use Rattle.counts.specs.Counts.{binom}
use Rattle.revolving.specs.Order.{revolving}
use Rattle.table.proofs.Examples.{table_a, table_b}
use Rattle.breaking.specs.Breaking.{is_breaking}
use Rattle.filed_reports.specs.Bytes.{all_ones, report_at, bytes_of_report}
use Rattle.filed_reports.specs.Filed.{any_misfiled, covered, reported, Covers}
use Rattle.filed_reports.specs.Places.{first_rank}
use Rattle.finds.specs.Finds.{any_false}
use Rattle.verdict_answers.specs.declared.Refusal.TheVariants.{NoSuchNotion}
use Rattle.verdict_answers.proofs.Examples.{pair, two_wires}
use Rattle.pool_answers.specs.declared.Refusal.TheVariants.{Tests, Misfiled, FalseFind}
use Rattle.pool_answers.specs.declared.Outcome.{Outcome}
use Rattle.pool_answers.specs.Answers.{refusal_number, pool_told, pool_of, report_of}
use Rattle.pool_answers.specs.Says.{PoolSays}
use Rattle.pool_answers.specs.Agrees.{PoolAgrees}

-- the bytes of a report under NI
abbrev ni : ℕ → ℕ → ℕ → ℕ → List ℕ
ni size from to found = bytes_of_report (report_of 1 size from to found)

abbrev clean : ℕ → ℕ → ℕ → List ℕ
clean size from to = ni size from to all_ones

pub pools : (pool_of table_a 2 1 1 1 (clean 1 4 9 ++ clean 1 0 5) ≡ values (1 ∷ [])) × (pool_of table_a 2 1 1 1 [] ≡ values (3 ∷ 1 ∷ 0 ∷ []))
    × (pool_of table_a 2 1 1 1 (clean 1 1 9) ≡ values (3 ∷ 1 ∷ 0 ∷ [])) × (pool_of table_a 2 1 1 1 (clean 1 5 9 ++ clean 1 0 4) ≡ values (3 ∷ 1 ∷ 4 ∷ []))
    × (pool_of table_a 2 1 1 1 (clean 1 0 8) ≡ values (3 ∷ 1 ∷ 8 ∷ [])) × (pool_of [] 2 1 1 1 [] ≡ values (1 ∷ []))
    × (pool_of [] 2 1 1 1 (clean 1 0 0) ≡ values (1 ∷ []))
unfolding any_misfiled any_false covered reported first_rank is_breaking revolving binom breaks count_a masked beyond bit up_to xor
pools = (refl, refl, refl, refl, refl, refl, refl)

-- wire 6 of text B's table breaks; wires 1 and 2 of the other, at rank 1 of its pairs
pub breaks-shown : (pool_of table_b 2 1 1 1 (clean 1 0 4 ++ ni 1 4 9 6) ≡ values (2 ∷ 1 ∷ 6 ∷ []))
    × (pool_of table_b 2 1 1 1 (ni 1 6 7 6) ≡ values (2 ∷ 1 ∷ 6 ∷ [])) × (pool_of pair 3 1 1 2 (ni 2 0 6 1 ++ clean 1 0 4) ≡ values (2 ∷ 2 ∷ 1 ∷ []))
    × (pool_of pair 3 1 1 2 (clean 2 2 6 ++ clean 1 0 4) ≡ values (3 ∷ 2 ∷ 0 ∷ [])) × (pool_of pair 3 1 1 2 (clean 2 0 6) ≡ values (3 ∷ 1 ∷ 0 ∷ []))
unfolding any_misfiled any_false covered reported first_rank is_breaking revolving binom breaks count_a masked beyond bit up_to xor
breaks-shown = (refl, refl, refl, refl, refl)

-- a byte more; sizes 0 and 2; falling bounds; bounds above 9; a find at the upper bound; another notion; filling; then finds that do not break
pub pool_refusals : (pool_of table_a 2 1 1 1 (0 ∷ []) ≡ refusal 25) × (pool_of table_a 2 1 1 1 (clean 0 0 0) ≡ refusal 25)
    × (pool_of table_a 2 1 1 1 (clean 2 0 0) ≡ refusal 25) × (pool_of table_a 2 1 1 1 (clean 1 1 0) ≡ refusal 25)
    × (pool_of table_a 2 1 1 1 (clean 1 0 10) ≡ refusal 25) × (pool_of table_a 2 1 1 1 (ni 1 0 9 9) ≡ refusal 25)
    × (pool_of table_a 2 1 2 1 (clean 1 0 9) ≡ refusal 25)
    × (pool_of table_a 2 1 1 1 (bytes_of_report (record { notion = 1; size = 1; filling = 1; from = 0; to = 9; found = all_ones })) ≡ refusal 25)
    × (pool_of table_a 2 1 1 1 (ni 1 0 9 6 ++ clean 1 1 0) ≡ refusal 25) × (pool_of table_a 2 1 1 1 (ni 1 0 9 6) ≡ refusal 26)
    × (pool_of table_a 2 1 3 1 (0 ∷ []) ≡ refusal 14) × (pool_of table_a 2 1 1 2 (0 ∷ []) ≡ refusal 15) × (pool_of table_a 2 1 1 0 (0 ∷ []) ≡ refusal 15)
unfolding any_misfiled any_false covered reported first_rank is_breaking revolving binom breaks count_a masked beyond bit up_to xor
pool_refusals = (refl, refl, refl, refl, refl, refl, refl, refl, refl, refl, refl, refl, refl)

-- what each answer is in numbers
pub numbers : (pool_told (Ok Outcome.Holds) ≡ values (1 ∷ [])) × (pool_told (Ok (Outcome.Broken 2 5)) ≡ values (2 ∷ 2 ∷ 5 ∷ []))
    × (pool_told (Ok (Outcome.Uncovered 2 5)) ≡ values (3 ∷ 2 ∷ 5 ∷ []))
    × (map refusal_number (Tests NoSuchNotion ∷ Misfiled ∷ FalseFind ∷ []) ≡ 14 ∷ 25 ∷ 26 ∷ [])
numbers = (refl, refl, refl, refl)

-- ---- what the promises in words turn away, whatever the code

four_pairs : binom 4 2 ≡ 6
unfolding binom
four_pairs = refl

-- holds, where the pairs are in no report
pub holds-refused : PoolSays (Ok Outcome.Holds) pair 3 1 1 2 (clean 1 0 4) → ⊥
holds-refused p = go ((p.holds refl).1 2 0 (omega arith) (omega arith) (omega (arith, four_pairs)))
  where
    go : Some 1 (λ i. Covers (report_at (clean 1 0 4) i) 2 0) → ⊥
    go (zero, h, c) = omega (arith, c.same)
    go (suc i, h, c) = omega (arith, h)

-- a find, where an earlier one is reported
pub later-refused : PoolSays (Ok (Outcome.Broken 1 7)) table_b 2 1 1 1 (ni 1 6 9 7 ++ ni 1 6 9 6) → ⊥
later-refused p =
    ⊎_elim (λ h. omega (arith, h)) (λ h. omega (arith, h.1))
    ((p.broken 1 7 refl).first 1 6 (1, omega arith, record { found = λ e. omega (arith, e); same = refl; here = refl }))

-- uncovered, where a find is reported
pub uncovered-refused : PoolSays (Ok (Outcome.Uncovered 1 0)) table_b 2 1 1 1 (ni 1 6 9 6) → ⊥
uncovered-refused p = (p.uncovered 1 0 refl).0 1 6 (0, omega arith, record { found = λ e. omega (arith, e); same = refl; here = refl })

-- uncovered, with a rank before it in no report
pub rank-refused : PoolSays (Ok (Outcome.Uncovered 1 5)) table_a 2 1 1 1 (clean 1 0 4) → ⊥
rank-refused p = go ((p.uncovered 1 5 refl).1.before 4 (omega arith))
  where
    go : Some 1 (λ i. Covers (report_at (clean 1 0 4) i) 1 4) → ⊥
    go (zero, h, c) = omega (arith, c.high)
    go (suc i, h, c) = omega (arith, h)

-- holds, with no report, of a table that a pair breaks: in words of the verdict alone
pub agrees_refused : PoolAgrees (Ok Outcome.Holds) pair 3 1 1 2 [] → ⊥
agrees_refused p =
    let e = p.holds refl (record { clean = λ i h. absurd (not-suc-le-zero h) }) (9 ∷ 9 ∷ 9 ∷ []) (omega arith) in
    let f = ap (λ (l : List Lent). told_of l) two_wires.0 in
    values_differ (sym (ap (λ (a : Lent). a.told) e) ∙ f)
  where
    told_of : List Lent → Told
    told_of (a ∷ b ∷ l) = b.told
    told_of (a ∷ []) = a.told
    told_of [] = values []

    values_differ : values [] ≡ values (2 ∷ []) → ⊥
    values_differ same = let z : ◌≡◌ {A = ℕ} 0 1 = cc in omega (arith, z)
