-- The answer of `job` in the scope's own numbers, and what it answers (scope, "Numbering and dividing" and "What each operation turns down").
--     job_told      what the answer of the code tells
--     max_jobs      the most jobs of a division
--     job_ranks     what `job` is to tell
use Rattle.std.specs.Prelude.{ℕ, suc, cond, ◌||◌, [], ◌∷◌, ltb, leb, eqb, Result, Ok, Err}
use Rattle.limits.specs.Limits.{max_wires, max_size}
use Rattle.basics.specs.Told.{Told, values, refusal}
use Rattle.counts.specs.Counts.{binom}
use Rattle.sets.specs.Answers.{refusal_number}
use Rattle.division.specs.Division.{start}
use Rattle.sets.specs.declared.Refusal.{Refusal}
use Rattle.division.specs.declared.Ranks.{Ranks}

abbrev pub job_told : Result Ranks Refusal → Told
job_told (Ok ranks) = values (ranks.from ∷ ranks.to ∷ [])
job_told (Err why) = refusal (refusal_number why)

abbrev pub max_jobs : ℕ
max_jobs = 65536

-- from the first rank up to, without, the second
abbrev pub job_ranks : ℕ → ℕ → ℕ → ℕ → Told
job_ranks wires size job jobs =
    cond (ltb max_wires wires) (refusal 12)
    (cond (ltb max_size size) (refusal 17)
    (cond (eqb jobs 0 || ltb max_jobs jobs || leb jobs job) (refusal 19)
    (values (start (binom wires size) jobs job ∷ start (binom wires size) jobs (suc job) ∷ []))))
