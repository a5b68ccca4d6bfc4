-- What `job` turns down, as the scope says it ("What each operation turns down"): its conditions in the order in which they are tested.
--     job_conditions
use Rattle.std.specs.Prelude.{ℕ, ◌≤◌, ◌<◌, ◌≡◌, ◌⊎◌, List, [], ◌∷◌}
use Rattle.limits.specs.Limits.{max_wires, max_size}
use Rattle.basics.specs.Conditions.{Condition, ◌when◌}

-- "12, 17, then 19, no jobs, over 65,536, or job number not below them"
abbrev pub job_conditions : ℕ → ℕ → ℕ → ℕ → List Condition
job_conditions wires size job jobs =
    12 when (max_wires < wires)
    ∷ 17 when (max_size < size)
    ∷ 19 when ((jobs ≡ 0) ⊎ (65536 < jobs) ⊎ (jobs ≤ job))
    ∷ []
