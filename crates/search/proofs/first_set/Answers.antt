-- `search::first_set` meets its contract: every rank of a size is below the largest number.
use native.Mathlib.Omega.{arith}
use Rattle.std.specs.Prelude.{None, Some}
use Rattle.counts.proofs.Binomial.{counts_fit}
use Rattle.search.proofs.Sizes.{sizes-told}
use Rattle.search.proofs.first_set.Goals as goal

pub returns : goal.returns
returns c =
    let start = c.requires in
    sizes-told _ _ _ _ (Some _) _ (λ k h. counts_fit _ k (omega (arith, start.0)) (omega (arith, h, start.1))) c.in_ok-found.ensures

pub returns-in_err-found : goal.returns-in_err-found
returns-in_err-found c =
    let start = c.requires in
    rw c.from_residual.ensures
    (sizes-told _ _ _ _ None c.first_breaking.new.probes (λ k h. counts_fit _ k (omega (arith, start.0)) (omega (arith, h, start.1))) c.in_err-found.ensures)
