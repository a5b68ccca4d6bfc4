-- Examples, proved by running the definitions.
--     texts      the scope's text A: nine wires, so 216 bytes and nine sets of one wire; texts that are turned down
use mathlib.Core.Path.{◌≡◌, refl}
use mathlib.Core.List.{[], ◌∷◌}
use Rattle.basics.specs.Folds.{up_to}
use Rattle.basics.specs.Quoted.{bytes}
use Rattle.counts.specs.Counts.{binom}
use Rattle.records.specs.Words.{bit}
use Rattle.description.specs.Header.{order_line, masks_line, names_from}
use Rattle.description.specs.Run.{run}
use Rattle.description.proofs.Samples.{text_a}
use Rattle.plan_text.specs.Answers.{figures, refused, check_size}

pub texts : (check_size text_a ≡ record { told = figures 1 2 1 9 216; sets = 9 ∷ 0 ∷ 0 ∷ 0 ∷ 0 ∷ 0 ∷ 0 ∷ [] })
    × (check_size (bytes "ORDER = 1\nMASKS = []\na0\na2\n") ≡ record { told = refused 4 24; sets = 0 ∷ 0 ∷ 0 ∷ 0 ∷ 0 ∷ 0 ∷ 0 ∷ [] })
    × (check_size (bytes "ORDER = 2\nMASKS = []\na0\na1\na2\n") ≡ record { told = figures 2 3 0 6 144; sets = 6 ∷ 15 ∷ 0 ∷ 0 ∷ 0 ∷ 0 ∷ 0 ∷ [] })
unfolding order_line masks_line names_from run bit up_to binom
texts = (refl, refl, refl)
