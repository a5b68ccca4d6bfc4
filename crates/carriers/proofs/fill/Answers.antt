-- `carriers::fill` meets its contract: before each place the rows up to it are filled.
use Prim.Native.Nat.{ℕ}
use mathlib.Core.List.{List}
use mathlib.Core.Path.{ap, sym, subst, ◌∙◌}
use native.Mathlib.Omega.{arith}
use lib.ListN.{length, length-set, length-replicate}
use Rattle.carriers.proofs.Rows.{places, Rows, rows_first, rows_more, rows_all}
use Rattle.carriers.proofs.fill.Goals as goal

pub loop-place-init : goal.loop-place-init
loop-place-init c = (
  ap length c.requires.empty ∙ length-replicate {A = ℕ} places 0,
  subst (λ (highest : List ℕ). Rows c.args.table.now highest 0) (sym c.requires.empty) (rows_first _),
)

pub loop-place-preserved : goal.loop-place-preserved
loop-place-preserved c =
    let l = c.loop-place in (
      simp length-set l.invariant.0,
      rows_more _ _ _ _ (omega arith) l.invariant.1 c.highest_with.ensures,
    )

pub returns : goal.returns
returns c = rows_all _ _ _ (omega arith) c.loop-place.invariant.1
