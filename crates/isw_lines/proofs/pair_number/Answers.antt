-- `isw_lines::pair_number` meets its contract: the formula gives the pair's number.
use native.Mathlib.Omega.{arith}
use Rattle.isw_lines.proofs.Numbering.{rows_small, pair_formula}
use Rattle.isw_lines.proofs.pair_number.Goals as goal

pub overflow_mul-result-2 : goal.overflow_mul-result-2
overflow_mul-result-2 c = let small = rows_small c.args.order c.args.i (omega (arith, c.requires)) c.requires.2 in omega (arith, small)

pub overflow_add-result-2 : goal.overflow_add-result-2
overflow_add-result-2 c = let small = rows_small c.args.order c.args.i (omega (arith, c.requires)) c.requires.2 in omega (arith, small, c.requires)

pub returns : goal.returns
returns c = pair_formula c.args.order c.args.i c.args.j c.requires.0 c.requires.1
